-- One node more. Assumes nothing.
use Rattle.std.proofs.Common.{◌≡◌, ℕ, zero, suc, ◌+◌, ◌<◌, ◌≤◌, Bool, true, false, cond, ◌&&◌, leb, List, [], ◌∷◌, ◌++◌, length, get_or, Some, None, sym, refl, ◌∙◌, subst, append_assoc, append-nil, arith, length-append}
use Rattle.std.proofs.lemmas.Bool.{and_parts, and_from, leb-true, le-leb, lt-ltb, le-ltb}
use Rattle.values.specs.declared.refusal.Refusal.TheVariants.{NoNode, BadForm, TooDeep, TooWide}
use Rattle.matcher.specs.Nodes.{Node, find, same_node, place, put, depths, depths_from, depth_over, all_below, formed, fault, is_granted, roomy, valid, valid_from, used, places, deepest, widest}

depths_push_from : (ds : List ℕ) (ns : List Node) (d : Node) → depths_from ds (ns ++ d ∷ []) ≡ depths_from ds ns ++ depth_over (depths_from ds ns) d.kids ∷ []
depths_push_from ds [] d = refl
depths_push_from ds (x ∷ ns) d = depths_push_from (ds ++ depth_over ds x.kids ∷ []) ns d

pub depths_push : (ns : List Node) (d : Node) → depths (ns ++ d ∷ []) ≡ depths ns ++ depth_over (depths ns) d.kids ∷ []
unfolding depths
depths_push ns d = depths_push_from [] ns d

depths_long_from : (ds : List ℕ) (ns : List Node) → length (depths_from ds ns) ≡ length ds + length ns
depths_long_from ds [] = omega arith
depths_long_from ds (x ∷ ns) = depths_long_from (ds ++ depth_over ds x.kids ∷ []) ns ∙ omega (arith, length-append ds (depth_over ds x.kids ∷ []))

pub depths_long : (ns : List Node) → length (depths ns) ≡ length ns
unfolding depths
depths_long ns = depths_long_from [] ns ∙ omega arith

pub used_push : (ns : List Node) (d : Node) → used (ns ++ d ∷ []) ≡ used ns + places d
used_push [] d = omega arith
used_push (x ∷ ns) d = omega (arith, used_push ns d)

-- what a node that can be added is like
pub record Granted (ns : List Node) (d : Node) : Type 0 where
  pub below : all_below (length ns) d.kids ≡ true
  pub form : formed d ≡ true
  pub low : depth_over (depths ns) d.kids ≤ deepest
  pub few : length d.kids ≤ widest

granted_by : (a b c e : Bool) → is_granted (cond a (cond b (cond c (cond e None (Some TooWide)) (Some TooDeep)) (Some BadForm)) (Some NoNode)) ≡ true → (a ≡ true) × (b ≡ true) × (c ≡ true) × (e ≡ true)
granted_by true true true true h = (refl, refl, refl, refl)
granted_by true true true false h = let z : ◌≡◌ {A = ℕ} 0 1 = cc in absurd (omega arith)
granted_by true true false e h = let z : ◌≡◌ {A = ℕ} 0 1 = cc in absurd (omega arith)
granted_by true false c e h = let z : ◌≡◌ {A = ℕ} 0 1 = cc in absurd (omega arith)
granted_by false b c e h = let z : ◌≡◌ {A = ℕ} 0 1 = cc in absurd (omega arith)

pub granted : (ns : List Node) (d : Node) → is_granted (fault ns d) ≡ true → Granted ns d
unfolding fault
granted ns d h =
    let g = granted_by (all_below (length ns) d.kids) (formed d) (leb (depth_over (depths ns) d.kids) deepest) (leb (length d.kids) widest) h in
    record { below = g.0; form = g.1; low = leb-true _ _ g.2; few = leb-true _ _ g.3 }

pub grants : (ns : List Node) (d : Node) → Granted ns d → fault ns d ≡ None
unfolding fault
grants ns d g = rw (g.below, g.form, le-leb (depth_over (depths ns) d.kids) deepest g.low, le-leb (length d.kids) widest g.few) refl

valid_push_from : (limit : ℕ) (b ns : List Node) (d : Node) → valid_from limit b ns ≡ true → is_granted (fault (b ++ ns) d) ≡ true → roomy limit (b ++ ns) d ≡ true → valid_from limit b (ns ++ d ∷ []) ≡ true
valid_push_from limit b [] d v g r =
    let e : b ++ [] ≡ b = append-nil b in
    and_from _ _ (and_from _ _ (subst (λ x. is_granted (fault x d) ≡ true) e g) (subst (λ x. roomy limit x d ≡ true) e r)) refl
valid_push_from limit b (x ∷ ns) d v g r =
    let p = and_parts _ _ v in
    let e : b ++ (x ∷ ns) ≡ (b ++ x ∷ []) ++ ns = sym (append_assoc b (x ∷ []) ns) in
    and_from _ _ p.0 (valid_push_from limit (b ++ x ∷ []) ns d p.1 (subst (λ y. is_granted (fault y d) ≡ true) e g) (subst (λ y. roomy limit y d ≡ true) e r))

pub valid_push : (limit : ℕ) (ns : List Node) (d : Node) → valid limit ns ≡ true → is_granted (fault ns d) ≡ true → roomy limit ns d ≡ true → valid limit (ns ++ d ∷ []) ≡ true
unfolding valid
valid_push limit ns d v g r = valid_push_from limit [] ns d v g r

abbrev pub Low : List ℕ → Type 0
Low ds = (n : ℕ) → get_or ds n 0 ≤ deepest

pub low_push : (ds : List ℕ) (x : ℕ) → Low ds → x ≤ deepest → Low (ds ++ x ∷ [])
low_push [] x all one zero = one
low_push [] x all one (suc n) = omega arith
low_push (d ∷ ds) x all one zero = all 0
low_push (d ∷ ds) x all one (suc n) = low_push ds x (λ m. all (suc m)) one n

valid_low_from : (limit : ℕ) (b ns : List Node) → Low (depths b) → valid_from limit b ns ≡ true → Low (depths (b ++ ns))
valid_low_from limit b [] low v = subst (λ x. Low (depths x)) (sym (append-nil b)) low
valid_low_from limit b (x ∷ ns) low v =
    let p = and_parts _ _ v in
    let q = and_parts _ _ p.0 in
    let e : (b ++ x ∷ []) ++ ns ≡ b ++ (x ∷ ns) = append_assoc b (x ∷ []) ns in
    let more : Low (depths (b ++ x ∷ [])) = subst Low (sym (depths_push b x)) (low_push (depths b) _ low (granted b x q.0).low) in
    subst (λ y. Low (depths y)) e (valid_low_from limit (b ++ x ∷ []) ns more p.1)

-- no node is too deep
pub valid_low : (limit : ℕ) (ns : List Node) → valid limit ns ≡ true → Low (depths ns)
unfolding valid depths
valid_low limit ns v = valid_low_from limit [] ns (λ n. omega arith) v

valid_used_from : (limit : ℕ) (b ns : List Node) → used b ≤ limit → valid_from limit b ns ≡ true → used (b ++ ns) ≤ limit
valid_used_from limit b [] low v = subst (λ x. used x ≤ limit) (sym (append-nil b)) low
valid_used_from limit b (x ∷ ns) low v =
    let p = and_parts (is_granted (fault b x) && roomy limit b x) (valid_from limit (b ++ x ∷ []) ns) v in
    let q = and_parts (is_granted (fault b x)) (roomy limit b x) p.0 in
    let e : (b ++ x ∷ []) ++ ns ≡ b ++ (x ∷ ns) = append_assoc b (x ∷ []) ns in
    let r : used b + places x ≤ limit = leb-true (used b + places x) limit q.1 in
    subst (λ y. used y ≤ limit) e (valid_used_from limit (b ++ x ∷ []) ns (omega (arith, used_push b x)) p.1)

pub valid_used : (limit : ℕ) (ns : List Node) → valid limit ns ≡ true → used ns ≤ limit
unfolding valid
valid_used limit ns v = valid_used_from limit [] ns (omega arith) v

pub find_low : (ns : List Node) (d : Node) → find ns d ≤ length ns
find_low [] d = omega arith
find_low (x ∷ ns) d = by (same_node x d) (find_low ns d)
  where
    by : (b : Bool) → find ns d ≤ length ns → cond b 0 (suc (find ns d)) ≤ suc (length ns)
    by true h = omega arith
    by false h = omega arith

pub place_plain : (ns : List Node) (d : Node) → place false ns d ≡ length ns
unfolding place
place_plain ns d = refl

pub place_sharing : (ns : List Node) (d : Node) → place true ns d ≡ find ns d
unfolding place
place_sharing ns d = refl

pub place_low : (sh : Bool) (ns : List Node) (d : Node) → place sh ns d ≤ length ns
unfolding place
place_low true ns d = find_low ns d
place_low false ns d = omega arith

pub put_new : (ns : List Node) (d : Node) (n : ℕ) → length ns ≤ n → put ns d n ≡ ns ++ d ∷ []
put_new ns d n h = rw (le-ltb n (length ns) h) refl

pub put_old : (ns : List Node) (d : Node) (n : ℕ) → n < length ns → put ns d n ≡ ns
put_old ns d n h = rw (lt-ltb n (length ns) h) refl
