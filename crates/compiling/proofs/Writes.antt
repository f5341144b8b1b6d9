-- A node written over kids that stand. Assumes nothing.
use Rattle.std.proofs.Common.{◌≡◌, ℕ, suc, ◌+◌, ◌<◌, ◌≤◌, max, Bool, true, false, cond, ◌&&◌, ltb, ◌⊎◌, List, [], ◌∷◌, ◌++◌, length, get_or, sym, refl, ap, ◌∙◌, subst, ap₂, inl, inr, append_assoc, append-nil, arith, length-append}
use Rattle.std.proofs.lemmas.List.{get_or_append_left, get_or_push}
use Rattle.std.proofs.lemmas.Bool.{and_parts, and_from, lt-ltb, ltb-true, cases_lt}
use Rattle.std.proofs.lemmas.Slice.Eq.{bytes_eq-Decides}
use Rattle.matcher.specs.Nodes.{Node, no_node, node_at_lem, depths, depth_over, highest, all_below, formed, fault, is_granted, roomy, valid, valid_from, used, places, find, same_node, place, put}
use Rattle.matcher.proofs.Grows.{Granted, granted, grants, depths_push, depths_long, used_push, valid_push, place_low, place_plain, place_sharing, put_new, put_old}

-- the nodes ns stand in ms, with their depths
pub record Front (ns ms : List Node) : Type 0 where
  pub longer : length ns ≤ length ms
  pub same : (k : ℕ) → k < length ns → get_or (depths ms) k 0 ≡ get_or (depths ns) k 0

pub front_refl : (ns : List Node) → Front ns ns
front_refl ns = record { longer = omega arith; same = λ k l. refl }

pub front_trans : (ns ms ls : List Node) → Front ns ms → Front ms ls → Front ns ls
front_trans ns ms ls f g = record { longer = omega (arith, f.longer, g.longer); same = λ k l. g.same k (omega (arith, f.longer)) ∙ f.same k l }

pub front_push : (ns : List Node) (d : Node) → Front ns (ns ++ d ∷ [])
front_push ns d =
    record {
      longer = omega (arith, length-append ns (d ∷ []));
      same = λ k l. ap (λ ds. get_or ds k 0) (depths_push ns d) ∙ get_or_append_left (depths ns) (depth_over (depths ns) d.kids ∷ []) 0 k (omega (arith, depths_long ns));
    }

-- nodes that stand, at most d deep
abbrev pub Good : ℕ → List Node → List ℕ → Type 0
Good d ns [] = Unit {0}
Good d ns (k ∷ ks) = (k < length ns) × (get_or (depths ns) k 0 ≤ d) × Good d ns ks

pub good_later : (d : ℕ) (ns ms : List Node) → Front ns ms → (ks : List ℕ) → Good d ns ks → Good d ms ks
good_later d ns ms f [] g = tt
good_later d ns ms f (k ∷ ks) g = (omega (arith, g.0, f.longer), omega (arith, f.same k g.0, g.1), good_later d ns ms f ks g.2)

pub good_deeper : (d e : ℕ) (ns : List Node) → d ≤ e → (ks : List ℕ) → Good d ns ks → Good e ns ks
good_deeper d e ns l [] g = tt
good_deeper d e ns l (k ∷ ks) g = (g.0, omega (arith, g.1), good_deeper d e ns l ks g.2)

pub good_append : (d : ℕ) (ns : List Node) (ks js : List ℕ) → Good d ns ks → Good d ns js → Good d ns (ks ++ js)
good_append d ns [] js g h = h
good_append d ns (k ∷ ks) js g h = (g.0, g.1, good_append d ns ks js g.2 h)

pub good_below : (d : ℕ) (ns : List Node) (ks : List ℕ) → Good d ns ks → all_below (length ns) ks ≡ true
good_below d ns [] g = refl
good_below d ns (k ∷ ks) g = and_from _ _ (lt-ltb k (length ns) g.0) (good_below d ns ks g.2)

good_high : (d : ℕ) (ns : List Node) (ks : List ℕ) → Good d ns ks → highest (depths ns) ks ≤ d
good_high d ns [] g = omega arith
good_high d ns (k ∷ ks) g = omega (arith, g.1, good_high d ns ks g.2)

-- a node that fits
pub record Fit (d k : ℕ) (ns : List Node) (x : Node) : Type 0 where
  pub form : formed x ≡ true
  pub good : Good d ns x.kids
  pub few : length x.kids ≤ k

pub fit_grants : (d k : ℕ) (ns : List Node) (x : Node) → d < 64 → k ≤ 64 → Fit d k ns x → Granted ns x
fit_grants d k ns x dl kl f =
    record { below = good_below d ns x.kids f.good; form = f.form; low = omega (arith, good_high d ns x.kids f.good); few = omega (arith, f.few) }

-- a depth is one more than the deepest kid's, wherever the node stands
high_same : (ns ms : List Node) (ks : List ℕ) → Front ns ms → all_below (length ns) ks ≡ true → highest (depths ms) ks ≡ highest (depths ns) ks
high_same ns ms [] f b = refl
high_same ns ms (k ∷ ks) f b =
    let p = and_parts (ltb k (length ns)) (all_below (length ns) ks) b in
    ap₂ max (f.same k (ltb-true k (length ns) p.0)) (high_same ns ms ks f p.1)

abbrev Deeps : List Node → Type 0
Deeps ns = (n : ℕ) → n < length ns → (get_or (depths ns) n 0 ≡ highest (depths ns) (node_at_lem ns n).kids + 1) × (all_below (length ns) (node_at_lem ns n).kids ≡ true)

pub below_more : (n m : ℕ) (ks : List ℕ) → n ≤ m → all_below n ks ≡ true → all_below m ks ≡ true
below_more n m [] l b = refl
below_more n m (k ∷ ks) l b =
    let p = and_parts (ltb k n) (all_below n ks) b in
    let q = ltb-true k n p.0 in
    and_from _ _ (lt-ltb k m (omega arith)) (below_more n m ks l p.1)

deeps_push : (ns : List Node) (x : Node) → Deeps ns → all_below (length ns) x.kids ≡ true → Deeps (ns ++ x ∷ [])
deeps_push ns x deep below n l = by (cases_lt n (length ns))
  where
    f : Front ns (ns ++ x ∷ [])
    f = front_push ns x

    long : length (ns ++ x ∷ []) ≡ length ns + 1
    long = length-append ns (x ∷ []) ∙ omega arith

    by : (n < length ns) ⊎ (length ns ≤ n) → (get_or (depths (ns ++ x ∷ [])) n 0 ≡ highest (depths (ns ++ x ∷ [])) (node_at_lem (ns ++ x ∷ []) n).kids + 1) × (all_below (length (ns ++ x ∷ [])) (node_at_lem (ns ++ x ∷ []) n).kids ≡ true)
    by (inl h) =
        let is : node_at_lem (ns ++ x ∷ []) n ≡ node_at_lem ns n = get_or_append_left ns (x ∷ []) no_node n h in
        let d = deep n h in
        subst (λ y. (get_or (depths (ns ++ x ∷ [])) n 0 ≡ highest (depths (ns ++ x ∷ [])) y.kids + 1) × (all_below (length (ns ++ x ∷ [])) y.kids ≡ true)) (sym is)
        (f.same n h ∙ d.0 ∙ ap (λ z. z + 1) (sym (high_same ns (ns ++ x ∷ []) (node_at_lem ns n).kids f d.1)), below_more (length ns) (length (ns ++ x ∷ [])) (node_at_lem ns n).kids (omega (arith, long)) d.1)
    by (inr h) =
        let e : n ≡ length ns = omega (arith, long) in
        let is : node_at_lem (ns ++ x ∷ []) n ≡ x = ap (node_at_lem (ns ++ x ∷ [])) e ∙ get_or_push ns x no_node (length ns) refl in
        let top : get_or (depths (ns ++ x ∷ [])) n 0 ≡ depth_over (depths ns) x.kids = ap (λ ds. get_or ds n 0) (depths_push ns x) ∙ ap (λ m. get_or (depths ns ++ depth_over (depths ns) x.kids ∷ []) m 0) (e ∙ sym (depths_long ns)) ∙ get_or_push (depths ns) (depth_over (depths ns) x.kids) 0 (length (depths ns)) refl in
        subst (λ y. (get_or (depths (ns ++ x ∷ [])) n 0 ≡ highest (depths (ns ++ x ∷ [])) y.kids + 1) × (all_below (length (ns ++ x ∷ [])) y.kids ≡ true)) (sym is)
        (top ∙ ap (λ z. z + 1) (sym (high_same ns (ns ++ x ∷ []) x.kids f below)), below_more (length ns) (length (ns ++ x ∷ [])) x.kids (omega (arith, long)) below)

deeps_from : (limit : ℕ) (b ns : List Node) → Deeps b → valid_from limit b ns ≡ true → Deeps (b ++ ns)
deeps_from limit b [] deep v = subst Deeps (sym (append-nil b)) deep
deeps_from limit b (x ∷ ns) deep v =
    let p = and_parts (is_granted (fault b x) && roomy limit b x) (valid_from limit (b ++ x ∷ []) ns) v in
    let q = and_parts (is_granted (fault b x)) (roomy limit b x) p.0 in
    subst Deeps (append_assoc b (x ∷ []) ns) (deeps_from limit (b ++ x ∷ []) ns (deeps_push b x deep (granted b x q.0).below) p.1)

valid_deeps : (limit : ℕ) (ns : List Node) → valid limit ns ≡ true → Deeps ns
unfolding valid
valid_deeps limit ns v = deeps_from limit [] ns (λ n l. absurd (omega arith)) v

pub find_same : (ns : List Node) (x : Node) → find ns x < length ns → same_node (node_at_lem ns (find ns x)) x ≡ true
find_same [] x l = absurd (omega arith)
find_same (y ∷ ns) x l = by (same_node y x) refl l (find_same ns x)
  where
    by : (b : Bool) → same_node y x ≡ b → cond b 0 (suc (find ns x)) < suc (length ns) → (find ns x < length ns → same_node (node_at_lem ns (find ns x)) x ≡ true) → same_node (node_at_lem (y ∷ ns) (cond b 0 (suc (find ns x)))) x ≡ true
    by true e h rec = e
    by false e h rec = rec (omega arith)

place_kids : (sh : Bool) (ns : List Node) (x : Node) → place sh ns x < length ns → (node_at_lem ns (place sh ns x)).kids ≡ x.kids
place_kids false ns x l = absurd (omega (arith, place_plain ns x))
place_kids true ns x l =
    let e = place_sharing ns x in
    let s = find_same ns x (omega (arith, e)) in
    ap (λ n. (node_at_lem ns n).kids) e ∙ (bytes_eq-Decides (node_at_lem ns (find ns x)).kids x.kids).0 (and_parts _ _ s).1

-- the nodes after one more was placed
pub record Placed (limit d : ℕ) (ns : List Node) (x : Node) (n : ℕ) (ms : List Node) : Type 0 where
  pub stands : n < length ms
  pub deep : get_or (depths ms) n 0 ≤ d + 1
  pub front : Front ns ms
  pub fine : valid limit ms ≡ true
  pub more : used ms ≤ used ns + places x

pub placed : (sh : Bool) (limit d k : ℕ) (ns : List Node) (x : Node) → valid limit ns ≡ true → d < 64 → k ≤ 64 → Fit d k ns x → roomy limit ns x ≡ true → Placed limit d ns x (place sh ns x) (put ns x (place sh ns x))
placed sh limit d k ns x v dl kl fit room = by (cases_lt (place sh ns x) (length ns))
  where
    n : ℕ
    n = place sh ns x

    high : highest (depths ns) x.kids ≤ d
    high = good_high d ns x.kids fit.good

    by : (place sh ns x < length ns) ⊎ (length ns ≤ place sh ns x) → Placed limit d ns x (place sh ns x) (put ns x (place sh ns x))
    by (inl h) =
        let deep = (valid_deeps limit ns v (place sh ns x) h).0 in
        let kids = ap (highest (depths ns)) (place_kids sh ns x h) in
        subst (Placed limit d ns x (place sh ns x)) (sym (put_old ns x (place sh ns x) h)) (record { stands = h; deep = omega (arith, deep, kids, high); front = front_refl ns; fine = v; more = omega arith })
    by (inr h) =
        let e : place sh ns x ≡ length ns = omega (arith, place_low sh ns x) in
        let top : get_or (depths (ns ++ x ∷ [])) (place sh ns x) 0 ≡ depth_over (depths ns) x.kids = ap (λ ds. get_or ds (place sh ns x) 0) (depths_push ns x) ∙ ap (λ m. get_or (depths ns ++ depth_over (depths ns) x.kids ∷ []) m 0) (e ∙ sym (depths_long ns)) ∙ get_or_push (depths ns) (depth_over (depths ns) x.kids) 0 (length (depths ns)) refl in
        subst (Placed limit d ns x (place sh ns x)) (sym (put_new ns x (place sh ns x) h)) (record {
          stands = omega (arith, e, length-append ns (x ∷ []));
          deep = omega (arith, top, high);
          front = front_push ns x;
          fine = valid_push limit ns x v (ap is_granted (grants ns x (fit_grants d k ns x dl kl fit))) room;
          more = omega (arith, used_push ns x);
        })
