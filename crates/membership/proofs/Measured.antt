-- The held depths and weights are the true ones. Assumes nothing.
use Rattle.std.proofs.Common.{◌≡◌, ℕ, zero, suc, ◌+◌, ◌<◌, ◌≤◌, min, max, Bool, true, false, cond, eqb, ltb, List, [], ◌∷◌, length, get_or, refl, ap, ◌∙◌, ap₂, arith}
use Rattle.std.proofs.lemmas.Bool.{and_parts, or_parts, ltb-true, ltb-false, eqb-true}
use Rattle.membership.specs.Rows.{Alt, Row, row, never, parts, all_below_lem, below, deepest, total, depth_alts, weight_alts, one_less, made_row, any_of, sized, too_deep, too_wide, too_heavy, crowded, verdict, Sound}
use Rattle.membership.specs.Measures.{largest, sum_of, depth_by, weight_by, depth_within, weight_within, SizesAreTrue}
use Rattle.membership.proofs.Eachs.{each_at}
use Rattle.membership.proofs.Kepts.{row_under}

pub record Limits (t : List Row) : Type 0 where
  pub deep : any_of too_deep t ≡ false
  pub wide : any_of too_wide t ≡ false
  pub heavy : any_of too_heavy t ≡ false
  pub room : crowded t ≡ false

limits_by : (t : List Row) (a b c d : Bool) → any_of too_deep t ≡ a → any_of too_wide t ≡ b → any_of too_heavy t ≡ c → crowded t ≡ d → ◌≡◌ {A = ℕ} (cond a 7 (cond b 8 (cond c 9 (cond d 10 0)))) 0 → Limits t
limits_by t true b c d p q r s e = absurd (omega (arith, e))
limits_by t false true c d p q r s e = absurd (omega (arith, e))
limits_by t false false true d p q r s e = absurd (omega (arith, e))
limits_by t false false false true p q r s e = absurd (omega (arith, e))
limits_by t false false false false p q r s e = record { deep = p; wide = q; heavy = r; room = s }

pub limits_of : (t : List Row) → verdict t ≡ 0 → Limits t
limits_of t e = limits_by t (any_of too_deep t) (any_of too_wide t) (any_of too_heavy t) (crowded t) refl refl refl refl e

pub none_at_lem : {X : Type 0} (f : X → Bool) (t : List X) (i : ℕ) (d : X) → any_of f t ≡ false → i < length t → f (get_or t i d) ≡ false
none_at_lem f [] i d h l = absurd (omega arith)
none_at_lem f (x ∷ xs) zero d h l = (or_parts (f x) (any_of f xs) h).0
none_at_lem f (x ∷ xs) (suc i) d h l = none_at_lem f xs i d (or_parts (f x) (any_of f xs) h).1 (omega arith)

module _ (t : List Row) (s : Sound t) where
  pub row_deep : (n : ℕ) → n < length t → (row t n).deep ≡ depth_alts t (row t n).alts
  row_deep n l =
      let a = and_parts (eqb (row t n).deep (made_row t (row t n).alts).deep) (eqb (row t n).heavy (made_row t (row t n).alts).heavy) (each_at (sized t) t n never s.sizes l) in
      let e : (row t n).deep ≡ min 33 (depth_alts t (row t n).alts) = eqb-true (row t n).deep (made_row t (row t n).alts).deep a.0 in
      let h : (row t n).deep ≤ 32 = ltb-false 32 (row t n).deep (none_at_lem too_deep t n never (limits_of t s.limited).deep l) in
      omega arith

  pub row_heavy : (n : ℕ) → n < length t → (row t n).heavy ≡ weight_alts t (row t n).alts + one_less (row t n).alts
  row_heavy n l =
      let a = and_parts (eqb (row t n).deep (made_row t (row t n).alts).deep) (eqb (row t n).heavy (made_row t (row t n).alts).heavy) (each_at (sized t) t n never s.sizes l) in
      let e : (row t n).heavy ≡ min 4097 (weight_alts t (row t n).alts + one_less (row t n).alts) = eqb-true (row t n).heavy (made_row t (row t n).alts).heavy a.1 in
      let h : (row t n).heavy ≤ 4096 = ltb-false 4096 (row t n).heavy (none_at_lem too_heavy t n never (limits_of t s.limited).heavy l) in
      omega arith

module _ (t : List Row) (f : ℕ → ℕ) (m : ℕ) where
  deepest_is : (ps : List ℕ) → ((p : ℕ) → p < m → (row t p).deep ≡ f p) → all_below_lem m ps ≡ true → deepest t ps ≡ largest f ps
  deepest_is [] h b = refl
  deepest_is (p ∷ ps) h b = let a = and_parts (ltb p m) (all_below_lem m ps) b in ap₂ max (h p (ltb-true p m a.0)) (deepest_is ps h a.1)

  depth_is : (xs : List Alt) → ((p : ℕ) → p < m → (row t p).deep ≡ f p) → below m xs ≡ true → depth_alts t xs ≡ depth_by f xs
  depth_is [] h b = refl
  depth_is (x ∷ xs) h b = let a = and_parts (all_below_lem m (parts x)) (below m xs) b in ap₂ (λ (y z : ℕ). max (1 + y) z) (deepest_is (parts x) h a.0) (depth_is xs h a.1)

  total_is : (ps : List ℕ) → ((p : ℕ) → p < m → (row t p).heavy ≡ f p) → all_below_lem m ps ≡ true → total t ps ≡ sum_of f ps
  total_is [] h b = refl
  total_is (p ∷ ps) h b = let a = and_parts (ltb p m) (all_below_lem m ps) b in ap₂ ◌+◌ (h p (ltb-true p m a.0)) (total_is ps h a.1)

  weight_is : (xs : List Alt) → ((p : ℕ) → p < m → (row t p).heavy ≡ f p) → below m xs ≡ true → weight_alts t xs ≡ weight_by f xs
  weight_is [] h b = refl
  weight_is (x ∷ xs) h b = let a = and_parts (all_below_lem m (parts x)) (below m xs) b in ap₂ (λ (y z : ℕ). 1 + y + z) (total_is (parts x) h a.0) (weight_is xs h a.1)

true_depth : (t : List Row) → Sound t → (k n : ℕ) → n < k → n < length t → (row t n).deep ≡ depth_within k t n
true_depth t s zero n l m = absurd (omega arith)
true_depth t s (suc k) n l m = row_deep t s n m ∙ depth_is t (depth_within k t) n (row t n).alts (λ p h. true_depth t s k p (omega arith) (omega arith)) (row_under t n s.standing)

true_weight : (t : List Row) → Sound t → (k n : ℕ) → n < k → n < length t → (row t n).heavy ≡ weight_within k t n
true_weight t s zero n l m = absurd (omega arith)
true_weight t s (suc k) n l m = row_heavy t s n m ∙ ap (λ (w : ℕ). w + one_less (row t n).alts) (weight_is t (weight_within k t) n (row t n).alts (λ p h. true_weight t s k p (omega arith) (omega arith)) (row_under t n s.standing))

pub true_sizes : SizesAreTrue
true_sizes t n s l = record { deep = true_depth t s (suc n) n (omega arith) l; heavy = true_weight t s (suc n) n (omega arith) l }
