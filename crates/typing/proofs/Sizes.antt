-- Depths and weights, alternative by alternative. Assumes nothing.
use Rattle.std.proofs.Common.{◌≡◌, ℕ, ◌+◌, ◌<◌, ◌≤◌, min, max, List, [], ◌∷◌, length, get_or, drop, refl, arith}
use Rattle.std.proofs.lemmas.List.{drop_all}
use Rattle.membership.specs.Rows.{Alt, Row, deepest, total, parts, depth_alts, weight_alts, one_less}
use Rattle.typing.specs.View.{alt, alts}
use Rattle.typing.specs.declared.basic.TyBasic.{TyBasic}
use Rattle.typing.proofs.Walks.{drop_read}

pub one_deep : (t : List Row) (xs : List Alt) → 1 ≤ depth_alts t xs
one_deep t [] = omega arith
one_deep t (x ∷ xs) = omega (arith, one_deep t xs)

module _ (pool : List ℕ) (t : List Row) (xs : List TyBasic) (i : ℕ) (y : TyBasic) (h : i < length xs) (e : y ≡ get_or xs i y) where
  pub depth_step : (d d' s x : ℕ) → s ≡ min 33 (1 + deepest t (parts (alt pool y))) → d' ≡ max d s → 1 ≤ d → d ≤ 33 → min 33 (max d (depth_alts t (alts pool (drop i xs)))) ≡ x → (1 ≤ d') × (d' ≤ 33) × (min 33 (max d' (depth_alts t (alts pool (drop (i + 1) xs)))) ≡ x)
  depth_step d d' s x p q l m k =
      let k' = rw (drop_read xs i y h e) at k in
      (omega arith, omega arith, omega (arith, k'))

  pub weight_step : (w w' s x : ℕ) → s ≡ min 4097 (1 + total t (parts (alt pool y))) → w' ≡ min 4097 (w + s) → w ≤ 4097 → min 4097 (w + weight_alts t (alts pool (drop i xs))) ≡ x → (w' ≤ 4097) × (min 4097 (w' + weight_alts t (alts pool (drop (i + 1) xs))) ≡ x)
  weight_step w w' s x p q l k =
      let k' = rw (drop_read xs i y h e) at k in
      (omega arith, omega (arith, k'))

-- what is left to add once every alternative is counted
pub one_less_one : (pool : List ℕ) (xs : List TyBasic) → length xs ≡ 1 → one_less (alts pool xs) ≡ 0
one_less_one pool [] e = absurd (omega arith)
one_less_one pool (x ∷ []) e = refl
one_less_one pool (x ∷ (y ∷ ys)) e = absurd (omega arith)

pub one_less_other : (pool : List ℕ) (xs : List TyBasic) → (length xs ≡ 1 → ⊥) → one_less (alts pool xs) ≡ 1
one_less_other pool [] h = refl
one_less_other pool (x ∷ []) h = absurd (h refl)
one_less_other pool (x ∷ (y ∷ ys)) h = refl

pub depth_end : (pool : List ℕ) (t : List Row) (xs : List TyBasic) (i d x : ℕ) → length xs ≤ i → 1 ≤ d → d ≤ 33 → min 33 (max d (depth_alts t (alts pool (drop i xs)))) ≡ x → d ≡ x
depth_end pool t xs i d x l p q h = omega (arith, rw (drop_all i xs l) at h)

pub weight_end : (pool : List ℕ) (t : List Row) (xs : List TyBasic) (i w x : ℕ) → length xs ≤ i → w ≤ 4097 → min 4097 (w + weight_alts t (alts pool (drop i xs))) ≡ x → w ≡ x
weight_end pool t xs i w x l p h = omega (arith, rw (drop_all i xs l) at h)
