-- How deep and how heavy a type is. Assumes nothing.
use Rattle.std.specs.Prelude.{◌≡◌, ℕ, zero, suc, ◌+◌, ◌<◌, max, cond, List, [], ◌∷◌, length, ◌==◌}
use Rattle.membership.specs.Rows.{Alt, parts, Row, row, one_less, Sound, Inner}

abbrev pub largest : (ℕ → ℕ) → List ℕ → ℕ
largest f [] = 0
largest f (p ∷ ps) = max (f p) (largest f ps)

abbrev pub sum_of : (ℕ → ℕ) → List ℕ → ℕ
sum_of f [] = 0
sum_of f (p ∷ ps) = f p + sum_of f ps

-- alternatives, by the depths and the weights of their parts: 1 deeper than the deepest part, 1 heavier than all together
abbrev pub depth_by : (ℕ → ℕ) → List Alt → ℕ
depth_by f [] = 1
depth_by f (a ∷ xs) = max (1 + largest f (parts a)) (depth_by f xs)

abbrev pub weight_by : (ℕ → ℕ) → List Alt → ℕ
weight_by f [] = 0
weight_by f (a ∷ xs) = 1 + sum_of f (parts a) + weight_by f xs

-- parts are numbered below their type, so n + 1 levels are enough for the type n
abbrev pub depth_within : ℕ → List Row → ℕ → ℕ
depth_within zero t n = 0
depth_within (suc k) t n = depth_by (depth_within k t) (row t n).alts

abbrev pub weight_within : ℕ → List Row → ℕ → ℕ
weight_within zero t n = 0
weight_within (suc k) t n = weight_by (weight_within k t) (row t n).alts + one_less (row t n).alts

abbrev pub depth : List Row → ℕ → ℕ
depth t n = depth_within (suc n) t n

abbrev pub weight : List Row → ℕ → ℕ
weight t n = weight_within (suc n) t n

-- a row holds its type's true depth and weight
pub record TrueSize (t : List Row) (n : ℕ) : Type 0 where
  pub deep : (row t n).deep ≡ depth t n
  pub heavy : (row t n).heavy ≡ weight t n

abbrev pub SizesAreTrue : Type 0
SizesAreTrue = (t : List Row) (n : ℕ) → Sound t → n < length t → TrueSize t n

-- what a join of the type n may add at most: never adds nothing
abbrev pub cost : List Row → ℕ → ℕ
cost t n = cond (n == 0) 0 (row t n).heavy

abbrev pub costs : List Row → Inner → ℕ
costs t p = cost t p.item + cost t p.key + cost t p.value
