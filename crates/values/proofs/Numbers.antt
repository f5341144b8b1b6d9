-- Values and their numbers. Assumes nothing.
use Rattle.std.proofs.Common.{◌≡◌, ℕ, zero, suc, ◌+◌, ◌<◌, ◌&&◌, ltb, List, [], ◌∷◌, ◌++◌, length, get_or, take, refl, ap, ◌∙◌}
use mathlib.Core.List.{map-append}
use Rattle.std.proofs.lemmas.List.{take_more}
use Rattle.std.specs.List.{list_all}
use Rattle.values.specs.Cells.{each}
use Rattle.values.specs.Values.{value, number_of, numbers}
use Rattle.values.specs.declared.value.Value.{Value}

pub numbers_length : (vs : List Value) → length (numbers vs) ≡ length vs
numbers_length [] = refl
numbers_length (v ∷ vs) = ap suc (numbers_length vs)

pub numbers_at : (vs : List Value) (i : ℕ) → get_or (numbers vs) i 0 ≡ (get_or vs i (value 0)).0
numbers_at [] i = refl
numbers_at (v ∷ vs) zero = refl
numbers_at (v ∷ vs) (suc i) = numbers_at vs i

pub numbers_more : (vs : List Value) (i : ℕ) → i < length vs → numbers (take (i + 1) vs) ≡ numbers (take i vs) ++ ((get_or vs i (value 0)).0 ∷ [])
numbers_more vs i h = ap numbers (take_more vs i (value 0) h) ∙ map-append number_of (take i vs) (get_or vs i (value 0) ∷ [])

pub each_numbers : (n : ℕ) (vs : List Value) → each (λ p. ltb p n) (numbers vs) ≡ list_all (λ (v : Value). ltb v.0 n) vs
unfolding each
each_numbers n [] = refl
each_numbers n (v ∷ vs) = ap (λ b. ltb v.0 n && b) (each_numbers n vs)
