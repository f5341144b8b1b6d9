-- The parts of a cell, two bytes at a time. Assumes nothing.
use Rattle.std.proofs.Common.{◌≡◌, ℕ, suc, ◌/◌, Bool, ◌&&◌, List, [], ◌∷◌, map, length, refl, ap, ◌∙◌, arith}
use Rattle.std.specs.Simd.{first_chunks}
use Rattle.std.specs.List.{list_all}
use Rattle.values.specs.Cells.{each}
use Rattle.job_format.specs.Frames.{wide}
use Rattle.job_format.specs.Bodies.{pairs}
use Rattle.job.specs.Held.{wide_of}

pub pairs_of_chunks : (xs : List ℕ) → map wide_of (first_chunks 2 (length xs / 2) xs) ≡ pairs xs
unfolding pairs
pairs_of_chunks [] = refl
pairs_of_chunks (x ∷ []) = refl
pairs_of_chunks (x ∷ (y ∷ xs)) =
    let e : length (x ∷ (y ∷ xs)) / 2 ≡ suc (length xs / 2) = omega arith in
    ap (λ k. map wide_of (first_chunks 2 k (x ∷ (y ∷ xs)))) e ∙ ap (λ ps. wide x y ∷ ps) (pairs_of_chunks xs)

pub each_of_all : {A B : Type 0} (p : B → Bool) (f : A → B) (xs : List A) → each p (map f xs) ≡ list_all (λ x. p (f x)) xs
unfolding each
each_of_all p f [] = refl
each_of_all p f (x ∷ xs) = ap (λ b. p (f x) && b) (each_of_all p f xs)
