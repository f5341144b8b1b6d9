-- Lists read place by place, and lists that grow by one. Assumes nothing.
use Rattle.std.proofs.Common.{◌≡◌, ℕ, zero, suc, ◌+◌, ◌<◌, List, [], ◌∷◌, ◌++◌, map, length, get_or, take, sym, ap, ◌∙◌, append_assoc, append-nil, arith, Result}
use mathlib.Core.List.{map-append}
use Rattle.std.proofs.lemmas.List.{take_more}
use Rattle.working_set.specs.Words.{told}
use Rattle.working_set.specs.declared.outcomes.Granted.{Granted}
use Rattle.values.specs.declared.refusal.Refusal.{Refusal}
use Rattle.report.specs.Asking.{OfCheck, OfChecks}
use Rattle.report.specs.Lines.{answer_text, answer_lines}
use Rattle.report.specs.declared.answer.Answer.{Answer}

-- what a map gives of one more
pub pushed : {A B : Type 0} (f : A → B) (xs : List A) (x : A) {ys : List A} {zs : List B} {b : B} → ys ≡ xs ++ (x ∷ []) → map f xs ≡ zs → f x ≡ b → map f ys ≡ zs ++ (b ∷ [])
pushed f xs x e p q = ap (map f) e ∙ map-append f xs (x ∷ []) ∙ λ i. p i ++ (q i ∷ [])

-- one of the outcomes of checks
pub of_at : (os : List (Result Granted Refusal)) (i : ℕ) (d : Result Granted Refusal) → OfChecks (map told os) → i < length os → OfCheck (told (get_or os i d))
of_at [] i d c h = absurd (omega arith)
of_at (o ∷ os) zero d c h = c.0
of_at (o ∷ os) (suc i) d c h = of_at os i d c.1 (omega arith)

-- the lines of one more answer
lines_push : (xs : List Answer) (x : Answer) → answer_lines (xs ++ (x ∷ [])) ≡ answer_lines xs ++ (answer_text x ++ (10 ∷ []))
lines_push [] x = append-nil (answer_text x ++ (10 ∷ []))
lines_push (y ∷ xs) x = ap (λ bs. (answer_text y ++ (10 ∷ [])) ++ bs) (lines_push xs x) ∙ sym (append_assoc (answer_text y ++ (10 ∷ [])) (answer_lines xs) (answer_text x ++ (10 ∷ [])))

pub lines_more : (xs : List Answer) (i : ℕ) (d : Answer) → i < length xs → answer_lines (take (i + 1) xs) ≡ answer_lines (take i xs) ++ (answer_text (get_or xs i d) ++ (10 ∷ []))
lines_more xs i d h = ap answer_lines (take_more xs i d h) ∙ lines_push (take i xs) (get_or xs i d)
