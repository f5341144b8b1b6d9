-- What a result leaves to know. Assumes nothing.
use Rattle.std.proofs.Common.{◌≡◌, Some, None, Ok, Err, Result, MatchResult, refl}
use Rattle.std.specs.Result.{IsOk, result_err}

pub is_ok_from : {T E : Type 0} (P : T → Type 0) (Q : E → Type 0) (r : Result T E) → MatchResult r P Q → ((e : E) → Q e → ⊥) → IsOk r
is_ok_from P Q (Ok x) h never = refl
is_ok_from P Q (Err e) h never = absurd (never e h)

pub no_error : {T E : Type 0} (P : T → Type 0) (r : Result T E) → MatchResult r P (λ _. ⊥) → result_err r ≡ None
no_error P (Ok x) h = refl
no_error P (Err e) h = absurd h

-- an error that was made of an error
pub error_of : {T E D : Type 0} (P : T → Type 0) (Q : E → Type 0) (made : E → D) (d : D) (r : Result T E) → MatchResult r P Q → ((x : T) → P x → ⊥) → ((e : E) → Q e → d ≡ made e) → (e : E) × (Some e ≡ result_err r) × (d ≡ made e)
error_of P Q made d (Ok x) h never is = absurd (never x h)
error_of P Q made d (Err e) h never is = (e, refl, is e h)
