-- What a call and a question on a table of types answer. Assumes nothing.
use Rattle.std.specs.Prelude.{◌≡◌, ℕ, ◌<◌, ◌≤◌, true, cond, List, [], ◌∷◌, length, Some, None, Ok, Err, Option, Result, nat_lt, slice_index_or}
use Rattle.values.specs.Refusals.{number}
use Rattle.values.specs.declared.refusal.Refusal.{Refusal}
use Rattle.values.specs.declared.refusal.Refusal.TheVariants.{NoType}
use Rattle.membership.specs.Rows.{Alt, any, Row, row, grown, Outcome, granted, refused}
use Rattle.membership.specs.Members.{UnionMembers}
use Rattle.typing.specs.View.{alt, pooled}
use Rattle.typing.specs.declared.basic.TyBasic.{TyBasic}

-- the number of a refusal, or 0 where there is none
abbrev pub first_number : Result (Unit {0}) Refusal → ℕ
first_number (Ok _) = 0
first_number (Err f) = number f

-- what a call on the table t answers, and the table t' that it leaves: a refused call adds nothing
abbrev pub Answered : Outcome → List Row → List Row → Result ℕ Refusal → Type 0
Answered o t t' (Ok n) = o ≡ granted (grown t' n)
Answered o t t' (Err f) = (t' ≡ t) × (o ≡ refused (number f))

-- the members of the union of a and b that was answered
abbrev pub MembersOf : List Row → List Row → ℕ → ℕ → Result ℕ Refusal → Type 0
MembersOf t t' a b (Ok n) = UnionMembers t t' a b n
MembersOf t t' a b (Err f) = Unit {0}

-- what a question on the type n answers: a missing type is refusal 1
abbrev pub type_says : {X : Type 0} → List Row → ℕ → (Row → X) → Result X Refusal
type_says t n f = cond (nat_lt n (length t)) (Ok (f (row t n))) (Err NoType)

-- the answer is the alternative i of those in xs, and there is none where xs has none
abbrev pub BasicAt : List ℕ → List Alt → ℕ → Option TyBasic → Type 0
BasicAt pool xs i None = length xs ≤ i
BasicAt pool xs i (Some b) = (i < length xs) × (alt pool b ≡ slice_index_or xs i any) × (pooled (length pool) b ≡ true)

-- what a list of just one thing holds
abbrev pub only_of : {X : Type 0} → List X → Option X
only_of [] = None
only_of (x ∷ []) = Some x
only_of (x ∷ (y ∷ ys)) = None
