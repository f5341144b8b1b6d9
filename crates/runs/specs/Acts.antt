-- The calls on a working set and their answers, as plain data. Assumes nothing.
use Rattle.std.specs.Prelude.{ℕ, Bool, Ok, Err, Result}
use Rattle.values.specs.Cells.{Cell}
use Rattle.values.specs.Refusals.{number}
use Rattle.values.specs.declared.refusal.Refusal.{Refusal}
use Rattle.values.specs.declared.value.Value.{Value}
use Rattle.membership.specs.Rows.{Alt}

-- a call; types, annotations and values by their numbers
pub data Act : Type 0 where
  new_cell : Cell → Act
  put_part : ℕ → ℕ → ℕ → Act
  freeze_all : Act
  make_type : Alt → Act
  union_of : ℕ → ℕ → Act
  alloc_type : ℕ → Act
  check_value : ℕ → ℕ → Act

-- what a call answers; a refusal by its number
pub data Answer : Type 0 where
  value_is : ℕ → Answer
  done : Answer
  type_is : ℕ → Answer
  annotation_is : ℕ → Answer
  says : Bool → Answer
  refused : ℕ → Answer

-- the answer that a result says: what it grants, as `grants` says it, or the refusal's number
abbrev pub told_as : {A : Type 0} → (A → Answer) → Result A Refusal → Answer
told_as grants (Ok x) = grants x
told_as grants (Err why) = refused (number why)

abbrev pub value_told : Result Value Refusal → Answer
value_told = told_as (λ v. value_is v.0)

abbrev pub done_told : Result Unit Refusal → Answer
done_told = told_as (λ _. done)

abbrev pub type_told : Result ℕ Refusal → Answer
type_told = told_as type_is

abbrev pub check_told : Result Bool Refusal → Answer
check_told = told_as says
