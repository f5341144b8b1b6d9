-- A working set as plain lists, and the outcome of each call: its answer and the set after it. Assumes nothing.
use Rattle.std.specs.Prelude.{◌≡◌, ℕ, Bool, cond, ◌&&◌, List, length, nat_lt, slice_index_or}
use Rattle.values.specs.Lives.{Live, new_says, new_leaves, put_says, put_leaves, frozen_all}
use Rattle.custom.specs.Customs.{Custom}
use Rattle.custom.specs.Worlds.{World, world}
use Rattle.membership.specs.Rows.{Alt, plainly, Row, Outcome as RowsOutcome, granted, refused as turned_down, single, union2}
use Rattle.matcher.specs.Nodes.{Node}
use Rattle.matcher.specs.Meaning.{accepts}
use Rattle.compiling.specs.Outcomes.{annotation, Outcome as CompileOutcome, granted as entered_as, refused as not_entered, alloc_ty_lem}
use Rattle.compiling.specs.declared.annotation.Annotation.{Annotation}
use Rattle.runs.specs.Acts.{Act, new_cell, put_part, freeze_all, make_type, union_of, alloc_type, check_value, Answer, done, type_is, annotation_is, says, refused, value_told, done_told}

-- a live heap, the types, the nodes of the store and its limit of places, and the compiled annotations
pub record State : Type 0 where
  pub heap : Live
  pub rows : List Row
  pub nodes : List Node
  pub limit : ℕ
  pub annotations : List Annotation

abbrev pub with_heap : State → Live → State
with_heap s h = record { heap = h; rows = s.rows; nodes = s.nodes; limit = s.limit; annotations = s.annotations }

abbrev pub with_rows : State → List Row → State
with_rows s rows = record { heap = s.heap; rows = rows; nodes = s.nodes; limit = s.limit; annotations = s.annotations }

abbrev pub with_annotations : State → List Node → List Annotation → State
with_annotations s ns known = record { heap = s.heap; rows = s.rows; nodes = ns; limit = s.limit; annotations = known }

abbrev pub annotation_in : State → ℕ → Annotation
annotation_in s a = slice_index_or s.annotations a (annotation 0 0)

-- a type of one alternative; a plain type's number is looked at first
abbrev pub made : List Row → Alt → RowsOutcome
made rows x = cond (plainly x) (single rows x) (turned_down 4)

abbrev pub type_answer : RowsOutcome → Answer
type_answer (granted g) = type_is g.number
type_answer (turned_down n) = refused n

abbrev pub rows_after : List Row → RowsOutcome → List Row
rows_after rows (granted g) = g.rows
rows_after rows (turned_down n) = rows

abbrev pub annotation_answer : CompileOutcome → Answer
annotation_answer (entered_as e) = annotation_is e.number
annotation_answer (not_entered n) = refused n

abbrev pub after_entry : State → CompileOutcome → State
after_entry s (entered_as e) = with_annotations s e.nodes e.list
after_entry s (not_entered n) = s

module _ (c : Custom) (shares : Bool) where
  -- what the values and customs are in a set
  abbrev pub world_of : State → World
  world_of s = world s.heap.cells c

  abbrev pub entry : State → ℕ → CompileOutcome
  entry s t = alloc_ty_lem shares s.limit s.rows c.wild t s.nodes s.annotations

  -- 2 for a missing annotation, or a missing root; then 3 for a missing value; else whether the root accepts the value
  abbrev pub check_says : State → ℕ → ℕ → Answer
  check_says s a v =
      cond (nat_lt a (length s.annotations) && nat_lt (annotation_in s a).root (length s.nodes))
      (cond (nat_lt v (length s.heap.cells)) (says (accepts (world_of s) s.nodes (annotation_in s a).root v)) (refused 3))
      (refused 2)

  abbrev pub answer : State → Act → Answer
  answer s (new_cell x) = value_told (new_says s.heap x)
  answer s (put_part v i x) = done_told (put_says s.heap v i x)
  answer s freeze_all = done
  answer s (make_type x) = type_answer (made s.rows x)
  answer s (union_of a b) = type_answer (union2 s.rows a b)
  answer s (alloc_type t) = annotation_answer (entry s t)
  answer s (check_value a v) = check_says s a v

  abbrev pub after : State → Act → State
  after s (new_cell x) = with_heap s (new_leaves s.heap x)
  after s (put_part v i x) = with_heap s (put_leaves s.heap v i x)
  after s freeze_all = with_heap s (frozen_all s.heap)
  after s (make_type x) = with_rows s (rows_after s.rows (made s.rows x))
  after s (union_of a b) = with_rows s (rows_after s.rows (union2 s.rows a b))
  after s (alloc_type t) = after_entry s (entry s t)
  after s (check_value a v) = s

  -- the call comes to this answer, and leaves the set t
  pub record OutcomeOf (s : State) (call : Act) (o : Answer) (t : State) : Type 0 where
    pub answered : o ≡ answer s call
    pub leaves : t ≡ after s call
