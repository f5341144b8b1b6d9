-- The texts of a job, entered one after another: each is read as a type, which is compiled. Assumes nothing.
use Rattle.std.specs.Prelude.{◌≡◌, ℕ, ◌<◌, Bool, List, [], ◌∷◌, length, Ok}
use Rattle.custom.specs.Customs.{Custom}
use Rattle.matcher.specs.Nodes.{Node}
use Rattle.membership.specs.Rows.{Row, start}
use Rattle.compiling.specs.Outcomes.{alloc_ty_lem, granted, entered, Means}
use Rattle.compiling.specs.declared.annotation.Annotation.{Annotation}
use Rattle.type_compiled.specs.Compiled.{annotation_at}
use Rattle.annotation.specs.Evaluated.{ReadAs}

-- the types, the nodes of the store, and the annotations that are compiled
pub record State : Type 0 where
  pub rows : List Row
  pub nodes : List Node
  pub annotations : List Annotation

-- nothing is entered
abbrev pub blank : State
blank = record { rows = start; nodes = []; annotations = [] }

-- what compiling depends on beside the state: whether the store shares, its limit of places, and which customs are wildcards
pub record Setting : Type 0 where
  pub shares : Bool
  pub limit : ℕ
  pub wild : ℕ → Bool

-- the text s is read as a type, and that type is compiled as the next annotation
pub record Enters (e : Setting) (s : List ℕ) (before after : State) : Type 0 where
  pub ty : ℕ
  pub read : ReadAs s before.rows after.rows (Ok ty)
  pub compiled : alloc_ty_lem e.shares e.limit after.rows e.wild ty before.nodes before.annotations ≡ granted (entered after.nodes after.annotations (length before.annotations))

-- texts entered in turn
abbrev pub EnterAll : Setting → List (List ℕ) → State → State → Type 0
EnterAll e [] before after = before ≡ after
EnterAll e (s ∷ ss) before after = (next : State) × Enters e s before next × EnterAll e ss next after

-- every annotation accepts just the members of its type, in every heap
pub record Rightly (c : Custom) (s : State) (a : ℕ) : Type 0 where
  pub stands : (annotation_at s.annotations a).ty < length s.rows
  pub written : (annotation_at s.annotations a).root < length s.nodes
  pub means : Means c s.rows s.nodes (annotation_at s.annotations a)

abbrev pub AllRight : Custom → State → Type 0
AllRight c s = (a : ℕ) → a < length s.annotations → Rightly c s a
