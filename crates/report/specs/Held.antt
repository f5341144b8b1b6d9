-- What the tables of a job hold. Assumes nothing.
use Rattle.std.specs.Prelude.{ℕ, Bool, List}
use Rattle.values.specs.Cells.{Cell}
use Rattle.values.specs.Lives.{blank_over}
use Rattle.custom.specs.Customs.{Custom}
use Rattle.matcher.specs.Nodes.{Node}
use Rattle.typing.specs.Held.{rows_of}
use Rattle.type_compiled.specs.Compiled.{annotations_of}
use Rattle.runs.specs.States.{State as SetState}
use Rattle.report.specs.Entering.{State, Setting}
use Rattle.report.specs.declared.tables.Tables.{Tables}

-- where a store S means nodes
abbrev pub state_of : {S : Type 0} → (S → List Node) → Tables S → State
state_of nodes t = record { rows = rows_of t.types; nodes = nodes t.store; annotations = annotations_of t.annotations }

abbrev pub setting : Bool → ℕ → Custom → Setting
setting shares limit c = record { shares = shares; limit = limit; wild = c.wild }

-- the working set over the cells, with what was entered into a store of so many places
abbrev pub set_over : List Cell → ℕ → State → SetState
set_over cells limit t = record { heap = blank_over cells; rows = t.rows; nodes = t.nodes; limit = limit; annotations = t.annotations }
