-- What a test of a value reads: the cells of a heap, and the answers of a custom. Assumes nothing.
use Rattle.std.specs.Prelude.{ℕ, Bool, List, ℤ}
use Rattle.values.specs.Cells.{Cell}
use Rattle.custom.specs.Customs.{Custom}

-- yes or no for a custom's number and a cell's type number, flags and mark
abbrev pub Answers : Type 0
Answers = ℕ → ℕ → ℕ → ℤ → Bool

pub record World : Type 0 where
  pub cells : List Cell
  pub says : Answers

abbrev pub world : List Cell → Custom → World
world cs c = record { cells = cs; says = c.says }
