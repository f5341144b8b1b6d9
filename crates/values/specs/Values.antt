-- Values as numbers of cells. Assumes nothing.
use Rattle.std.specs.Prelude.{ℕ, List, map}
use Rattle.values.specs.declared.value.Value.{Value}

abbrev pub value : ℕ → Value
value n = record { 0 = n }

abbrev pub number_of : Value → ℕ
number_of v = v.0

abbrev pub numbers : List Value → List ℕ
numbers vs = map number_of vs
