-- The numbers of types. Assumes nothing.
use Rattle.std.specs.Prelude.{◌≡◌, ℕ, ◌<◌, Bool, ◌&&◌, ◌||◌, ◌⊎◌, Result, MatchResult, nat_lt}
use Rattle.values.specs.declared.built_in.BuiltIn.{BuiltIn}
use Rattle.values.specs.declared.built_in.BuiltIn.TheVariants.{Int, Bool as BoolType, NoneType, Str, List, Dict, Set, Tuple}
use Rattle.values.specs.declared.built_in.NotBuiltIn.{NotBuiltIn}

abbrev pub type_number : BuiltIn → ℕ
type_number Int = 1
type_number BoolType = 2
type_number NoneType = 3
type_number Str = 4
type_number List = 5
type_number Dict = 6
type_number Set = 7
type_number Tuple = 8

-- the built-in type with the number n, or n itself where none has it
abbrev pub Names : ℕ → Result BuiltIn NotBuiltIn → Type 0
Names n r = MatchResult r (λ b. type_number b ≡ n) (λ e. (e.0 ≡ n) × ((n < 1) ⊎ (8 < n)))

-- 1 to 8 are the built-in types, and those from 16 on a host's own
abbrev pub type_numbered : ℕ → Bool
type_numbered n = (nat_lt 0 n && nat_lt n 9) || nat_lt 15 n
