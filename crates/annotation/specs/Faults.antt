-- The number and the byte of each fault of a text. Assumes nothing.
use Rattle.std.specs.Prelude.{ℕ}
use Rattle.values.specs.Refusals.{number}
use Rattle.annotation.specs.declared.fault.TextFault.{TextFault}
use Rattle.annotation.specs.declared.fault.TextFault.TheVariants.{Outside, Call}

-- the reason and the byte of each case
abbrev pub says : TextFault → ℕ × ℕ
says (Outside f) = (11, f.byte)
says (Call c) = (number c.why, c.byte)

abbrev pub code_of : TextFault → ℕ
code_of f = (says f).0

abbrev pub byte_of : TextFault → ℕ
byte_of f = (says f).1
