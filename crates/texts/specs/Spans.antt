-- Where a record's text stands. Assumes nothing.
use Rattle.std.specs.Prelude.{◌≡◌, ℕ, ◌≤◌, List, ◌++◌, length, take, Some, None, Option}
use Rattle.std.specs.Borrow.{Bor}

-- the bytes are those of the size, the text and what follows it
abbrev pub Within : List ℕ → Option (Bor (List ℕ) × Bor (List ℕ)) → Type 0
Within s None = Unit {0}
Within s (Some p) = (2 ≤ length s) × (s ≡ take 2 s ++ (p.0.now ++ p.1.now))
