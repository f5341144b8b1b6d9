-- The memory that a table of types reserves. Assumes nothing.
use Rattle.std.specs.Prelude.{ℕ}

-- The places that are reserved: for 1024 types and 8192 alternatives, and for what one union may add to them before it is judged.
-- A union adds no more rows than its left side weighs, and no more alternatives than both weigh.
abbrev pub rows_room : ℕ
rows_room = 5120

abbrev pub all_room : ℕ
all_room = 16384

abbrev pub scratch_room : ℕ
scratch_room = 8192

-- the elements of fixed tuples, and those of one that is judged
abbrev pub pool_room : ℕ
pool_room = 8256
