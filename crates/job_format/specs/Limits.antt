-- The limits of a job, and how long the bodies of its records are. Assumes nothing.
use Rattle.std.specs.Prelude.{ℕ}

-- the most bytes of a job
abbrev pub most_bytes : ℕ
most_bytes = 60000

-- the most cells
abbrev pub most_cells : ℕ
most_cells = 4096

-- the most entries of the Marks, and of the Ranges
abbrev pub most_entries : ℕ
most_entries = 64

-- the bytes of a cell without parts
abbrev pub cell_bytes : ℕ
cell_bytes = 11

-- the bytes of an entry of the Marks
abbrev pub mark_bytes : ℕ
mark_bytes = 10

-- the bytes of an entry of the Ranges
abbrev pub range_bytes : ℕ
range_bytes = 16

-- the bytes of a query
abbrev pub query_bytes : ℕ
query_bytes = 4
