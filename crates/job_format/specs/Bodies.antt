-- What the body of a record says. Assumes nothing.
use Rattle.std.specs.Prelude.{ℕ, ◌+◌, ◌-◌, ◌*◌, ◌%◌, Bool, true, false, cond, ◌&&◌, List, [], ◌∷◌, drop, ℤ, Some, None, Option, ◌==◌, nat_le, nat_lt, slice_index}
use Rattle.std.specs.Int.{w64}
use Rattle.std.proofs.Common.{to_z}
use Rattle.values.specs.Cells.{Cell, well_formed, each}
use Rattle.values.specs.declared.refusal.Refusal.{Refusal}
use Rattle.values.specs.declared.refusal.Refusal.TheVariants.{NoValue, BadForm}
use Rattle.job_format.specs.Frames.{Raw, wide}
use Rattle.job_format.specs.Tags.{cell_tag, mark_tag, range_tag, text_tag, query_tag}
use Rattle.job_format.specs.Limits.{most_bytes, most_cells, most_entries, cell_bytes, mark_bytes, range_bytes, query_bytes}

-- the numbers that are written in two bytes each
unfoldable pub pairs : List ℕ → List ℕ
pairs [] = []
pairs (x ∷ []) = []
pairs (x ∷ (y ∷ xs)) = wide x y ∷ pairs xs

-- eight bytes from the place i on, as a signed number
abbrev pub signed_at : ℕ → List ℕ → ℤ
signed_at i b = to_z w64 (slice_index b i * 72057594037927936 + slice_index b (i + 1) * 281474976710656 + slice_index b (i + 2) * 1099511627776 + slice_index b (i + 3) * 4294967296 + slice_index b (i + 4) * 16777216 + slice_index b (i + 5) * 65536 + slice_index b (i + 6) * 256 + slice_index b (i + 7))

-- a cell: type number, flags, mark, parts
abbrev pub cell_in : List ℕ → Cell
cell_in b = record { ty = wide (slice_index b 0) (slice_index b 1); flags = slice_index b 2; mark = signed_at 3 b; parts = pairs (drop cell_bytes b) }

-- the lengths that the body of each tag can have
abbrev pub shaped : ℕ → ℕ → Bool
shaped t n =
    cond (t == cell_tag) (nat_le cell_bytes n && (n - cell_bytes) % 2 == 0)
    (cond (t == mark_tag) (n == mark_bytes)
    (cond (t == range_tag) (n == range_bytes)
    (cond (t == text_tag) true
    (cond (t == query_tag) (n == query_bytes) false))))

-- the most records of each tag; texts and queries are bounded by the size alone
abbrev pub limit : ℕ → ℕ
limit t = cond (t == cell_tag) most_cells (cond (t == mark_tag) most_entries (cond (t == range_tag) most_entries most_bytes))

-- the bodies of the records with the tag t
unfoldable pub bodies : ℕ → List Raw → List (List ℕ)
bodies t [] = []
bodies t (r ∷ rs) = cond (r.tag == t) (r.body ∷ bodies t rs) (bodies t rs)

-- the cell in a body is sound where there are n cells: its parts are cells, and it is well formed
abbrev pub cell_sound : ℕ → List ℕ → Bool
cell_sound n b = each (λ p. nat_lt p n) (cell_in b).parts && well_formed (cell_in b)

-- why a cell is turned down, where there are n cells
abbrev pub fault_of : ℕ → Cell → Option Refusal
fault_of n c = cond (each (λ p. nat_lt p n) c.parts) (cond (well_formed c) None (Some BadForm)) (Some NoValue)

-- why the cell in a body is turned down, where there are n cells
abbrev pub cell_fault_lem : ℕ → List ℕ → Option Refusal
cell_fault_lem n b = fault_of n (cell_in b)
