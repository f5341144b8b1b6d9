-- How a job is written, which jobs are good, and that these are all. Assumes nothing.
use Rattle.std.specs.Prelude.{◌≡◌, ℕ, zero, suc, ◌+◌, ◌/◌, ◌%◌, ◌<◌, ◌≤◌, Bool, true, ◌&&◌, List, [], ◌∷◌, ◌++◌, map, length, take, ℤ, FitsSigned, ◌≢◌, nat_lt, slice_index, slice_index_or}
use Rattle.std.specs.Int.{w64}
use Rattle.std.proofs.Common.{of_z}
use Rattle.values.specs.Cells.{Cell, well_formed, each}
use Rattle.job_format.specs.Frames.{Raw, two, frames, records}
use Rattle.job_format.specs.Order.{Follow, cell_count, Verified, Misframed}
use Rattle.job_format.specs.Contents.{job_cells, job_marks, job_ranges, job_texts, job_queries}
use Rattle.job_format.specs.Tags.{cell_tag, mark_tag, range_tag, text_tag, query_tag}
use Rattle.job_format.specs.Limits.{most_bytes}
use Rattle.job_format.specs.declared.query.Query.{Query}
use Rattle.custom.specs.declared.entries.Mark.{Mark}
use Rattle.custom.specs.declared.entries.Range.{Range}

-- what a record says
pub data Entry : Type 0 where
  cell_e : Cell → Entry
  mark_e : ℕ → ℤ → Entry
  range_e : ℤ → ℤ → Entry
  text_e : List ℕ → Entry
  query_e : ℕ → ℕ → Entry

-- a number in k bytes, the highest first
abbrev pub bytes : ℕ → ℕ → List ℕ
bytes zero n = []
bytes (suc k) n = bytes k (n / 256) ++ (n % 256 ∷ [])

-- a signed number in eight bytes, by its two's complement
abbrev pub eight : ℤ → List ℕ
eight z = bytes 8 (of_z w64 z)

-- numbers in two bytes each
abbrev pub twos : List ℕ → List ℕ
twos [] = []
twos (p ∷ ps) = two p ++ twos ps

-- the tag and the body of a record
abbrev pub written : Entry → Raw
written (cell_e c) = record { tag = cell_tag; body = two c.ty ++ (c.flags ∷ (eight c.mark ++ twos c.parts)) }
written (mark_e t m) = record { tag = mark_tag; body = two t ++ eight m }
written (range_e l h) = record { tag = range_tag; body = eight l ++ eight h }
written (text_e b) = record { tag = text_tag; body = b }
written (query_e a v) = record { tag = query_tag; body = two a ++ two v }

-- a job is its records, one after another, each in its frame
abbrev pub encode : List Entry → List ℕ
encode es = frames (map written es)

-- signed numbers have 64 bits
abbrev pub Signed : Entry → Type 0
Signed (cell_e c) = FitsSigned w64 c.mark
Signed (mark_e t m) = FitsSigned w64 m
Signed (range_e l h) = FitsSigned w64 l × FitsSigned w64 h
Signed (text_e b) = Unit {0}
Signed (query_e a v) = Unit {0}

-- a cell is well formed, and its parts are among n cells
abbrev pub sound_in : ℕ → Entry → Bool
sound_in n (cell_e c) = each (λ p. nat_lt p n) c.parts && well_formed c
sound_in n (mark_e t m) = true
sound_in n (range_e l h) = true
sound_in n (text_e b) = true
sound_in n (query_e a v) = true

abbrev pub nth : List Entry → ℕ → Entry
nth es i = slice_index_or es i (text_e [])

abbrev pub Bytes : List ℕ → Type 0
Bytes s = (i : ℕ) → i < length s → slice_index s i < 256

pub record Good (es : List Entry) : Type 0 where
  -- what is written are bytes, so every number fits its place
  pub bytes : Bytes (encode es)
  pub signed : (i : ℕ) → i < length es → Signed (nth es i)
  pub small : length (encode es) ≤ most_bytes
  -- known lengths, tags that never fall, not too many of each
  pub follow : Follow (map written es) (length (map written es))
  pub sound : (i : ℕ) → i < length es → sound_in (cell_count (map written es)) (nth es i) ≡ true

-- the cells, texts, customs and queries that a job's entries are
abbrev pub cells_of : List Entry → List Cell
cells_of [] = []
cells_of (cell_e c ∷ es) = c ∷ cells_of es
cells_of (mark_e t m ∷ es) = cells_of es
cells_of (range_e l h ∷ es) = cells_of es
cells_of (text_e b ∷ es) = cells_of es
cells_of (query_e a v ∷ es) = cells_of es

abbrev pub texts_of : List Entry → List (List ℕ)
texts_of [] = []
texts_of (cell_e c ∷ es) = texts_of es
texts_of (mark_e t m ∷ es) = texts_of es
texts_of (range_e l h ∷ es) = texts_of es
texts_of (text_e b ∷ es) = b ∷ texts_of es
texts_of (query_e a v ∷ es) = texts_of es

abbrev pub marks_of : List Entry → List Mark
marks_of [] = []
marks_of (cell_e c ∷ es) = marks_of es
marks_of (mark_e t m ∷ es) = record { ty = t; mark = m } ∷ marks_of es
marks_of (range_e l h ∷ es) = marks_of es
marks_of (text_e b ∷ es) = marks_of es
marks_of (query_e a v ∷ es) = marks_of es

abbrev pub ranges_of : List Entry → List Range
ranges_of [] = []
ranges_of (cell_e c ∷ es) = ranges_of es
ranges_of (mark_e t m ∷ es) = ranges_of es
ranges_of (range_e l h ∷ es) = record { low = l; high = h } ∷ ranges_of es
ranges_of (text_e b ∷ es) = ranges_of es
ranges_of (query_e a v ∷ es) = ranges_of es

abbrev pub queries_of_lem : List Entry → List Query
queries_of_lem [] = []
queries_of_lem (cell_e c ∷ es) = queries_of_lem es
queries_of_lem (mark_e t m ∷ es) = queries_of_lem es
queries_of_lem (range_e l h ∷ es) = queries_of_lem es
queries_of_lem (text_e b ∷ es) = queries_of_lem es
queries_of_lem (query_e a v ∷ es) = record { annotation = a; value = v } ∷ queries_of_lem es

-- the encodings of good jobs pass, nothing else does, and what is read is what was written
pub record Exactly : Type 0 where
  pub only : (s : List ℕ) → Bytes s → Verified s → (es : List Entry) × Good es × (encode es ≡ s)
  pub every : (es : List Entry) → Good es → Verified (encode es)
  pub cells : (es : List Entry) → Good es → job_cells (encode es) ≡ cells_of es
  pub texts : (es : List Entry) → Good es → job_texts (encode es) ≡ texts_of es
  pub marks : (es : List Entry) → Good es → job_marks (encode es) ≡ marks_of es
  pub ranges : (es : List Entry) → Good es → job_ranges (encode es) ≡ ranges_of es
  pub queries : (es : List Entry) → Good es → job_queries (encode es) ≡ queries_of_lem es
  -- no good job goes on past the records before a wrong one with that record
  pub first : (s : List ℕ) (n : ℕ) → Misframed s n → (es : List Entry) → Good es → n < length es → take (n + 1) (map written es) ≢ take (n + 1) (records s)
