-- The cells, customs, texts and queries of a job, read off its bytes. Assumes nothing.
use Rattle.std.specs.Prelude.{◌≡◌, ℕ, ◌+◌, ◌<◌, List, [], map, length, take, slice_index, slice_index_or}
use Rattle.values.specs.Cells.{Cell}
use Rattle.custom.specs.declared.entries.Mark.{Mark}
use Rattle.custom.specs.declared.entries.Range.{Range}
use Rattle.job_format.specs.Tags.{cell_tag, mark_tag, range_tag, text_tag, query_tag}
use Rattle.job_format.specs.Frames.{Raw, records, wide}
use Rattle.job_format.specs.Bodies.{bodies, signed_at, cell_in}
use Rattle.job_format.specs.Order.{at}
use Rattle.job_format.specs.declared.query.Query.{Query}

abbrev pub mark_in : List ℕ → Mark
mark_in b = record { ty = wide (slice_index b 0) (slice_index b 1); mark = signed_at 2 b }

abbrev pub range_in : List ℕ → Range
range_in b = record { low = signed_at 0 b; high = signed_at 8 b }

abbrev pub query_in_lem : List ℕ → Query
query_in_lem b = record { annotation = wide (slice_index b 0) (slice_index b 1); value = wide (slice_index b 2) (slice_index b 3) }

abbrev pub job_cells : List ℕ → List Cell
job_cells s = map cell_in (bodies cell_tag (records s))

abbrev pub job_marks : List ℕ → List Mark
job_marks s = map mark_in (bodies mark_tag (records s))

abbrev pub job_ranges : List ℕ → List Range
job_ranges s = map range_in (bodies range_tag (records s))

abbrev pub job_texts : List ℕ → List (List ℕ)
job_texts s = bodies text_tag (records s)

abbrev pub job_queries : List ℕ → List Query
job_queries s = map query_in_lem (bodies query_tag (records s))

-- the body b stands at the place v
pub record Found (bs : List (List ℕ)) (v : ℕ) (b : List ℕ) : Type 0 where
  pub within : v < length bs
  pub is : b ≡ slice_index_or bs v []

-- x stands at the place v
pub record Stood {A : Type 0} (xs : List A) (v : ℕ) (x : A) : Type 0 where
  pub within : v < length xs
  pub is : x ≡ slice_index_or xs v x

-- the record n has the tag t and the body b, and v records before it have that tag
pub record Located (rs : List Raw) (t v n : ℕ) (b : List ℕ) : Type 0 where
  pub within : n < length rs
  pub here : at rs n ≡ record { tag = t; body = b }
  pub before : length (bodies t (take n rs)) ≡ v
  pub found : Found (bodies t rs) v b

-- how many records come before the first text
abbrev pub texts_from : List ℕ → ℕ
texts_from s = length (job_cells s) + length (job_marks s) + length (job_ranges s)

-- the text with the number v is b, and n is the number of its record
pub record TextAt (s : List ℕ) (v n : ℕ) (b : List ℕ) : Type 0 where
  pub found : Found (job_texts s) v b
  pub located : Located (records s) text_tag v n b
  pub number : n ≡ texts_from s + v
