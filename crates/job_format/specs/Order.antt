-- Which records can follow which, and which jobs are good: by frames, order and counts first, then by cells. Assumes nothing.
use Rattle.std.specs.Prelude.{◌≡◌, ℕ, ◌<◌, ◌≤◌, Bool, true, false, ◌&&◌, ◌⊎◌, List, [], ◌∷◌, length, take, Some, nat_le, nat_lt, slice_index_or}
use Rattle.values.specs.declared.refusal.Refusal.{Refusal}
use Rattle.job_format.specs.Tags.{cell_tag}
use Rattle.job_format.specs.Limits.{most_bytes}
use Rattle.job_format.specs.Frames.{Raw, no_raw, records, leftover}
use Rattle.job_format.specs.Bodies.{shaped, limit, bodies, cell_fault_lem, cell_sound}

abbrev pub at : List Raw → ℕ → Raw
at rs i = slice_index_or rs i no_raw

-- the tag of the last record
unfoldable pub last_tag : List Raw → ℕ
last_tag [] = 0
last_tag (r ∷ []) = r.tag
last_tag (r ∷ (q ∷ rs)) = last_tag (q ∷ rs)

-- a record can follow others: its tag is known and its body as long as that tag says; tags never fall; not too many
abbrev pub follows : List Raw → Raw → Bool
follows before r = shaped r.tag (length r.body) && nat_le (last_tag before) r.tag && nat_lt (length (bodies r.tag before)) (limit r.tag)

-- the first n records can each follow those before
abbrev pub Follow : List Raw → ℕ → Type 0
Follow rs n = (i : ℕ) → i < n → follows (take i rs) (at rs i) ≡ true

-- how many cells a job has
abbrev pub cell_count : List Raw → ℕ
cell_count rs = length (bodies cell_tag rs)

-- the cells among the first n records are well formed, and their parts are cells
abbrev pub CellsSound : List Raw → ℕ → Type 0
CellsSound rs n = (i : ℕ) → i < n → (at rs i).tag ≡ cell_tag → cell_sound (cell_count rs) (at rs i).body ≡ true

-- frames, order and counts are right throughout
pub record Framed (s : List ℕ) : Type 0 where
  pub small : length s ≤ most_bytes
  pub follow : Follow (records s) (length (records s))
  pub whole : length (leftover s) ≡ 0

-- the first record that is wrong by frame, order or count
pub record Misframed (s : List ℕ) (n : ℕ) : Type 0 where
  pub small : length s ≤ most_bytes
  pub before : Follow (records s) n
  pub here : ((n < length (records s)) × (follows (take n (records s)) (at (records s) n) ≡ false)) ⊎ ((n ≡ length (records s)) × (0 < length (leftover s)))

-- the first cell that is turned down
pub record Unsound (s : List ℕ) (n : ℕ) (why : Refusal) : Type 0 where
  pub framed : Framed s
  pub before : CellsSound (records s) n
  pub within : n < length (records s)
  pub cell : (at (records s) n).tag ≡ cell_tag
  pub here : cell_fault_lem (cell_count (records s)) (at (records s) n).body ≡ Some why

-- a good job
pub record Verified (s : List ℕ) : Type 0 where
  pub framed : Framed s
  pub cells : CellsSound (records s) (length (records s))
