-- A walk over the records of some bytes. Assumes nothing.
use Rattle.std.specs.Prelude.{◌≡◌, ℕ, ◌+◌, ◌<◌, ◌==◌, cond, true, false, List, [], ◌∷◌, length, Option, MatchOption, slice_index_or}
use Rattle.job_format.specs.Tags.{tag_number}
use Rattle.job_format.specs.Frames.{Raw, is_whole, records, Splits}
use Rattle.job_format.specs.Bodies.{shaped}
use Rattle.job.specs.declared.records.Record.{Record}
use Rattle.job.specs.declared.records.Records.{Records}
use Rattle.job.specs.declared.records.Tagged.{Tagged}

-- the records that are still to come
abbrev pub still_to_come : Records → List Raw
still_to_come w = records w.rest.now

-- a walk that begins at the front of the bytes s
abbrev pub StartsAt : List ℕ → Records → Type 0
StartsAt s w = (w.number ≡ 0) × (w.rest.now ≡ s)

-- a step gives the record at the front and goes on behind it, or gives none and stays
abbrev pub Steps : Records → Option Record → Records → Type 0
Steps w r after =
    MatchOption r ((is_whole w.rest.now ≡ false) × (after.number ≡ w.number) × (after.rest.now ≡ w.rest.now))
    (λ x. (x.number ≡ w.number) × (after.number ≡ w.number + 1) × Splits w.rest.now x.tag x.body.now after.rest.now)

-- the bodies of the records with the tag t, each with the number of its record, where the first record has the number n
unfoldable pub numbered : ℕ → ℕ → List Raw → List (ℕ × List ℕ)
numbered t n [] = []
numbered t n (r ∷ rs) = cond (r.tag == t) ((n, r.body) ∷ numbered t (n + 1) rs) (numbered t (n + 1) rs)

abbrev pub numbered_of : Record → ℕ × List ℕ
numbered_of x = (x.number, x.body.now)

-- those that are still to come
abbrev pub numbered_left : Tagged → List (ℕ × List ℕ)
numbered_left w = numbered (tag_number w.tag) w.records.number (records w.records.rest.now)

-- each body is as long as the tag t says
abbrev pub AllFit : ℕ → List (ℕ × List ℕ) → Type 0
AllFit t xs = (v : ℕ) → v < length xs → shaped t (length (slice_index_or xs v (0, [])).1) ≡ true
