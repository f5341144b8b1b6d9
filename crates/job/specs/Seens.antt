-- What the first pass keeps of the records so far. Assumes nothing.
use Rattle.std.specs.Prelude.{◌≡◌, ℕ, ◌+◌, ◌<◌, Bool, cond, ◌&&◌, List, length, ◌==◌, nat_le, nat_lt}
use Rattle.job_format.specs.Tags.{cell_tag}
use Rattle.job_format.specs.Frames.{Raw}
use Rattle.job_format.specs.Bodies.{shaped, limit, bodies}
use Rattle.job_format.specs.Order.{last_tag}
use Rattle.job.specs.declared.tally.Seen.{Seen}

-- how many records had the tag t, if it is not below the last
abbrev pub had : Seen → ℕ → ℕ
had s t = cond (t == s.last) s.run 0

abbrev pub can_follow_lem : Seen → ℕ → ℕ → Bool
can_follow_lem s t n = shaped t n && nat_le s.last t && nat_lt (had s t) (limit t)

abbrev pub with_record_lem : Seen → ℕ → Seen
with_record_lem s t = record { last = t; run = had s t + 1; cells = cond (t == cell_tag) (s.cells + 1) s.cells }

-- it is what the records leave
pub record Sees (s : Seen) (rs : List Raw) : Type 0 where
  pub last : s.last ≡ last_tag rs
  pub run : s.run ≡ length (bodies s.last rs)
  pub none : (t : ℕ) → s.last < t → length (bodies t rs) ≡ 0
  pub cells : s.cells ≡ length (bodies cell_tag rs)
