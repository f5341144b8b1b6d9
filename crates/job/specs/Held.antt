-- The bytes of a job and its cells, by which contracts speak of them. Assumes nothing.
use Rattle.std.specs.Prelude.{ℕ, List, map, slice_index, vec_items}
use Rattle.values.specs.Cells.{Cell}
use Rattle.job_format.specs.Frames.{wide}
use Rattle.job.specs.declared.raw.RawJob.{RawJob}
use Rattle.job.specs.declared.verified.Job.{Job}
use Rattle.job.specs.declared.cell_body.CellBody.{CellBody}

abbrev pub raw_bytes : RawJob → List ℕ
raw_bytes j = vec_items j.bytes

-- with the definitions of the format: jobCells (jobBytes j), jobTexts (jobBytes j) and so on
abbrev pub job_bytes : Job → List ℕ
job_bytes j = vec_items j.bytes

-- a number that is written in two bytes
abbrev pub wide_of : List ℕ → ℕ
wide_of b = wide (slice_index b 0) (slice_index b 1)

abbrev pub cell_held : CellBody → Cell
cell_held c = record { ty = c.head.ty; flags = c.head.flags; mark = c.head.mark; parts = map wide_of c.parts.now }
