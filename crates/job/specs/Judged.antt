-- What the test of a job answers. Assumes nothing.
use Rattle.std.specs.Prelude.{◌≡◌, ℕ, ◌<◌, ◌⊎◌, List, length, Ok, Err, Result, ◌≢◌}
use Rattle.values.specs.Refusals.{number}
use Rattle.job_format.specs.Limits.{most_bytes}
use Rattle.job_format.specs.Order.{Misframed, Unsound, Verified}
use Rattle.job_format.specs.Encoding.{Entry, Good, encode}
use Rattle.job.specs.declared.fault.JobFault.{JobFault}
use Rattle.job.specs.declared.fault.JobFault.TheVariants.{Frame, Cell}
use Rattle.job.specs.declared.fault.Report.{Report}

-- the reason of a fault of size, frame, order or count
abbrev pub wrong_frame : ℕ
wrong_frame = 12

-- the one definition of a job's fault: the record, the number of the reason, and the byte of a text, 0 here
abbrev pub fault_says : JobFault → Report
fault_says (Frame r) = record { «record» = r; number = wrong_frame; byte = 0 }
fault_says (Cell r why) = record { «record» = r; number = number why; byte = 0 }

-- what an answer says of the bytes: a good job, or the first fault
abbrev pub Judged : List ℕ → Result Unit JobFault → Type 0
Judged s (Ok u) = Verified s
Judged s (Err (Frame n)) = ((most_bytes < length s) × (n ≡ 0)) ⊎ Misframed s n
Judged s (Err (Cell n why)) = Unsound s n why

-- yes says that a good job is written there, and no that none is
abbrev pub Accepts : List ℕ → Result Unit JobFault → Type 0
Accepts s (Ok u) = (es : List Entry) × Good es × (encode es ≡ s)
Accepts s (Err f) = (es : List Entry) → Good es → encode es ≢ s
