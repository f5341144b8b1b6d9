use Rattle.std.proofs.Common.{take}
use Rattle.job_format.specs.Frames.{records}
use Rattle.job_format.specs.Order.{Follow}
use Rattle.job.specs.Seens.{Sees}
use Rattle.job_format.proofs.Walks.{Stands}
use Rattle.job.proofs.testing.test_frames.Given as goal

abbrev pub invariant-loop-record : goal.invariant-loop-record
invariant-loop-record l = Stands l.bytes l.walk.number l.walk.rest.now × Follow (records l.bytes) l.walk.number × Sees l.seen (take l.walk.number (records l.bytes))
