use Rattle.job_format.specs.Frames.{records}
use Rattle.job_format.specs.Order.{CellsSound}
use Rattle.job_format.proofs.Walks.{Stands}
use Rattle.job.proofs.testing.test_cells.Given as goal

abbrev pub invariant-loop-record : goal.invariant-loop-record
invariant-loop-record l = Stands l.bytes l.record-iterator.number l.record-iterator.rest.now × CellsSound (records l.bytes) l.record-iterator.number
