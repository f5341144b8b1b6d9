use Rattle.std.proofs.Common.{length, ap, arith}
use Rattle.job_format.proofs.Walks.{records_split}
use Rattle.job_format.proofs.Finding.{less}
use Rattle.job.proofs.frames.RecordsIterator.next.Goals as goal

pub invariant_of-self : goal.invariant_of-self
invariant_of-self c = record { room = omega (arith, c.args.self.now.room, less c.in_ok-tag.ensures) }

pub returns-clause-goes : goal.returns-clause-goes
returns-clause-goes c = let e = ap length (records_split c.in_ok-tag.ensures) in record { on = λ _. (tt, tt, omega (arith, e)); keeps = tt; rests = λ _. tt }
