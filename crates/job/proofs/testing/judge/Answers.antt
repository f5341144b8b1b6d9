use Rattle.job.proofs.Accepting.{accepts}
use Rattle.job.proofs.testing.judge.Goals as goal

pub returns : goal.returns
returns c = record { judged = c.first_fault.ensures; exact = accepts c.args.bytes.now (λ i h. (c.type_inv.bytes i).fits) c.first_fault.result c.first_fault.ensures }
