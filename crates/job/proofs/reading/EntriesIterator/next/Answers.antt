use Rattle.job_format.specs.Tags.{tag_number}
use Rattle.job.specs.Walked.{numbered_of, numbered_left}
use Rattle.job.proofs.Numbering.{fit_here, fit_on}
use Rattle.job.proofs.reading.EntriesIterator.next.Goals as goal

pub invariant_of-self : goal.invariant_of-self
invariant_of-self g c = record { shaped = fit_on numbered_of numbered_left (tag_number g.T.FromBody.TAG) c.args.self.now.tagged c.next.new.self c.next.result c.next.ensures.steps c.args.self.now.shaped }

pub from_body-requires : goal.from_body-requires
from_body-requires g c = fit_here numbered_of numbered_left (tag_number g.T.FromBody.TAG) c.args.self.now.tagged c.next.new.self c.in_ok-record.record c.in_ok-record.ensures.steps c.args.self.now.shaped
