use Rattle.membership.specs.Samples.{members_samples}
use Rattle.membership.proofs.samples_hold.Goals as goal

pub returns : goal.returns
returns c = members_samples
