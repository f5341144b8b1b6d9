use Rattle.membership.proofs.Measured.{true_sizes}
use Rattle.membership.proofs.sizes_are_true.Goals as goal

pub returns : goal.returns
returns c = true_sizes
