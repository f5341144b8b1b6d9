use Rattle.membership.proofs.Laws.{growing}
use Rattle.membership.proofs.growing_keeps_members.Goals as goal

pub returns : goal.returns
returns c = growing
