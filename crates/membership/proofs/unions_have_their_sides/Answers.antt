use Rattle.membership.proofs.Laws.{unions}
use Rattle.membership.proofs.unions_have_their_sides.Goals as goal

pub returns : goal.returns
returns c = unions
