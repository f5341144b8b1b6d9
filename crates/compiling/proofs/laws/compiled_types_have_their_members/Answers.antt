use Rattle.compiling.proofs.Rights.{right}
use Rattle.compiling.proofs.laws.compiled_types_have_their_members.Goals as goal

pub returns : goal.returns
returns c = right
