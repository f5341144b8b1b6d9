use Rattle.grammar.proofs.Once.{once, never}
use Rattle.grammar.proofs.text.faults_are_pinned.Goals as goal

pub returns : goal.returns
returns c = record { once = once; never = never }
