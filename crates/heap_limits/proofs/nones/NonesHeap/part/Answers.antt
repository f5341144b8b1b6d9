use Rattle.heap_limits.specs.Alike.{no_part}
use Rattle.heap_limits.proofs.nones.NonesHeap.part.Goals as goal

pub returns : goal.returns
returns c = no_part c.args.self.now.count c.args._v.0 c.args._i
