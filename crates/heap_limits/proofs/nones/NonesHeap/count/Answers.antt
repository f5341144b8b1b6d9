use Rattle.heap_limits.specs.Alike.{count_is}
use Rattle.heap_limits.proofs.nones.NonesHeap.count.Goals as goal

pub returns : goal.returns
returns c = count_is c.args.self.now.count
