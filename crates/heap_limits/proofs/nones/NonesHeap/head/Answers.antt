use Rattle.std.proofs.Common.{refl}
use Rattle.values.specs.Cells.{head_of}
use Rattle.values.specs.Held.{none_cell}
use Rattle.heap_limits.specs.Alike.{says, says_past}
use Rattle.heap_limits.proofs.nones.NonesHeap.head.Goals as goal

pub returns-then-v-self : goal.returns-then-v-self
returns-then-v-self c = says c.args.self.now.count c.args.v.0 head_of (head_of none_cell) c.if-v-self.true refl

pub returns-else-v-self : goal.returns-else-v-self
returns-else-v-self c = says_past c.args.self.now.count c.args.v.0 head_of c.if-v-self.false
