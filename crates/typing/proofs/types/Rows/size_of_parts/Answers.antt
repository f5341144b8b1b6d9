use Rattle.std.proofs.Common.{arith}
use Rattle.typing.specs.Held.{table_of}
use Rattle.typing.proofs.Bounds.{deepest_both, total_both}
use Rattle.typing.proofs.types.Rows.size_of_parts.Goals as goal

pub returns-clause-depth : goal.returns-clause-depth
returns-clause-depth c = omega (arith, deepest_both (table_of c.args.self.now) c.args.first.now c.args.second.now)

pub returns-clause-weight : goal.returns-clause-weight
returns-clause-weight c = omega (arith, total_both (table_of c.args.self.now) c.args.first.now c.args.second.now)
