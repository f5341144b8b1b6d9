use Rattle.std.proofs.Common.{◌≡◌, ◌+◌, ◌≤◌, min, max, drop}
use Rattle.membership.specs.Rows.{depth_alts, weight_alts}
use Rattle.typing.specs.View.{alts}
use Rattle.typing.specs.Held.{table_of, pool_in}
use Rattle.typing.proofs.types.Rows.size.Given as goal

abbrev pub invariant-loop-x : goal.invariant-loop-x
invariant-loop-x l =
    (1 ≤ l.depth)
    × (l.depth ≤ 33)
    × (min 33 (max l.depth (depth_alts (table_of l.self) (alts (pool_in l.self) (drop l.x-index l.new)))) ≡ min 33 (depth_alts (table_of l.self) (alts (pool_in l.self) l.new)))
    × (l.weight ≤ 4097)
    × (min 4097 (l.weight + weight_alts (table_of l.self) (alts (pool_in l.self) (drop l.x-index l.new))) ≡ min 4097 (weight_alts (table_of l.self) (alts (pool_in l.self) l.new)))
