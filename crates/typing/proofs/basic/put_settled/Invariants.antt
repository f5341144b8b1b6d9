use Rattle.std.proofs.Common.{◌≡◌, ◌+◌, ◌≤◌, true, length, drop, vec_items, vec_len, vec_capacity}
use Rattle.membership.specs.Rows.{put_settled_lem, each}
use Rattle.typing.specs.View.{alts, inner_of, pooled}
use Rattle.typing.proofs.basic.put_settled.Given as goal

abbrev pub invariant-loop-x : goal.invariant-loop-x
invariant-loop-x l =
    (put_settled_lem (inner_of l.joined) (alts l.pool (vec_items l.row)) (alts l.pool (drop l.x-index l.side)) ≡ put_settled_lem (inner_of l.joined) (alts l.pool (vec_items l.initial.row)) (alts l.pool l.side))
    × (vec_len l.row ≤ vec_len l.initial.row + l.x-index)
    × (vec_capacity l.row ≡ vec_capacity l.initial.row)
    × (each (pooled (length l.pool)) (vec_items l.row) ≡ true)
