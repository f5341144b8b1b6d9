use Rattle.std.proofs.Common.{◌≡◌, ◌++◌, take, drop}
use Rattle.membership.specs.Rows.{put}
use Rattle.typing.specs.View.{alt, alts}
use Rattle.typing.proofs.basic.place.Given as goal

abbrev pub invariant-loop-i : goal.invariant-loop-i
invariant-loop-i l = put (alt l.pool l.x) (alts l.pool l.row) ≡ alts l.pool (take l.i l.row) ++ put (alt l.pool l.x) (alts l.pool (drop l.i l.row))
