use Rattle.std.proofs.Common.{◌≡◌, ℕ, List, drop}
use Rattle.membership.specs.Rows.{inner, no_inner}
use Rattle.typing.specs.View.{alts, inner_of}
use Rattle.typing.proofs.basic.inner_parts.Given as goal

abbrev pub invariant-loop-x : goal.invariant-loop-x
invariant-loop-x l = (pool : List ℕ) → inner (inner_of l.found) (alts pool (drop l.x-index l.alternatives)) ≡ inner no_inner (alts pool l.alternatives)
