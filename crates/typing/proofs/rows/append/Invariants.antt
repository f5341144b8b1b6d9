use Rattle.std.proofs.Common.{◌≡◌, ◌+◌, ◌++◌, take, vec_items, vec_len, vec_capacity}
use Rattle.typing.proofs.rows.append.Given as goal

abbrev pub invariant-loop-x : goal.invariant-loop-x
invariant-loop-x l = (vec_items l.all ≡ vec_items l.initial.all ++ take l.x-index l.new) × (vec_len l.all ≡ vec_len l.initial.all + l.x-index) × (vec_capacity l.all ≡ vec_capacity l.initial.all)
