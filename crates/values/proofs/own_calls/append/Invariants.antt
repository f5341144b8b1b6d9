use Rattle.std.proofs.Common.{◌≡◌, ◌+◌, ◌++◌, take, vec_items, vec_len, vec_capacity}
use Rattle.values.specs.Values.{numbers}
use Rattle.values.proofs.own_calls.append.Given as goal

abbrev pub invariant-loop-p : goal.invariant-loop-p
invariant-loop-p l = (vec_items l.pool ≡ vec_items l.initial.pool ++ numbers (take l.p-index l.parts)) × (vec_len l.pool ≡ vec_len l.initial.pool + l.p-index) × (vec_capacity l.pool ≡ vec_capacity l.initial.pool)
