use Rattle.std.proofs.Common.{◌≡◌, ◌+◌, ◌≤◌, length, take, vec_items, vec_len, vec_capacity}
use Rattle.working_set.proofs.Going.{Going}
use Rattle.working_set.proofs.set.WorkingSet.perform.Given as goal

abbrev pub invariant-loop-call : goal.invariant-loop-call
invariant-loop-call g l =
    (l.call-index ≤ length l.calls)
    × (vec_len l.outcomes ≡ vec_len l.initial.outcomes + l.call-index)
    × (vec_len l.initial.outcomes + length l.calls ≤ vec_capacity l.initial.outcomes)
    × (vec_capacity l.outcomes ≡ vec_capacity l.initial.outcomes)
    × Going g.H.Heap g.S.TypeMatcherAlloc g.C.TyCustom (take l.call-index l.calls) l.initial.self l.self (vec_items l.initial.outcomes) (vec_items l.outcomes)
