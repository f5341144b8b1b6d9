use Rattle.std.proofs.lemmas.Result.{err_from_is_err_and}
use Rattle.working_set.proofs.Beginnings.{begun}
use Rattle.working_set.proofs.set.WorkingSet.over.Goals as goal

pub returns-in_err-types : goal.returns-in_err-types
returns-in_err-types g c = let p = err_from_is_err_and c.from_residual-in_err-types.result c.from_residual-in_err-types.ensures.1 in rw p.1 tt

pub returns-in_err-annotations : goal.returns-in_err-annotations
returns-in_err-annotations g c = let p = err_from_is_err_and c.from_residual-in_err-annotations.result c.from_residual-in_err-annotations.ensures.1 in rw p.1 tt

pub returns : goal.returns
returns g c =
    begun g.H.Heap g.S.TypeMatcherAlloc c.args.below c.args.store c.args.customs c.in_ok-live.live c.in_ok-types.types c.in_ok-annotations.annotations
    (g.met.H.Heap.closed c.args.below) c.in_ok-live.ensures.0 c.in_ok-live.ensures.1 c.in_ok-types.ensures c.in_ok-annotations.ensures
