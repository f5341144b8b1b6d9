use Rattle.std.proofs.Common.{vec_items, vec_capacity, refl, arith}
use Rattle.working_set.proofs.Going.{going_none, going_more, made_all}
use Rattle.working_set.proofs.set.WorkingSet.perform.Goals as goal

pub loop-call-init : goal.loop-call-init
loop-call-init g c = (
  omega arith,
  omega arith,
  omega (arith, c.if-capacity-len.false, c.len.ensures, c.capacity.ensures, c.args.outcomes.now.ok.1),
  refl,
  going_none g.H.Heap g.S.TypeMatcherAlloc g.C.TyCustom c.args.self.now (vec_items c.args.outcomes.now),
)

pub loop-call-preserved : goal.loop-call-preserved
loop-call-preserved g c =
    let inv = c.loop-call.invariant in (
      omega arith,
      omega (arith, c.push_reserved.ensures.len, inv.1),
      inv.2,
      omega (arith, c.push_reserved.ensures.capacity, inv.3),
      going_more g.H.Heap g.S.TypeMatcherAlloc g.C.TyCustom {after' = vec_items c.push_reserved.new.self} c.args.calls.now c.loop-call.call-index c.call-item.result c.make-outcome.result c.loop-call-test.true c.call-item.is inv.4 c.make-outcome.ensures c.push_reserved.ensures.items,
    )

pub returns : goal.returns
returns g c =
    let inv = c.loop-call.invariant in
    made_all g.H.Heap g.S.TypeMatcherAlloc g.C.TyCustom c.args.calls.now c.loop-call.call-index (vec_capacity c.args.outcomes.now) (vec_capacity c.loop-call.outcomes)
    (g.met.C.TyCustom.open c.args.self.now.customs) c.loop-call-test.false (omega (arith, inv.2, c.args.outcomes.now.ok.0)) inv.3 inv.4
