use Rattle.std.proofs.Common.{refl}
use Rattle.working_set.specs.Sets.{state_of}
use Rattle.working_set.proofs.Checked.{check_answers}
use Rattle.working_set.proofs.set.WorkingSet.check.Goals as goal

pub returns : goal.returns
returns g c =
    let w = c.args.self.now in
    record {
      outcome = record {
        answered = check_answers (g.C.TyCustom.custom w.customs) g.S.TypeMatcherAlloc.sharing (state_of g.H.Heap.cells g.S.TypeMatcherAlloc.nodes g.S.TypeMatcherAlloc.limit w) c.args.a.0 c.args.v.0 c.in_ok-root.root c.run.result c.in_ok-root.ensures c.run.ensures;
        leaves = refl;
      };
      customs = refl;
      below = refl;
    }
