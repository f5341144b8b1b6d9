use Rattle.std.proofs.Common.{[], vec_items, vec_len, IsSome, sym, refl, ap, ◌∙◌, subst, arith}
use Rattle.typing.specs.Held.{rows_of}
use Rattle.compiling.specs.Code.{State, state, code, execs}
use Rattle.compiling.specs.Tasks.{Ready}
use Rattle.compiling.proofs.Makes.{going_start, arrived, last_of}
use Rattle.compiling.proofs.Turns.{taken_from, keeps_from, falls_from}
use Rattle.type_compiled.proofs.Sures.{fine_of, room_of}
use Rattle.type_compiled.proofs.compiler.Compiler.write_ty.Goals as goal

pub loop-task-init : goal.loop-task-init
loop-task-init g c =
    let types = c.args.self.now.types.now in
    let rows = rows_of types in
    let store = c.args.store.now in
    let ns = g.S.TypeMatcherAlloc.nodes store in
    let limit = g.S.TypeMatcherAlloc.limit store in
    let v = g.met.S.TypeMatcherAlloc.granted store in
    (refl, going_start rows (g.C.TyCustom.custom c.args.self.now.customs.now).wild g.S.TypeMatcherAlloc.sharing limit ns c.args.t (fine_of types) c.requires.stands v (room_of limit rows ns c.args.t v c.requires.room) (vec_items c.start.new.self.tasks) (vec_items c.start.new.self.results) c.start.ensures.tasks c.start.ensures.results)

pub turn-requires : goal.turn-requires
turn-requires g c =
    let types = c.args.self.now.types.now in
    let rows = rows_of types in
    let w = (g.C.TyCustom.custom c.args.self.now.customs.now).wild in
    let sh = g.S.TypeMatcherAlloc.sharing in
    let limit = g.S.TypeMatcherAlloc.limit c.args.store.now in
    let end = execs sh (code rows w c.args.t) (state (g.S.TypeMatcherAlloc.nodes c.args.store.now) []) in
    let st = state (g.S.TypeMatcherAlloc.nodes c.loop-task.store) (vec_items c.loop-task.scratch.results) in
    let T = taken_from rows w (fine_of types) sh limit end st (vec_items c.pop.new.self) c.in-Some.task (vec_items c.loop-task.scratch.tasks) c.in-Some.ensures.items c.loop-task.invariant.1 in
    record {
      fine = T.fine;
      ready = subst (λ m. Ready m c.in-Some.task st) (sym c.loop-task.invariant.0) T.ready;
      tasks = omega (arith, T.tasks, c.pop.new.self.ok.0);
    }

pub loop-task-smaller : goal.loop-task-smaller
loop-task-smaller g c =
    let types = c.args.self.now.types.now in
    let rows = rows_of types in
    let w = (g.C.TyCustom.custom c.args.self.now.customs.now).wild in
    let sh = g.S.TypeMatcherAlloc.sharing in
    let limit = g.S.TypeMatcherAlloc.limit c.args.store.now in
    let end = execs sh (code rows w c.args.t) (state (g.S.TypeMatcherAlloc.nodes c.args.store.now) []) in
    let st = state (g.S.TypeMatcherAlloc.nodes c.loop-task.store) (vec_items c.loop-task.scratch.results) in
    let T = taken_from rows w (fine_of types) sh limit end st (vec_items c.pop.new.self) c.in-Some.task (vec_items c.loop-task.scratch.tasks) c.in-Some.ensures.items c.loop-task.invariant.1 in
    falls_from rows w (fine_of types) sh limit end st (vec_items c.pop.new.self) c.in-Some.task (vec_items c.loop-task.scratch.tasks) (vec_items c.turn.new.self.tasks) T c.in-Some.ensures.items c.turn.ensures.tasks

pub loop-task-preserved : goal.loop-task-preserved
loop-task-preserved g c =
    let types = c.args.self.now.types.now in
    let rows = rows_of types in
    let w = (g.C.TyCustom.custom c.args.self.now.customs.now).wild in
    let sh = g.S.TypeMatcherAlloc.sharing in
    let limit = g.S.TypeMatcherAlloc.limit c.args.store.now in
    let end = execs sh (code rows w c.args.t) (state (g.S.TypeMatcherAlloc.nodes c.args.store.now) []) in
    let st = state (g.S.TypeMatcherAlloc.nodes c.loop-task.store) (vec_items c.loop-task.scratch.results) in
    let T = taken_from rows w (fine_of types) sh limit end st (vec_items c.pop.new.self) c.in-Some.task (vec_items c.loop-task.scratch.tasks) c.in-Some.ensures.items c.loop-task.invariant.1 in
    (c.turn.ensures.limit ∙ c.loop-task.invariant.0, keeps_from rows w (fine_of types) sh limit end st (vec_items c.pop.new.self) c.in-Some.task (vec_items c.turn.new.self.tasks) (state (g.S.TypeMatcherAlloc.nodes c.turn.new.store) (vec_items c.turn.new.self.results)) T c.turn.ensures.tasks c.turn.ensures.state)

pub unwrap-requires : goal.unwrap-requires
unwrap-requires g c =
    let types = c.args.self.now.types.now in
    let store = c.args.store.now in
    let rs = c.loop-task.scratch.results in
    let is = arrived (rows_of types) (g.C.TyCustom.custom c.args.self.now.customs.now).wild g.S.TypeMatcherAlloc.sharing (g.S.TypeMatcherAlloc.limit store) (g.S.TypeMatcherAlloc.nodes store) c.args.t (fine_of types) c.requires.stands (vec_items c.loop-task.scratch.tasks) _ (omega (arith, c.in_default.ensures.cases.0, c.loop-task.scratch.tasks.ok.0)) c.loop-task.invariant.1 in
    subst IsSome (sym (last_of (vec_items rs) (vec_len rs) _ c.pop-2.result (ap (λ (x : State). x.results) is) (omega (arith, rs.ok.0)) (c.pop-2.ensures.value 0))) refl

pub returns : goal.returns
returns g c =
    let types = c.args.self.now.types.now in
    let store = c.args.store.now in
    let rs = c.loop-task.scratch.results in
    let is = arrived (rows_of types) (g.C.TyCustom.custom c.args.self.now.customs.now).wild g.S.TypeMatcherAlloc.sharing (g.S.TypeMatcherAlloc.limit store) (g.S.TypeMatcherAlloc.nodes store) c.args.t (fine_of types) c.requires.stands (vec_items c.loop-task.scratch.tasks) _ (omega (arith, c.in_default.ensures.cases.0, c.loop-task.scratch.tasks.ok.0)) c.loop-task.invariant.1 in
    let last = last_of (vec_items rs) (vec_len rs) _ c.pop-2.result (ap (λ (x : State). x.results) is) (omega (arith, rs.ok.0)) (c.pop-2.ensures.value 0) in
    record { nodes = ap (λ (x : State). x.nodes) is; root = cc (last, c.unwrap.ensures); limit = c.loop-task.invariant.0 }
