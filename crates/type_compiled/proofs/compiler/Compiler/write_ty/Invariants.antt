use Rattle.std.proofs.Common.{◌≡◌, [], vec_items}
use Rattle.typing.specs.Held.{rows_of}
use Rattle.compiling.specs.Code.{state, execs, code}
use Rattle.compiling.specs.Tasks.{load, Going}
use Rattle.type_compiled.proofs.compiler.Compiler.write_ty.Given as goal

abbrev pub invariant-loop-task : goal.invariant-loop-task
invariant-loop-task g l =
    let rows = rows_of l.self.types.now in
    let w = (g.C.TyCustom.custom l.self.customs.now).wild in
    let sh = g.S.TypeMatcherAlloc.sharing in
    (g.S.TypeMatcherAlloc.limit l.store ≡ g.S.TypeMatcherAlloc.limit l.initial.store)
    × Going rows w sh (g.S.TypeMatcherAlloc.limit l.initial.store) (execs sh (code rows w l.t) (state (g.S.TypeMatcherAlloc.nodes l.initial.store) [])) (vec_items l.scratch.tasks) (state (g.S.TypeMatcherAlloc.nodes l.store) (vec_items l.scratch.results))

abbrev pub decreases-loop-task : goal.decreases-loop-task
decreases-loop-task g l =
    let rows = rows_of l.self.types.now in
    let w = (g.C.TyCustom.custom l.self.customs.now).wild in
    load rows w (code rows w) (vec_items l.scratch.tasks)
