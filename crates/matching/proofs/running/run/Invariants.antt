use Rattle.std.proofs.Common.{◌≡◌}
use Rattle.matcher.specs.Nodes.{deepest}
use Rattle.matching.specs.Settings.{world_of}
use Rattle.matching.specs.Stacks.{Sounds, unwind, load}
use Rattle.matching.proofs.running.run.Given as goal

abbrev pub invariant-loop-f : goal.invariant-loop-f
invariant-loop-f g l =
    let W = world_of g.H.Heap.cells g.C.TyCustom.custom l.setting in
    let ns = g.S.TypeMatcherAlloc.nodes l.setting.store.now in
    Sounds W ns deepest l.stack.items × (unwind W ns l.stack.items l.answer ≡ unwind W ns l.initial.stack.items l.initial.answer)

abbrev pub decreases-loop-f : goal.decreases-loop-f
decreases-loop-f g l =
    let W = world_of g.H.Heap.cells g.C.TyCustom.custom l.setting in
    load W (g.S.TypeMatcherAlloc.nodes l.setting.store.now) deepest l.stack.items
