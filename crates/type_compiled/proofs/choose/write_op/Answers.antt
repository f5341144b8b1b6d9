use Rattle.std.proofs.Common.{IsOk, refl, sym, ◌∙◌, subst, ap₂}
use Rattle.matcher.specs.Nodes.{grown}
use Rattle.compiling.specs.Code.{chosen}
use Rattle.compiling.proofs.Wilds.{sure}
use Rattle.type_compiled.proofs.choose.write_op.Goals as goal

pub unwrap-requires : goal.unwrap-requires
unwrap-requires g c =
    let store = c.args.store.now in
    let ns = g.S.TypeMatcherAlloc.nodes store in
    subst IsOk (sym (sure g.S.TypeMatcherAlloc.sharing (g.S.TypeMatcherAlloc.limit store) ns (chosen c.args.op ns c.args.kids.now) _ _ c.requires c.chosen-node.ensures c.alloc.ensures.answer)) refl

pub returns-clause-wrote : goal.returns-clause-wrote
returns-clause-wrote g c =
    let store = c.args.store.now in
    let ns = g.S.TypeMatcherAlloc.nodes store in
    let is = sure g.S.TypeMatcherAlloc.sharing (g.S.TypeMatcherAlloc.limit store) ns (chosen c.args.op ns c.args.kids.now) _ _ c.requires c.chosen-node.ensures c.alloc.ensures.answer in
    record { number = cc (is, c.unwrap.ensures); nodes = c.alloc.ensures.nodes ∙ ap₂ (grown ns) c.chosen-node.ensures c.unwrap.ensures }
