use Rattle.std.proofs.Common.{get_or, ◌∙◌}
use Rattle.std.proofs.lemmas.List.{drop_all}
use Rattle.typing.specs.View.{inner_of}
use Rattle.typing.specs.declared.basic.TyBasic.TheVariants.{Any}
use Rattle.typing.proofs.Walks.{inner_step, read_plain}
use Rattle.typing.proofs.basic.inner_parts.Goals as goal

pub loop-x-preserved : goal.loop-x-preserved
loop-x-preserved c = λ pool.
    let xs = c.args.alternatives.now in
    let i = c.loop-x.x-index in
    inner_step pool (inner_of c.loop-x.found) (inner_of c.added_to-found.result) xs i (get_or xs i Any) c.loop-x-test.true (read_plain xs i Any c.loop-x-test.true) (c.added_to-found.ensures pool) ∙ c.loop-x.invariant pool

pub returns : goal.returns
returns c = λ pool. let d = drop_all c.loop-x.x-index c.args.alternatives.now c.loop-x-test.false in rw d at (c.loop-x.invariant pool)
