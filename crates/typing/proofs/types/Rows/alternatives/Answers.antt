use Rattle.std.proofs.Common.{◌≡◌, true, List, length, sym, subst}
use Rattle.membership.specs.Rows.{each}
use Rattle.typing.specs.View.{pooled}
use Rattle.typing.specs.Held.{pool_in}
use Rattle.typing.specs.declared.basic.TyBasic.{TyBasic}
use Rattle.typing.proofs.Walks.{each_between}
use Rattle.typing.proofs.types.Rows.alternatives.Goals as goal

pub returns-in-Some-clause-pooled : goal.returns-in-Some-clause-pooled
returns-in-Some-clause-pooled c =
    let s = c.args.self.now in
    let f = pooled (length (pool_in s)) in
    let r = c.in-Some.row.now in
    each_between f r.start r.end c.deref.result.now (subst (λ (z : List TyBasic). each f z ≡ true) (sym c.deref.ensures.value) s.elements)
