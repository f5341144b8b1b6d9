use Rattle.std.proofs.Common.{sym, ◌∙◌}
use Rattle.typing.specs.View.{alt}
use Rattle.typing.proofs.Comparing.{parts_decide}
use Rattle.typing.proofs.basic.TyBasic.compare.Goals as goal

pub returns : goal.returns
returns c =
    let pool = c.args.pool.now in
    let x = alt pool c.args.self.now in
    let y = alt pool c.args.other.now in
    c.compare_parts.ensures
    ∙ sym (parts_decide x y c.rank.result c.rank-2.result c.number.result c.number-2.result c.cmp-by_kind.result c.cmp-by_number.result (c.rank.ensures pool) (c.rank-2.ensures pool) (c.number.ensures pool) (c.number-2.ensures pool) c.cmp-by_kind.ensures c.cmp-by_number.ensures (sym c.is_ne.ensures ∙ c.if-is_ne.false) (sym c.is_ne-2.ensures ∙ c.if-is_ne-2.false))
