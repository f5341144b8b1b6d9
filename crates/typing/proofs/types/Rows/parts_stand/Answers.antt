use Rattle.std.proofs.Common.{Bool, ◌&&◌, length, sym, ap, ◌∙◌}
use Rattle.membership.specs.Rows.{all_below_lem}
use Rattle.typing.specs.Held.{table_of}
use Rattle.typing.proofs.Bounds.{below_both}
use Rattle.typing.proofs.types.Rows.parts_stand.Goals as goal

pub returns-then-all_stand : goal.returns-then-all_stand
returns-then-all_stand c =
    let n = length (table_of c.args.self.now) in
    let e = below_both n c.args.first.now c.args.second.now ∙ ap (λ (b : Bool). b && all_below_lem n c.args.second.now) (sym c.all_stand.ensures ∙ c.if-all_stand.true) in
    c.all_stand-then-all_stand.ensures ∙ sym e

pub returns-else-all_stand : goal.returns-else-all_stand
returns-else-all_stand c =
    let n = length (table_of c.args.self.now) in
    let e = below_both n c.args.first.now c.args.second.now ∙ ap (λ (b : Bool). b && all_below_lem n c.args.second.now) (sym c.all_stand.ensures ∙ c.if-all_stand.false) in
    c.if-all_stand.false ∙ sym e
