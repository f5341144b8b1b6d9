use Rattle.std.proofs.Common.{ℕ, List, length, sym, ap, ◌∙◌, subst}
use Rattle.membership.specs.Rows.{parts, all_below_lem}
use Rattle.typing.specs.View.{alt}
use Rattle.typing.specs.Held.{table_of}
use Rattle.typing.specs.Growing.{Ready}
use Rattle.typing.specs.declared.types.Rows.{Rows}
use Rattle.typing.proofs.Cutting.{ready_on}
use Rattle.typing.proofs.Judging.{single_kept}
use Rattle.typing.proofs.types.Rows.single.Goals as goal

pub returns-clause-ready : goal.returns-clause-ready
returns-clause-ready c =
    let s = c.args.self.now in
    let u = c.args.scratch.now in
    let x = c.args.x in
    let s' = c.intern-n.new.self in
    let u' = c.row_of_one.new.row in
    let whole = c.parts.ensures.all ∙ ap (λ (z : List ℕ). parts (alt z x)) c.as_slice.ensures.value in
    let stand = ap (all_below_lem (length (table_of s))) (sym whole) ∙ sym c.parts_stand.ensures ∙ c.if-not-parts_stand.false in
    let row_is = c.as_slice-2.ensures.value ∙ c.row_of_one.ensures.items in
    let kept = single_kept s u x c.requires.ready c.as_slice-2.result.now row_is stand (table_of s') c.intern-n.result c.intern-n.ensures.grows c.requires.plainly in
    subst (λ (z : Rows). Ready z u') (sym c.in_ok-judge.ensures.0)
    (ready_on s s' u u' c.intern-n.ensures.grew c.intern-n.ensures.rows_room.1 c.intern-n.ensures.all_room.1 c.row_of_one.ensures.reserved c.requires.ready kept c.in_ok-judge.ensures.1)
