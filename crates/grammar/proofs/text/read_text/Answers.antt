use Rattle.std.proofs.Common.{[], ◌∷◌, length, refl, ap, ◌∙◌, inr, arith}
use Rattle.std.proofs.lemmas.Result.{err_from_is_err_and}
use Rattle.grammar.specs.Items.{from}
use Rattle.grammar.specs.Machine.{txt}
use Rattle.grammar.specs.Steps.{onward}
use Rattle.grammar.specs.Grammar.{seen}
use Rattle.grammar.proofs.Theory.{taken_valid}
use Rattle.grammar.proofs.Located.{located, faultless}
use Rattle.grammar.proofs.Arguments.{fed, nothing_left}
use Rattle.grammar.proofs.text.read_text.Goals as goal

pub returns-in_err-end : goal.returns-in_err-end
returns-in_err-end c =
    let s = c.args.text.now in
    let p = err_from_is_err_and c.from_residual.result c.from_residual.ensures.1 in
    rw (p.1, p.2) (inr (omega arith, located (from s 0) [] (txt ∷ []) (length s) c.in_err-end.field-0.0.byte refl (c.in_err-end.ensures [])))

pub returns-in-End : goal.returns-in-End
returns-in-End c =
    let s = c.args.text.now in
    let m = c.next_token-last.result in
    let read = c.in_ok-end.ensures in
    (omega arith, taken_valid (seen (from s 0)) (faultless (from s 0) (txt ∷ []) (length s) (read.same_fault [] ∙ fed m.token s c.in_ok-end.end m.start m.end c.next_token-last.ensures [] ∙ ap (λ t. onward t m.start (length s) (from s m.end) []) c.in-End.is)))

pub returns-in_default : goal.returns-in_default
returns-in_default c =
    let s = c.args.text.now in
    let m = c.next_token-last.result in
    let read = c.in_ok-end.ensures in
    inr (omega arith, located (from s 0) [] (txt ∷ []) (length s) m.start refl (read.same_fault [] ∙ fed m.token s c.in_ok-end.end m.start m.end c.next_token-last.ensures [] ∙ nothing_left m.token c.in_default.not-End m.start (length s) (from s m.end)))
