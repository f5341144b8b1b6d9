use Rattle.std.proofs.Common.{◌≡◌, sym, subst, rules}
use Rattle.std.proofs.lemmas.Result.{err_from_is_err_and}
use Rattle.grammar.specs.declared.tokens.Token.TheVariants.{Close, Comma}
use Rattle.grammar.specs.Machine.{arg, Reader}
use Rattle.grammar.proofs.Arguments.{arg_shut, arg_dotted, plain, arg_break, arg_ends, arg_goes, arg_wrong, shut_reads}
use Rattle.grammar.proofs.readers.+alternative_argument_text_reader.Goals as goal

pub argument-returns-in-Shut : goal.argument-returns-in-Shut
argument-returns-in-Shut t c = let f = c.next_token-first.result in arg_shut c.args.text.now c.args.at f.start f.end f.token c.args.stage c.next_token-first.ensures c.in-Shut.ensures

pub argument-returns-in-Dotted : goal.argument-returns-in-Dotted
argument-returns-in-Dotted t c = let f = c.next_token-first.result in arg_dotted c.args.text.now c.args.at f.start f.end f.token c.args.stage c.next_token-first.ensures c.in-Dotted.ensures c.closing.result (shut_reads c.args.text.now f.end c.closing.result c.closing.ensures)

pub argument-returns-in_err-end : goal.argument-returns-in_err-end
argument-returns-in_err-end t c =
    let f = c.next_token-first.result in
    let same = plain c.args.text.now c.args.at f.start f.end f.token c.args.stage c.next_token-first.ensures c.in-Plain.ensures in
    let p = err_from_is_err_and c.from_residual.result c.from_residual.ensures.1 in
    rw (p.1, p.2) (arg_break c.args.text.now c.args.at c.args.stage same c.in_err-end.field-0.0.byte c.in_err-end.ensures)

pub argument-returns-in-Close : goal.argument-returns-in-Close
argument-returns-in-Close t c =
    let f = c.next_token-first.result in
    let m = c.next_token-mark.result in
    let same = plain c.args.text.now c.args.at f.start f.end f.token c.args.stage c.next_token-first.ensures c.in-Plain.ensures in
    arg_ends c.args.text.now c.args.at c.args.stage same c.in_ok-end.end m.start m.end m.token c.in_ok-end.ensures c.next_token-mark.ensures c.in-Close.is (sym c.if-may_close.ensures)

pub argument-returns-in-Comma : goal.argument-returns-in-Comma
argument-returns-in-Comma t c =
    let f = c.next_token-first.result in
    let m = c.next_token-mark.result in
    let same = plain c.args.text.now c.args.at f.start f.end f.token c.args.stage c.next_token-first.ensures c.in-Plain.ensures in
    arg_goes c.args.text.now c.args.at c.args.stage same c.in_ok-end.end m.start m.end m.token c.in_ok-end.ensures c.next_token-mark.ensures c.in-Comma.is (sym c.if-may_comma.ensures) c.argument.result
    (subst (λ st. Reader c.args.text.now m.end (arg st) c.argument.result) c.next_stage.ensures c.argument.ensures)

pub argument-returns-in_default : goal.argument-returns-in_default
argument-returns-in_default t c =
    let f = c.next_token-first.result in
    let m = c.next_token-mark.result in
    let same = plain c.args.text.now c.args.at f.start f.end f.token c.args.stage c.next_token-first.ensures c.in-Plain.ensures in
    arg_wrong c.args.text.now c.args.at c.args.stage same c.in_ok-end.end m.start m.end m.token c.in_ok-end.ensures c.next_token-mark.ensures (λ e. sym c.if-may_close.ensures) (λ e. cc)

pub argument-returns-in_default-2 : goal.argument-returns-in_default-2
argument-returns-in_default-2 t c =
    let f = c.next_token-first.result in
    let m = c.next_token-mark.result in
    let same = plain c.args.text.now c.args.at f.start f.end f.token c.args.stage c.next_token-first.ensures c.in-Plain.ensures in
    arg_wrong c.args.text.now c.args.at c.args.stage same c.in_ok-end.end m.start m.end m.token c.in_ok-end.ensures c.next_token-mark.ensures (λ e. cc) (λ e. sym c.if-may_comma.ensures)

pub argument-returns-in_default-3 : goal.argument-returns-in_default-3
argument-returns-in_default-3 t c =
    let f = c.next_token-first.result in
    let m = c.next_token-mark.result in
    let same = plain c.args.text.now c.args.at f.start f.end f.token c.args.stage c.next_token-first.ensures c.in-Plain.ensures in
    let no_close : m.token ≡ Close → ⊥ = λ e. search rules in
    let no_comma : m.token ≡ Comma → ⊥ = λ e. search rules in
    arg_wrong c.args.text.now c.args.at c.args.stage same c.in_ok-end.end m.start m.end m.token c.in_ok-end.ensures c.next_token-mark.ensures (λ e. absurd (no_close e)) (λ e. absurd (no_comma e))
