use Rattle.std.proofs.Common.{ℕ, List, [], ◌∷◌, ◌++◌, Some, Bor, length, drop, vec_items, sym, refl, ap, ◌∙◌, subst, arith, length-append}
use Rattle.std.proofs.lemmas.Result.{err_from_is_err_and}
use Rattle.typing.specs.Held.{rows_of}
use Rattle.grammar.specs.Items.{word, bar, left, right, comma}
use Rattle.grammar.specs.Lexed.{Ahead, NextBy}
use Rattle.annotation.specs.Building.{TextBuilt, ArgsBuilt}
use Rattle.annotation.proofs.Texts.{text_breaks, join_breaks, text_ends, text_goes}
use Rattle.annotation.proofs.Alternatives.{unnamed, unknown, bare_ends, bare_breaks, args_break, call_breaks, call_ends, added}
use Rattle.annotation.proofs.Arguments.{args_shut, dots_end, dots_break, text_fails, args_close, args_comma, args_other}
use Rattle.annotation.proofs.builder.Builder.+alternative_type_argument_types_text_type.Goals as goal

pub text_type-returns-in_default-clause-built : goal.text_type-returns-in_default-clause-built
text_type-returns-in_default-clause-built t c =
    let n = c.next_token-start.result in
    let m = c.next_token-mark.result in
    text_ends c.args.self.now.text.now c.args.at c.args.before (rows_of c.args.self.now.types.now) (rows_of c.alternative_type.new.self.types.now) c.in_ok-alternative.alternative c.in_ok-alternative.ensures.built n.token n.start n.end c.next_token-start.ensures (rows_of c.join.new.types) c.in_ok-ty.ty c.in_ok-ty.ensures m.token m.start m.end c.next_token-mark.ensures c.in_default.not-Bar

pub text_type-returns-in-Bar-clause-built : goal.text_type-returns-in-Bar-clause-built
text_type-returns-in-Bar-clause-built t c =
    let n = c.next_token-start.result in
    let m = c.next_token-mark.result in
    let a : Ahead c.args.self.now.text.now c.in_ok-alternative.alternative.end bar m.start m.end = subst (λ k. NextBy k c.args.self.now.text.now c.in_ok-alternative.alternative.end m.start m.end) c.in-Bar.is c.next_token-mark.ensures in
    text_goes c.args.self.now.text.now c.args.at c.args.before (rows_of c.args.self.now.types.now) (rows_of c.alternative_type.new.self.types.now) c.in_ok-alternative.alternative c.in_ok-alternative.ensures.built n.token n.start n.end c.next_token-start.ensures (rows_of c.join.new.types) c.in_ok-ty.ty c.in_ok-ty.ensures m.start m.end a (rows_of c.text_type.new.self.types.now) c.text_type.result
    (subst (λ (b : Bor (List ℕ)). TextBuilt b.now m.end (Some c.in_ok-ty.ty) (rows_of c.join.new.types) (rows_of c.text_type.new.self.types.now) c.text_type.result) c.in_ok-alternative.ensures.same.0 c.text_type.ensures.built)

pub text_type-returns-in_err-alternative-clause-built : goal.text_type-returns-in_err-alternative-clause-built
text_type-returns-in_err-alternative-clause-built t c =
    let q = err_from_is_err_and c.from_residual.result c.from_residual.ensures.1 in
    rw (q.1, q.2) (text_breaks c.args.self.now.text.now c.args.at c.args.before (rows_of c.args.self.now.types.now) (rows_of c.alternative_type.new.self.types.now) c.in_err-alternative.field-0.0 c.in_err-alternative.ensures.built)

pub text_type-returns-in_err-ty-clause-built : goal.text_type-returns-in_err-ty-clause-built
text_type-returns-in_err-ty-clause-built t c =
    let n = c.next_token-start.result in
    let q = err_from_is_err_and c.from_residual-in_err-ty.result c.from_residual-in_err-ty.ensures.1 in
    rw (q.1, q.2) (join_breaks c.args.self.now.text.now c.args.at c.args.before (rows_of c.args.self.now.types.now) (rows_of c.alternative_type.new.self.types.now) c.in_ok-alternative.alternative c.in_ok-alternative.ensures.built n.token n.start n.end c.next_token-start.ensures (rows_of c.join.new.types) c.in_err-ty.field-0.0 c.in_err-ty.ensures)

pub alternative_type-returns-in_default-clause-built : goal.alternative_type-returns-in_default-clause-built
alternative_type-returns-in_default-clause-built t c =
    let n = c.next_token-name.result in
    unnamed n.token c.args.self.now.text.now c.args.at n.start n.end (rows_of c.args.self.now.types.now) c.next_token-name.ensures c.in_default.not-Name

pub alternative_type-returns-in_default-word_of-clause-built : goal.alternative_type-returns-in_default-word_of-clause-built
alternative_type-returns-in_default-word_of-clause-built t c =
    let n = c.next_token-name.result in
    let name : Ahead c.args.self.now.text.now c.args.at (word c.in-Name.bytes.now) n.start n.end = subst (λ k. NextBy k c.args.self.now.text.now c.args.at n.start n.end) c.in-Name.is c.next_token-name.ensures in
    unknown c.args.self.now.text.now c.args.at (rows_of c.args.self.now.types.now) c.in-Name.bytes.now n.start n.end name (sym c.in_default-word_of.ensures)

pub alternative_type-returns-in_err-ty-clause-built : goal.alternative_type-returns-in_err-ty-clause-built
alternative_type-returns-in_err-ty-clause-built t c =
    let n = c.next_token-name.result in
    let m = c.next_token-mark.result in
    let name : Ahead c.args.self.now.text.now c.args.at (word c.in-Name.bytes.now) n.start n.end = subst (λ k. NextBy k c.args.self.now.text.now c.args.at n.start n.end) c.in-Name.is c.next_token-name.ensures in
    let q = err_from_is_err_and c.from_residual.result c.from_residual.ensures.1 in
    rw (q.1, q.2) (bare_breaks c.args.self.now.text.now c.args.at (rows_of c.args.self.now.types.now) c.in-Name.bytes.now n.start n.end name c.in-Some.word (sym c.in-Some.ensures) m.token m.start m.end c.next_token-mark.ensures c.in_default-token.not-Open (rows_of c.call.new.types) c.in_err-ty.field-0.0 c.in_err-ty.ensures)

pub alternative_type-returns-in_default-token-clause-built : goal.alternative_type-returns-in_default-token-clause-built
alternative_type-returns-in_default-token-clause-built t c =
    let n = c.next_token-name.result in
    let m = c.next_token-mark.result in
    let name : Ahead c.args.self.now.text.now c.args.at (word c.in-Name.bytes.now) n.start n.end = subst (λ k. NextBy k c.args.self.now.text.now c.args.at n.start n.end) c.in-Name.is c.next_token-name.ensures in
    bare_ends c.args.self.now.text.now c.args.at (rows_of c.args.self.now.types.now) c.in-Name.bytes.now n.start n.end name c.in-Some.word (sym c.in-Some.ensures) m.token m.start m.end c.next_token-mark.ensures c.in_default-token.not-Open (rows_of c.call.new.types) c.in_ok-ty.ty c.in_ok-ty.ensures

pub alternative_type-returns-in_err-closed-clause-built : goal.alternative_type-returns-in_err-closed-clause-built
alternative_type-returns-in_err-closed-clause-built t c =
    let n = c.next_token-name.result in
    let m = c.next_token-mark.result in
    let name : Ahead c.args.self.now.text.now c.args.at (word c.in-Name.bytes.now) n.start n.end = subst (λ k. NextBy k c.args.self.now.text.now c.args.at n.start n.end) c.in-Name.is c.next_token-name.ensures in
    let a : Ahead c.args.self.now.text.now n.end left m.start m.end = subst (λ k. NextBy k c.args.self.now.text.now n.end m.start m.end) c.in-Open.is c.next_token-mark.ensures in
    let q = err_from_is_err_and c.from_residual-in_err-closed.result c.from_residual-in_err-closed.ensures.1 in
    rw (q.1, q.2) (args_break c.args.self.now.text.now c.args.at (rows_of c.args.self.now.types.now) c.in-Name.bytes.now n.start n.end name c.in-Some.word (sym c.in-Some.ensures) m.start m.end a (rows_of c.argument_types.new.self.types.now) (vec_items c.args.self.now.elements.now) (vec_items c.argument_types.new.self.elements.now) c.in_err-closed.field-0.0 c.in_err-closed.ensures.built)

pub alternative_type-returns-in_err-ty-2-clause-built : goal.alternative_type-returns-in_err-ty-2-clause-built
alternative_type-returns-in_err-ty-2-clause-built t c =
    let n = c.next_token-name.result in
    let m = c.next_token-mark.result in
    let name : Ahead c.args.self.now.text.now c.args.at (word c.in-Name.bytes.now) n.start n.end = subst (λ k. NextBy k c.args.self.now.text.now c.args.at n.start n.end) c.in-Name.is c.next_token-name.ensures in
    let a : Ahead c.args.self.now.text.now n.end left m.start m.end = subst (λ k. NextBy k c.args.self.now.text.now n.end m.start m.end) c.in-Open.is c.next_token-mark.ensures in
    let d = added (vec_items c.args.self.now.elements.now) (vec_items c.argument_types.new.self.elements.now) c.in_ok-closed.ensures.built.0 c.len-base.result (c.len-base.ensures ∙ c.args.self.now.elements.now.ok.0) c.in_ok-closed.ensures.built.1 in
    let q = err_from_is_err_and c.from_residual-in_err-ty-2.result c.from_residual-in_err-ty-2.ensures.1 in
    rw (q.1, q.2) (call_breaks c.args.self.now.text.now c.args.at (rows_of c.args.self.now.types.now) c.in-Name.bytes.now n.start n.end name c.in-Some.word (sym c.in-Some.ensures) m.start m.end a (rows_of c.argument_types.new.self.types.now) (vec_items c.args.self.now.elements.now) (vec_items c.argument_types.new.self.elements.now) c.in_ok-closed.closed c.in_ok-closed.ensures.built (drop c.len-base.result (vec_items c.argument_types.new.self.elements.now)) d.0 (rows_of c.call_from.new.types) c.in_err-ty-2.field-0.0 c.in_err-ty-2.ensures.answers)

pub alternative_type-returns-clause-built : goal.alternative_type-returns-clause-built
alternative_type-returns-clause-built t c =
    let n = c.next_token-name.result in
    let m = c.next_token-mark.result in
    let name : Ahead c.args.self.now.text.now c.args.at (word c.in-Name.bytes.now) n.start n.end = subst (λ k. NextBy k c.args.self.now.text.now c.args.at n.start n.end) c.in-Name.is c.next_token-name.ensures in
    let a : Ahead c.args.self.now.text.now n.end left m.start m.end = subst (λ k. NextBy k c.args.self.now.text.now n.end m.start m.end) c.in-Open.is c.next_token-mark.ensures in
    let d = added (vec_items c.args.self.now.elements.now) (vec_items c.argument_types.new.self.elements.now) c.in_ok-closed.ensures.built.0 c.len-base.result (c.len-base.ensures ∙ c.args.self.now.elements.now.ok.0) c.in_ok-closed.ensures.built.1 in
    call_ends c.args.self.now.text.now c.args.at (rows_of c.args.self.now.types.now) c.in-Name.bytes.now n.start n.end name c.in-Some.word (sym c.in-Some.ensures) m.start m.end a (rows_of c.argument_types.new.self.types.now) (vec_items c.args.self.now.elements.now) (vec_items c.argument_types.new.self.elements.now) c.in_ok-closed.closed c.in_ok-closed.ensures.built (drop c.len-base.result (vec_items c.argument_types.new.self.elements.now)) d.0 (rows_of c.call_from.new.types) c.in_ok-ty-2.ty c.in_ok-ty-2.ensures.answers

pub alternative_type-returns-clause-kept : goal.alternative_type-returns-clause-kept
alternative_type-returns-clause-kept t c =
    let d = added (vec_items c.args.self.now.elements.now) (vec_items c.argument_types.new.self.elements.now) c.in_ok-closed.ensures.built.0 c.len-base.result (c.len-base.ensures ∙ c.args.self.now.elements.now.ok.0) c.in_ok-closed.ensures.built.1 in
    λ e. c.in_ok-ty-2.ensures.items ∙ d.1

pub alternative_type-call_from-requires : goal.alternative_type-call_from-requires
alternative_type-call_from-requires t c =
    let b = c.in_ok-closed.ensures.built in
    omega (arith, c.len-base.ensures, c.args.self.now.elements.now.ok.0, c.argument_types.new.self.elements.now.ok.0, ap length b.1, length-append (vec_items c.args.self.now.elements.now) b.0)

pub argument_types-returns-in-Shut-clause-built : goal.argument_types-returns-in-Shut-clause-built
argument_types-returns-in-Shut-clause-built t c =
    let f = c.next_token-first.result in
    args_shut f.token c.args.self.now.text.now c.args.at f.start f.end (rows_of c.args.self.now.types.now) (vec_items c.args.self.now.elements.now) c.next_token-first.ensures c.in-Shut.ensures

pub argument_types-returns-in-Dotted-clause-built : goal.argument_types-returns-in-Dotted-clause-built
argument_types-returns-in-Dotted-clause-built t c =
    let f = c.next_token-first.result in
    dots_end f.token c.args.self.now.text.now c.args.at f.start f.end (rows_of c.args.self.now.types.now) (vec_items c.args.self.now.elements.now) c.next_token-first.ensures c.in-Dotted.ensures c.in_ok-end-in-Dotted.end c.in_ok-end-in-Dotted.ensures

pub argument_types-returns-in_err-end-in-Dotted-clause-built : goal.argument_types-returns-in_err-end-in-Dotted-clause-built
argument_types-returns-in_err-end-in-Dotted-clause-built t c =
    let f = c.next_token-first.result in
    let q = err_from_is_err_and c.from_residual.result c.from_residual.ensures.1 in
    rw (q.1, q.2) (dots_break f.token c.args.self.now.text.now c.args.at f.start f.end (rows_of c.args.self.now.types.now) (vec_items c.args.self.now.elements.now) c.next_token-first.ensures c.in-Dotted.ensures c.in_err-end-in-Dotted.field-0.0 c.in_err-end-in-Dotted.ensures)

pub argument_types-returns-in_err-argument-clause-built : goal.argument_types-returns-in_err-argument-clause-built
argument_types-returns-in_err-argument-clause-built t c =
    let f = c.next_token-first.result in
    let q = err_from_is_err_and c.from_residual-in_err-argument.result c.from_residual-in_err-argument.ensures.1 in
    rw (q.1, q.2) (text_fails f.token c.args.self.now.text.now c.args.at f.start f.end c.next_token-first.ensures c.in-Plain.ensures (rows_of c.args.self.now.types.now) (rows_of c.text_type.new.self.types.now) (vec_items c.args.self.now.elements.now) (vec_items c.text_type.new.self.elements.now) c.in_err-argument.field-0.0 c.in_err-argument.ensures.built)

pub argument_types-returns-in-Close-clause-built : goal.argument_types-returns-in-Close-clause-built
argument_types-returns-in-Close-clause-built t c =
    let f = c.next_token-first.result in
    let m = c.next_token-mark.result in
    let a : Ahead c.args.self.now.text.now c.in_ok-argument.argument.end right m.start m.end = subst (λ k. NextBy k c.args.self.now.text.now c.in_ok-argument.argument.end m.start m.end) c.in-Close.is c.next_token-mark.ensures in
    args_close f.token c.args.self.now.text.now c.args.at f.start f.end c.next_token-first.ensures c.in-Plain.ensures (rows_of c.args.self.now.types.now) (rows_of c.text_type.new.self.types.now) c.in_ok-argument.argument c.in_ok-argument.ensures.built (vec_items c.args.self.now.elements.now) (vec_items c.push_reserved.new.self) (c.push_reserved.ensures.items ∙ ap (λ l. l ++ c.in_ok-argument.argument.ty ∷ []) (c.in_ok-argument.ensures.kept refl)) m.start m.end a

pub argument_types-returns-in-Comma-clause-built : goal.argument_types-returns-in-Comma-clause-built
argument_types-returns-in-Comma-clause-built t c =
    let f = c.next_token-first.result in
    let m = c.next_token-mark.result in
    let a : Ahead c.args.self.now.text.now c.in_ok-argument.argument.end comma m.start m.end = subst (λ k. NextBy k c.args.self.now.text.now c.in_ok-argument.argument.end m.start m.end) c.in-Comma.is c.next_token-mark.ensures in
    args_comma f.token c.args.self.now.text.now c.args.at f.start f.end c.next_token-first.ensures c.in-Plain.ensures (rows_of c.args.self.now.types.now) (rows_of c.text_type.new.self.types.now) c.in_ok-argument.argument c.in_ok-argument.ensures.built (vec_items c.args.self.now.elements.now) (vec_items c.push_reserved.new.self) (c.push_reserved.ensures.items ∙ ap (λ l. l ++ c.in_ok-argument.argument.ty ∷ []) (c.in_ok-argument.ensures.kept refl)) m.start m.end a (rows_of c.argument_types.new.self.types.now) (vec_items c.argument_types.new.self.elements.now) c.argument_types.result
    (subst (λ (b : Bor (List ℕ)). ArgsBuilt b.now m.end (rows_of c.text_type.new.self.types.now) (rows_of c.argument_types.new.self.types.now) (vec_items c.push_reserved.new.self) (vec_items c.argument_types.new.self.elements.now) c.argument_types.result) c.in_ok-argument.ensures.same.0 c.argument_types.ensures.built)

pub argument_types-returns-in_default-clause-built : goal.argument_types-returns-in_default-clause-built
argument_types-returns-in_default-clause-built t c =
    let f = c.next_token-first.result in
    let m = c.next_token-mark.result in
    args_other f.token c.args.self.now.text.now c.args.at f.start f.end c.next_token-first.ensures c.in-Plain.ensures (rows_of c.args.self.now.types.now) (rows_of c.text_type.new.self.types.now) c.in_ok-argument.argument c.in_ok-argument.ensures.built (vec_items c.args.self.now.elements.now) (vec_items c.push_reserved.new.self) (c.push_reserved.ensures.items ∙ ap (λ l. l ++ c.in_ok-argument.argument.ty ∷ []) (c.in_ok-argument.ensures.kept refl)) m.token m.start m.end c.next_token-mark.ensures c.in_default.not-Close c.in_default.not-Comma
