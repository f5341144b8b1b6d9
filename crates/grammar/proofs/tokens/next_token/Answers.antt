use Rattle.std.proofs.Common.{get_or, refl, arith}
use Rattle.grammar.specs.Items.{bar, left, right, comma}
use Rattle.grammar.proofs.Lexing.{mark_ahead, word_ahead, role_letter}
use Rattle.grammar.proofs.tokens.next_token.Goals as goal

pub returns-in-124 : goal.returns-in-124
returns-in-124 c = let h = c.in-Some.ensures in rw c.mark.ensures (mark_ahead c.args.text.now c.args.at c.in-Some.start 124 bar h.on h.within h.same_items c.in-124.is refl)

pub returns-in-91 : goal.returns-in-91
returns-in-91 c = let h = c.in-Some.ensures in rw c.mark-in-91.ensures (mark_ahead c.args.text.now c.args.at c.in-Some.start 91 left h.on h.within h.same_items c.in-91.is refl)

pub returns-in-93 : goal.returns-in-93
returns-in-93 c = let h = c.in-Some.ensures in rw c.mark-in-93.ensures (mark_ahead c.args.text.now c.args.at c.in-Some.start 93 right h.on h.within h.same_items c.in-93.is refl)

pub returns-in-44 : goal.returns-in-44
returns-in-44 c = let h = c.in-Some.ensures in rw c.mark-in-44.ensures (mark_ahead c.args.text.now c.args.at c.in-Some.start 44 comma h.on h.within h.same_items c.in-44.is refl)

pub returns-in_default-2 : goal.returns-in_default-2
returns-in_default-2 c =
    let s = c.args.text.now in
    let h = c.in-Some.ensures in
    let b = get_or s c.in-Some.start 0 in
    word_ahead s c.args.at c.in-Some.start c.word_end-end.result h.on (omega arith) (omega arith) h.same_items
    (role_letter b h.no_space (λ e. omega arith) (λ e. omega arith) (λ e. omega arith) (λ e. omega arith))
    c.word_end-end.ensures.letters c.word_end-end.ensures.stops
