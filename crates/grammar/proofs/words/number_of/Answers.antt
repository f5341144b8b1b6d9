use Rattle.std.proofs.Common.{Some, sym, ◌∙◌, rules, length, arith}
use Rattle.std.proofs.lemmas.Bool.{eqb-true, eqb-false}
use Rattle.std.proofs.lemmas.Iterator.{YieldsList-from_slice}
use Rattle.std.proofs.lemmas.Iterator.Consumers.{fold_from_yields_List}
use borrow.Author.Tests.{tests}
use Rattle.grammar.proofs.Names.{padded, further, wrong_length, digits_folded}
use Rattle.grammar.proofs.words.number_of.Goals.{then-is_empty-via-then-is_empty, then-is_empty-via-else-is_empty+then-digits-gt-DIGITS}
use Rattle.grammar.proofs.words.number_of.Goals as goal

pub returns-then-is_padded : goal.returns-then-is_padded
returns-then-is_padded c = padded c.args.digits.now (sym c.is_padded.ensures ∙ c.if-is_padded.true)

pub returns-then-is_empty : goal.returns-then-is_empty
returns-then-is_empty c =
    wrong_length c.args.digits.now (λ h. elim c.then-is_empty.branch [
      | then-is_empty-via-then-is_empty w ↦ (let z = eqb-true (length c.args.digits.now) 0 (sym c.is_empty.ensures ∙ w.if-is_empty.true) in omega (arith, h.0, z))
      | then-is_empty-via-else-is_empty+then-digits-gt-DIGITS w ↦ omega (arith, h.1)
    ])

pub returns : goal.returns
returns c =
    let ds = c.args.digits.now in
    let some = eqb-false (length ds) 0 (sym c.is_empty.ensures ∙ c.if-is_empty.false) in
    let h = fold_from_yields_List _ further (Some 0) c.fold.result c.fold.ensures.ran (YieldsList-from_slice ds c.iter.ensures.rest) (λ a x b q k. search (rules, tests)) in
    digits_folded ds c.fold.result h (omega (arith, some)) (omega arith) (sym c.is_padded.ensures ∙ c.if-is_padded.false)
