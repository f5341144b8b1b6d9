use Rattle.std.proofs.Common.{rules}
use Rattle.std.proofs.lemmas.Iterator.{YieldsList-from_slice}
use Rattle.std.proofs.lemmas.Iterator.Search.{find_from_yields_List}
use borrow.Author.Tests.{tests}
use Rattle.grammar.proofs.Names.{spelled, spelled_is, unspelled}
use Rattle.grammar.proofs.words.spelled_word.Goals as goal

pub returns : goal.returns
returns c =
    let w = c.args.word.now in
    let rows = c.args.rows.now in
    let h = find_from_yields_List (spelled w) _ _ c.find.result c.find.ensures.ran (YieldsList-from_slice rows c.iter.ensures.rest) (λ x b q k. search (rules, tests)) in
    spelled_is w rows c.find.result c.in_ok-known.field-0 h c.in_ok-known.was

pub returns-in_err-known : goal.returns-in_err-known
returns-in_err-known c =
    let w = c.args.word.now in
    let rows = c.args.rows.now in
    let h = find_from_yields_List (spelled w) _ _ c.find.result c.find.ensures.ran (YieldsList-from_slice rows c.iter.ensures.rest) (λ x b q k. search (rules, tests)) in
    rw c.from_residual.ensures (unspelled w rows c.find.result h c.in_err-known.was)
