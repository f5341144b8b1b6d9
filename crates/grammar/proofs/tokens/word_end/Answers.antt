use Rattle.std.proofs.Common.{◌+◌, drop, ◌∙◌, arith, rules}
use Rattle.std.proofs.lemmas.Iterator.{YieldsList-from_slice, IsFirst-from_position}
use borrow.Author.Tests.{tests}
use Rattle.grammar.proofs.Lexing.{rest_of, IsLetter, NoLetter, letters_end, letters_on}
use Rattle.grammar.proofs.tokens.word_end.Goals as goal

pub returns-in-Some-clause-letters : goal.returns-in-Some-clause-letters
returns-in-Some-clause-letters c =
    let s = c.args.text.now in
    let h = IsFirst-from_position _ _ c.position.result NoLetter IsLetter c.position.ensures.ran (YieldsList-from_slice (drop (c.args.start + 1) s) (c.iter.ensures.rest ∙ rest_of s (c.args.start + 1))) (λ x q k. search (rules, tests)) (λ x q k. search (rules, tests)) in
    letters_end s c.args.start c.position.result c.in-Some.n h c.in-Some.is

pub returns-in-None-clause-letters : goal.returns-in-None-clause-letters
returns-in-None-clause-letters c =
    let s = c.args.text.now in
    let h = IsFirst-from_position _ _ c.position.result NoLetter IsLetter c.position.ensures.ran (YieldsList-from_slice (drop (c.args.start + 1) s) (c.iter.ensures.rest ∙ rest_of s (c.args.start + 1))) (λ x q k. search (rules, tests)) (λ x q k. search (rules, tests)) in
    letters_on s c.args.start c.position.result (omega arith) h c.in-None.is
