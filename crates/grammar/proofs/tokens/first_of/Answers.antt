use Rattle.std.proofs.Common.{◌≡◌, ◌≢◌, drop, ◌∙◌, rules}
use Rattle.std.proofs.lemmas.Iterator.{YieldsList-from_slice, IsFirst-from_position}
use borrow.Author.Tests.{tests}
use Rattle.grammar.proofs.Lexing.{past_end, rest_of, no_start, starts_at}
use Rattle.grammar.proofs.tokens.first_of.Goals as goal

pub returns-in_err-get : goal.returns-in_err-get
returns-in_err-get c = rw c.from_residual.ensures (past_end c.args.text.now c.args.at c.in_err-get.ensures.lookup.0)

pub returns-in_err-n : goal.returns-in_err-n
returns-in_err-n c =
    let s = c.args.text.now in
    let g = c.in_ok-get.ensures.lookup.0 in
    let h = IsFirst-from_position _ _ c.position.result (λ b. b ≢ 32) (λ b. b ≡ 32) c.position.ensures.ran (YieldsList-from_slice (drop c.args.at s) (c.iter.ensures.rest ∙ g.2 ∙ rest_of s c.args.at)) (λ x q k. search (rules, tests)) (λ x q k. search (rules, tests)) in
    rw c.from_residual-in_err-n.ensures (no_start s c.args.at c.position.result g.0 h c.in_err-n.was)

pub returns : goal.returns
returns c =
    let s = c.args.text.now in
    let g = c.in_ok-get.ensures.lookup.0 in
    let h = IsFirst-from_position _ _ c.position.result (λ b. b ≢ 32) (λ b. b ≡ 32) c.position.ensures.ran (YieldsList-from_slice (drop c.args.at s) (c.iter.ensures.rest ∙ g.2 ∙ rest_of s c.args.at)) (λ x q k. search (rules, tests)) (λ x q k. search (rules, tests)) in
    starts_at s c.args.at c.position.result c.in_ok-n.n g.0 h c.in_ok-n.was
