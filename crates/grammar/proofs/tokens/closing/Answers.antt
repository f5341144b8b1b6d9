use Rattle.std.proofs.Common.{subst}
use Rattle.grammar.specs.Lexed.{NextBy}
use Rattle.grammar.proofs.tokens.closing.Goals as goal

pub returns-in-Close : goal.returns-in-Close
returns-in-Close c = let m = c.next_token-mark.result in (m.start, subst (λ t. NextBy t c.args.text.now c.args.at m.start m.end) c.in-Close.is c.next_token-mark.ensures)

pub returns-in_default : goal.returns-in_default
returns-in_default c = let m = c.next_token-mark.result in (m.token, m.end, c.next_token-mark.ensures, c.in_default.not-Close)
