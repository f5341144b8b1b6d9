use Rattle.grammar.proofs.Names.{told}
use Rattle.grammar.proofs.words.word_of.Goals as goal

pub returns : goal.returns
returns c = told c.args.word.now c.numbered_word.result c.or_else.result c.numbered_word.ensures c.or_else.ensures (λ q. cc)
