use Rattle.std.proofs.Common.{rules}
use Rattle.grammar.proofs.Names.{classed}
use Rattle.grammar.proofs.words.class_of.Goals as goal

pub returns : goal.returns
returns c = classed c.args.word.now c.word_of.result c.map.result c.word_of.ensures (search rules)
