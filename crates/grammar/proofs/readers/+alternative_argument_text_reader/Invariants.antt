use Rattle.std.proofs.Common.{◌+◌, ◌-◌, ◌*◌, length}
use Rattle.grammar.proofs.readers.+alternative_argument_text_reader.Given as goal

-- three times the bytes left, and the reader's rank
abbrev pub decreases-alternative : goal.decreases-alternative
decreases-alternative l = 3 * (length l.text.now - l.at)

abbrev pub decreases-argument : goal.decreases-argument
decreases-argument l = 3 * (length l.text.now - l.at) + 2

abbrev pub decreases-text_reader : goal.decreases-text_reader
decreases-text_reader l = 3 * (length l.text.now - l.at) + 1
