use Rattle.std.proofs.Common.{◌+◌, ◌-◌, ◌*◌, length}
use Rattle.annotation.proofs.builder.Builder.+alternative_type_argument_types_text_type.Given as goal

-- three times the bytes left, and the reader's rank
abbrev pub decreases-alternative_type : goal.decreases-alternative_type
decreases-alternative_type l = 3 * (length l.self.now.text.now - l.at)

abbrev pub decreases-argument_types : goal.decreases-argument_types
decreases-argument_types l = 3 * (length l.self.now.text.now - l.at) + 2

abbrev pub decreases-text_type : goal.decreases-text_type
decreases-text_type l = 3 * (length l.self.now.text.now - l.at) + 1
