use Rattle.typing.specs.Held.{rows_of}
use Rattle.typing.proofs.Reading.{sound_of}
use Rattle.report.proofs.Stays.{reading_stays}
use Rattle.report.proofs.entering.read_type.Goals as goal

pub returns-clause-stay : goal.returns-clause-stay
returns-clause-stay c = reading_stays c.args.text.now (rows_of c.args.types.now) (rows_of c.read.new.types) c.read.result c.map_err.result c.map_err.ensures.variant (sound_of c.args.types.now) c.read.ensures
