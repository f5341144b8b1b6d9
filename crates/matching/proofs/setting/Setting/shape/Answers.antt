use Rattle.std.proofs.Common.{refl}
use Rattle.matching.proofs.setting.Setting.shape.Goals as goal

pub has-requires-in-IsType : goal.has-requires-in-IsType
has-requires-in-IsType g c = (2, refl)
