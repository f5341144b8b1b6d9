-- What a run reads, where `cells` and `custom` say what a heap and customs mean. Assumes nothing.
use Rattle.std.specs.Prelude.{List}
use Rattle.values.specs.Cells.{Cell}
use Rattle.custom.specs.Customs.{Custom}
use Rattle.custom.specs.Worlds.{World, world}
use Rattle.matching.specs.declared.setting.Setting.{Setting}

abbrev pub world_of : {H S C : Type 0} → (H → List Cell) → (C → Custom) → Setting H S C → World
world_of cells custom s = world (cells s.heap.now) (custom s.customs.now)
