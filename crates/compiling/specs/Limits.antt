-- How much the stacks hold. Assumes nothing.
use Rattle.std.specs.Prelude.{ℕ}

abbrev pub heaviest : ℕ
heaviest = 4096

abbrev pub most_tasks : ℕ
most_tasks = 20483

abbrev pub most_results : ℕ
most_results = 4096

abbrev pub most_load : ℕ
most_load = 20480

-- the most compiled annotations
abbrev pub most_annotations : ℕ
most_annotations = 256
