use Rattle.runs.proofs.Whole.{throughout}
use Rattle.runs.proofs.laws.every_run_keeps_the_law.Goals as goal

pub returns : goal.returns
returns c = throughout
