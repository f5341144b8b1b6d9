use Rattle.std.proofs.Common.{rules}
use Rattle.std.proofs.lemmas.Iterator.{YieldsList-from_slice, YieldsList-from_map_by}
use Rattle.std.proofs.lemmas.Iterator.Consumers.{map_from_collect}
use Rattle.working_set.specs.Words.{act}
use Rattle.report.specs.Asking.{asks}
use Rattle.report.proofs.asking.calls_of.Goals as goal

pub returns : goal.returns
returns c = map_from_collect _ c.collect.ensures.ran (YieldsList-from_map_by _ act asks (YieldsList-from_slice c.args.queries.now cc) c.map.ensures.closure (λ x r q k. search rules))
