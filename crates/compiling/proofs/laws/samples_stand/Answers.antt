use Rattle.std.proofs.Common.{refl}
use Rattle.matcher.specs.Nodes.{place}
use Rattle.compiling.specs.Written.{written, written_within}
use Rattle.compiling.specs.Outcomes.{alloc_ty_lem}
use Rattle.compiling.proofs.laws.samples_stand.Goals as goal

pub returns : goal.returns
unfolding place written written_within alloc_ty_lem
returns c = (refl, refl, refl, refl, refl, refl, refl, refl, refl, refl, refl, refl, refl, refl, refl, refl, refl, refl, refl, refl, refl, refl)
