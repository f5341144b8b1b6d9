use Rattle.compiling.specs.Code.{item_op}
use Rattle.type_compiled.proofs.expand.set_of.Given as goal

abbrev pub ghost-over : goal.ghost-over
ghost-over a = item_op
