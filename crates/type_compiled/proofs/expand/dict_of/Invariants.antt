use Rattle.compiling.specs.Code.{item_op}
use Rattle.type_compiled.proofs.expand.dict_of.Given as goal

abbrev pub ghost-part : goal.ghost-part
ghost-part a = item_op
