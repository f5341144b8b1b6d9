use Rattle.type_compiled.proofs.expand.over.Given as goal

abbrev pub ghost-part : goal.ghost-part
ghost-part g a = g.op
