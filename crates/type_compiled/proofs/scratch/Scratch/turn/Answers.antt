use Rattle.std.proofs.Common.{vec_items}
use Rattle.typing.specs.Held.{rows_of}
use Rattle.compiling.proofs.Takes.{none_more}
use Rattle.type_compiled.proofs.scratch.Scratch.turn.Goals as goal

pub returns-in-Step-clause-tasks : goal.returns-in-Step-clause-tasks
returns-in-Step-clause-tasks g c = none_more (rows_of c.args.from.now.types.now) (g.C.TyCustom.custom c.args.from.now.customs.now).wild c.args.task c.in-Step.op (vec_items c.args.self.now.tasks) (vec_items c.step.new.self.tasks) c.in-Step.is c.step.ensures.tasks
