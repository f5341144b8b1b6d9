use Rattle.std.proofs.Common.{arith}
use Rattle.typing.specs.Held.{rows_of}
use Rattle.type_compiled.proofs.Sures.{fine_of, elements_some, elements_none, elements_low}
use Rattle.type_compiled.proofs.expand.elements_from.Goals as goal

pub returns-in_default : goal.returns-in_default
returns-in_default c = elements_none (rows_of c.args.types.now) c.args.t c.args.i c.args.j c.element.result c.element.ensures c.in_default.not-Some

pub overflow_add-result : goal.overflow_add-result
overflow_add-result c = omega (arith, elements_low (rows_of c.args.types.now) c.args.t c.args.i c.args.j (fine_of c.args.types.now) c.requires.stands c.requires.within c.in-Some.element c.in-Some.ensures)

pub returns : goal.returns
returns c = elements_some (rows_of c.args.types.now) c.args.t c.args.i c.args.j c.in-Some.element c.in-Some.ensures
