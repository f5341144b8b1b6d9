use Rattle.std.proofs.Common.{drop, ap, ◌∙◌, subst}
use Rattle.typing.specs.Held.{rows_of}
use Rattle.grammar.proofs.Lexing.{rest_of}
use Rattle.annotation.specs.Evaluated.{state, calls}
use Rattle.annotation.specs.Building.{PlacedAs}
use Rattle.annotation.proofs.calls.call_from.Goals as goal

pub returns-clause-answers : goal.returns-clause-answers
returns-clause-answers c = subst (λ l. PlacedAs (λ ps. calls c.args.word c.args.byte l c.args.form (state (rows_of c.args.types.now) ps)) (rows_of c.call-answer.new.types) c.call-answer.result) (rest_of c.deref.result.now c.args.base ∙ ap (drop c.args.base) c.deref.ensures.value) c.call-answer.ensures
