use Rattle.std.proofs.Common.{ℕ, false, List, [], ◌∷◌, ◌++◌, get_or, take, Ok, string_bytes, sym, ap, ◌∙◌, append_assoc}
use Rattle.report.specs.declared.answer.Answer.{Answer}
use Rattle.report.specs.Lines.{answer_text, answer_lines}
use Rattle.report.proofs.Lists.{lines_more}
use Rattle.report.proofs.lines.add_answers.Goals as goal

pub loop-answer-preserved : goal.loop-answer-preserved
loop-answer-preserved c =
    let i = c.loop-answer.answer-index in
    let xs : List Answer = c.args.answers.now in
    let before = string_bytes c.args.text.now in
    let none : Answer = record { annotation = 0; value = 0; says = Ok false } in
    let line = answer_text (get_or xs i none) ++ (10 ∷ []) in
    c.in_ok-writeln.ensures.bytes
    ∙ ap (λ (bs : List ℕ). bs ++ line) c.loop-answer.invariant
    ∙ append_assoc before (answer_lines (take i xs)) line
    ∙ ap (λ (bs : List ℕ). before ++ bs) (sym (lines_more xs i none c.loop-answer-test.true))
