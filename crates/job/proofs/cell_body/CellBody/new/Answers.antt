use Rattle.std.proofs.Common.{◌-◌, map, length, get_or, take, drop, ap, ◌∙◌, arith, length-drop, w64, SFits, rules}
use Rattle.std.proofs.lemmas.Int.{to_z-of_z}
use Rattle.std.proofs.lemmas.List.{take_all}
use Rattle.job_format.specs.Bodies.{pairs}
use Rattle.job.specs.Held.{wide_of}
use Rattle.job.proofs.Parts.{pairs_of_chunks}
use Rattle.job.proofs.cell_body.CellBody.new.Goals as goal

pub returns : goal.returns
returns c =
    let b = c.args.body.now in
    let f : SFits w64 c.eight_at.result = search rules in
    let mark = to_z-of_z w64 c.eight_at.result f ∙ c.eight_at.ensures in
    let all = take_all (length b - 11) (drop 11 b) (omega (arith, length-drop 11 b)) in
    let parts = ap (map wide_of) c.as_chunks.ensures.front ∙ pairs_of_chunks (take (length b - 11) (drop 11 b)) ∙ ap pairs all in
    λ i. record { ty = c.two_at.ensures i; flags = get_or b 2 0; mark = mark i; parts = parts i }
