use Rattle.std.proofs.Common.{length, ap, ◌∙◌, inl, arith}
use Rattle.std.proofs.lemmas.Iterator.Consumers.{YieldsList-from_first, count_from_yields_List}
use Rattle.job_format.specs.Frames.{records}
use Rattle.job_format.specs.Order.{cell_count}
use Rattle.job.specs.Walked.{numbered, numbered_of, numbered_left}
use Rattle.job.proofs.Numbering.{numbered_few, length_numbered}
use Rattle.job.proofs.raw.RawJob.verified.Goals as goal

pub count-cells-requires-clause-fits : goal.count-cells-requires-clause-fits
count-cells-requires-clause-fits c =
    let s = c.as_slice.result.now in
    inl (omega (arith, ap length c.tagged.ensures, numbered_few 1 0 s, ap length c.as_slice.ensures.value, c.requires.framed.small))

pub invariant_of-result : goal.invariant_of-result
invariant_of-result c =
    let rs = records c.as_slice.result.now in
    let counted = count_from_yields_List c.tagged.result c.count-cells.result c.count-cells.ensures.ran (YieldsList-from_first numbered_of numbered_left (numbered 1 0 rs) c.tagged.ensures) ∙ length_numbered 1 0 rs in
    record {
      counted = counted ∙ ap (λ s. cell_count (records s)) c.as_slice.ensures.value;
      small = c.requires.framed.small;
      follow = c.requires.framed.follow;
      whole = c.requires.framed.whole;
      sound = c.requires.cells;
    }
