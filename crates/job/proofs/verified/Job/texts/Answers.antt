use Rattle.std.proofs.Common.{length, vec_items, ap, ◌∙◌, inl, arith}
use Rattle.std.proofs.lemmas.Iterator.Consumers.{YieldsList-from_first, count_from_yields_List}
use Rattle.job_format.specs.Frames.{records}
use Rattle.job.specs.Walked.{numbered}
use Rattle.job.specs.Entered.{text_of, texts_left}
use Rattle.job.proofs.Numbering.{numbered_few, length_numbered}
use Rattle.job.proofs.verified.Job.texts.Goals as goal

pub count-requires-clause-fits : goal.count-requires-clause-fits
count-requires-clause-fits c = inl (omega (arith, ap length c.texts_in_order.ensures, numbered_few 4 0 (vec_items c.args.self.now.bytes), c.args.self.now.small))

pub returns : goal.returns
returns c =
    let rs = records (vec_items c.args.self.now.bytes) in
    count_from_yields_List c.texts_in_order.result c.count.result c.count.ensures.ran (YieldsList-from_first text_of texts_left (numbered 4 0 rs) c.texts_in_order.ensures) ∙ length_numbered 4 0 rs
