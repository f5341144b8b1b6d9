use Rattle.std.proofs.Common.{length, vec_items, ap, inl, arith}
use Rattle.std.proofs.lemmas.List.{length-map}
use Rattle.job_format.specs.Frames.{records}
use Rattle.job_format.specs.Bodies.{bodies}
use Rattle.job_format.specs.Contents.{query_in_lem}
use Rattle.job_format.proofs.Walks.{records_few}
use Rattle.job_format.proofs.Tagged.{cells_few}
use Rattle.job.proofs.verified.Job.queries.Goals as goal

pub count-requires-clause-fits : goal.count-requires-clause-fits
count-requires-clause-fits c =
    let s = vec_items c.args.self.now.bytes in
    inl (omega (arith, ap length c.queries_in_order.ensures, length-map (bodies 5 (records s)) query_in_lem, cells_few 5 (records s), records_few s, c.args.self.now.small))
