use Rattle.std.proofs.Common.{◌≡◌, ℕ, ◌<◌, length, map, vec_items, vec_len, Ok, refl, arith}
use Rattle.std.proofs.lemmas.List.{length-map}
use Rattle.std.proofs.lemmas.Iterator.{length_from_collect}
use Rattle.std.proofs.lemmas.Iterator.Consumers.{YieldsList-from_first}
use Rattle.values.specs.declared.refusal.Refusal.TheVariants.{NoRoom}
use Rattle.job_format.specs.Tags.{tag_number}
use Rattle.job_format.specs.Frames.{records}
use Rattle.job_format.specs.Bodies.{bodies}
use Rattle.job_format.proofs.Walks.{records_few}
use Rattle.job_format.proofs.Tagged.{cells_few}
use Rattle.job.specs.Entered.{entries_left}
use Rattle.job.proofs.Results.{is_ok_from}
use Rattle.job.proofs.verified.Job.tests.Goals as goal

pub unwrap-requires : goal.unwrap-requires
unwrap-requires g c =
    let s = vec_items c.args.self.now.bytes in
    let v = c.in_ok-entries.entries in
    let read = g.T.FromBody.read in
    let bs = bodies (tag_number g.T.FromBody.TAG) (records s) in
    let n : vec_len v ≡ length (map read bs) = length_from_collect {E = ℕ} (Ok v) (length (map read bs)) c.in_ok-entries.ensures.ran (YieldsList-from_first (λ x. x) (entries_left read) (map read bs) c.entries.ensures) refl in
    is_ok_from _ (λ e. (e ≡ NoRoom) × (65535 < vec_len v)) c.new.result c.new.ensures (λ e q. omega (arith, q.1, n, length-map bs read, cells_few (tag_number g.T.FromBody.TAG) (records s), records_few s, c.args.self.now.small))
