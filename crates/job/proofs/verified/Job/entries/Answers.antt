use Rattle.std.proofs.Common.{◌≡◌, ℕ, List, map, vec_items, sym, ap, ◌∙◌, subst}
use Rattle.job_format.specs.Tags.{tag_number}
use Rattle.job_format.specs.Frames.{records}
use Rattle.job.specs.Walked.{AllFit, numbered, numbered_left}
use Rattle.job.proofs.Numbering.{all_fit, read_numbered}
use Rattle.job.proofs.verified.Job.entries.Goals as goal

pub invariant_of-result : goal.invariant_of-result
invariant_of-result g c =
    let s = vec_items c.args.self.now.bytes in
    let t = tag_number g.T.FromBody.TAG in
    let e : numbered_left c.tagged.result ≡ numbered t 0 (records s) = c.tagged.ensures ∙ ap (λ k. numbered (tag_number k) 0 (records s)) c.TAG.ensures in
    record { shaped = subst (AllFit t) (sym e) (all_fit t (records s) c.args.self.now.follow) }

pub returns : goal.returns
returns g c =
    let s = vec_items c.args.self.now.bytes in
    let t = tag_number g.T.FromBody.TAG in
    let e : numbered_left c.tagged.result ≡ numbered t 0 (records s) = c.tagged.ensures ∙ ap (λ k. numbered (tag_number k) 0 (records s)) c.TAG.ensures in
    ap (map (λ (p : ℕ × List ℕ). g.T.FromBody.read p.1)) e ∙ read_numbered g.T.FromBody.read t 0 (records s)
