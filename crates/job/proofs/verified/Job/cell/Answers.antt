use Rattle.std.proofs.Common.{◌≡◌, ℕ, ◌≤◌, true, List, length, Option, MatchOption, Err, vec_items, sym, subst, ap, ◌∙◌, arith}
use Rattle.std.specs.Option.{ok_or}
use Rattle.values.specs.declared.refusal.Refusal.TheVariants.{NoValue}
use Rattle.std.proofs.lemmas.List.{length-map}
use Rattle.std.proofs.lemmas.Result.{err_from_is_err_and}
use Rattle.values.specs.Held.{Lies}
use Rattle.job_format.specs.Frames.{records}
use Rattle.job_format.specs.Bodies.{bodies, shaped, cell_in}
use Rattle.job_format.specs.Contents.{Located, job_cells}
use Rattle.job_format.proofs.Finding.{shapes, cell_bytes_least, lies}
use Rattle.job.specs.Walked.{numbered_of, numbered_left}
use Rattle.job.specs.declared.records.Record.{Record}
use Rattle.job.proofs.Numbering.{nth_located}
use Rattle.job.proofs.verified.Job.cell.Goals as goal

abbrev Found : List ℕ → ℕ → Option Record → Type 0
Found s v r = MatchOption r (length (bodies 1 (records s)) ≤ v) (λ x. Located (records s) 1 v x.number x.body.now)

pub new-requires : goal.new-requires
new-requires c =
    let s = vec_items c.args.self.now.bytes in
    let v = c.args.v in
    let p = subst (Found s v) c.in_ok-record.ensures.ok_part (nth_located numbered_of numbered_left 1 v (records s) c.tagged.result c.nth.new.self c.nth.result c.tagged.ensures c.nth.ensures.ran) in
    cell_bytes_least (length c.in_ok-record.record.body.now) (subst (λ (b : List ℕ). shaped 1 (length b) ≡ true) (sym p.found.is) (shapes 1 (records s) c.args.self.now.follow v p.found.within))

pub returns : goal.returns
returns c =
    let s = vec_items c.args.self.now.bytes in
    let v = c.args.v in
    let p = subst (Found s v) c.in_ok-record.ensures.ok_part (nth_located numbered_of numbered_left 1 v (records s) c.tagged.result c.nth.new.self c.nth.result c.tagged.ensures c.nth.ensures.ran) in
    subst (Lies (job_cells s) v) (sym c.new.ensures) (lies s v c.in_ok-record.record.body.now p.found)

pub returns-in_err-record : goal.returns-in_err-record
returns-in_err-record c =
    let s = vec_items c.args.self.now.bytes in
    let v = c.args.v in
    let p = subst (Found s v) c.in_err-record.ensures.ok_part (nth_located numbered_of numbered_left 1 v (records s) c.tagged.result c.nth.new.self c.nth.result c.tagged.ensures c.nth.ensures.ran) in
    let q = err_from_is_err_and c.from_residual.result c.from_residual.ensures.1 in
    let e : Err c.in_err-record.field-0.0 ≡ Err NoValue = c.in_err-record.ensures.value ∙ ap (λ (r : Option Record). ok_or r NoValue) c.in_err-record.ensures.ok_part in
    let why : c.in_err-record.field-0.0 ≡ NoValue = cc in
    rw (q.1, q.2) (why, omega (arith, p, length-map (bodies 1 (records s)) cell_in))
