use Rattle.std.proofs.Common.{ℕ, ◌≤◌, List, length, Some, None, Option, MatchOption, vec_items}
use Rattle.job_format.specs.Frames.{records}
use Rattle.job_format.specs.Order.{Follow}
use Rattle.job_format.specs.Bodies.{bodies}
use Rattle.job_format.specs.Contents.{Located, TextAt}
use Rattle.job.specs.Entered.{text_of, texts_left}
use Rattle.job.specs.declared.text.Text.{Text}
use Rattle.job.proofs.Numbering.{nth_located}
use Rattle.job.proofs.Texts.{text_at}
use Rattle.job.proofs.verified.Job.text.Goals as goal

found_at : (s : List ℕ) → Follow (records s) (length (records s)) → (v : ℕ) (r : Option Text) → MatchOption r (length (bodies 4 (records s)) ≤ v) (λ t. Located (records s) 4 v t.«record» t.bytes.now) → MatchOption r (length (bodies 4 (records s)) ≤ v) (λ t. TextAt s v t.«record» t.bytes.now)
found_at s fo v None h = h
found_at s fo v (Some t) h = text_at s fo v t.«record» t.bytes.now h

pub returns : goal.returns
returns c =
    let j = c.args.self.now in
    found_at (vec_items j.bytes) j.follow c.args.v c.nth.result (nth_located text_of texts_left 4 c.args.v (records (vec_items j.bytes)) c.texts_in_order.result c.nth.new.self c.nth.result c.texts_in_order.ensures c.nth.ensures.ran)
