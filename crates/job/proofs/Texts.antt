-- The texts of a job, one after another. Assumes nothing.
use Rattle.std.proofs.Common.{◌≡◌, ℕ, List, length, Some, None, refl, sym, ◌∙◌}
use Rattle.std.proofs.lemmas.Option.{slice_get-get_or, get_or_from_slice_get}
use Rattle.std.proofs.lemmas.Iterator.{YieldsList}
use Rattle.std.proofs.lemmas.Iterator.Consumers.{YieldsList-from_first, YieldsList-turn, YieldsList-end}
use Rattle.std.specs.Iterator.{Yields, YieldsFirstBy}
use Rattle.job_format.specs.Frames.{records}
use Rattle.job_format.specs.Order.{Follow}
use Rattle.job_format.specs.Contents.{Located, TextAt, job_texts}
use Rattle.job_format.proofs.Rising.{text_counted}
use Rattle.job.specs.Walked.{numbered}
use Rattle.job.specs.Entered.{text_of, texts_left}
use Rattle.job.specs.declared.text.Text.{Text}
use Rattle.job.specs.declared.entries.Texts.{Texts}
use Rattle.job.proofs.Numbering.{nothing, located, length_numbered}

module _ (s : List ℕ) where
  pub text_at : Follow (records s) (length (records s)) → (v n : ℕ) (b : List ℕ) → Located (records s) 4 v n b → TextAt s v n b
  text_at fo v n b p = record { found = p.found; located = p; number = text_counted s fo v n b p }

  module _ (w : Texts) (from : texts_left w ≡ numbered 4 0 (records s)) (xs : List Text) (t u : Texts) (y : Yields (YieldsFirstBy text_of texts_left) w xs t) where
    gives : YieldsList (YieldsFirstBy text_of texts_left) text_of w (numbered 4 0 (records s))
    gives = YieldsList-from_first text_of texts_left (numbered 4 0 (records s)) from

    -- the text that comes after xs
    pub text_turn : Follow (records s) (length (records s)) → (x : Text) → YieldsFirstBy text_of texts_left t (Some x) u → TextAt s (length xs) x.«record» x.bytes.now
    text_turn fo x step =
        let all = numbered 4 0 (records s) in
        let p = YieldsList-turn gives xs t y (Some x) u x refl step in
        let is = p.1 ∙ sym (get_or_from_slice_get all (length xs) _ nothing (slice_get-get_or all (length xs) (text_of x) p.0)) in
        text_at fo (length xs) x.«record» x.bytes.now (located 4 (length xs) (records s) p.0 (text_of x) is)

    -- no text comes after xs
    pub texts_end : YieldsFirstBy text_of texts_left t None u → length xs ≡ length (job_texts s)
    texts_end step = (YieldsList-end gives xs t y None u refl step).1 ∙ length_numbered 4 0 (records s)
