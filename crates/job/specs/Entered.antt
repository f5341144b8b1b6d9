-- What is still to come of the texts and the entries of a job. Assumes nothing.
use Rattle.std.specs.Prelude.{ℕ, List, map}
use Rattle.job.specs.Walked.{numbered_left}
use Rattle.job.specs.declared.from_body.FromBody.{Ghosts}
use Rattle.job.specs.declared.text.Text.{Text}
use Rattle.job.specs.declared.entries.Texts.{Texts}
use Rattle.job.specs.declared.entries.Entries.{Entries}

abbrev pub text_of : Text → ℕ × List ℕ
text_of x = (x.«record», x.bytes.now)

abbrev pub texts_left : Texts → List (ℕ × List ℕ)
texts_left w = numbered_left w.tagged

abbrev pub entries_left : {A : Type 0} {g : Ghosts A} → (List ℕ → A) → Entries A g → List A
entries_left read w = map (λ p. read p.1) (numbered_left w.tagged)
