-- Reading a text leaves the types that stood as they were. Assumes nothing.
use Rattle.std.proofs.Common.{◌≡◌, ℕ, List, Ok, Err, Result, OnOk, is_ok, refl}
use mathlib.Core.Bool.{true≢false}
use Rattle.membership.specs.Rows.{Row, union2, Sound, Keeps}
use Rattle.membership.proofs.Joins.{keeps_trans}
use Rattle.membership.proofs.Kepts.{keeps_here}
use Rattle.annotation.specs.Evaluated.{ReadAs}
use Rattle.annotation.specs.declared.fault.TextFault.{TextFault}
use Rattle.runs.proofs.Tables.{Grows, made_grows, union_grows}
use Rattle.report.proofs.Along.{Along, read_along}

-- a sound table grows into another
abbrev SoundGrows : List Row → List Row → Type 0
SoundGrows t u = Sound t → Grows t u

along : Along SoundGrows
along = record {
  here = λ t s. record { sound = s; keeps = keeps_here t };
  trans = λ t u v p q s. let g = p s in let h = q g.sound in record { sound = h.sound; keeps = keeps_trans t u v g.keeps h.keeps };
  makes = λ t x s. made_grows t s x;
  joins = λ t m n s. union_grows t s m n (union2 t m n) refl;
}

-- so does reading, where its result is passed on with another fault
pub reading_stays : {D : Type 0} (s : List ℕ) (t t' : List Row) (r : Result ℕ TextFault) (q : Result ℕ D) → is_ok q ≡ is_ok r → Sound t → ReadAs s t t' r → OnOk q (Keeps t t')
reading_stays s t t' r (Err e) same sound p = tt
reading_stays s t t' (Ok n) (Ok m) same sound p = (read_along SoundGrows along s t t' n p sound).keeps
reading_stays s t t' (Err e) (Ok m) same sound p = absurd (true≢false same)
