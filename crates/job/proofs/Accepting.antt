-- The test says yes to the encodings of good jobs, and to nothing else. Assumes nothing.
use Rattle.std.proofs.Common.{◌≡◌, ℕ, ◌<◌, Bool, true, false, cond, ◌&&◌, ltb, ◌⊎◌, List, length, take, Some, None, Ok, Err, Option, Result, subst, inl, inr, arith}
use Rattle.std.proofs.lemmas.Bool.{both_ways}
use Rattle.values.specs.Cells.{each, well_formed}
use Rattle.values.specs.declared.refusal.Refusal.{Refusal}
use Rattle.values.specs.declared.refusal.Refusal.TheVariants.{NoValue, BadForm}
use Rattle.job_format.specs.Frames.{records, leftover}
use Rattle.job_format.specs.Bodies.{cell_in}
use Rattle.job_format.specs.Order.{at, follows, cell_count, Verified}
use Rattle.job_format.specs.Encoding.{Bytes}
use Rattle.job_format.proofs.Exacts.{only, every}
use Rattle.job.specs.Judged.{Judged, Accepts}
use Rattle.job.specs.declared.fault.JobFault.{JobFault}
use Rattle.job.specs.declared.fault.JobFault.TheVariants.{Frame, Cell}

-- a fault and a good job exclude each other
sound_none : (a b : Bool) → (a && b) ≡ true → (why : Refusal) → ◌≡◌ {A = Option Refusal} (cond a (cond b None (Some BadForm)) (Some NoValue)) (Some why) → ⊥
sound_none true true h why e = let z : ◌≡◌ {A = ℕ} 0 1 = cc in omega arith
sound_none true false h why e = let z : ◌≡◌ {A = ℕ} 0 1 = cc in omega arith
sound_none false b h why e = let z : ◌≡◌ {A = ℕ} 0 1 = cc in omega arith

never : (s : List ℕ) (f : JobFault) → Judged s (Err f) → Verified s → ⊥
never s (Frame n) (inl h) v = omega (arith, h.0, v.framed.small)
never s (Frame n) (inr m) v = by m.here
  where
    by : ((n < length (records s)) × (follows (take n (records s)) (at (records s) n) ≡ false)) ⊎ ((n ≡ length (records s)) × (0 < length (leftover s))) → ⊥
    by (inl p) = both_ways (follows (take n (records s)) (at (records s) n)) p.1 (v.framed.follow n p.0)
    by (inr p) = omega (arith, p.1, v.framed.whole)
never s (Cell n why) u v =
    let b = (at (records s) n).body in
    sound_none (each (λ p. ltb p (cell_count (records s))) (cell_in b).parts) (well_formed (cell_in b)) (v.cells n u.within u.cell) why u.here

pub accepts : (s : List ℕ) → Bytes s → (r : Result Unit JobFault) → Judged s r → Accepts s r
accepts s b (Ok u) j = only s b j
accepts s b (Err f) j = λ es g e. never s f j (subst Verified e (every es g))
