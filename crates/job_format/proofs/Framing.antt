-- Frames written and read again. Assumes nothing.
use Rattle.std.proofs.Common.{◌≡◌, ℕ, zero, suc, ◌+◌, ◌<◌, Bool, true, false, cond, leb, List, [], ◌∷◌, ◌++◌, length, take, drop, sym, refl, ap, ◌∙◌, subst, ap₂, append_assoc, arith, length-append, length-drop, take-append-drop, length-take}
use Rattle.std.proofs.lemmas.List.{take_at, drop_at, get_or-take, get_or-drop}
use Rattle.std.proofs.lemmas.Bool.{and_from, le-leb}
use Rattle.job_format.specs.Frames.{Raw, two, wide, frame, frames, long, is_whole, front_of, rest_of, records_in, left_in, records, leftover}
use Rattle.job_format.specs.Order.{at}
use Rattle.job_format.specs.Encoding.{Bytes}
use Rattle.job_format.proofs.Digits.{two_back, two_wide}
use Rattle.job_format.proofs.Walks.{whole_long, records_more, records_none, left_more, left_none}

module _ (r : Raw) (rest : List ℕ) where
  whole_frame : is_whole (frame r ++ rest) ≡ true
  whole_frame = and_from (leb 3 (length (frame r ++ rest))) (leb (3 + long (frame r ++ rest)) (length (frame r ++ rest))) (le-leb 3 (length (frame r ++ rest)) (omega arith)) (le-leb (3 + long (frame r ++ rest)) (length (frame r ++ rest)) (omega (arith, two_back (length r.body), length-append r.body rest)))

  front_frame : front_of (frame r ++ rest) ≡ r
  front_frame = λ i. record { tag = r.tag; body = take_at r.body rest (long (frame r ++ rest)) (sym (two_back (length r.body))) i }

  rest_frame : rest_of (frame r ++ rest) ≡ rest
  rest_frame = drop_at r.body rest (long (frame r ++ rest)) (sym (two_back (length r.body)))

pub records_frames : (rs : List Raw) → records (frames rs) ≡ rs
unfolding frames
records_frames [] = records_none [] refl
records_frames (r ∷ rs) = records_more (frame r ++ frames rs) (whole_frame r (frames rs)) ∙ ap₂ ◌∷◌ (front_frame r (frames rs)) (ap records (rest_frame r (frames rs)) ∙ records_frames rs)

pub left_frames : (rs : List Raw) → leftover (frames rs) ≡ []
unfolding frames
left_frames [] = left_none [] refl
left_frames (r ∷ rs) = left_more (frame r ++ frames rs) (whole_frame r (frames rs)) ∙ ap leftover (rest_frame r (frames rs)) ∙ left_frames rs

-- the front of some bytes, written again
front_again : (s : List ℕ) → Bytes s → is_whole s ≡ true → frame (front_of s) ++ rest_of s ≡ s
front_again [] b h = absurd (omega (arith, (whole_long [] h).0))
front_again (x ∷ []) b h = absurd (omega (arith, (whole_long (x ∷ []) h).0))
front_again (x ∷ (y ∷ [])) b h = absurd (omega (arith, (whole_long (x ∷ (y ∷ [])) h).0))
front_again (x ∷ (y ∷ (z ∷ s))) b h =
    let n = wide y z in
    let w = whole_long (x ∷ (y ∷ (z ∷ s))) h in
    let e : length (take (wide y z) s) ≡ wide y z = omega (arith, length-take (wide y z) s, w.1) in
    let t : two (length (take (wide y z) s)) ≡ y ∷ (z ∷ []) = ap two e ∙ two_wide y z (b 2 (omega arith)) in
    ap (λ (u : List ℕ). x ∷ ((u ++ take (wide y z) s) ++ drop (wide y z) s)) t ∙ ap (λ (u : List ℕ). x ∷ (y ∷ (z ∷ u))) (take-append-drop (wide y z) s)

rest_bytes : (s : List ℕ) → Bytes s → Bytes (rest_of s)
rest_bytes s b i h =
    let e = get_or-drop (long s) (drop 3 s) i 0 ∙ get_or-drop 3 s (long s + i) 0 in
    subst (λ (n : ℕ). n < 256) (sym e) (b (3 + (long s + i)) (omega (arith, length-drop (long s) (drop 3 s), length-drop 3 s)))

front_bytes : (s : List ℕ) → Bytes s → Bytes (front_of s).body
front_bytes s b i h =
    let l : i < long s = omega (arith, length-take (long s) (drop 3 s)) in
    let m : i < length (drop 3 s) = omega (arith, length-take (long s) (drop 3 s)) in
    let e = get_or-take (long s) (drop 3 s) i 0 l ∙ get_or-drop 3 s i 0 in
    subst (λ (n : ℕ). n < 256) (sym e) (b (3 + i) (omega (arith, length-drop 3 s)))

again_in : (k : ℕ) (s : List ℕ) → Bytes s → frames (records_in k s) ++ left_in k s ≡ s
unfolding records_in left_in frames
again_in zero s b = refl
again_in (suc k) s b = by (is_whole s) refl (again_in k (rest_of s) (rest_bytes s b))
  where
    by : (w : Bool) → is_whole s ≡ w → frames (records_in k (rest_of s)) ++ left_in k (rest_of s) ≡ rest_of s → frames (cond w (front_of s ∷ records_in k (rest_of s)) []) ++ cond w (left_in k (rest_of s)) s ≡ s
    by true h more = append_assoc (frame (front_of s)) (frames (records_in k (rest_of s))) (left_in k (rest_of s)) ∙ ap (λ xs. frame (front_of s) ++ xs) more ∙ front_again s b h
    by false h more = refl

pub frames_again : (s : List ℕ) → Bytes s → frames (records s) ++ leftover s ≡ s
unfolding records leftover
frames_again s b = again_in (length s) s b

bytes_in : (k : ℕ) (s : List ℕ) → Bytes s → (i : ℕ) → i < length (records_in k s) → Bytes (at (records_in k s) i).body
unfolding records_in
bytes_in zero s b i h = absurd (omega arith)
bytes_in (suc k) s b i h = by (is_whole s) i h (bytes_in k (rest_of s) (rest_bytes s b))
  where
    by : (w : Bool) (i : ℕ) → i < length (cond w (front_of s ∷ records_in k (rest_of s)) []) → ((j : ℕ) → j < length (records_in k (rest_of s)) → Bytes (at (records_in k (rest_of s)) j).body) → Bytes (at (cond w (front_of s ∷ records_in k (rest_of s)) []) i).body
    by true zero l more = front_bytes s b
    by true (suc j) l more = more j (omega arith)
    by false i l more = absurd (omega arith)

pub bodies_bytes : (s : List ℕ) → Bytes s → (i : ℕ) → i < length (records s) → Bytes (at (records s) i).body
unfolding records
bodies_bytes s b = bytes_in (length s) s b
