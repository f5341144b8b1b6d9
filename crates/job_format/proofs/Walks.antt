-- Laws of `records` and `leftover`, a step at a time. Assumes nothing.
use Rattle.std.proofs.Common.{◌≡◌, ℕ, zero, suc, ◌+◌, ◌<◌, ◌≤◌, Bool, true, false, cond, leb, List, [], ◌∷◌, length, get_or, drop, sym, refl, ap, ◌∙◌, ap₂, arith, length-drop}
use Rattle.std.proofs.lemmas.List.{drop_more}
use Rattle.std.proofs.lemmas.Bool.{and_parts, leb-true, cond-true, cond-false}
use Rattle.job_format.specs.Frames.{no_raw, long, is_whole, front_of, rest_of, records_in, left_in, records, leftover, Splits}

pub whole_long : (s : List ℕ) → is_whole s ≡ true → (3 ≤ length s) × (3 + long s ≤ length s)
whole_long s h = let p = and_parts (leb 3 (length s)) (leb (3 + long s) (length s)) h in (leb-true 3 (length s) p.0, leb-true (3 + long s) (length s) p.1)

pub rest_shorter : (s : List ℕ) → is_whole s ≡ true → length (rest_of s) < length s
rest_shorter s h = let p = whole_long s h in omega (arith, p.0, p.1, length-drop (long s) (drop 3 s), length-drop 3 s)

-- any fuel that is as long as the bytes gives the same
same_records : (k m : ℕ) (s : List ℕ) → length s ≤ k → length s ≤ m → records_in k s ≡ records_in m s
unfolding records_in
same_records zero zero s a b = refl
same_records zero (suc m) s a b = by (is_whole s) refl
  where
    by : (w : Bool) → is_whole s ≡ w → [] ≡ cond w (front_of s ∷ records_in m (rest_of s)) []
    by true h = absurd (omega (arith, (whole_long s h).0))
    by false h = refl
same_records (suc k) zero s a b = by (is_whole s) refl
  where
    by : (w : Bool) → is_whole s ≡ w → cond w (front_of s ∷ records_in k (rest_of s)) [] ≡ []
    by true h = absurd (omega (arith, (whole_long s h).0))
    by false h = refl
same_records (suc k) (suc m) s a b = by (is_whole s) refl (same_records k m (rest_of s))
  where
    by : (w : Bool) → is_whole s ≡ w → (length (rest_of s) ≤ k → length (rest_of s) ≤ m → records_in k (rest_of s) ≡ records_in m (rest_of s)) → cond w (front_of s ∷ records_in k (rest_of s)) [] ≡ cond w (front_of s ∷ records_in m (rest_of s)) []
    by true h more = ap (λ rs. front_of s ∷ rs) (more (omega (arith, rest_shorter s h)) (omega (arith, rest_shorter s h)))
    by false h more = refl

same_left : (k m : ℕ) (s : List ℕ) → length s ≤ k → length s ≤ m → left_in k s ≡ left_in m s
unfolding left_in
same_left zero zero s a b = refl
same_left zero (suc m) s a b = by (is_whole s) refl
  where
    by : (w : Bool) → is_whole s ≡ w → s ≡ cond w (left_in m (rest_of s)) s
    by true h = absurd (omega (arith, (whole_long s h).0))
    by false h = refl
same_left (suc k) zero s a b = by (is_whole s) refl
  where
    by : (w : Bool) → is_whole s ≡ w → cond w (left_in k (rest_of s)) s ≡ s
    by true h = absurd (omega (arith, (whole_long s h).0))
    by false h = refl
same_left (suc k) (suc m) s a b = by (is_whole s) refl (same_left k m (rest_of s))
  where
    by : (w : Bool) → is_whole s ≡ w → (length (rest_of s) ≤ k → length (rest_of s) ≤ m → left_in k (rest_of s) ≡ left_in m (rest_of s)) → cond w (left_in k (rest_of s)) s ≡ cond w (left_in m (rest_of s)) s
    by true h more = more (omega (arith, rest_shorter s h)) (omega (arith, rest_shorter s h))
    by false h more = refl

pub records_more : (s : List ℕ) → is_whole s ≡ true → records s ≡ front_of s ∷ records (rest_of s)
unfolding records records_in
records_more s h =
    let r = rest_shorter s h in
    same_records (length s) (suc (length s)) s (omega arith) (omega arith) ∙ cond-true (is_whole s) (front_of s ∷ records_in (length s) (rest_of s)) [] h ∙ ap (λ rs. front_of s ∷ rs) (same_records (length s) (length (rest_of s)) (rest_of s) (omega arith) (omega arith))

pub records_none : (s : List ℕ) → is_whole s ≡ false → records s ≡ []
unfolding records records_in
records_none s h = same_records (length s) (suc (length s)) s (omega arith) (omega arith) ∙ cond-false (is_whole s) (front_of s ∷ records_in (length s) (rest_of s)) [] h

pub left_more : (s : List ℕ) → is_whole s ≡ true → leftover s ≡ leftover (rest_of s)
unfolding leftover left_in
left_more s h =
    let r = rest_shorter s h in
    same_left (length s) (suc (length s)) s (omega arith) (omega arith) ∙ cond-true (is_whole s) (left_in (length s) (rest_of s)) s h ∙ same_left (length s) (length (rest_of s)) (rest_of s) (omega arith) (omega arith)

pub left_none : (s : List ℕ) → is_whole s ≡ false → leftover s ≡ s
unfolding leftover left_in
left_none s h = same_left (length s) (suc (length s)) s (omega arith) (omega arith) ∙ cond-false (is_whole s) (left_in (length s) (rest_of s)) s h

pub records_split : {s : List ℕ} {tag : ℕ} {body rest : List ℕ} → Splits s tag body rest → records s ≡ record { tag = tag; body = body } ∷ records rest
records_split {s} {tag} {body} {rest} sp =
    let front : front_of s ≡ record { tag = tag; body = body } = λ i. record { tag = sym sp.tag_is i; body = sym sp.body_is i } in
    records_more s sp.whole ∙ ap₂ ◌∷◌ front (ap records (sym sp.rest_is))

-- no more records than bytes
few_in : (k : ℕ) (s : List ℕ) → length (records_in k s) ≤ k
unfolding records_in
few_in zero s = omega arith
few_in (suc k) s = by (is_whole s) (few_in k (rest_of s))
  where
    by : (w : Bool) → length (records_in k (rest_of s)) ≤ k → length (cond w (front_of s ∷ records_in k (rest_of s)) []) ≤ suc k
    by true h = omega arith
    by false h = omega arith

pub records_few : (s : List ℕ) → length (records s) ≤ length s
unfolding records
records_few s = few_in (length s) s

-- where a walk stands: n records are behind it, and s is before it
pub record Stands (all : List ℕ) (n : ℕ) (s : List ℕ) : Type 0 where
  pub ahead : records s ≡ drop n (records all)
  pub left : leftover s ≡ leftover all
  pub bound : n + length s ≤ length all
  pub within : n ≤ length (records all)

pub start : (all : List ℕ) → Stands all 0 all
start all = record { ahead = refl; left = refl; bound = omega arith; within = omega arith }

module _ {all s : List ℕ} {n tag : ℕ} {body rest : List ℕ} (st : Stands all n s) (sp : Splits s tag body rest) where
  here_cons : drop n (records all) ≡ record { tag = tag; body = body } ∷ records rest
  here_cons = sym st.ahead ∙ records_split sp

  pub here_within : n < length (records all)
  here_within = omega (arith, ap length here_cons, length-drop n (records all))

  pub here_is : get_or (records all) n no_raw ≡ record { tag = tag; body = body }
  here_is =
      let e : record { tag = tag; body = body } ∷ records rest ≡ get_or (records all) n no_raw ∷ drop (n + 1) (records all) = sym here_cons ∙ drop_more (records all) n no_raw here_within in
      sym (ap (λ xs. get_or xs 0 no_raw) e)

  pub goes_on : Stands all (n + 1) rest
  goes_on =
      let e : record { tag = tag; body = body } ∷ records rest ≡ get_or (records all) n no_raw ∷ drop (n + 1) (records all) = sym here_cons ∙ drop_more (records all) n no_raw here_within in
      record {
        ahead = ap (drop 1) e;
        left = ap leftover sp.rest_is ∙ sym (left_more s sp.whole) ∙ st.left;
        bound = omega (arith, st.bound, rest_shorter s sp.whole, ap length sp.rest_is);
        within = omega (arith, here_within);
      }

pub ended : {all s : List ℕ} {n : ℕ} → Stands all n s → is_whole s ≡ false → (n ≡ length (records all)) × (leftover all ≡ s)
ended {all} {s} {n} st h = (omega (arith, ap length (sym st.ahead ∙ records_none s h), length-drop n (records all), st.within), sym st.left ∙ left_none s h)
