-- Tags never fall, so the record of a text is known by counting. Assumes nothing.
use Rattle.std.proofs.Common.{◌≡◌, ℕ, zero, suc, ◌+◌, ◌-◌, ◌<◌, ◌≤◌, Bool, true, false, cond, eqb, ltb, leb, ◌⊎◌, List, [], ◌∷◌, ◌++◌, length, take, drop, sym, refl, ap, ◌∙◌, subst, inl, inr, arith, length-drop, take-append-drop, length-take}
use Rattle.std.proofs.lemmas.List.{take_more, get_or-take, get_or-drop, length-map}
use Rattle.std.proofs.lemmas.Bool.{leb-true, cond-false, ne_eqb}
use Rattle.job_format.specs.Frames.{Raw, no_raw, records}
use Rattle.job_format.specs.Bodies.{bodies, shaped, limit, cell_in}
use Rattle.job_format.specs.Order.{at, Follow, last_tag}
use Rattle.job_format.specs.Contents.{Located, texts_from, mark_in, range_in}
use Rattle.job_format.proofs.Tagged.{last_push, three}
use Rattle.job_format.proofs.Entries.{known}

no_bodies : (t : ℕ) (rs : List Raw) → ((i : ℕ) → i < length rs → (at rs i).tag ≡ t → ⊥) → length (bodies t rs) ≡ 0
unfolding bodies
no_bodies t [] h = refl
no_bodies t (r ∷ rs) h = ap length (cond-false (eqb r.tag t) (r.body ∷ bodies t rs) (bodies t rs) (ne_eqb r.tag t (h 0 (omega arith)))) ∙ no_bodies t rs (λ i l e. h (suc i) (omega arith) e)

bodies_both : (t : ℕ) (xs ys : List Raw) → length (bodies t (xs ++ ys)) ≡ length (bodies t xs) + length (bodies t ys)
unfolding bodies
bodies_both t [] ys = omega arith
bodies_both t (x ∷ xs) ys = by (eqb x.tag t) (bodies_both t xs ys)
  where
    by : (b : Bool) → length (bodies t (xs ++ ys)) ≡ length (bodies t xs) + length (bodies t ys) → length (cond b (x.body ∷ bodies t (xs ++ ys)) (bodies t (xs ++ ys))) ≡ length (cond b (x.body ∷ bodies t xs) (bodies t xs)) + length (bodies t ys)
    by true e = omega arith
    by false e = e

one_body : (t : ℕ) (r : Raw) (rs : List Raw) → length (bodies t (r ∷ rs)) ≡ cond (eqb r.tag t) 1 0 + length (bodies t rs)
unfolding bodies
one_body t r rs = by (eqb r.tag t)
  where
    by : (b : Bool) → length (cond b (r.body ∷ bodies t rs) (bodies t rs)) ≡ cond b 1 0 + length (bodies t rs)
    by true = omega arith
    by false = omega arith

-- a known tag is just one of the five
abbrev marks_counted : ℕ → ℕ
marks_counted k = cond (eqb k 1) 1 0 + cond (eqb k 2) 1 0 + cond (eqb k 3) 1 0 + cond (eqb k 4) 1 0 + cond (eqb k 5) 1 0

just_one : (k : ℕ) → (k ≡ 1) ⊎ ((k ≡ 2) ⊎ ((k ≡ 3) ⊎ ((k ≡ 4) ⊎ (k ≡ 5)))) → marks_counted k ≡ 1
just_one k (inl e) = ap marks_counted e
just_one k (inr (inl e)) = ap marks_counted e
just_one k (inr (inr (inl e))) = ap marks_counted e
just_one k (inr (inr (inr (inl e)))) = ap marks_counted e
just_one k (inr (inr (inr (inr e)))) = ap marks_counted e

all_five : (rs : List Raw) → ((i : ℕ) → i < length rs → shaped (at rs i).tag (length (at rs i).body) ≡ true) → length rs ≡ length (bodies 1 rs) + length (bodies 2 rs) + length (bodies 3 rs) + length (bodies 4 rs) + length (bodies 5 rs)
unfolding bodies
all_five [] h = refl
all_five (r ∷ rs) h =
    let more = all_five rs (λ i l. h (suc i) (omega arith)) in
    let one = just_one r.tag (known r.tag (length r.body) (h 0 (omega arith))) in
    omega (arith, more, one, one_body 1 r rs, one_body 2 r rs, one_body 3 r rs, one_body 4 r rs, one_body 5 r rs)

module _ (rs : List Raw) (fo : Follow rs (length rs)) where
  shape : (i : ℕ) → i < length rs → shaped (at rs i).tag (length (at rs i).body) ≡ true
  shape i h = (three (shaped (at rs i).tag (length (at rs i).body)) (leb (last_tag (take i rs)) (at rs i).tag) (ltb (length (bodies (at rs i).tag (take i rs))) (limit (at rs i).tag)) (fo i h)).0

  step : (i : ℕ) → i + 1 < length rs → (at rs i).tag ≤ (at rs (i + 1)).tag
  step i h =
      let l = (three (shaped (at rs (i + 1)).tag (length (at rs (i + 1)).body)) (leb (last_tag (take (i + 1) rs)) (at rs (i + 1)).tag) (ltb (length (bodies (at rs (i + 1)).tag (take (i + 1) rs))) (limit (at rs (i + 1)).tag)) (fo (i + 1) h)).1 in
      let e : last_tag (take (i + 1) rs) ≡ (at rs i).tag = ap last_tag (take_more rs i no_raw (omega arith)) ∙ last_push (take i rs) (at rs i) in
      omega (arith, leb-true (last_tag (take (i + 1) rs)) (at rs (i + 1)).tag l, e)

  rising : (i k : ℕ) → i + k < length rs → (at rs i).tag ≤ (at rs (i + k)).tag
  rising i zero h = let e : i + 0 ≡ i = omega arith in omega (arith, ap (λ n. (at rs n).tag) e)
  rising i (suc k) h =
      let e : i + suc k ≡ (i + k) + 1 = omega arith in
      omega (arith, rising i k (omega arith), step (i + k) (omega arith), ap (λ n. (at rs n).tag) e)

  pub not_below : (i j : ℕ) → i ≤ j → j < length rs → (at rs i).tag ≤ (at rs j).tag
  not_below i j le h = by (j - i) (omega arith)
    where
      by : (k : ℕ) → j ≡ i + k → (at rs i).tag ≤ (at rs j).tag
      by k e = omega (arith, rising i k (omega arith), ap (λ n. (at rs n).tag) e)

  module _ (v n : ℕ) (b : List ℕ) (p : Located rs 4 v n b) where
    tag_is : (at rs n).tag ≡ 4
    tag_is = ap (λ (r : Raw). r.tag) p.here

    after : (t : ℕ) → t < 4 → length (bodies t rs) ≡ length (bodies t (take n rs))
    after t lt =
        let none = no_bodies t (drop n rs) (λ i l e.
        let q : (at (drop n rs) i).tag ≡ (at rs (n + i)).tag = ap (λ (r : Raw). r.tag) (get_or-drop n rs i no_raw) in
        omega (arith, not_below n (n + i) (omega arith) (omega (arith, length-drop n rs)), q, e, tag_is)) in
        omega (arith, none, bodies_both t (take n rs) (drop n rs), ap (λ (xs : List Raw). length (bodies t xs)) (take-append-drop n rs))

    no_query : length (bodies 5 (take n rs)) ≡ 0
    no_query = no_bodies 5 (take n rs) (λ i l e.
        let m : i < n = omega (arith, length-take n rs) in
        let q : (at (take n rs) i).tag ≡ (at rs i).tag = ap (λ (r : Raw). r.tag) (get_or-take n rs i no_raw m) in
        omega (arith, not_below i n (omega arith) p.within, q, e, tag_is))

    counted : n ≡ length (bodies 1 rs) + length (bodies 2 rs) + length (bodies 3 rs) + v
    counted =
        let five = all_five (take n rs) (λ i l.
        let m : i < n = omega (arith, length-take n rs) in
        subst (λ (r : Raw). shaped r.tag (length r.body) ≡ true) (sym (get_or-take n rs i no_raw m)) (shape i (omega (arith, p.within)))) in
        omega (arith, five, length-take n rs, p.within, p.before, no_query, after 1 (omega arith), after 2 (omega arith), after 3 (omega arith))

-- the text with the number v comes so many records after the first text
pub text_counted : (s : List ℕ) → Follow (records s) (length (records s)) → (v n : ℕ) (b : List ℕ) → Located (records s) 4 v n b → n ≡ texts_from s + v
text_counted s fo v n b p = omega (arith, counted (records s) fo v n b p, length-map (bodies 1 (records s)) cell_in, length-map (bodies 2 (records s)) mark_in, length-map (bodies 3 (records s)) range_in)
