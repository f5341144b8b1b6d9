-- Laws of tags, and of the bodies of records by their tag. Assumes nothing.
use Rattle.std.proofs.Common.{◌≡◌, ℕ, suc, ◌+◌, ◌≤◌, Bool, true, false, cond, ◌&&◌, eqb, List, [], ◌∷◌, ◌++◌, length, refl, ap, ◌∙◌, arith}
use Rattle.std.proofs.lemmas.Bool.{and_parts, eq-eqb, ne_eqb, cond-true, cond-false}
use Rattle.job_format.specs.Frames.{Raw}
use Rattle.job_format.specs.Bodies.{bodies}
use Rattle.job_format.specs.Order.{last_tag}

pub last_push : (rs : List Raw) (r : Raw) → last_tag (rs ++ (r ∷ [])) ≡ r.tag
unfolding last_tag
last_push [] r = refl
last_push (q ∷ []) r = refl
last_push (q ∷ (p ∷ rs)) r = last_push (p ∷ rs) r

pub bodies_same : (t : ℕ) (rs : List Raw) (r : Raw) → r.tag ≡ t → bodies t (rs ++ (r ∷ [])) ≡ bodies t rs ++ (r.body ∷ [])
unfolding bodies
bodies_same t [] r e = cond-true (eqb r.tag t) _ _ (eq-eqb r.tag t e)
bodies_same t (q ∷ rs) r e = by (eqb q.tag t) (bodies_same t rs r e)
  where
    by : (b : Bool) → bodies t (rs ++ (r ∷ [])) ≡ bodies t rs ++ (r.body ∷ []) → cond b (q.body ∷ bodies t (rs ++ (r ∷ []))) (bodies t (rs ++ (r ∷ []))) ≡ cond b (q.body ∷ bodies t rs) (bodies t rs) ++ (r.body ∷ [])
    by true i = ap (λ bs. q.body ∷ bs) i
    by false i = i

pub bodies_other : (t : ℕ) (rs : List Raw) (r : Raw) → (r.tag ≡ t → ⊥) → bodies t (rs ++ (r ∷ [])) ≡ bodies t rs
unfolding bodies
bodies_other t [] r ne = cond-false (eqb r.tag t) _ _ (ne_eqb r.tag t ne)
bodies_other t (q ∷ rs) r ne = by (eqb q.tag t) (bodies_other t rs r ne)
  where
    by : (b : Bool) → bodies t (rs ++ (r ∷ [])) ≡ bodies t rs → cond b (q.body ∷ bodies t (rs ++ (r ∷ []))) (bodies t (rs ++ (r ∷ []))) ≡ cond b (q.body ∷ bodies t rs) (bodies t rs)
    by true i = ap (λ bs. q.body ∷ bs) i
    by false i = i

pub count_same : (t : ℕ) (rs : List Raw) (r : Raw) → r.tag ≡ t → length (bodies t (rs ++ (r ∷ []))) ≡ length (bodies t rs) + 1
count_same t rs r e = ap length (bodies_same t rs r e) ∙ push (bodies t rs)
  where
    push : (bs : List (List ℕ)) → length (bs ++ (r.body ∷ [])) ≡ length bs + 1
    push [] = refl
    push (b ∷ bs) = let i = push bs in omega arith

pub three : (a b d : Bool) → (a && b && d) ≡ true → (a ≡ true) × (b ≡ true) × (d ≡ true)
three a b d h = let p = and_parts (a && b) d h in let q = and_parts a b p.0 in (q.0, q.1, p.1)

-- no more cells than records
pub cells_few : (t : ℕ) (rs : List Raw) → length (bodies t rs) ≤ length rs
unfolding bodies
cells_few t [] = omega arith
cells_few t (r ∷ rs) = by (eqb r.tag t) (cells_few t rs)
  where
    by : (b : Bool) → length (bodies t rs) ≤ length rs → length (cond b (r.body ∷ bodies t rs) (bodies t rs)) ≤ suc (length rs)
    by true h = omega arith
    by false h = omega arith
