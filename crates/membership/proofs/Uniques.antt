-- Equal types have equal numbers: a standing type's alternatives are found under its own number. Assumes nothing.
use Rattle.std.proofs.Common.{◌≡◌, ℕ, zero, suc, ◌+◌, ◌<◌, ◌≤◌, Bool, true, false, cond, ◌||◌, eqb, ltb, List, [], ◌∷◌, ◌++◌, length, Some, None, Option, refl, ap, arith, length-append, ltb-false, ltb-true}
use Rattle.std.proofs.lemmas.List.{get_or_append_left, get_or_push}
use Rattle.membership.specs.Rows.{Alt, Row, row, never, find, intern, intern_by, made_row, same_alts, Grown, grown, join, join_rows_lem, Joins, Inner, inner, no_inner, put_settled_lem}
use Rattle.membership.proofs.Order.{same_alts_refl}

abbrev pub Unique : List Row → Type 0
Unique t = (i : ℕ) → i < length t → find 0 t (row t i).alts ≡ Some i

find_push_some : (m : ℕ) (t : List Row) (xs : List Alt) (n : ℕ) (r : Row) → find m t xs ≡ Some n → find m (t ++ r ∷ []) xs ≡ Some n
find_push_some m [] xs n r e = let z : ◌≡◌ {A = ℕ} 0 1 = cc in absurd (omega arith)
find_push_some m (s ∷ t) xs n r e = go (same_alts s.alts xs) (λ p. find_push_some (m + 1) t xs n r p) e
  where
    go : (b : Bool) → (find (m + 1) t xs ≡ Some n → find (m + 1) (t ++ r ∷ []) xs ≡ Some n) → cond b (Some m) (find (m + 1) t xs) ≡ Some n → cond b (Some m) (find (m + 1) (t ++ r ∷ []) xs) ≡ Some n
    go true f p = p
    go false f p = f p

find_push_none : (m : ℕ) (t : List Row) (xs : List Alt) (n : ℕ) (r : Row) → find m t xs ≡ None → same_alts r.alts xs ≡ true → m + length t ≡ n → find m (t ++ r ∷ []) xs ≡ Some n
find_push_none m [] xs n r e h l = let k : m ≡ n = omega arith in rw h (ap (λ (z : ℕ). Some z) k)
find_push_none m (s ∷ t) xs n r e h l = go (same_alts s.alts xs) (λ p. find_push_none (m + 1) t xs n r p h (omega arith)) e
  where
    go : (b : Bool) → (find (m + 1) t xs ≡ None → find (m + 1) (t ++ r ∷ []) xs ≡ Some n) → cond b (Some m) (find (m + 1) t xs) ≡ None → cond b (Some m) (find (m + 1) (t ++ r ∷ []) xs) ≡ Some n
    go true f p = let z : ◌≡◌ {A = ℕ} 0 1 = cc in absurd (omega arith)
    go false f p = f p

pub unique_push : (t : List Row) (xs : List Alt) → Unique t → find 0 t xs ≡ None → Unique (t ++ made_row t xs ∷ [])
unique_push t xs u e i h = go (ltb i (length t)) refl
  where
    go : (b : Bool) → ltb i (length t) ≡ b → find 0 (t ++ made_row t xs ∷ []) (row (t ++ made_row t xs ∷ []) i).alts ≡ Some i
    go true p =
        let l : i < length t = ltb-true i (length t) p in
        rw (get_or_append_left t (made_row t xs ∷ []) never i l) (find_push_some 0 t (row t i).alts i (made_row t xs) (u i l))
    go false p =
        let l : length t ≤ i = ltb-false i (length t) p in
        let k : length t ≡ i = omega (arith, length-append t (made_row t xs ∷ [])) in
        rw (get_or_push t (made_row t xs) never i k) (find_push_none 0 t xs i (made_row t xs) e (same_alts_refl xs) (omega arith))

intern_by_unique : (t : List Row) (xs : List Alt) (o : Option ℕ) → find 0 t xs ≡ o → Unique t → Unique (intern_by o t xs).rows
intern_by_unique t xs None e u = unique_push t xs u e
intern_by_unique t xs (Some n) e u = u

pub intern_unique : (t : List Row) (xs : List Alt) → Unique t → Unique (intern t xs).rows
intern_unique t xs u = intern_by_unique t xs (find 0 t xs) refl u

abbrev cond_unique : (b : Bool) (g h : Grown) → Unique g.rows → Unique h.rows → Unique (cond b g h).rows
cond_unique true g h p q = p
cond_unique false g h p q = q

rows_unique : (f : Joins) → ((t : List Row) (a b : ℕ) → Unique t → Unique (f t a b).rows) → (t : List Row) (xs ys : List Alt) → Unique t → Unique (join_rows_lem f t xs ys).rows
rows_unique f p t xs ys u =
    let x = inner no_inner xs in
    let y = inner no_inner ys in
    let i = f t x.item y.item in
    let k = f i.rows x.key y.key in
    let v = f k.rows x.value y.value in
    let j : Inner = record { item = i.number; key = k.number; value = v.number } in
    intern_unique v.rows (put_settled_lem j (put_settled_lem j [] xs) ys) (p k.rows x.value y.value (p i.rows x.key y.key (p t x.item y.item u)))

-- a join keeps the numbers unique
pub join_unique : (n : ℕ) (t : List Row) (a b : ℕ) → Unique t → Unique (join n t a b).rows
join_unique zero t a b u = u
join_unique (suc n) t a b u =
    cond_unique (eqb a 1 || eqb b 1) (grown t 1) _ u
    (cond_unique (eqb a b || eqb b 0) (grown t a) _ u
    (cond_unique (eqb a 0) (grown t b) _ u
    (rows_unique (join n) (join_unique n) t (row t a).alts (row t b).alts u)))
