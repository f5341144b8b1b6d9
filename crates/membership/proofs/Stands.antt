-- A part is numbered below its type. Assumes nothing.
use Rattle.std.proofs.Common.{◌≡◌, ℕ, zero, suc, ◌+◌, ◌<◌, ◌≤◌, Bool, true, false, cond, List, [], ◌∷◌, ◌++◌, length, get_or, Some, None, Option, Ordering, Less, Equal, Greater, refl, subst, add-zero, arith, length-append}
use Rattle.std.proofs.lemmas.Bool.Decides.{nat_tests}
use Rattle.membership.specs.Rows.{Alt, any, plain, iter, callable, kind, list, tuple, tuple_of, dict, custom, set_of, Row, never, Inner, inner, with_part, settle, put, put_by, put_settled_lem, compared, parts, all_below_lem, below, stands, find, intern, intern_by, made_row, same_alts}

-- each part below m is below n where m ≤ n
pub all_below_up : (m n : ℕ) (ps : List ℕ) → m ≤ n → all_below_lem m ps ≡ true → all_below_lem n ps ≡ true
all_below_up m n [] l h = refl
all_below_up m n (p ∷ ps) l h = let k : all_below_lem n ps ≡ true = all_below_up m n ps l (grind (arith, nat_tests, h)) in grind (arith, nat_tests, h, k)

pub below_up : (m n : ℕ) (xs : List Alt) → m ≤ n → below m xs ≡ true → below n xs ≡ true
below_up m n [] l h = refl
below_up m n (x ∷ xs) l h =
    let a : all_below_lem n (parts x) ≡ true = all_below_up m n (parts x) l (grind (arith, nat_tests, h)) in
    let b : below n xs ≡ true = below_up m n xs l (grind (arith, nat_tests, h)) in
    grind (arith, nat_tests, a, b)

-- the row at i of rows numbered from m
pub row_below : (t : List Row) (m i : ℕ) → stands m t ≡ true → i < length t → below (m + i) (get_or t i never).alts ≡ true
row_below [] m i h l = absurd (omega arith)
row_below (r ∷ rs) m zero h l = rw add-zero (grind (arith, nat_tests, h))
row_below (r ∷ rs) m (suc i) h l =
    let k : below ((m + 1) + i) (get_or rs i never).alts ≡ true = row_below rs (m + 1) i (grind (arith, nat_tests, h)) (omega arith) in
    let e : m + 1 + i ≡ m + suc i = omega arith in
    subst (λ (n : ℕ). below n (get_or rs i never).alts ≡ true) e k

pub stands_push : (t : List Row) (m : ℕ) (r : Row) → stands m t ≡ true → below (m + length t) r.alts ≡ true → stands m (t ++ r ∷ []) ≡ true
stands_push [] m r h k = let k' = rw add-zero at k in grind (arith, nat_tests, k')
stands_push (s ∷ t) m r h k =
    let e : m + suc (length t) ≡ m + 1 + length t = omega arith in
    let k' : below (m + 1 + length t) r.alts ≡ true = subst (λ (n : ℕ). below n r.alts ≡ true) e k in
    let i : stands (m + 1) (t ++ r ∷ []) ≡ true = stands_push t (m + 1) r (grind (arith, nat_tests, h)) k' in
    grind (arith, nat_tests, h, i)

-- the parts of lists and dicts
abbrev pub Under : ℕ → Inner → Type 0
Under n p = (p.item < n) × (p.key < n) × (p.value < n)

pub with_part_under : (n : ℕ) (p : Inner) (x : Alt) → Under n p → all_below_lem n (parts x) ≡ true → Under n (with_part p x)
with_part_under n p any u h = u
with_part_under n p (plain k) u h = u
with_part_under n p (iter t) u h = u
with_part_under n p callable u h = u
with_part_under n p kind u h = u
with_part_under n p (list t) u h = (grind (arith, nat_tests, h), u.1, u.2)
with_part_under n p (tuple ts) u h = u
with_part_under n p (tuple_of t) u h = u
with_part_under n p (dict k v) u h = (u.0, grind (arith, nat_tests, h), grind (arith, nat_tests, h))
with_part_under n p (custom k) u h = u
with_part_under n p (set_of t) u h = u

pub inner_under : (n : ℕ) (p : Inner) (xs : List Alt) → Under n p → below n xs ≡ true → Under n (inner p xs)
inner_under n p [] u h = u
inner_under n p (x ∷ xs) u h = inner_under n (with_part p x) xs (with_part_under n p x u (grind (arith, nat_tests, h))) (grind (arith, nat_tests, h))

pub settle_below : (n : ℕ) (j : Inner) (x : Alt) → Under n j → all_below_lem n (parts x) ≡ true → all_below_lem n (parts (settle j x)) ≡ true
settle_below n j any u h = refl
settle_below n j (plain k) u h = refl
settle_below n j (iter t) u h = h
settle_below n j callable u h = refl
settle_below n j kind u h = refl
settle_below n j (list t) u h = grind (arith, nat_tests, u.0)
settle_below n j (tuple ts) u h = h
settle_below n j (tuple_of t) u h = h
settle_below n j (dict k v) u h = grind (arith, nat_tests, u.1, u.2)
settle_below n j (custom k) u h = refl
settle_below n j (set_of t) u h = h

put_by_below : (n : ℕ) (o : Ordering) (x y : Alt) (ys rest : List Alt) → all_below_lem n (parts x) ≡ true → below n (y ∷ ys) ≡ true → below n rest ≡ true → below n (put_by o x y ys rest) ≡ true
put_by_below n Less x y ys rest a b c = grind (arith, nat_tests, a, b)
put_by_below n Equal x y ys rest a b c = b
put_by_below n Greater x y ys rest a b c = grind (arith, nat_tests, b, c)

pub put_below : (n : ℕ) (x : Alt) (ys : List Alt) → all_below_lem n (parts x) ≡ true → below n ys ≡ true → below n (put x ys) ≡ true
put_below n x [] a b = grind (arith, nat_tests, a)
put_below n x (y ∷ ys) a b = put_by_below n (compared x y) x y ys (put x ys) a b (put_below n x ys a (grind (arith, nat_tests, b)))

pub put_settled_below : (n : ℕ) (j : Inner) (out xs : List Alt) → Under n j → below n out ≡ true → below n xs ≡ true → below n (put_settled_lem j out xs) ≡ true
put_settled_below n j out [] u h k = h
put_settled_below n j out (x ∷ xs) u h k =
    put_settled_below n j (put (settle j x) out) xs u (put_below n (settle j x) out (settle_below n j x u (grind (arith, nat_tests, k))) h) (grind (arith, nat_tests, k))

-- a row that is found stands in the table
pub find_within : (m : ℕ) (t : List Row) (xs : List Alt) (n : ℕ) → find m t xs ≡ Some n → n < m + length t
find_within m [] xs n e = let z : ◌≡◌ {A = ℕ} 0 1 = cc in absurd (omega arith)
find_within m (r ∷ rs) xs n e = go (same_alts r.alts xs) (λ p. find_within (m + 1) rs xs n p) e
  where
    go : (b : Bool) → (find (m + 1) rs xs ≡ Some n → n < m + 1 + length rs) → cond b (Some m) (find (m + 1) rs xs) ≡ Some n → n < m + suc (length rs)
    go true f p = let q : m ≡ n = cc in omega arith
    go false f p = omega (arith, f p)

-- what interning leaves
pub intern_by_stands : (t : List Row) (xs : List Alt) (o : Option ℕ) → find 0 t xs ≡ o → stands 0 t ≡ true → below (length t) xs ≡ true → (stands 0 (intern_by o t xs).rows ≡ true) × ((intern_by o t xs).number < length (intern_by o t xs).rows)
intern_by_stands t xs None e s b = let q : length t ≡ 0 + length t = omega arith in (stands_push t 0 (made_row t xs) s (subst (λ (n : ℕ). below n xs ≡ true) q b), omega (arith, length-append t (made_row t xs ∷ [])))
intern_by_stands t xs (Some n) e s b = (s, omega (arith, find_within 0 t xs n e))

pub intern_stands : (t : List Row) (xs : List Alt) → stands 0 t ≡ true → below (length t) xs ≡ true → (stands 0 (intern t xs).rows ≡ true) × ((intern t xs).number < length (intern t xs).rows)
intern_stands t xs s b = intern_by_stands t xs (find 0 t xs) refl s b
