-- The order of alternatives is an order. Assumes nothing.
use Rattle.std.proofs.Common.{◌≡◌, ℕ, true, cond, eqb, List, [], ◌∷◌, get_or, Ordering, Less, Equal, Greater, sym, refl, ap, ◌∙◌, arith}
use Rattle.std.proofs.lemmas.Bool.Decides.{nat_tests}
use Rattle.std.specs.Ordering.{is_eq}
use Rattle.membership.specs.Rows.{Alt, any, plain, iter, callable, kind, list, tuple, tuple_of, dict, custom, set_of, rank, numbers, order, compared, same_alts}

abbrev pub flip : Ordering → Ordering
flip Less = Greater
flip Equal = Equal
flip Greater = Less

pub order_same : (xs : List ℕ) → order xs xs ≡ Equal
order_same [] = refl
order_same (x ∷ xs) = let k = order_same xs in grind (arith, nat_tests, k)

pub order_flip : (xs ys : List ℕ) → order ys xs ≡ flip (order xs ys)
order_flip [] [] = refl
order_flip [] (y ∷ ys) = refl
order_flip (x ∷ xs) [] = refl
order_flip (x ∷ xs) (y ∷ ys) = let k = order_flip xs ys in grind (arith, nat_tests, k)

pub order_equal_same : (xs ys : List ℕ) → order xs ys ≡ Equal → xs ≡ ys
order_equal_same [] [] e = refl
order_equal_same [] (y ∷ ys) e = let z : ◌≡◌ {A = ℕ} 0 1 = cc in absurd (omega arith)
order_equal_same (x ∷ xs) [] e = let z : ◌≡◌ {A = ℕ} 0 1 = cc in absurd (omega arith)
order_equal_same (x ∷ xs) (y ∷ ys) e =
    let p : x ≡ y = grind (arith, nat_tests, e) in
    let q : order xs ys ≡ Equal = grind (arith, nat_tests, e) in
    let r = order_equal_same xs ys q in cc

pub order_trans : (xs ys zs : List ℕ) → order xs ys ≡ Less → order ys zs ≡ Less → order xs zs ≡ Less
order_trans [] [] zs e f = let z : ◌≡◌ {A = ℕ} 0 1 = cc in absurd (omega arith)
order_trans [] (y ∷ ys) [] e f = let z : ◌≡◌ {A = ℕ} 0 1 = cc in absurd (omega arith)
order_trans [] (y ∷ ys) (w ∷ zs) e f = refl
order_trans (x ∷ xs) [] zs e f = let z : ◌≡◌ {A = ℕ} 0 1 = cc in absurd (omega arith)
order_trans (x ∷ xs) (y ∷ ys) [] e f = let z : ◌≡◌ {A = ℕ} 0 1 = cc in absurd (omega arith)
order_trans (x ∷ xs) (y ∷ ys) (w ∷ zs) e f = let k = order_trans xs ys zs in grind (arith, nat_tests, e, f, k)

-- an alternative from its rank and its numbers
abbrev first : List ℕ → ℕ
first ns = get_or ns 0 0

abbrev decoded : ℕ → List ℕ → Alt
decoded r ns =
    cond (eqb r 0) any (cond (eqb r 1) (plain (first ns)) (cond (eqb r 2) (iter (first ns)) (cond (eqb r 3) callable (cond (eqb r 4) kind
    (cond (eqb r 5) (list (first ns)) (cond (eqb r 6) (tuple ns) (cond (eqb r 7) (tuple_of (first ns)) (cond (eqb r 8) (dict (first ns) (get_or ns 1 0))
    (cond (eqb r 9) (custom (first ns)) (set_of (first ns)))))))))))

decoded_is : (x : Alt) → decoded (rank x) (numbers x) ≡ x
decoded_is any = refl
decoded_is (plain n) = refl
decoded_is (iter t) = refl
decoded_is callable = refl
decoded_is kind = refl
decoded_is (list t) = refl
decoded_is (tuple ts) = refl
decoded_is (tuple_of t) = refl
decoded_is (dict k v) = refl
decoded_is (custom n) = refl
decoded_is (set_of t) = refl

pub same_alt : (x y : Alt) → compared x y ≡ Equal → x ≡ y
same_alt x y e =
    let k = order_equal_same (rank x ∷ numbers x) (rank y ∷ numbers y) e in
    let r : rank x ≡ rank y = cc in
    let n : numbers x ≡ numbers y = cc in
    sym (decoded_is x) ∙ ap (λ (i : ℕ). decoded i (numbers x)) r ∙ ap (decoded (rank y)) n ∙ decoded_is y

pub equal_from : (o : Ordering) → is_eq o ≡ true → o ≡ Equal
equal_from Less e = let z : ◌≡◌ {A = ℕ} 0 1 = cc in absurd (omega arith)
equal_from Equal e = refl
equal_from Greater e = let z : ◌≡◌ {A = ℕ} 0 1 = cc in absurd (omega arith)

pub same_alts_same : (xs ys : List Alt) → same_alts xs ys ≡ true → xs ≡ ys
same_alts_same [] [] e = refl
same_alts_same [] (y ∷ ys) e = let z : ◌≡◌ {A = ℕ} 0 1 = cc in absurd (omega arith)
same_alts_same (x ∷ xs) [] e = let z : ◌≡◌ {A = ℕ} 0 1 = cc in absurd (omega arith)
same_alts_same (x ∷ xs) (y ∷ ys) e =
    let p : is_eq (compared x y) ≡ true = grind (arith, nat_tests, e) in
    let q : same_alts xs ys ≡ true = grind (arith, nat_tests, e) in
    let r = same_alts_same xs ys q in
    let s = same_alt x y (equal_from (compared x y) p) in
    cc

pub same_alts_refl : (xs : List Alt) → same_alts xs xs ≡ true
same_alts_refl [] = refl
same_alts_refl (x ∷ xs) = let p = order_same (rank x ∷ numbers x) in let q = same_alts_refl xs in rw (p, q) refl
