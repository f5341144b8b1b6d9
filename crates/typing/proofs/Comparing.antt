-- The order of alternatives, part by part. Assumes nothing.
use Rattle.std.proofs.Common.{◌≡◌, ℕ, ◌<◌, Bool, true, false, cond, ◌||◌, eqb, ltb, ◌⊎◌, inl, inr, List, [], ◌∷◌, ◌++◌, length, Ordering, Less, Equal, Greater, sym, refl, ap, ◌∙◌, ap₂, arith}
use Rattle.std.proofs.lemmas.Bool.{cases_order, eq-eqb, lt-ltb, le-ltb, true≢false}
use Rattle.std.proofs.lemmas.Bool.Decides.{nat_tests}
use Rattle.std.proofs.lemmas.List.{append-nil}
use Rattle.std.specs.Ordering.{nat_cmp, ordering_then, is_ne}
use Rattle.std.specs.Cmp.Lexicographic.{slice_cmp}
use Rattle.membership.specs.Rows.{Alt, any, plain, iter, callable, kind, list, tuple, tuple_of, dict, custom, set_of, rank, numbers, order, compared}
use Rattle.typing.specs.View.{own_number, first_parts, second_parts, by_parts}

cmp_equal : (x y : ℕ) → x ≡ y → nat_cmp x y ≡ Equal
cmp_equal x y e = let a = le-ltb x y (omega arith) in let b = eq-eqb x y e in rw (a, b) refl

cmp_less : (x y : ℕ) → x < y → nat_cmp x y ≡ Less
cmp_less x y l = rw (lt-ltb x y l) refl

cmp_greater : (x y : ℕ) → y < x → nat_cmp x y ≡ Greater
cmp_greater x y l = let a = le-ltb x y (omega arith) in let b : eqb x y ≡ false = grind (arith, nat_tests) in rw (a, b) refl

order_cons : (x y : ℕ) (o : Ordering) → cond (ltb x y) Less (cond (ltb y x) Greater o) ≡ ordering_then (nat_cmp x y) o
order_cons x y o = go (cases_order x y)
  where
    go : (x ≡ y) ⊎ ((x < y) ⊎ (y < x)) → cond (ltb x y) Less (cond (ltb y x) Greater o) ≡ ordering_then (nat_cmp x y) o
    go (inl e) = rw (le-ltb x y (omega arith), le-ltb y x (omega arith), eq-eqb x y e) refl
    go (inr (inl l)) = rw (lt-ltb x y l) refl
    go (inr (inr l)) = let b : eqb x y ≡ false = grind (arith, nat_tests) in rw (le-ltb x y (omega arith), lt-ltb y x l, b) refl

order_is : (xs ys : List ℕ) → order xs ys ≡ slice_cmp nat_cmp xs ys
order_is [] [] = refl
order_is [] (y ∷ ys) = refl
order_is (x ∷ xs) [] = refl
order_is (x ∷ xs) (y ∷ ys) = order_cons x y (order xs ys) ∙ ap (ordering_then (nat_cmp x y)) (order_is xs ys)

then_then : (a b c : Ordering) → ordering_then (ordering_then a b) c ≡ ordering_then a (ordering_then b c)
then_then Less b c = refl
then_then Equal b c = refl
then_then Greater b c = refl

then_equal : (a : Ordering) → ordering_then a Equal ≡ a
then_equal Less = refl
then_equal Equal = refl
then_equal Greater = refl

then_second : (a b : Ordering) → is_ne a ≡ false → ordering_then a b ≡ b
then_second Less b e = absurd (true≢false e)
then_second Equal b e = refl
then_second Greater b e = absurd (true≢false e)

both : (p q r s : List ℕ) → length p ≡ length r → slice_cmp nat_cmp (p ++ q) (r ++ s) ≡ ordering_then (slice_cmp nat_cmp p r) (slice_cmp nat_cmp q s)
both [] q [] s e = refl
both [] q (y ∷ r) s e = absurd (omega arith)
both (x ∷ p) q [] s e = absurd (omega arith)
both (x ∷ p) q (y ∷ r) s e = ap (ordering_then (nat_cmp x y)) (both p q r s (omega arith)) ∙ sym (then_then (nat_cmp x y) (slice_cmp nat_cmp p r) (slice_cmp nat_cmp q s))

-- the numbers of a kind: its own, if it has one, and its parts
abbrev has_own : ℕ → Bool
has_own n = eqb n 1 || eqb n 9

abbrev has_part : ℕ → Bool
has_part n = eqb n 2 || (eqb n 5 || (eqb n 7 || (eqb n 8 || eqb n 10)))

abbrev own : Alt → List ℕ
own x = cond (has_own (rank x)) (own_number x ∷ []) []

record Shape (x : Alt) : Type 0 where
  numbers_are : numbers x ≡ own x ++ (first_parts x ++ second_parts x)
  no_own : own_number x ≡ cond (has_own (rank x)) (own_number x) 0
  few : length (first_parts x) ≡ cond (eqb (rank x) 6) (length (first_parts x)) (cond (has_part (rank x)) 1 0)
  last : second_parts x ≡ cond (eqb (rank x) 6) [] (second_parts x)

shape : (x : Alt) → Shape x
shape any = record { numbers_are = refl; no_own = refl; few = refl; last = refl }
shape (plain n) = record { numbers_are = refl; no_own = refl; few = refl; last = refl }
shape (iter t) = record { numbers_are = refl; no_own = refl; few = refl; last = refl }
shape callable = record { numbers_are = refl; no_own = refl; few = refl; last = refl }
shape kind = record { numbers_are = refl; no_own = refl; few = refl; last = refl }
shape (list t) = record { numbers_are = refl; no_own = refl; few = refl; last = refl }
shape (tuple ts) = record { numbers_are = sym (append-nil ts); no_own = refl; few = refl; last = refl }
shape (tuple_of t) = record { numbers_are = refl; no_own = refl; few = refl; last = refl }
shape (dict k v) = record { numbers_are = refl; no_own = refl; few = refl; last = refl }
shape (custom n) = record { numbers_are = refl; no_own = refl; few = refl; last = refl }
shape (set_of t) = record { numbers_are = refl; no_own = refl; few = refl; last = refl }

own_long : (b : Bool) (m n : ℕ) → length (cond b (m ∷ []) []) ≡ length (cond b (n ∷ []) [])
own_long true m n = refl
own_long false m n = refl

own_cmp : (b : Bool) (m n : ℕ) → m ≡ cond b m 0 → n ≡ cond b n 0 → slice_cmp nat_cmp (cond b (m ∷ []) []) (cond b (n ∷ []) []) ≡ nat_cmp m n
own_cmp true m n p q = then_equal (nat_cmp m n)
own_cmp false m n p q = sym (cmp_equal m n (p ∙ sym q))

part_cmp : (b : Bool) (k : ℕ) (p q r s : List ℕ) → length p ≡ cond b (length p) k → length r ≡ cond b (length r) k → q ≡ cond b [] q → s ≡ cond b [] s → slice_cmp nat_cmp (p ++ q) (r ++ s) ≡ ordering_then (slice_cmp nat_cmp p r) (slice_cmp nat_cmp q s)
part_cmp false k p q r s e f g h = both p q r s (e ∙ sym f)
part_cmp true k p q r s e f g h =
    ap₂ (λ (y z : List ℕ). slice_cmp nat_cmp (p ++ y) (r ++ z)) g h ∙ ap₂ (slice_cmp nat_cmp) (append-nil p) (append-nil r)
    ∙ sym (then_equal (slice_cmp nat_cmp p r)) ∙ sym (ap₂ (λ (y z : List ℕ). ordering_then (slice_cmp nat_cmp p r) (slice_cmp nat_cmp y z)) g h)

module _ (x y : Alt) where
  abbrev rest : Ordering
  rest = ordering_then (nat_cmp (own_number x) (own_number y)) (ordering_then (slice_cmp nat_cmp (first_parts x) (first_parts y)) (slice_cmp nat_cmp (second_parts x) (second_parts y)))

  same_kind : rank x ≡ rank y → order (numbers x) (numbers y) ≡ rest
  same_kind e =
      let s = shape x in
      let t = shape y in
      let b = has_own (rank x) in
      let own_y : own y ≡ cond b (own_number y ∷ []) [] = ap (λ (n : ℕ). cond (has_own n) (own_number y ∷ []) []) (sym e) in
      let none_y : own_number y ≡ cond b (own_number y) 0 = t.no_own ∙ ap (λ (n : ℕ). cond (has_own n) (own_number y) 0) (sym e) in
      let few_y = t.few ∙ ap (λ (n : ℕ). cond (eqb n 6) (length (first_parts y)) (cond (has_part n) 1 0)) (sym e) in
      let last_y = t.last ∙ ap (λ (n : ℕ). cond (eqb n 6) [] (second_parts y)) (sym e) in
      ap₂ order s.numbers_are (t.numbers_are ∙ ap (λ (z : List ℕ). z ++ (first_parts y ++ second_parts y)) own_y) ∙ order_is (own x ++ (first_parts x ++ second_parts x)) (cond b (own_number y ∷ []) [] ++ (first_parts y ++ second_parts y))
      ∙ both (own x) (first_parts x ++ second_parts x) (cond b (own_number y ∷ []) []) (first_parts y ++ second_parts y) (own_long b (own_number x) (own_number y))
      ∙ ap₂ ordering_then (own_cmp b (own_number x) (own_number y) s.no_own none_y)
      (part_cmp (eqb (rank x) 6) (cond (has_part (rank x)) 1 0) (first_parts x) (second_parts x) (first_parts y) (second_parts y) s.few few_y s.last last_y)

  pub compared_parts : compared x y ≡ ordering_then (ordering_then (ordering_then (nat_cmp (rank x) (rank y)) (nat_cmp (own_number x) (own_number y))) (slice_cmp nat_cmp (first_parts x) (first_parts y))) (slice_cmp nat_cmp (second_parts x) (second_parts y))
  compared_parts = order_cons (rank x) (rank y) (order (numbers x) (numbers y)) ∙ go (cases_order (rank x) (rank y)) ∙ sym nest
    where
      go : (rank x ≡ rank y) ⊎ ((rank x < rank y) ⊎ (rank y < rank x)) → ordering_then (nat_cmp (rank x) (rank y)) (order (numbers x) (numbers y)) ≡ ordering_then (nat_cmp (rank x) (rank y)) rest
      go (inl e) = ap (ordering_then (nat_cmp (rank x) (rank y))) (same_kind e)
      go (inr (inl l)) = ap₂ ordering_then (cmp_less (rank x) (rank y) l) refl ∙ sym (ap₂ ordering_then (cmp_less (rank x) (rank y) l) refl)
      go (inr (inr l)) = ap₂ ordering_then (cmp_greater (rank x) (rank y) l) refl ∙ sym (ap₂ ordering_then (cmp_greater (rank x) (rank y) l) refl)

      nest : ordering_then (ordering_then (ordering_then (nat_cmp (rank x) (rank y)) (nat_cmp (own_number x) (own_number y))) (slice_cmp nat_cmp (first_parts x) (first_parts y))) (slice_cmp nat_cmp (second_parts x) (second_parts y)) ≡ ordering_then (nat_cmp (rank x) (rank y)) rest
      nest =
          then_then (ordering_then (nat_cmp (rank x) (rank y)) (nat_cmp (own_number x) (own_number y))) (slice_cmp nat_cmp (first_parts x) (first_parts y)) (slice_cmp nat_cmp (second_parts x) (second_parts y))
          ∙ then_then (nat_cmp (rank x) (rank y)) (nat_cmp (own_number x) (own_number y)) (ordering_then (slice_cmp nat_cmp (first_parts x) (first_parts y)) (slice_cmp nat_cmp (second_parts x) (second_parts y)))

  -- the kind and the number first, and the parts where these are equal
  pub compared_kinds : compared x y ≡ ordering_then (nat_cmp (rank x) (rank y)) (ordering_then (nat_cmp (own_number x) (own_number y)) (by_parts x y))
  compared_kinds =
      compared_parts
      ∙ then_then (ordering_then (nat_cmp (rank x) (rank y)) (nat_cmp (own_number x) (own_number y))) (slice_cmp nat_cmp (first_parts x) (first_parts y)) (slice_cmp nat_cmp (second_parts x) (second_parts y))
      ∙ then_then (nat_cmp (rank x) (rank y)) (nat_cmp (own_number x) (own_number y)) (by_parts x y)

  -- where kinds and numbers are found equal, the parts decide
  pub parts_decide : (r s m n : ℕ) (o p : Ordering) → r ≡ rank x → s ≡ rank y → m ≡ own_number x → n ≡ own_number y → o ≡ nat_cmp r s → p ≡ nat_cmp m n → is_ne o ≡ false → is_ne p ≡ false → compared x y ≡ by_parts x y
  parts_decide r s m n o p a b c d e f g h =
      compared_kinds
      ∙ then_second (nat_cmp (rank x) (rank y)) (ordering_then (nat_cmp (own_number x) (own_number y)) (by_parts x y)) (sym (ap is_ne (e ∙ ap₂ nat_cmp a b)) ∙ g)
      ∙ then_second (nat_cmp (own_number x) (own_number y)) (by_parts x y) (sym (ap is_ne (f ∙ ap₂ nat_cmp c d)) ∙ h)
