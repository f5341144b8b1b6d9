-- What a node accepts, place by place. Assumes nothing.
use Rattle.std.proofs.Common.{◌≡◌, ℕ, zero, suc, ◌+◌, ◌%◌, ◌<◌, Bool, true, false, cond, ◌&&◌, eqb, List, [], ◌∷◌, length, get_or, sym, refl, ap, ◌∙◌, ap₂, add-zero, zero-add, arith}
use Rattle.std.proofs.lemmas.Bool.{eqb-true, eqb-false, and_right}
use Rattle.std.proofs.lemmas.Bool.Decides.{nat_tests}
use Rattle.values.specs.Cells.{Cell, cell_at}
use Rattle.custom.specs.Worlds.{World}
use Rattle.matcher.specs.Nodes.{Node, node_at_lem, arity, valid}
use Rattle.matcher.specs.Meaning.{Test, nay, first, second, all, entries, placed, some, kind_says, kid_tests, tests, accepts}
use Rattle.matcher.specs.declared.kind.Kind.{Kind}
use Rattle.matcher.specs.declared.kind.Kind.TheVariants.{IsAny, IsNever, IsStr, IsList, IsListOf, IsTupleOf, IsTupleElems, IsTupleElems0, IsTupleElems1, IsTupleElems2, IsDict, IsDictOf, IsSet, IsSetOf, IsAnyOfTwo, IsAnyOf, IsCallable, IsType, IsIterable, IsInt, IsBool, IsNone, StarlarkTypeIdMatcher, Custom}
use Rattle.matching.specs.Shapes.{every_if, shape_of, kid_by_lem, inside, shape, settle, kid_of, sub_of, holds}
use Rattle.matching.specs.declared.asked.Quantifier.TheVariants.{Every, Either}
use Rattle.matching.proofs.Valids.{facts}

if_every : (t : Bool) (m : ℕ) (p : ℕ → Bool) {r : Bool} → holds Every p 0 m ≡ r → settle (every_if t m) p ≡ (t && r)
if_every true m p h = h
if_every false m p h = refl

none_asked : (t : Bool) (p : ℕ → Bool) → t ≡ settle (every_if t 0) p
unfolding holds
none_asked true p = refl
none_asked false p = refl

one_on : (p : ℕ → Bool) (i j : ℕ) (r : Bool) → p (i + suc j) ≡ r → p (i + 1 + j) ≡ r
one_on p i j r h = let e : i + 1 + j ≡ i + suc j = omega arith in ap p e ∙ h

every_all : (p q : ℕ → Bool) (xs : List ℕ) (i : ℕ) → ((j : ℕ) → j < length xs → p (i + j) ≡ q (get_or xs j 0)) → holds Every p i (length xs) ≡ all q xs
unfolding holds
every_all p q [] i h = refl
every_all p q (x ∷ xs) i h =
    rw (ap p (sym (add-zero i)) ∙ h 0 (omega arith), every_all p q xs (i + 1) (λ j l. one_on p i j _ (h (suc j) (omega arith)))) refl

turned : (j : ℕ) (a b : Bool) → cond (eqb (suc j % 2) 0) a b ≡ cond (eqb (j % 2) 0) b a
turned j a b = grind (arith, nat_tests)

every_entries : (f p q : ℕ → Bool) (xs : List ℕ) (i : ℕ) → ((j : ℕ) → j < length xs → f (i + j) ≡ cond (eqb (j % 2) 0) (p (get_or xs j 0)) (q (get_or xs j 0))) → holds Every f i (length xs) ≡ entries p q xs
unfolding holds
every_entries f p q [] i h = refl
every_entries f p q (x ∷ xs) i h =
    rw (ap f (sym (add-zero i)) ∙ h 0 (omega arith), every_entries f q p xs (i + 1) (λ j l. one_on f i j _ (h (suc j) (omega arith) ∙ turned j _ _))) refl

parity : (q : ℕ → Bool) (ks : List ℕ) (j : ℕ) → q (get_or ks (j % 2) 0) ≡ cond (eqb (j % 2) 0) (q (get_or ks 0 0)) (q (get_or ks 1 0))
parity q ks j = grind (arith, nat_tests)

module _ (ts : List Test) where
  -- what the kid at a place of ks says
  abbrev kid : List ℕ → ℕ → Test
  kid ks i = get_or ts (get_or ks i 0) nay

  kid_at : (ks : List ℕ) (i : ℕ) → i < length ks → kid ks i ≡ get_or (kid_tests ts ks) i nay
  kid_at [] i l = absurd (omega arith)
  kid_at (k ∷ ks) zero l = refl
  kid_at (k ∷ ks) (suc i) l = kid_at ks i (omega arith)

  either_some : (f : ℕ → Bool) (ks : List ℕ) (v i : ℕ) → ((j : ℕ) → j < length ks → f (i + j) ≡ kid ks j v) → holds Either f i (length ks) ≡ some (kid_tests ts ks) v
  unfolding holds
  either_some f [] v i h = refl
  either_some f (k ∷ ks) v i h =
      rw (ap f (sym (add-zero i)) ∙ h 0 (omega arith), either_some f ks v (i + 1) (λ j l. one_on f i j _ (h (suc j) (omega arith)))) refl

  every_placed : (f : ℕ → Bool) (ks xs : List ℕ) (i : ℕ) → length xs ≡ length ks → ((j : ℕ) → j < length ks → f (i + j) ≡ kid ks j (get_or xs j 0)) → holds Every f i (length ks) ≡ placed (kid_tests ts ks) xs
  unfolding holds
  every_placed f [] [] i e h = refl
  every_placed f [] (x ∷ xs) i e h = absurd (omega arith)
  every_placed f (k ∷ ks) [] i e h = absurd (omega arith)
  every_placed f (k ∷ ks) (x ∷ xs) i e h =
      rw (ap f (sym (add-zero i)) ∙ h 0 (omega arith), every_placed f ks xs (i + 1) (omega arith) (λ j l. one_on f i j _ (h (suc j) (omega arith)))) refl

  -- another count of parts than of kids
  not_placed : (ks xs : List ℕ) → (length xs ≡ length ks → ⊥) → placed (kid_tests ts ks) xs ≡ false
  not_placed [] [] h = absurd (h refl)
  not_placed [] (x ∷ xs) h = refl
  not_placed (k ∷ ks) [] h = refl
  not_placed (k ∷ ks) (x ∷ xs) h = and_right _ _ (not_placed ks xs (λ e. h (omega arith)))

  list_says : (t : Bool) (ks xs : List ℕ) → 0 < length ks → settle (every_if t (length xs)) (λ i. kid ks 0 (get_or xs i 0)) ≡ (t && all (first (kid_tests ts ks)) xs)
  list_says t ks xs l =
      if_every t (length xs) (λ i. kid ks 0 (get_or xs i 0)) (every_all (λ i. kid ks 0 (get_or xs i 0)) (first (kid_tests ts ks)) xs 0 (λ j m. ap (λ x. kid ks 0 (get_or xs x 0)) (zero-add j) ∙ ap (λ (p : Test). p (get_or xs j 0)) (kid_at ks 0 l)))

  dict_says : (t : Bool) (ks xs : List ℕ) → 1 < length ks → settle (every_if t (length xs)) (λ i. kid ks (i % 2) (get_or xs i 0)) ≡ (t && entries (first (kid_tests ts ks)) (second (kid_tests ts ks)) xs)
  dict_says t ks xs l =
      if_every t (length xs) (λ i. kid ks (i % 2) (get_or xs i 0)) (every_entries (λ i. kid ks (i % 2) (get_or xs i 0)) (first (kid_tests ts ks)) (second (kid_tests ts ks)) xs 0 (λ j m. turn j))
    where
      turn : (j : ℕ) → kid ks ((0 + j) % 2) (get_or xs (0 + j) 0) ≡ cond (eqb (j % 2) 0) (first (kid_tests ts ks) (get_or xs j 0)) (second (kid_tests ts ks) (get_or xs j 0))
      turn j =
          ap (λ x. kid ks (x % 2) (get_or xs x 0)) (zero-add j)
          ∙ parity (λ x. get_or ts x nay (get_or xs j 0)) ks j
          ∙ ap₂ (λ (p q : Test). cond (eqb (j % 2) 0) (p (get_or xs j 0)) (q (get_or xs j 0))) (kid_at ks 0 (omega arith)) (kid_at ks 1 l)

  tuple_says : (t : Bool) (m : ℕ) (ks xs : List ℕ) → length ks ≡ m → settle (every_if (t && eqb (length xs) m) m) (λ i. kid ks i (get_or xs i 0)) ≡ (t && placed (kid_tests ts ks) xs)
  tuple_says false m ks xs e = refl
  tuple_says true m ks xs e = by (eqb (length xs) m) refl
    where
      by : (b : Bool) → eqb (length xs) m ≡ b → settle (every_if b m) (λ i. kid ks i (get_or xs i 0)) ≡ placed (kid_tests ts ks) xs
      by true h = ap (holds Every (λ i. kid ks i (get_or xs i 0)) 0) (sym e) ∙ every_placed (λ i. kid ks i (get_or xs i 0)) ks xs 0 (eqb-true (length xs) m h ∙ sym e) (λ j l. ap (λ x. kid ks x (get_or xs x 0)) (zero-add j))
      by false h = sym (not_placed ks xs (λ l. eqb-false (length xs) m h (l ∙ e)))

  union_says : (m : ℕ) (ks : List ℕ) (v : ℕ) → length ks ≡ m → holds Either (λ i. kid ks i v) 0 m ≡ some (kid_tests ts ks) v
  union_says m ks v e = ap (holds Either (λ i. kid ks i v) 0) (sym e) ∙ either_some (λ i. kid ks i v) ks v 0 (λ j l. ap (λ x. kid ks x v) (zero-add j))

  by_kind : (W : World) (k : Kind) (d : Node) (c : Cell) (v : ℕ) → arity k (length d.kids) ≡ true → settle (shape_of k d c W.says) (λ i. kid d.kids (kid_by_lem k i) (cond (inside k) (get_or c.parts i 0) v)) ≡ kind_says W k d.number (kid_tests ts d.kids) v c
  by_kind W IsAny d c v a = refl
  by_kind W IsNever d c v a = refl
  by_kind W IsStr d c v a = refl
  by_kind W IsList d c v a = refl
  by_kind W IsListOf d c v a = list_says (eqb c.ty 5) d.kids c.parts (omega (arith, eqb-true (length d.kids) 1 a))
  by_kind W IsTupleOf d c v a = list_says (eqb c.ty 8) d.kids c.parts (omega (arith, eqb-true (length d.kids) 1 a))
  by_kind W IsTupleElems d c v a = tuple_says (eqb c.ty 8) (length d.kids) d.kids c.parts refl
  by_kind W IsTupleElems0 d c v a = none_asked (eqb c.ty 8 && eqb (length c.parts) 0) (λ i. kid d.kids i (get_or c.parts i 0)) ∙ tuple_says (eqb c.ty 8) 0 d.kids c.parts (eqb-true (length d.kids) 0 a)
  by_kind W IsTupleElems1 d c v a = tuple_says (eqb c.ty 8) 1 d.kids c.parts (eqb-true (length d.kids) 1 a)
  by_kind W IsTupleElems2 d c v a = tuple_says (eqb c.ty 8) 2 d.kids c.parts (eqb-true (length d.kids) 2 a)
  by_kind W IsDict d c v a = refl
  by_kind W IsDictOf d c v a = dict_says (eqb c.ty 6) d.kids c.parts (omega (arith, eqb-true (length d.kids) 2 a))
  by_kind W IsSet d c v a = refl
  by_kind W IsSetOf d c v a = list_says (eqb c.ty 7) d.kids c.parts (omega (arith, eqb-true (length d.kids) 1 a))
  by_kind W IsAnyOfTwo d c v a = union_says 2 d.kids v (eqb-true (length d.kids) 2 a)
  by_kind W IsAnyOf d c v a = union_says (length d.kids) d.kids v refl
  by_kind W IsCallable d c v a = refl
  by_kind W IsType d c v a = refl
  by_kind W IsIterable d c v a = refl
  by_kind W IsInt d c v a = refl
  by_kind W IsBool d c v a = refl
  by_kind W IsNone d c v a = refl
  by_kind W StarlarkTypeIdMatcher d c v a = refl
  by_kind W Custom d c v a = refl

-- a node accepts what its shape answers, where its places say what their kids accept
pub accepts_by_places : (W : World) (limit : ℕ) (ns : List Node) → valid limit ns ≡ true → (n v : ℕ) → n < length ns → accepts W ns n v ≡ settle (shape W ns n v) (λ i. accepts W ns (kid_of ns n i) (sub_of W.cells ns n v i))
unfolding shape kid_of sub_of
accepts_by_places W limit ns valid n v l =
    let f = facts W limit ns valid n l in
    ap (λ (p : Test). p v) f.tells ∙ sym (by_kind (tests W ns) W (node_at_lem ns n).kind (node_at_lem ns n) (cell_at W.cells v) v f.form)
