-- What the nodes of a store accept. Assumes nothing.
use Rattle.std.proofs.Common.{◌≡◌, ℕ, ◌+◌, ◌<◌, ◌≤◌, Bool, true, false, cond, ◌&&◌, ◌||◌, eqb, ltb, ◌⊎◌, List, [], ◌∷◌, ◌++◌, length, get_or, sym, refl, ap, ◌∙◌, subst, ap₂, inl, inr, append_assoc, append-nil, arith, length-append}
use Rattle.std.proofs.Math.Bool.{and-true}
use Rattle.std.proofs.lemmas.List.{get_or_append_left, get_or_push}
use Rattle.std.proofs.lemmas.Bool.{and_parts, and_from, ltb-true, cases_lt, eqb-true, or_left, or_right}
use Rattle.std.proofs.lemmas.Slice.Eq.{bytes_eq-Decides}
use Rattle.matcher.specs.Nodes.{Node, node, no_node, node_at_lem, all_below, fault, is_granted, roomy, valid, valid_from, find, same_node, place, put, ordinal}
use Rattle.matcher.specs.declared.kind.Kind.{Kind}
use Rattle.matcher.specs.declared.kind.Kind.TheVariants.{IsAny, IsNever, IsStr, IsList, IsListOf, IsTupleOf, IsTupleElems, IsTupleElems0, IsTupleElems1, IsTupleElems2, IsDict, IsDictOf, IsSet, IsSetOf, IsAnyOfTwo, IsAnyOf, IsCallable, IsType, IsIterable, IsInt, IsBool, IsNone, StarlarkTypeIdMatcher, Custom}
use Rattle.matcher.proofs.Grows.{granted, place_low, place_plain, place_sharing, put_new, put_old}
use Rattle.matcher.specs.Meaning.{Test, nay, all, entries, some, says, kid_tests, node_test, tests_from, tests}
use Rattle.values.specs.Cells.{cell_at}
use Rattle.custom.specs.Worlds.{World}
use Rattle.compiling.specs.Code.{chosen}
use Rattle.compiling.specs.Written.{is_any_kind_lem, wildcard, every_wildcard, some_wildcard}
use Rattle.compiling.specs.declared.tasks.Op.{Op}
use Rattle.compiling.specs.declared.tasks.Op.TheVariants.{Write, ListOf, SetOf, DictOf, AnyOfTwo, AnyOf}
use Rattle.compiling.proofs.Writes.{find_same, below_more}

module _ (W : World) where
  push_from : (ts : List Test) (ns : List Node) (d : Node) → tests_from W ts (ns ++ d ∷ []) ≡ tests_from W ts ns ++ node_test W (tests_from W ts ns) d ∷ []
  push_from ts [] d = refl
  push_from ts (x ∷ ns) d = push_from (ts ++ node_test W ts x ∷ []) ns d

  pub tests_push : (ns : List Node) (d : Node) → tests W (ns ++ d ∷ []) ≡ tests W ns ++ node_test W (tests W ns) d ∷ []
  unfolding tests
  tests_push ns d = push_from [] ns d

  long_from : (ts : List Test) (ns : List Node) → length (tests_from W ts ns) ≡ length ts + length ns
  long_from ts [] = omega arith
  long_from ts (x ∷ ns) = long_from (ts ++ node_test W ts x ∷ []) ns ∙ omega (arith, length-append ts (node_test W ts x ∷ []))

  pub tests_long : (ns : List Node) → length (tests W ns) ≡ length ns
  unfolding tests
  tests_long ns = long_from [] ns ∙ omega arith

  -- what ns accepts, ms accepts
  pub record Said (ns ms : List Node) : Type 0 where
    pub longer : length ns ≤ length ms
    pub same : (k : ℕ) → k < length ns → get_or (tests W ms) k nay ≡ get_or (tests W ns) k nay

  pub said_refl : (ns : List Node) → Said ns ns
  said_refl ns = record { longer = omega arith; same = λ k l. refl }

  pub said_trans : (ns ms ls : List Node) → Said ns ms → Said ms ls → Said ns ls
  said_trans ns ms ls f g = record { longer = omega (arith, f.longer, g.longer); same = λ k l. g.same k (omega (arith, f.longer)) ∙ f.same k l }

  pub said_push : (ns : List Node) (d : Node) → Said ns (ns ++ d ∷ [])
  said_push ns d =
      record {
        longer = omega (arith, length-append ns (d ∷ []));
        same = λ k l. ap (λ ts. get_or ts k nay) (tests_push ns d) ∙ get_or_append_left (tests W ns) (node_test W (tests W ns) d ∷ []) nay k (omega (arith, tests_long ns));
      }

  pub kids_same : (ns ms : List Node) (ks : List ℕ) → Said ns ms → all_below (length ns) ks ≡ true → kid_tests (tests W ms) ks ≡ kid_tests (tests W ns) ks
  kids_same ns ms [] f b = refl
  kids_same ns ms (k ∷ ks) f b =
      let p = and_parts (ltb k (length ns)) (all_below (length ns) ks) b in
      ap₂ ◌∷◌ (f.same k (ltb-true k (length ns) p.0)) (kids_same ns ms ks f p.1)

  pub kids_append : (ts : List Test) (ks js : List ℕ) → kid_tests ts (ks ++ js) ≡ kid_tests ts ks ++ kid_tests ts js
  kids_append ts [] js = refl
  kids_append ts (k ∷ ks) js = ap (λ xs. get_or ts k nay ∷ xs) (kids_append ts ks js)

  abbrev pub Speak : List Node → Type 0
  Speak ns = (n : ℕ) → n < length ns → (get_or (tests W ns) n nay ≡ node_test W (tests W ns) (node_at_lem ns n)) × (all_below (length ns) (node_at_lem ns n).kids ≡ true)

  says_kids : (ts us : List Test) (d : Node) → kid_tests ts d.kids ≡ kid_tests us d.kids → node_test W ts d ≡ node_test W us d
  says_kids ts us d e = ap (says W d.kind d.number) e

  top_is : (ns : List Node) (x : Node) → get_or (tests W (ns ++ x ∷ [])) (length ns) nay ≡ node_test W (tests W ns) x
  top_is ns x = ap (λ ts. get_or ts (length ns) nay) (tests_push ns x) ∙ get_or_push (tests W ns) (node_test W (tests W ns) x) nay (length ns) (tests_long ns)

  speak_push : (ns : List Node) (x : Node) → Speak ns → all_below (length ns) x.kids ≡ true → Speak (ns ++ x ∷ [])
  speak_push ns x sp below n l = by (cases_lt n (length ns))
    where
      f : Said ns (ns ++ x ∷ [])
      f = said_push ns x

      long : length (ns ++ x ∷ []) ≡ length ns + 1
      long = length-append ns (x ∷ []) ∙ omega arith

      by : (n < length ns) ⊎ (length ns ≤ n) → (get_or (tests W (ns ++ x ∷ [])) n nay ≡ node_test W (tests W (ns ++ x ∷ [])) (node_at_lem (ns ++ x ∷ []) n)) × (all_below (length (ns ++ x ∷ [])) (node_at_lem (ns ++ x ∷ []) n).kids ≡ true)
      by (inl h) =
          let is : node_at_lem (ns ++ x ∷ []) n ≡ node_at_lem ns n = get_or_append_left ns (x ∷ []) no_node n h in
          let d = sp n h in
          subst (λ y. (get_or (tests W (ns ++ x ∷ [])) n nay ≡ node_test W (tests W (ns ++ x ∷ [])) y) × (all_below (length (ns ++ x ∷ [])) y.kids ≡ true)) (sym is)
          (f.same n h ∙ d.0 ∙ sym (says_kids (tests W (ns ++ x ∷ [])) (tests W ns) (node_at_lem ns n) (kids_same ns (ns ++ x ∷ []) (node_at_lem ns n).kids f d.1)), below_more (length ns) (length (ns ++ x ∷ [])) (node_at_lem ns n).kids (omega (arith, long)) d.1)
      by (inr h) =
          let e : n ≡ length ns = omega (arith, long) in
          let is : node_at_lem (ns ++ x ∷ []) n ≡ x = ap (node_at_lem (ns ++ x ∷ [])) e ∙ get_or_push ns x no_node (length ns) refl in
          subst (λ y. (get_or (tests W (ns ++ x ∷ [])) n nay ≡ node_test W (tests W (ns ++ x ∷ [])) y) × (all_below (length (ns ++ x ∷ [])) y.kids ≡ true)) (sym is)
          (ap (λ m. get_or (tests W (ns ++ x ∷ [])) m nay) e ∙ top_is ns x ∙ sym (says_kids (tests W (ns ++ x ∷ [])) (tests W ns) x (kids_same ns (ns ++ x ∷ []) x.kids f below)), below_more (length ns) (length (ns ++ x ∷ [])) x.kids (omega (arith, long)) below)

  speak_from : (limit : ℕ) (b ns : List Node) → Speak b → valid_from limit b ns ≡ true → Speak (b ++ ns)
  speak_from limit b [] sp v = subst Speak (sym (append-nil b)) sp
  speak_from limit b (x ∷ ns) sp v =
      let p = and_parts (is_granted (fault b x) && roomy limit b x) (valid_from limit (b ++ x ∷ []) ns) v in
      let q = and_parts (is_granted (fault b x)) (roomy limit b x) p.0 in
      subst Speak (append_assoc b (x ∷ []) ns) (speak_from limit (b ++ x ∷ []) ns (speak_push b x sp (granted b x q.0).below) p.1)

  pub valid_speak : (limit : ℕ) (ns : List Node) → valid limit ns ≡ true → Speak ns
  unfolding valid
  valid_speak limit ns v = speak_from limit [] ns (λ n l. absurd (omega arith)) v

-- equal ordinals, equal kinds
kinds : List Kind
kinds = IsAny ∷ IsNever ∷ IsStr ∷ IsList ∷ IsListOf ∷ IsTupleOf ∷ IsTupleElems ∷ IsTupleElems0 ∷ IsTupleElems1 ∷ IsTupleElems2 ∷ IsDict ∷ IsDictOf ∷ IsSet ∷ IsSetOf ∷ IsAnyOfTwo ∷ IsAnyOf ∷ IsCallable ∷ IsType ∷ IsIterable ∷ IsInt ∷ IsBool ∷ IsNone ∷ StarlarkTypeIdMatcher ∷ Custom ∷ []

kind_back : (k : Kind) → get_or kinds (ordinal k) IsAny ≡ k
unfolding kinds
kind_back IsAny = refl
kind_back IsNever = refl
kind_back IsStr = refl
kind_back IsList = refl
kind_back IsListOf = refl
kind_back IsTupleOf = refl
kind_back IsTupleElems = refl
kind_back IsTupleElems0 = refl
kind_back IsTupleElems1 = refl
kind_back IsTupleElems2 = refl
kind_back IsDict = refl
kind_back IsDictOf = refl
kind_back IsSet = refl
kind_back IsSetOf = refl
kind_back IsAnyOfTwo = refl
kind_back IsAnyOf = refl
kind_back IsCallable = refl
kind_back IsType = refl
kind_back IsIterable = refl
kind_back IsInt = refl
kind_back IsBool = refl
kind_back IsNone = refl
kind_back StarlarkTypeIdMatcher = refl
kind_back Custom = refl

ordinal_one : (a b : Kind) → ordinal a ≡ ordinal b → a ≡ b
unfolding kinds
ordinal_one a b e = sym (kind_back a) ∙ ap (λ n. get_or kinds n IsAny) e ∙ kind_back b

pub same_is : (a b : Node) → same_node a b ≡ true → a ≡ b
same_is a b s =
    let p = and_parts _ _ s in
    let q = and_parts _ _ p.0 in
    let k = ordinal_one a.kind b.kind (eqb-true _ _ q.0) in
    let n = eqb-true a.number b.number q.1 in
    let ks = (bytes_eq-Decides a.kids b.kids).0 p.1 in
    λ i. record { kind = k i; number = n i; kids = ks i }

module _ (W : World) (sh : Bool) (limit : ℕ) (ns : List Node) (x : Node) (v : valid limit ns ≡ true) where
  place_node : place sh ns x < length ns → node_at_lem ns (place sh ns x) ≡ x
  place_node l = by sh refl l
    where
      by : (b : Bool) → sh ≡ b → place sh ns x < length ns → node_at_lem ns (place sh ns x) ≡ x
      by false e h = absurd (omega (arith, ap (λ s. place s ns x) e, place_plain ns x))
      by true e h =
          let q : place sh ns x ≡ find ns x = ap (λ s. place s ns x) e ∙ place_sharing ns x in
          ap (node_at_lem ns) q ∙ same_is (node_at_lem ns (find ns x)) x (find_same ns x (omega (arith, q)))

  pub record Spoken (n : ℕ) (ms : List Node) : Type 0 where
    pub said : Said W ns ms
    pub says_so : get_or (tests W ms) n nay ≡ node_test W (tests W ns) x

  pub spoken : Spoken (place sh ns x) (put ns x (place sh ns x))
  spoken = by (cases_lt (place sh ns x) (length ns))
    where
      by : (place sh ns x < length ns) ⊎ (length ns ≤ place sh ns x) → Spoken (place sh ns x) (put ns x (place sh ns x))
      by (inl h) = subst (Spoken (place sh ns x)) (sym (put_old ns x (place sh ns x) h)) (record { said = said_refl W ns; says_so = (valid_speak W limit ns v (place sh ns x) h).0 ∙ ap (node_test W (tests W ns)) (place_node h) })
      by (inr h) =
          let e : place sh ns x ≡ length ns = omega (arith, place_low sh ns x) in
          subst (Spoken (place sh ns x)) (sym (put_new ns x (place sh ns x) h)) (record { said = said_push W ns x; says_so = ap (λ m. get_or (tests W (ns ++ x ∷ [])) m nay) e ∙ top_is W ns x })

-- what a step's node accepts, by what its kids accept
abbrev pub op_says : World → Op → List Test → Test
op_says W (Write k m n) ps = says W k m ps
op_says W ListOf ps = says W IsListOf 0 ps
op_says W SetOf ps = says W IsSetOf 0 ps
op_says W DictOf ps = says W IsDictOf 0 ps
op_says W AnyOfTwo ps = says W IsAnyOfTwo 0 ps
op_says W (AnyOf n) ps = says W IsAnyOf 0 ps

-- how many kids a step with wildcard questions has
abbrev pub Kids : Op → ℕ → Type 0
Kids (Write k m n) j = Unit {0}
Kids ListOf j = j ≡ 1
Kids SetOf j = j ≡ 1
Kids DictOf j = j ≡ 2
Kids AnyOfTwo j = Unit {0}
Kids (AnyOf n) j = Unit {0}

any_kind : (W : World) (k : Kind) (m : ℕ) (ps : List Test) (v : ℕ) → is_any_kind_lem k ≡ true → says W k m ps v ≡ true
any_kind W IsAny m ps v h = refl
any_kind W _ m ps v h = cc

pub all_yes : (p : Test) (xs : List ℕ) → ((x : ℕ) → p x ≡ true) → all p xs ≡ true
all_yes p [] h = refl
all_yes p (x ∷ xs) h = and_from (p x) (all p xs) (h x) (all_yes p xs h)

pub entries_yes : (p q : Test) (xs : List ℕ) → ((x : ℕ) → p x ≡ true) → ((x : ℕ) → q x ≡ true) → entries p q xs ≡ true
entries_yes p q [] h k = refl
entries_yes p q (x ∷ xs) h k = and_from (p x) (entries q p xs) (h x) (entries_yes q p xs k h)

module _ (W : World) (ns : List Node) (speak : Speak W ns) where
  abbrev ts : List Test
  ts = tests W ns

  wild_yes : (k : ℕ) → k < length ns → wildcard ns k ≡ true → (v : ℕ) → get_or ts k nay v ≡ true
  wild_yes k l h v = ap (λ (p : Test). p v) (speak k l).0 ∙ any_kind W (node_at_lem ns k).kind (node_at_lem ns k).number (kid_tests ts (node_at_lem ns k).kids) v h

  some_yes : (ks : List ℕ) → all_below (length ns) ks ≡ true → some_wildcard ns ks ≡ true → (v : ℕ) → some (kid_tests ts ks) v ≡ true
  some_yes [] b h v = cc
  some_yes (k ∷ ks) b h v =
      let p = and_parts (ltb k (length ns)) (all_below (length ns) ks) b in
      by (wildcard ns k) refl h (λ e. wild_yes k (ltb-true k (length ns) p.0) e v) (λ e. some_yes ks p.1 e v)
    where
      by : (c : Bool) → wildcard ns k ≡ c → (c || some_wildcard ns ks) ≡ true → (wildcard ns k ≡ true → get_or ts k nay v ≡ true) → (some_wildcard ns ks ≡ true → some (kid_tests ts ks) v ≡ true) → some (kid_tests ts (k ∷ ks)) v ≡ true
      by true e h one rest = or_left (get_or ts k nay v) (some (kid_tests ts ks) v) (one e)
      by false e h one rest = or_right (get_or ts k nay v) (some (kid_tests ts ks) v) (rest h)

  item_says : (b : Bool) (k : ℕ) (n : ℕ) → all_below (length ns) (k ∷ []) ≡ true → every_wildcard ns (k ∷ []) ≡ b → (v : ℕ) → cond b (eqb (cell_at W.cells v).ty n) (eqb (cell_at W.cells v).ty n && all (get_or ts k nay) (cell_at W.cells v).parts) ≡ (eqb (cell_at W.cells v).ty n && all (get_or ts k nay) (cell_at W.cells v).parts)
  item_says true k n b e v =
      let l = ltb-true k (length ns) (and_parts _ _ b).0 in
      let w = (and_parts (wildcard ns k) true e).0 in
      sym (ap (λ c. eqb (cell_at W.cells v).ty n && c) (all_yes (get_or ts k nay) (cell_at W.cells v).parts (wild_yes k l w)) ∙ and-true (eqb (cell_at W.cells v).ty n))
  item_says false k n b e v = refl

  pair_says : (b : Bool) (k j : ℕ) → all_below (length ns) (k ∷ j ∷ []) ≡ true → every_wildcard ns (k ∷ j ∷ []) ≡ b → (v : ℕ) → cond b (eqb (cell_at W.cells v).ty 6) (eqb (cell_at W.cells v).ty 6 && entries (get_or ts k nay) (get_or ts j nay) (cell_at W.cells v).parts) ≡ (eqb (cell_at W.cells v).ty 6 && entries (get_or ts k nay) (get_or ts j nay) (cell_at W.cells v).parts)
  pair_says true k j b e v =
      let p = and_parts (ltb k (length ns)) (all_below (length ns) (j ∷ [])) b in
      let q = and_parts (ltb j (length ns)) true p.1 in
      let w = and_parts (wildcard ns k) (every_wildcard ns (j ∷ [])) e in
      let u = and_parts (wildcard ns j) true w.1 in
      sym (ap (λ c. eqb (cell_at W.cells v).ty 6 && c) (entries_yes (get_or ts k nay) (get_or ts j nay) (cell_at W.cells v).parts (wild_yes k (ltb-true k (length ns) p.0) w.0) (wild_yes j (ltb-true j (length ns) q.0) u.0)) ∙ and-true (eqb (cell_at W.cells v).ty 6))
  pair_says false k j b e v = refl

  union_says : (b : Bool) (ks : List ℕ) → all_below (length ns) ks ≡ true → some_wildcard ns ks ≡ b → (v : ℕ) → cond b true (some (kid_tests ts ks) v) ≡ some (kid_tests ts ks) v
  union_says true ks b e v = sym (some_yes ks b e v)
  union_says false ks b e v = refl

  push_cond : (b : Bool) (x y : Node) (v : ℕ) → node_test W ts (cond b x y) v ≡ cond b (node_test W ts x v) (node_test W ts y v)
  push_cond true x y v = refl
  push_cond false x y v = refl

  pub chosen_says : (o : Op) (ks : List ℕ) → Kids o (length ks) → all_below (length ns) ks ≡ true → node_test W ts (chosen o ns ks) ≡ op_says W o (kid_tests ts ks)
  chosen_says (Write k m n) ks j b = refl
  chosen_says ListOf [] j b = absurd (omega arith)
  chosen_says ListOf (k ∷ []) j b = λ i v. (push_cond (every_wildcard ns (k ∷ [])) (node IsList 0 []) (node IsListOf 0 (k ∷ [])) v ∙ item_says (every_wildcard ns (k ∷ [])) k 5 b refl v) i
  chosen_says ListOf (k ∷ (l ∷ ks)) j b = absurd (omega arith)
  chosen_says SetOf [] j b = absurd (omega arith)
  chosen_says SetOf (k ∷ []) j b = λ i v. (push_cond (every_wildcard ns (k ∷ [])) (node IsSet 0 []) (node IsSetOf 0 (k ∷ [])) v ∙ item_says (every_wildcard ns (k ∷ [])) k 7 b refl v) i
  chosen_says SetOf (k ∷ (l ∷ ks)) j b = absurd (omega arith)
  chosen_says DictOf [] j b = absurd (omega arith)
  chosen_says DictOf (k ∷ []) j b = absurd (omega arith)
  chosen_says DictOf (k ∷ (l ∷ [])) j b = λ i v. (push_cond (every_wildcard ns (k ∷ (l ∷ []))) (node IsDict 0 []) (node IsDictOf 0 (k ∷ (l ∷ []))) v ∙ pair_says (every_wildcard ns (k ∷ (l ∷ []))) k l b refl v) i
  chosen_says DictOf (k ∷ (l ∷ (m ∷ ks))) j b = absurd (omega arith)
  chosen_says AnyOfTwo ks j b = λ i v. (push_cond (some_wildcard ns ks) (node IsAny 0 []) (node IsAnyOfTwo 0 ks) v ∙ union_says (some_wildcard ns ks) ks b refl v) i
  chosen_says (AnyOf n) ks j b = λ i v. (push_cond (some_wildcard ns ks) (node IsAny 0 []) (node IsAnyOf 0 ks) v ∙ union_says (some_wildcard ns ks) ks b refl v) i
