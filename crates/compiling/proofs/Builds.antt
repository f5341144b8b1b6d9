-- Compiling a type never meets a refusal, and leaves one result. Assumes nothing.
use Rattle.std.proofs.Common.{◌≡◌, ℕ, zero, suc, ◌+◌, ◌-◌, ◌*◌, ◌<◌, ◌≤◌, Bool, true, false, cond, ◌&&◌, ◌||◌, eqb, List, [], ◌∷◌, ◌++◌, map, length, ℤ, Some, None, Option, sym, refl, ap, ◌∙◌, subst, append_assoc, arith}
use Rattle.std.proofs.Math.Bool.{and-true, or-false}
use lib.ListN.{length-map}
use Rattle.matcher.specs.Nodes.{plain_type_number}
use Rattle.std.proofs.lemmas.Bool.{and_from, and_parts, le-leb, eqb-true, cond_both}
use Rattle.matcher.specs.declared.kind.Kind.TheVariants.{IsAny, IsNever, IsList, IsTupleOf, IsTupleElems, IsTupleElems0, IsTupleElems1, IsTupleElems2, IsDict, IsSet, IsAnyOfTwo, IsCallable, IsType, IsIterable, IsNone, Custom}
use Rattle.membership.specs.Rows.{Alt, any, plain, iter, callable, kind, list, tuple, tuple_of, dict, custom, set_of, Row, row, parts, deepest, depth_alts}
use Rattle.membership.specs.Readings.{just_any, plain_of, plain_alt}
use Rattle.compiling.proofs.Fines.{number_ok, all_under, AltsFine, Fines}
use Rattle.compiling.specs.Code.{Codes, code, leaf, type_id, value_op, item_op, beside_none_op, code_part, code_over, code_all, code_pair, code_tuple, code_basic, code_beside, code_none_or, code_alts, code_union}
use Rattle.compiling.specs.Written.{is_none}
use Rattle.compiling.specs.declared.tasks.Op.{Op}
use Rattle.compiling.specs.declared.tasks.Op.TheVariants.{Write, ListOf, SetOf, DictOf, AnyOfTwo, AnyOf}
use Rattle.compiling.proofs.Codes.{code_is}
use Rattle.matcher.specs.Meaning.{Test, all, entries, some}
use Rattle.values.specs.Cells.{cell_at}
use Rattle.custom.specs.Worlds.{World}
use Rattle.membership.specs.Members.{member}
use Rattle.compiling.proofs.Members.{has, some_has}
use Rattle.compiling.proofs.Says.{op_says, all_yes, entries_yes}
use Rattle.compiling.proofs.Members.{member_is, plain_has, any_has, some_map}
use Rattle.compiling.proofs.Runs.{OpFine, Makes, makes_nil, makes_append, makes_deeper, makes_op}

abbrev Leaf : Op → Type 0
Leaf o = OpFine o 0

type_id_fine : (n : ℕ) → plain_type_number n ≡ true → OpFine (type_id n) 0
type_id_fine n h = (refl, h)

item_fine : (n : ℕ) → plain_type_number n ≡ true → OpFine (item_op n) 0
item_fine n h = cond_both (eqb n 4) _ _ Leaf (λ _. (refl, refl)) (λ _. type_id_fine n h)

value_fine : (n : ℕ) → plain_type_number n ≡ true → OpFine (value_op n) 0
value_fine n h = cond_both (eqb n 1) _ _ Leaf (λ _. (refl, refl)) (λ _. cond_both (eqb n 2) _ _ Leaf (λ _. (refl, refl)) (λ _. cond_both (eqb n 3) _ _ Leaf (λ _. (refl, refl)) (λ _. item_fine n h)))

beside_fine : (n : ℕ) → plain_type_number n ≡ true → OpFine (beside_none_op n) 0
beside_fine n h = cond_both (eqb n 4) _ _ Leaf (λ _. (refl, refl)) (λ _. cond_both (eqb n 1) _ _ Leaf (λ _. (refl, refl)) (λ _. type_id_fine n h))

plain_by : (t : ℕ) (xs : List Alt) → AltsFine t xs → number_ok (plain_of xs) ≡ true
plain_by t [] f = refl
plain_by t (a ∷ []) f = f.0.1
plain_by t (a ∷ (b ∷ xs)) f = refl

deep_some : (rows : List Row) (xs : List Alt) → 1 ≤ depth_alts rows xs
deep_some rows [] = omega arith
deep_some rows (a ∷ xs) = omega (arith, deep_some rows xs)

or_swap : (a b : Bool) → (a || (b || false)) ≡ (b || (a || false))
or_swap true true = refl
or_swap true false = refl
or_swap false true = refl
or_swap false false = refl

abbrev pub Opens : (ℕ → Bool) → World → Type 0
Opens w W = (n : ℕ) → w n ≡ true → (t f : ℕ) (m : ℤ) → W.says n t f m ≡ true

module _ (W : World) where
  abbrev ty_test : ℕ → Test
  ty_test n v = eqb (cell_at W.cells v).ty n

  abbrev Tests : Test → Op → Type 0
  Tests q o = op_says W o [] ≡ q

  num : (n m : ℕ) → eqb n m ≡ true → ty_test m ≡ ty_test n
  num n m e = ap ty_test (sym (eqb-true n m e))

  item_says : (n : ℕ) → Tests (ty_test n) (item_op n)
  item_says n = cond_both (eqb n 4) _ _ (Tests (ty_test n)) (num n 4) (λ _. refl)

  value_says : (n : ℕ) → Tests (ty_test n) (value_op n)
  value_says n =
      let T = Tests (ty_test n) in
      cond_both (eqb n 1) _ _ T (num n 1) (λ _. cond_both (eqb n 2) _ _ T (num n 2) (λ _. cond_both (eqb n 3) _ _ T (num n 3) (λ _. item_says n)))

  beside_says : (n : ℕ) → Tests (ty_test n) (beside_none_op n)
  beside_says n = cond_both (eqb n 4) _ _ (Tests (ty_test n)) (num n 4) (λ _. cond_both (eqb n 1) _ _ (Tests (ty_test n)) (num n 1) (λ _. refl))

module _ (rows : List Row) (w : ℕ → Bool) (sound : Fines rows) (W : World) (opens : Opens w W) (sh : Bool) (limit : ℕ) where
  abbrev C : Codes
  C = code rows w

  abbrev P : ℕ → Test
  P = member rows W

  abbrev H : Alt → Test
  H = has W P

  abbrev M : ℕ → List Test → List Op → Type 0
  M = Makes W sh limit

  makes_leaf : (d : ℕ) (o : Op) → OpFine o 0 → M (d + 1) (op_says W o [] ∷ []) (o ∷ [])
  makes_leaf d o f = makes_deeper W sh limit 1 (d + 1) (op_says W o [] ∷ []) (o ∷ []) (omega arith) (makes_op W sh limit 0 [] [] o (omega arith) (omega arith) f (makes_nil W sh limit 0))

  -- the same test
  as_test : (d : ℕ) (p q : Test) (c : List Op) → ((v : ℕ) → p v ≡ q v) → M d (p ∷ []) c → M d (q ∷ []) c
  as_test d p q c e m = let f : p ≡ q = λ i v. e v i in subst (λ r. M d (r ∷ []) c) f m

  plain_ok : (p : ℕ) → p < length rows → number_ok (plain_of (row rows p).alts) ≡ true
  plain_ok p l = plain_by p (row rows p).alts (sound.at p l).under

  deep_one : (p : ℕ) → p < length rows → 1 ≤ (row rows p).deep
  deep_one p l = omega (arith, (sound.at p l).deep, deep_some rows (row rows p).alts)

  plain_test : (p n : ℕ) → p < length rows → plain_of (row rows p).alts ≡ Some n → (v : ℕ) → P p v ≡ ty_test W n v
  plain_test p n l e v = ap (λ (q : Test). q v) (member_is W rows sound p) ∙ plain_has W P (row rows p).alts n e v

  any_test : (p : ℕ) → p < length rows → just_any (row rows p).alts ≡ true → (v : ℕ) → P p v ≡ true
  any_test p l e v = ap (λ (q : Test). q v) (member_is W rows sound p) ∙ any_has W P (row rows p).alts e v

  any_all : (p n : ℕ) → p < length rows → just_any (row rows p).alts ≡ true → (v : ℕ) → ty_test W n v ≡ (ty_test W n v && all (P p) (cell_at W.cells v).parts)
  any_all p n l e v = sym (ap (λ b. ty_test W n v && b) (all_yes (P p) (cell_at W.cells v).parts (any_test p l e)) ∙ and-true (ty_test W n v))

  any_entries : (k u : ℕ) → k < length rows → u < length rows → (just_any (row rows k).alts && just_any (row rows u).alts) ≡ true → (v : ℕ) → ty_test W 6 v ≡ (ty_test W 6 v && entries (P k) (P u) (cell_at W.cells v).parts)
  any_entries k u l m e v =
      let s = and_parts (just_any (row rows k).alts) (just_any (row rows u).alts) e in
      sym (ap (λ b. ty_test W 6 v && b) (entries_yes (P k) (P u) (cell_at W.cells v).parts (any_test k l s.0) (any_test u m s.1)) ∙ and-true (ty_test W 6 v))

  module _ (t h : ℕ) (l : t < length rows) (ih : (p : ℕ) → p < t → M (2 * (row rows p).deep) (P p ∷ []) (C p)) (hl : h ≤ 31) where
    part : (p : ℕ) → p < t → (row rows p).deep ≤ h → M (2 * h) (P p ∷ []) (C p)
    part p u d = makes_deeper W sh limit (2 * (row rows p).deep) (2 * h) (P p ∷ []) (C p) (omega arith) (ih p u)

    inside : (p : ℕ) → p < t → p < length rows
    inside p u = omega arith

    some_h : (p : ℕ) → p < t → (row rows p).deep ≤ h → 1 ≤ 2 * h
    some_h p u d = omega (arith, deep_one p (inside p u))

    small : (o : Op) → 1 ≤ 2 * h → OpFine o 0 → M (2 * h) (op_says W o [] ∷ []) (o ∷ [])
    small o s f = makes_deeper W sh limit 1 (2 * h) (op_says W o [] ∷ []) (o ∷ []) s (makes_leaf 0 o f)

    leafy : (o : Op) → OpFine o 0 → M (2 * h + 1) (op_says W o [] ∷ []) (o ∷ [])
    leafy o f = makes_leaf (2 * h) o f

    by_part : (op : ℕ → Op) → ((n : ℕ) → op_says W (op n) [] ≡ ty_test W n) → ((n : ℕ) → plain_type_number n ≡ true → OpFine (op n) 0) → (p : ℕ) (o : Option ℕ) → plain_of (row rows p).alts ≡ o → p < t → (row rows p).deep ≤ h → M (2 * h) (P p ∷ []) (code_part op C p o)
    by_part op says fine p (Some n) e u d = as_test (2 * h) _ (P p) (op n ∷ []) (λ v. ap (λ (q : Test). q v) (says n) ∙ sym (plain_test p n (inside p u) e v)) (small (op n) (some_h p u d) (fine n (sym (ap number_ok e) ∙ plain_ok p (inside p u))))
    by_part op says fine p None e u d = part p u d

    item : (p : ℕ) (o : Option ℕ) → plain_of (row rows p).alts ≡ o → p < t → (row rows p).deep ≤ h → M (2 * h) (P p ∷ []) (code_part item_op C p o)
    item = by_part item_op (item_says W) item_fine

    each : (p : ℕ) (o : Option ℕ) → plain_of (row rows p).alts ≡ o → p < t → (row rows p).deep ≤ h → M (2 * h) (P p ∷ []) (code_part type_id C p o)
    each = by_part type_id (λ n. refl) type_id_fine

    op1 : (p : Test) (c : List Op) (o : Op) → OpFine o 1 → M (2 * h) (p ∷ []) c → M (2 * h + 1) (op_says W o (p ∷ []) ∷ []) (c ++ o ∷ [])
    op1 p c o f m = makes_op W sh limit (2 * h) (p ∷ []) c o (omega arith) (omega arith) f m

    -- all parts of a value with the type number n
    over : (n p : ℕ) (whole o : Op) (op : ℕ → Op) → op_says W whole [] ≡ ty_test W n → OpFine whole 0 → op_says W o (P p ∷ []) ≡ (λ v. ty_test W n v && all (P p) (cell_at W.cells v).parts) → OpFine o 1 → p < t → M (2 * h) (P p ∷ []) (code_part op C p (plain_of (row rows p).alts)) → M (2 * h + 1) ((λ v. ty_test W n v && all (P p) (cell_at W.cells v).parts) ∷ []) (code_over whole o op rows C p)
    over n p whole o op says fine says_all fine_all u m =
        cond_both (just_any (row rows p).alts) _ _ (M (2 * h + 1) ((λ v. ty_test W n v && all (P p) (cell_at W.cells v).parts) ∷ []))
        (λ e. as_test (2 * h + 1) _ _ _ (λ v. ap (λ (q : Test). q v) says ∙ any_all p n (inside p u) e v) (leafy whole fine))
        (λ e. subst (λ (q : Test). M (2 * h + 1) (q ∷ []) (code_part op C p (plain_of (row rows p).alts) ++ o ∷ [])) says_all (op1 (P p) (code_part op C p (plain_of (row rows p).alts)) o fine_all m))

    op2 : (p q : Test) (c e : List Op) (o : Op) → OpFine o 2 → M (2 * h) (p ∷ []) c → M (2 * h) (q ∷ []) e → M (2 * h + 1) (op_says W o (p ∷ q ∷ []) ∷ []) ((c ++ e) ++ o ∷ [])
    op2 p q c e o f m n = makes_op W sh limit (2 * h) (p ∷ q ∷ []) (c ++ e) o (omega arith) (omega arith) f (makes_append W sh limit (2 * h) (p ∷ []) (q ∷ []) c e m n)

    pair : (x y : ℕ) (a b : Option ℕ) → plain_of (row rows x).alts ≡ a → plain_of (row rows y).alts ≡ b → x < t → y < t → (row rows x).deep ≤ h → (row rows y).deep ≤ h → M (2 * h + 1) (H (tuple (x ∷ y ∷ [])) ∷ []) (code_pair C x y a b ++ Write IsTupleElems2 0 2 ∷ [])
    pair x y (Some a) (Some b) p q u v d e = op2 (P x) (P y) (type_id a ∷ []) (type_id b ∷ []) (Write IsTupleElems2 0 2) (refl, refl) (each x (Some a) p u d) (each y (Some b) q v e)
    pair x y (Some a) None p q u v d e = op2 (P x) (P y) (C x) (C y) (Write IsTupleElems2 0 2) (refl, refl) (part x u d) (part y v e)
    pair x y None b p q u v d e = op2 (P x) (P y) (C x) (C y) (Write IsTupleElems2 0 2) (refl, refl) (part x u d) (part y v e)

    every : (ps : List ℕ) → all_under t ps → deepest rows ps ≤ h → M (2 * h) (map P ps) (code_all C ps)
    every [] u d = makes_nil W sh limit (2 * h)
    every (p ∷ ps) u d = makes_append W sh limit (2 * h) (P p ∷ []) (map P ps) (C p) (code_all C ps) (part p u.0 (omega arith)) (every ps u.1 (omega arith))

    tuples : (ps : List ℕ) → all_under t ps → deepest rows ps ≤ h → length ps ≤ 64 → M (2 * h + 1) (H (tuple ps) ∷ []) (code_tuple rows C ps)
    tuples [] u d k = leafy (leaf IsTupleElems0) (refl, refl)
    tuples (x ∷ []) u d k = op1 (P x) (C x) (Write IsTupleElems1 0 1) (refl, refl) (part x u.0 (omega arith))
    tuples (x ∷ (y ∷ [])) u d k = pair x y (plain_of (row rows x).alts) (plain_of (row rows y).alts) refl refl u.0 u.1.0 (omega arith) (omega arith)
    tuples (x ∷ (y ∷ (z ∷ zs))) u d k =
        let n = length (x ∷ (y ∷ (z ∷ zs))) in
        let e : length (map P (x ∷ (y ∷ (z ∷ zs)))) ≡ n = length-map (x ∷ (y ∷ (z ∷ zs))) P in
        makes_op W sh limit (2 * h) (map P (x ∷ (y ∷ (z ∷ zs)))) (code_all C (x ∷ (y ∷ (z ∷ zs)))) (Write IsTupleElems 0 n) (omega arith) (omega (arith, e)) (sym e, and_from _ _ (le-leb 3 (length (map P (x ∷ (y ∷ (z ∷ zs))))) (omega (arith, e))) refl) (every (x ∷ (y ∷ (z ∷ zs))) u d)

    basics : (a : Alt) → all_under t (parts a) → number_ok (plain_alt a) ≡ true → length (parts a) ≤ 64 → deepest rows (parts a) ≤ h → M (2 * h + 1) (H a ∷ []) (code_basic rows w C a)
    basics any u ok k d = leafy (leaf IsAny) (refl, refl)
    basics (plain n) u ok k d = as_test (2 * h + 1) _ (H (plain n)) (value_op n ∷ []) (λ v. ap (λ (q : Test). q v) (value_says W n)) (leafy (value_op n) (value_fine n ok))
    basics (iter p) u ok k d = leafy (leaf IsIterable) (refl, refl)
    basics callable u ok k d = leafy (leaf IsCallable) (refl, refl)
    basics kind u ok k d = leafy (leaf IsType) (refl, refl)
    basics (list p) u ok k d = over 5 p (leaf IsList) ListOf item_op refl (refl, refl) refl refl u.0 (item p (plain_of (row rows p).alts) refl u.0 (omega arith))
    basics (tuple ps) u ok k d = tuples ps u d k
    basics (tuple_of p) u ok k d = over 8 p (type_id 8) (Write IsTupleOf 0 1) type_id refl (refl, refl) refl (refl, refl) u.0 (each p (plain_of (row rows p).alts) refl u.0 (omega arith))
    basics (dict k v) u ok n d =
        let o = plain_of (row rows k).alts in
        cond_both (just_any (row rows k).alts && just_any (row rows v).alts) _ _ (M (2 * h + 1) (H (dict k v) ∷ [])) (λ e. as_test (2 * h + 1) _ (H (dict k v)) _ (any_entries k v (inside k u.0) (inside v u.1.0) e) (leafy (leaf IsDict) (refl, refl)))
        (λ e. subst (M (2 * h + 1) (H (dict k v) ∷ [])) (append_assoc (code_part item_op C k o) (C v) (DictOf ∷ [])) (op2 (P k) (P v) (code_part item_op C k o) (C v) DictOf refl (item k o refl u.0 (omega arith)) (part v u.1.0 (omega arith))))
    basics (custom n) u ok k d = by (w n) refl
      where
        by : (b : Bool) → w n ≡ b → M (2 * h + 1) (H (custom n) ∷ []) (cond b (leaf IsAny) (Write Custom n 0) ∷ [])
        by true e = as_test (2 * h + 1) _ (H (custom n)) (leaf IsAny ∷ []) (λ v. sym (opens n e (cell_at W.cells v).ty (cell_at W.cells v).flags (cell_at W.cells v).mark)) (leafy (leaf IsAny) (refl, refl))
        by false e = leafy (Write Custom n 0) (refl, refl)
    basics (set_of p) u ok k d = over 7 p (leaf IsSet) SetOf item_op refl (refl, refl) refl refl u.0 (item p (plain_of (row rows p).alts) refl u.0 (omega arith))

    besides : (a : Alt) → all_under t (parts a) → number_ok (plain_alt a) ≡ true → length (parts a) ≤ 64 → deepest rows (parts a) ≤ h → M (2 * h + 1) (H a ∷ []) (code_beside rows w C a)
    besides (plain n) u ok k d = as_test (2 * h + 1) _ (H (plain n)) (beside_none_op n ∷ []) (λ v. ap (λ (q : Test). q v) (beside_says W n)) (leafy (beside_none_op n) (beside_fine n ok))
    besides a u ok k d = basics a u ok k d

    none_is : (a : Alt) → is_none a ≡ true → (v : ℕ) → H a v ≡ ty_test W 3 v
    none_is (plain n) e v = ap (λ j. eqb (cell_at W.cells v).ty j) (eqb-true n 3 e)
    none_is _ e v = cc

    top2 : (p q : Test) (c e : List Op) (o : Op) → OpFine o 2 → M (2 * h + 1) (p ∷ []) c → M (2 * h + 1) (q ∷ []) e → M (2 * h + 1 + 1) (op_says W o (p ∷ q ∷ []) ∷ []) ((c ++ e) ++ o ∷ [])
    top2 p q c e o f m n = makes_op W sh limit (2 * h + 1) (p ∷ q ∷ []) (c ++ e) o (omega arith) (omega arith) f (makes_append W sh limit (2 * h + 1) (p ∷ []) (q ∷ []) c e m n)

    lift : (p : Test) (c : List Op) → M (2 * h + 1) (p ∷ []) c → M (2 * h + 1 + 1) (p ∷ []) c
    lift p c m = makes_deeper W sh limit (2 * h + 1) (2 * h + 1 + 1) (p ∷ []) c (omega arith) m

    alts : (xs : List Alt) → AltsFine t xs → depth_alts rows xs ≤ h + 1 → M (2 * h + 1) (map H xs) (code_alts rows w C xs)
    alts [] f d = makes_nil W sh limit (2 * h + 1)
    alts (a ∷ xs) f d = makes_append W sh limit (2 * h + 1) (H a ∷ []) (map H xs) (code_basic rows w C a) (code_alts rows w C xs) (basics a f.0.0 f.0.1 f.0.2 (omega arith)) (alts xs f.1 (omega arith))

    none_or : (a : Alt) → M (2 * h + 1) (H a ∷ []) (code_beside rows w C a) → M (2 * h + 1 + 1) ((λ v. ty_test W 3 v || (H a v || false)) ∷ []) (code_none_or rows w C a)
    none_or a m = top2 (ty_test W 3) (H a) (leaf IsNone ∷ []) (code_beside rows w C a) (Write IsAnyOfTwo 0 2) (refl, refl) (leafy (leaf IsNone) (refl, refl)) m

    unions : (xs : List Alt) → AltsFine t xs → length xs ≤ 64 → depth_alts rows xs ≤ h + 1 → M (2 * h + 1 + 1) (some_has W P xs ∷ []) (code_union rows w C xs)
    unions [] f k d = lift _ _ (leafy (leaf IsNever) (refl, refl))
    unions (a ∷ []) f k d = as_test (2 * h + 1 + 1) (H a) (some_has W P (a ∷ [])) _ (λ v. sym (or-false (H a v))) (lift (H a) _ (basics a f.0.0 f.0.1 f.0.2 (omega arith)))
    unions (a ∷ (b ∷ [])) f k d =
        let ha : deepest rows (parts a) ≤ h = omega arith in
        let hb : deepest rows (parts b) ≤ h = omega arith in
        let T = some_has W P (a ∷ (b ∷ [])) in
        cond_both (is_none a) _ _ (M (2 * h + 1 + 1) (T ∷ [])) (λ e. as_test (2 * h + 1 + 1) _ T _ (λ v. ap (λ c. c || (H b v || false)) (sym (none_is a e v))) (none_or b (besides b f.1.0.0 f.1.0.1 f.1.0.2 hb)))
        (λ _. cond_both (is_none b) _ _ (M (2 * h + 1 + 1) (T ∷ [])) (λ e. as_test (2 * h + 1 + 1) _ T _ (λ v. ap (λ c. c || (H a v || false)) (sym (none_is b e v)) ∙ or_swap (H b v) (H a v)) (none_or a (besides a f.0.0 f.0.1 f.0.2 ha)))
        (λ _. subst (M (2 * h + 1 + 1) (T ∷ [])) (append_assoc (code_basic rows w C a) (code_basic rows w C b) (AnyOfTwo ∷ [])) (top2 (H a) (H b) (code_basic rows w C a) (code_basic rows w C b) AnyOfTwo refl (basics a f.0.0 f.0.1 f.0.2 ha) (basics b f.1.0.0 f.1.0.1 f.1.0.2 hb))))
    unions (a ∷ (b ∷ (c ∷ xs))) f k d =
        let ys = a ∷ (b ∷ (c ∷ xs)) in
        let e : length (map H (a ∷ (b ∷ (c ∷ xs)))) ≡ length (a ∷ (b ∷ (c ∷ xs))) = length-map (a ∷ (b ∷ (c ∷ xs))) H in
        as_test (2 * h + 1 + 1) (some (map H (a ∷ (b ∷ (c ∷ xs))))) (some_has W P (a ∷ (b ∷ (c ∷ xs)))) _ (some_map W P (a ∷ (b ∷ (c ∷ xs)))) (makes_op W sh limit (2 * h + 1) (map H (a ∷ (b ∷ (c ∷ xs)))) (code_alts rows w C (a ∷ (b ∷ (c ∷ xs)))) (AnyOf (length (a ∷ (b ∷ (c ∷ xs))))) (omega arith) (omega (arith, e)) (sym e, omega (arith, e)) (alts (a ∷ (b ∷ (c ∷ xs))) f d))

  pub makes_by : (f t : ℕ) → t < f → t < length rows → M (2 * (row rows t).deep) (P t ∷ []) (C t)
  makes_by zero t m l = absurd (omega arith)
  makes_by (suc f) t m l =
      let s = sound.at t l in
      let one = deep_one t l in
      let h = (row rows t).deep - 1 in
      let e : 2 * h + 1 + 1 ≡ 2 * (row rows t).deep = omega arith in
      subst (λ d. M d (P t ∷ []) (C t)) e (subst (λ q. M (2 * h + 1 + 1) (q ∷ []) (C t)) (sym (member_is W rows sound t)) (subst (M (2 * h + 1 + 1) (some_has W P (row rows t).alts ∷ [])) (sym (code_is rows w sound t l)) (unions t h l (λ p u. makes_by f p (omega arith) (omega arith)) (omega (arith, s.low)) (row rows t).alts s.under s.wide (omega (arith, s.deep)))))
