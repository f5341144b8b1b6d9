-- A type's steps write the type. Assumes nothing.
use Rattle.std.proofs.Common.{◌≡◌, ℕ, zero, suc, ◌<◌, Bool, true, false, cond, ◌&&◌, eqb, List, [], ◌∷◌, ◌++◌, map, length, Some, None, Option, sym, refl, ap, ◌∙◌, subst, append_assoc, append-nil, arith}
use lib.ListN.{length-map}
use Rattle.matcher.specs.Nodes.{Node, node, place, put}
use Rattle.matcher.specs.declared.kind.Kind.TheVariants.{IsAny, IsNever, IsList, IsListOf, IsTupleOf, IsTupleElems, IsTupleElems0, IsTupleElems1, IsTupleElems2, IsDict, IsDictOf, IsSet, IsSetOf, IsAnyOfTwo, IsAnyOf, IsCallable, IsType, IsIterable, IsNone, Custom}
use Rattle.membership.specs.Rows.{Alt, any, plain, iter, callable, kind, list, tuple, tuple_of, dict, custom, set_of, Row, row, parts}
use Rattle.membership.specs.Readings.{just_any, plain_of}
use Rattle.compiling.specs.Written.{Writer, writes, kids_written, over, matcher, unless_every, unless_some, bare, id_node, value_node, item_node, beside_node, part_written, over_written, pair_written, tuple_written, basic_written, beside_written, none_or_written, union_written, written_within, written, is_none}
use Rattle.compiling.specs.Code.{Codes, state, chosen, takes, exec, execs, code, leaf, type_id, value_op, item_op, beside_none_op, code_part, code_over, code_all, code_pair, code_tuple, code_basic, code_beside, code_none_or, code_alts, code_union}
use Rattle.compiling.specs.declared.tasks.Op.{Op}
use Rattle.compiling.specs.declared.tasks.Op.TheVariants.{Write, ListOf, SetOf, DictOf, AnyOfTwo, AnyOf}
use Rattle.compiling.proofs.Fines.{Fines, all_under, AltsFine}
use Rattle.compiling.proofs.Codes.{code_is}
use Rattle.compiling.proofs.Takes.{execs-++, exec_is}

kids_long : (fs : List Writer) (ns : List Node) → length (kids_written fs ns).roots ≡ length fs
kids_long [] ns = refl
kids_long (a ∷ fs) ns = ap suc (kids_long fs (a ns).nodes)

module _ (sh : Bool) where
  -- steps that write, and leave one result; and that write kids
  abbrev Does : List Op → Writer → Type 0
  Does c f = (ns : List Node) (rs : List ℕ) → execs sh c (state ns rs) ≡ state (f ns).nodes (rs ++ (f ns).root ∷ [])

  abbrev DoesAll : List Op → List Writer → Type 0
  DoesAll c fs = (ns : List Node) (rs : List ℕ) → execs sh c (state ns rs) ≡ state (kids_written fs ns).nodes (rs ++ (kids_written fs ns).roots)

  all_nil : DoesAll [] []
  all_nil ns rs = ap (state ns) (sym (append-nil rs))

  all_more : (c e : List Op) (a : Writer) (fs : List Writer) → Does c a → DoesAll e fs → DoesAll (c ++ e) (a ∷ fs)
  all_more c e a fs p q ns rs =
      execs-++ sh c e (state ns rs) ∙ ap (execs sh e) (p ns rs) ∙ q (a ns).nodes (rs ++ (a ns).root ∷ [])
      ∙ ap (state (kids_written fs (a ns).nodes).nodes) (append_assoc rs ((a ns).root ∷ []) (kids_written fs (a ns).nodes).roots)

  over_does : (c : List Op) (fs : List Writer) (o : Op) (f : List Node → List ℕ → Node) → DoesAll c fs → takes o ≡ length fs → ((ns : List Node) (ks : List ℕ) → chosen o ns ks ≡ f ns ks) → Does (c ++ o ∷ []) (over sh f fs)
  over_does c fs o f p e h ns rs =
      let ms = (kids_written fs ns).nodes in
      let ks = (kids_written fs ns).roots in
      execs-++ sh c (o ∷ []) (state ns rs) ∙ ap (exec sh o) (p ns rs) ∙ exec_is sh o ms rs ks (kids_long fs ns ∙ sym e)
      ∙ ap (λ d. state (put ms d (place sh ms d)) (rs ++ place sh ms d ∷ [])) (h ms ks)

  leaf_does : (o : Op) (d : Node) → takes o ≡ 0 → ((ns : List Node) → chosen o ns [] ≡ d) → Does (o ∷ []) (writes sh d)
  leaf_does o d e h ns rs =
      over_does [] [] o (chosen o) all_nil e (λ ns ks. refl) ns rs ∙ ap (λ x. state (put ns x (place sh ns x)) (rs ++ place sh ns x ∷ [])) (h ns)

  cond_does : (b : Bool) (c e : List Op) (f g : Writer) → Does c f → Does e g → Does (cond b c e) (cond b f g)
  cond_does true c e f g p q = p
  cond_does false c e f g p q = q

  pick : (b : Bool) (o p : Op) (x y : Node) (ns : List Node) → chosen o ns [] ≡ x → chosen p ns [] ≡ y → chosen (cond b o p) ns [] ≡ cond b x y
  pick true o p x y ns e f = e
  pick false o p x y ns e f = f

  none : (b : Bool) (o p : Op) → takes o ≡ 0 → takes p ≡ 0 → takes (cond b o p) ≡ 0
  none true o p e f = e
  none false o p e f = f

  value_does : (n : ℕ) → Does (value_op n ∷ []) (writes sh (value_node n))
  value_does n = leaf_does (value_op n) (value_node n) (none (eqb n 1) _ _ refl (none (eqb n 2) _ _ refl (none (eqb n 3) _ _ refl (none (eqb n 4) _ _ refl refl)))) (λ ns. pick (eqb n 1) _ _ _ _ ns refl (pick (eqb n 2) _ _ _ _ ns refl (pick (eqb n 3) _ _ _ _ ns refl (pick (eqb n 4) _ _ _ _ ns refl refl))))

  item_op_does : (n : ℕ) → Does (item_op n ∷ []) (writes sh (item_node n))
  item_op_does n = leaf_does (item_op n) (item_node n) (none (eqb n 4) _ _ refl refl) (λ ns. pick (eqb n 4) _ _ _ _ ns refl refl)

  beside_op_does : (n : ℕ) → Does (beside_none_op n ∷ []) (writes sh (beside_node n))
  beside_op_does n = leaf_does (beside_none_op n) (beside_node n) (none (eqb n 4) _ _ refl (none (eqb n 1) _ _ refl refl)) (λ ns. pick (eqb n 4) _ _ _ _ ns refl (pick (eqb n 1) _ _ _ _ ns refl refl))

  id_does : (n : ℕ) → Does (type_id n ∷ []) (writes sh (id_node n))
  id_does n = leaf_does (type_id n) (id_node n) refl (λ ns. refl)

  module _ (rows : List Row) (w : ℕ → Bool) (C : Codes) (D : ℕ → Writer) (t : ℕ) (ih : (p : ℕ) → p < t → Does (C p) (D p)) where
    part_does : (op : ℕ → Op) (d : ℕ → Node) → ((n : ℕ) → Does (op n ∷ []) (writes sh (d n))) → (p : ℕ) (o : Option ℕ) → p < t → Does (code_part op C p o) (part_written sh d D p o)
    part_does op d h p (Some n) l = h n
    part_does op d h p None l = ih p l

    over_part : (whole o : Op) (x : Node) (f : List Node → List ℕ → Node) (op : ℕ → Op) (d : ℕ → Node) → Does (whole ∷ []) (writes sh x) → takes o ≡ 1 → ((ns : List Node) (ks : List ℕ) → chosen o ns ks ≡ f ns ks) → ((n : ℕ) → Does (op n ∷ []) (writes sh (d n))) → (p : ℕ) → p < t → Does (code_over whole o op rows C p) (over_written sh x f d rows D p)
    over_part whole o x f op d one e is h p l =
        let y = plain_of (row rows p).alts in
        cond_does (just_any (row rows p).alts) (whole ∷ []) (code_part op C p y ++ o ∷ []) (writes sh x) (over sh f (part_written sh d D p y ∷ []))
        one (over_does (code_part op C p y) (part_written sh d D p y ∷ []) o f (part_does op d h p y l) e is)

    all_does : (ps : List ℕ) → all_under t ps → DoesAll (code_all C ps) (map D ps)
    all_does [] u = all_nil
    all_does (p ∷ ps) u = all_more (C p) (code_all C ps) (D p) (map D ps) (ih p u.0) (all_does ps u.1)

    two_kids : (c e : List Op) (a b : Writer) → Does c a → Does e b → DoesAll (c ++ e) (a ∷ b ∷ [])
    two_kids c e a b p q = all_more c e a (b ∷ []) p q

    pair_does : (x y : ℕ) (a b : Option ℕ) → x < t → y < t → DoesAll (code_pair C x y a b) (pair_written sh D x y a b)
    pair_does x y (Some a) (Some b) l m = two_kids (type_id a ∷ []) (type_id b ∷ []) (writes sh (id_node a)) (writes sh (id_node b)) (id_does a) (id_does b)
    pair_does x y (Some a) None l m = two_kids (C x) (C y) (D x) (D y) (ih x l) (ih y m)
    pair_does x y None b l m = two_kids (C x) (C y) (D x) (D y) (ih x l) (ih y m)

    pair_long : (x y : ℕ) (a b : Option ℕ) → 2 ≡ length (pair_written sh D x y a b)
    pair_long x y (Some a) (Some b) = refl
    pair_long x y (Some a) None = refl
    pair_long x y None b = refl

    tuple_does : (ps : List ℕ) → all_under t ps → Does (code_tuple rows C ps) (tuple_written sh rows D ps)
    tuple_does [] u = leaf_does (leaf IsTupleElems0) (bare IsTupleElems0) refl (λ ns. refl)
    tuple_does (x ∷ []) u = over_does (C x) (D x ∷ []) (Write IsTupleElems1 0 1) (matcher IsTupleElems1) (ih x u.0) refl (λ ns ks. refl)
    tuple_does (x ∷ (y ∷ [])) u =
        let a = plain_of (row rows x).alts in
        let b = plain_of (row rows y).alts in
        over_does (code_pair C x y a b) (pair_written sh D x y a b) (Write IsTupleElems2 0 2) (matcher IsTupleElems2) (pair_does x y a b u.0 u.1.0) (pair_long x y a b) (λ ns ks. refl)
    tuple_does (x ∷ (y ∷ (z ∷ zs))) u =
        over_does (code_all C (x ∷ (y ∷ (z ∷ zs)))) (map D (x ∷ (y ∷ (z ∷ zs)))) (Write IsTupleElems 0 (length (x ∷ (y ∷ (z ∷ zs))))) (matcher IsTupleElems) (all_does (x ∷ (y ∷ (z ∷ zs))) u) (sym (length-map (x ∷ (y ∷ (z ∷ zs))) D)) (λ ns ks. refl)

    custom_does : (n : ℕ) (b : Bool) → Does (cond b (leaf IsAny) (Write Custom n 0) ∷ []) (writes sh (cond b (bare IsAny) (node Custom n [])))
    custom_does n b = leaf_does (cond b (leaf IsAny) (Write Custom n 0)) (cond b (bare IsAny) (node Custom n [])) (none b (leaf IsAny) (Write Custom n 0) refl refl) (λ ns. pick b (leaf IsAny) (Write Custom n 0) (bare IsAny) (node Custom n []) ns refl refl)

    basic_does : (a : Alt) → all_under t (parts a) → Does (code_basic rows w C a) (basic_written sh rows w D a)
    basic_does any u = leaf_does (leaf IsAny) (bare IsAny) refl (λ ns. refl)
    basic_does (plain n) u = value_does n
    basic_does (iter p) u = leaf_does (leaf IsIterable) (bare IsIterable) refl (λ ns. refl)
    basic_does callable u = leaf_does (leaf IsCallable) (bare IsCallable) refl (λ ns. refl)
    basic_does kind u = leaf_does (leaf IsType) (bare IsType) refl (λ ns. refl)
    basic_does (list p) u = over_part (leaf IsList) ListOf (bare IsList) (unless_every IsList IsListOf) item_op item_node (leaf_does (leaf IsList) (bare IsList) refl (λ ns. refl)) refl (λ ns ks. refl) item_op_does p u.0
    basic_does (tuple ps) u = tuple_does ps u
    basic_does (tuple_of p) u = over_part (type_id 8) (Write IsTupleOf 0 1) (id_node 8) (matcher IsTupleOf) type_id id_node (id_does 8) refl (λ ns ks. refl) id_does p u.0
    basic_does (dict k v) u =
        let o = plain_of (row rows k).alts in
        let fs = part_written sh item_node D k o ∷ D v ∷ [] in
        let kids = two_kids (code_part item_op C k o) (C v) (part_written sh item_node D k o) (D v) (part_does item_op item_node item_op_does k o u.0) (ih v u.1.0) in
        let all = over_does (code_part item_op C k o ++ C v) (part_written sh item_node D k o ∷ D v ∷ []) DictOf (unless_every IsDict IsDictOf) kids refl (λ ns ks. refl) in
        cond_does (just_any (row rows k).alts && just_any (row rows v).alts) (leaf IsDict ∷ []) (code_part item_op C k o ++ (C v ++ DictOf ∷ [])) (writes sh (bare IsDict)) (over sh (unless_every IsDict IsDictOf) (part_written sh item_node D k o ∷ D v ∷ []))
        (leaf_does (leaf IsDict) (bare IsDict) refl (λ ns. refl)) (subst (λ c. Does c (over sh (unless_every IsDict IsDictOf) (part_written sh item_node D k o ∷ D v ∷ []))) (append_assoc (code_part item_op C k o) (C v) (DictOf ∷ [])) all)
    basic_does (custom n) u = custom_does n (w n)
    basic_does (set_of p) u = over_part (leaf IsSet) SetOf (bare IsSet) (unless_every IsSet IsSetOf) item_op item_node (leaf_does (leaf IsSet) (bare IsSet) refl (λ ns. refl)) refl (λ ns ks. refl) item_op_does p u.0

    beside_does : (a : Alt) → all_under t (parts a) → Does (code_beside rows w C a) (beside_written sh rows w D a)
    beside_does (plain n) u = beside_op_does n
    beside_does a u = basic_does a u

    none_or_does : (a : Alt) → all_under t (parts a) → Does (code_none_or rows w C a) (none_or_written sh rows w D a)
    none_or_does a u =
        over_does ((leaf IsNone ∷ []) ++ code_beside rows w C a) (writes sh (bare IsNone) ∷ beside_written sh rows w D a ∷ []) (Write IsAnyOfTwo 0 2) (matcher IsAnyOfTwo)
        (two_kids (leaf IsNone ∷ []) (code_beside rows w C a) (writes sh (bare IsNone)) (beside_written sh rows w D a) (leaf_does (leaf IsNone) (bare IsNone) refl (λ ns. refl)) (beside_does a u)) refl (λ ns ks. refl)

    alts_does : (xs : List Alt) → AltsFine t xs → DoesAll (code_alts rows w C xs) (map (basic_written sh rows w D) xs)
    alts_does [] f = all_nil
    alts_does (a ∷ xs) f = all_more (code_basic rows w C a) (code_alts rows w C xs) (basic_written sh rows w D a) (map (basic_written sh rows w D) xs) (basic_does a f.0.0) (alts_does xs f.1)

    union_does : (xs : List Alt) → AltsFine t xs → Does (code_union rows w C xs) (union_written sh rows w D xs)
    union_does [] f = leaf_does (leaf IsNever) (bare IsNever) refl (λ ns. refl)
    union_does (a ∷ []) f = basic_does a f.0.0
    union_does (a ∷ (b ∷ [])) f =
        let ca = code_basic rows w C a in
        let cb = code_basic rows w C b in
        let wa = basic_written sh rows w D a in
        let wb = basic_written sh rows w D b in
        let all : Does ((code_basic rows w C a ++ code_basic rows w C b) ++ AnyOfTwo ∷ []) (over sh (unless_some IsAnyOfTwo) (basic_written sh rows w D a ∷ basic_written sh rows w D b ∷ [])) = over_does (code_basic rows w C a ++ code_basic rows w C b) (basic_written sh rows w D a ∷ basic_written sh rows w D b ∷ []) AnyOfTwo (unless_some IsAnyOfTwo) (two_kids ca cb wa wb (basic_does a f.0.0) (basic_does b f.1.0.0)) refl (λ ns ks. refl) in
        cond_does (is_none a) (code_none_or rows w C b) (cond (is_none b) (code_none_or rows w C a) (ca ++ (cb ++ AnyOfTwo ∷ []))) (none_or_written sh rows w D b) (cond (is_none b) (none_or_written sh rows w D a) (over sh (unless_some IsAnyOfTwo) (wa ∷ wb ∷ [])))
        (none_or_does b f.1.0.0)
        (cond_does (is_none b) (code_none_or rows w C a) (ca ++ (cb ++ AnyOfTwo ∷ [])) (none_or_written sh rows w D a) (over sh (unless_some IsAnyOfTwo) (wa ∷ wb ∷ [])) (none_or_does a f.0.0)
        (subst (λ c. Does c (over sh (unless_some IsAnyOfTwo) (basic_written sh rows w D a ∷ basic_written sh rows w D b ∷ []))) (append_assoc ca cb (AnyOfTwo ∷ [])) all))
    union_does (a ∷ (b ∷ (c ∷ xs))) f =
        over_does (code_alts rows w C (a ∷ (b ∷ (c ∷ xs)))) (map (basic_written sh rows w D) (a ∷ (b ∷ (c ∷ xs)))) (AnyOf (length (a ∷ (b ∷ (c ∷ xs))))) (unless_some IsAnyOf) (alts_does (a ∷ (b ∷ (c ∷ xs))) f) (sym (length-map (a ∷ (b ∷ (c ∷ xs))) (basic_written sh rows w D))) (λ ns ks. refl)

  module _ (rows : List Row) (w : ℕ → Bool) (fine : Fines rows) where
    does_by : (f t : ℕ) → t < f → t < length rows → Does (code rows w t) (written_within f sh rows w t)
    unfolding written_within
    does_by zero t m l ns rs = absurd (omega arith)
    does_by (suc f) t m l ns rs =
        ap (λ c. execs sh c (state ns rs)) (code_is rows w fine t l)
        ∙ union_does rows w (code rows w) (written_within f sh rows w) t (λ p u. does_by f p (omega arith) (omega arith)) (row rows t).alts (fine.at t l).under ns rs

    pub code_writes : (t : ℕ) → t < length rows → (ns : List Node) → execs sh (code rows w t) (state ns []) ≡ state (written sh rows w t ns).nodes ((written sh rows w t ns).root ∷ [])
    unfolding written
    code_writes t l ns = does_by (suc t) t (omega arith) l ns []
