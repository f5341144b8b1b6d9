-- What a task is expanded to stands for the same steps, costs less, and names what stands. Assumes nothing.
use Rattle.std.proofs.Common.{◌≡◌, ℕ, ◌+◌, ◌-◌, ◌*◌, ◌<◌, ◌≤◌, Bool, true, false, cond, ◌&&◌, eqb, ltb, List, [], ◌∷◌, ◌++◌, length, get_or, drop, Some, None, Option, sym, refl, ap, subst, ap₂, append_assoc, arith, length-append}
use Rattle.std.proofs.lemmas.List.{drop_more, drop_all}
use Rattle.std.proofs.lemmas.Bool.{ltb-true, ltb-false, ne_eqb}
use Rattle.matcher.specs.declared.kind.Kind.TheVariants.{IsList, IsSet, IsDict, IsAny, IsNever, IsIterable, IsCallable, IsType, IsTupleElems, IsTupleElems0, IsTupleElems1, IsTupleElems2, IsTupleOf, IsAnyOfTwo, IsNone}
use Rattle.membership.specs.Rows.{Alt, any, plain, iter, callable, kind, list, tuple, tuple_of, dict, custom, set_of, Row, row, parts}
use Rattle.membership.specs.Readings.{alt_at, just_any, plain_of, elems}
use Rattle.compiling.proofs.Fines.{all_under, Fines}
use Rattle.compiling.specs.Code.{Codes, leaf, type_id, value_op, item_op, custom_op, code_part, code_over, code_dict, code_all, code_pair, code_tuple, code_basic, code_beside, code_none_or, code_two, code_alts, code_union, code}
use Rattle.compiling.specs.Written.{is_none}
use Rattle.compiling.specs.Tasks.{ops_of, pending, cost, load, Fine, AllFine, listed, leaf_task, part_task, expand_over, expand_dict, expand_pair, elems_by, expand_basic, beside_task, expand_none_or, expand_two, expand_union, expand_alternatives, expand_elements, expand}
use Rattle.compiling.specs.declared.tasks.Op.{Op}
use Rattle.compiling.specs.declared.tasks.Op.TheVariants.{Write, ListOf, SetOf, DictOf, AnyOfTwo, AnyOf}
use Rattle.compiling.specs.declared.tasks.Task.{Task}
use Rattle.compiling.specs.declared.tasks.Task.TheVariants.{Ty, Basic, Alternatives, Elements, Step}
use Rattle.compiling.specs.declared.tasks.Expansion.{Expansion}
use Rattle.compiling.specs.declared.tasks.Expansion.TheVariants.{Zero, One, Two, Three}
use Rattle.compiling.proofs.Codes.{code_is, code_some, basic_some, union_some}
use Rattle.compiling.proofs.Unders.{alt_fine, element_in, under_up}

many : {X : Type 0} (n : ℕ) (a b c d : X) → 3 ≤ n → cond (eqb n 0) a (cond (eqb n 1) b (cond (eqb n 2) c d)) ≡ d
many n a b c d h = rw (ne_eqb n 0 (λ e. omega arith), ne_eqb n 1 (λ e. omega arith), ne_eqb n 2 (λ e. omega arith)) refl

module _ (rows : List Row) (w : ℕ → Bool) (sound : Fines rows) where
  abbrev C : Codes
  C = code rows w

  pub record Opens (e : Expansion) (ops : List Op) (bound : ℕ) : Type 0 where
    pub same : pending rows w C (listed e) ≡ ops
    pub less : load rows w C (listed e) < bound
    pub fine : AllFine rows (listed e)

  abbrev Basically : Expansion → List Op → Type 0
  Basically e ops = Opens e ops (5 * length ops - 2)

  one_opens : (o : Op) → Basically (One (Step o)) (o ∷ [])
  one_opens o = record { same = refl; less = omega arith; fine = (tt, tt) }

  two_opens : (o : Op) (x : Task) (ops : List Op) → ops_of rows w C x ≡ ops → cost rows w C x ≤ 5 * length ops + 1 → Fine rows x → Basically (Two (Step o) x) (ops ++ o ∷ [])
  two_opens o x ops e c f = record { same = ap (λ y. y ++ o ∷ []) e; less = omega (arith, length-append ops (o ∷ [])); fine = (tt, (f, tt)) }

  three_opens : (o : Op) (x y : Task) (xs ys : List Op) → ops_of rows w C x ≡ xs → ops_of rows w C y ≡ ys → cost rows w C x ≤ 5 * length xs → cost rows w C y ≤ 5 * length ys → Fine rows x → Fine rows y → Basically (Three (Step o) y x) ((xs ++ ys) ++ o ∷ [])
  three_opens o x y xs ys e f c d g h =
      record { same = ap₂ (λ a b. (a ++ b) ++ o ∷ []) e f; less = omega (arith, length-append (xs ++ ys) (o ∷ []), length-append xs ys); fine = (tt, (h, (g, tt))) }

  right : (e : Expansion) (xs ys : List Op) (o : Op) → Basically e ((xs ++ ys) ++ o ∷ []) → Basically e (xs ++ (ys ++ o ∷ []))
  right e xs ys o b = subst (Basically e) (append_assoc xs ys (o ∷ [])) b

  cond_opens : (b : Bool) (e f : Expansion) (xs ys : List Op) → Basically e xs → Basically f ys → Basically (cond b e f) (cond b xs ys)
  cond_opens true e f xs ys p q = p
  cond_opens false e f xs ys p q = q

  ty_cost : (p : ℕ) → p < length rows → cost rows w C (Ty p) ≤ 5 * length (C p)
  ty_cost p l = omega arith

  module _ (op : ℕ → Op) (p : ℕ) where
    part_ops : (o : Option ℕ) → ops_of rows w C (part_task op p o) ≡ code_part op C p o
    part_ops (Some n) = refl
    part_ops None = refl

    part_cost : (o : Option ℕ) → cost rows w C (part_task op p o) ≤ 5 * length (code_part op C p o)
    part_cost (Some n) = omega arith
    part_cost None = omega arith

    part_fine : (o : Option ℕ) → p < length rows → Fine rows (part_task op p o)
    part_fine (Some n) l = tt
    part_fine None l = l

    over_opens : (whole o : Op) → p < length rows → Basically (expand_over whole o op rows p) (code_over whole o op rows C p)
    over_opens whole o l =
        let x = plain_of (row rows p).alts in
        cond_opens (just_any (row rows p).alts) _ _ _ _ (one_opens whole) (two_opens o (part_task op p x) (code_part op C p x) (part_ops x) (omega (arith, part_cost x)) (part_fine x l))

  dict_opens : (k v : ℕ) → k < length rows → v < length rows → Basically (expand_dict rows k v) (code_dict rows C k v)
  dict_opens k v l m =
      let o = plain_of (row rows k).alts in
      cond_opens (just_any (row rows k).alts && just_any (row rows v).alts) _ _ _ _ (one_opens (leaf IsDict)) (right _ (code_part item_op C k o) (C v) DictOf (three_opens DictOf (part_task item_op k o) (Ty v) (code_part item_op C k o) (C v) (part_ops item_op k o) refl (part_cost item_op k o) (ty_cost v m) (part_fine item_op k o l) m))

  pair_opens : (x y : ℕ) (a b : Option ℕ) → x < length rows → y < length rows → Basically (expand_pair x y a b) (code_pair C x y a b ++ Write IsTupleElems2 0 2 ∷ [])
  pair_opens x y (Some a) (Some b) l m = three_opens (Write IsTupleElems2 0 2) (Step (type_id a)) (Step (type_id b)) (type_id a ∷ []) (type_id b ∷ []) refl refl (omega arith) (omega arith) tt tt
  pair_opens x y (Some a) None l m = three_opens (Write IsTupleElems2 0 2) (Ty x) (Ty y) (C x) (C y) refl refl (ty_cost x l) (ty_cost y m) l m
  pair_opens x y None b l m = three_opens (Write IsTupleElems2 0 2) (Ty x) (Ty y) (C x) (C y) refl refl (ty_cost x l) (ty_cost y m) l m

  elems_opens : (t i : ℕ) (es : List ℕ) → Fine rows (Elements t i 0) → elems (alt_at rows t i) ≡ es → ((j : ℕ) → j < length es → get_or es j 0 < length rows) → Basically (elems_by rows t i es (length es)) (code_tuple rows C es)
  elems_opens t i [] f e low = one_opens (leaf IsTupleElems0)
  elems_opens t i (x ∷ []) f e low = two_opens (Write IsTupleElems1 0 1) (Ty x) (C x) refl (omega (arith, ty_cost x (low 0 (omega arith)))) (low 0 (omega arith))
  elems_opens t i (x ∷ (y ∷ [])) f e low = pair_opens x y (plain_of (row rows x).alts) (plain_of (row rows y).alts) (low 0 (omega arith)) (low 1 (omega arith))
  elems_opens t i (x ∷ (y ∷ (z ∷ zs))) f e low =
      let all : code_all C (elems (alt_at rows t i)) ≡ code_all C (x ∷ (y ∷ (z ∷ zs))) = ap (code_all C) e in
      subst (λ e. Basically e (code_tuple rows C (x ∷ (y ∷ (z ∷ zs))))) (sym (many (length (x ∷ (y ∷ (z ∷ zs)))) _ _ _ _ (omega arith))) (two_opens (Write IsTupleElems 0 (length (x ∷ (y ∷ (z ∷ zs))))) (Elements t i 0) (code_all C (x ∷ (y ∷ (z ∷ zs)))) all (omega (arith, ap length all)) f)

  basic_opens : (t i : ℕ) → t < length rows → i < length (row rows t).alts → (a : Alt) → alt_at rows t i ≡ a → all_under (length rows) (parts a) → ((j : ℕ) → j < length (elems a) → get_or (elems a) j 0 < length rows) → Basically (expand_basic rows w t i a) (code_basic rows w C a)
  basic_opens t i l m any e u low = one_opens (leaf IsAny)
  basic_opens t i l m (plain n) e u low = one_opens (value_op n)
  basic_opens t i l m (iter p) e u low = one_opens (leaf IsIterable)
  basic_opens t i l m callable e u low = one_opens (leaf IsCallable)
  basic_opens t i l m kind e u low = one_opens (leaf IsType)
  basic_opens t i l m (list p) e u low = over_opens item_op p (leaf IsList) ListOf u.0
  basic_opens t i l m (tuple ts) e u low = elems_opens t i ts (l, m) (ap elems e) low
  basic_opens t i l m (tuple_of p) e u low = over_opens type_id p (type_id 8) (Write IsTupleOf 0 1) u.0
  basic_opens t i l m (dict k v) e u low = dict_opens k v u.0 u.1.0
  basic_opens t i l m (custom n) e u low = one_opens (custom_op w n)
  basic_opens t i l m (set_of p) e u low = over_opens item_op p (leaf IsSet) SetOf u.0

  module _ (t i : ℕ) (l : t < length rows) (m : i < length (row rows t).alts) where
    basic_ops : (a : Alt) → alt_at rows t i ≡ a → ops_of rows w C (Basic t i) ≡ code_basic rows w C a
    basic_ops a e = ap (code_basic rows w C) e

    basic_cost : (a : Alt) → alt_at rows t i ≡ a → cost rows w C (Basic t i) ≤ 5 * length (code_basic rows w C a)
    basic_cost a e = omega (arith, ap length (basic_ops a e))

    beside_ops : (a : Alt) → alt_at rows t i ≡ a → ops_of rows w C (beside_task t i a) ≡ code_beside rows w C a
    beside_ops (plain n) e = refl
    beside_ops a e = basic_ops a e

    beside_cost : (a : Alt) → alt_at rows t i ≡ a → cost rows w C (beside_task t i a) ≤ 5 * length (code_beside rows w C a)
    beside_cost (plain n) e = omega arith
    beside_cost a e = basic_cost a e

    beside_fine : (a : Alt) → Fine rows (beside_task t i a)
    beside_fine (plain n) = tt
    beside_fine _ = (l, m)

    none_or_opens : (a : Alt) → alt_at rows t i ≡ a → Basically (expand_none_or t i a) (code_none_or rows w C a)
    none_or_opens a e = three_opens (Write IsAnyOfTwo 0 2) (leaf_task IsNone) (beside_task t i a) (leaf IsNone ∷ []) (code_beside rows w C a) refl (beside_ops a e) (omega arith) (beside_cost a e) tt (beside_fine a)

  two_sides : (t : ℕ) → t < length rows → (a b : Alt) → (row rows t).alts ≡ a ∷ b ∷ [] → Basically (expand_two t a b) (code_two rows w C a b)
  two_sides t l a b e =
      let zero_in : 0 < length (row rows t).alts = omega (arith, ap length e) in
      let one_in : 1 < length (row rows t).alts = omega (arith, ap length e) in
      let first : alt_at rows t 0 ≡ a = ap (λ xs. get_or xs 0 any) e in
      let second : alt_at rows t 1 ≡ b = ap (λ xs. get_or xs 1 any) e in
      let general = right (Three (Step AnyOfTwo) (Basic t 1) (Basic t 0)) (code_basic rows w C a) (code_basic rows w C b) AnyOfTwo (three_opens AnyOfTwo (Basic t 0) (Basic t 1) (code_basic rows w C a) (code_basic rows w C b) (basic_ops t 0 l zero_in a first) (basic_ops t 1 l one_in b second) (basic_cost t 0 l zero_in a first) (basic_cost t 1 l one_in b second) (l, zero_in) (l, one_in)) in
      let by = cond_opens (is_none a) (expand_none_or t 1 b) (cond (is_none b) (expand_none_or t 0 a) (Three (Step AnyOfTwo) (Basic t 1) (Basic t 0))) (code_none_or rows w C b) (cond (is_none b) (code_none_or rows w C a) (code_basic rows w C a ++ (code_basic rows w C b ++ AnyOfTwo ∷ [])))
      (none_or_opens t 1 l one_in b second)
      (cond_opens (is_none b) (expand_none_or t 0 a) (Three (Step AnyOfTwo) (Basic t 1) (Basic t 0)) (code_none_or rows w C a) (code_basic rows w C a ++ (code_basic rows w C b ++ AnyOfTwo ∷ [])) (none_or_opens t 0 l zero_in a first) general) in
      by

  looser : (e : Expansion) (ops : List Op) → Basically e ops → 1 ≤ length ops → Opens e ops (5 * length ops - 1)
  looser e ops b s = record { same = b.same; less = omega (arith, b.less); fine = b.fine }

  union_opens : (t : ℕ) → t < length rows → (xs : List Alt) → (row rows t).alts ≡ xs → Opens (expand_union rows t (length xs)) (code_union rows w C xs) (5 * length (code_union rows w C xs) - 1)
  union_opens t l [] e = looser _ _ (one_opens (leaf IsNever)) (omega arith)
  union_opens t l (a ∷ []) e =
      let inside : 0 < length (row rows t).alts = omega (arith, ap length e) in
      let first : alt_at rows t 0 ≡ a = ap (λ xs. get_or xs 0 any) e in
      let ops = basic_ops t 0 l inside a first in
      record { same = ops; less = omega (arith, ap length ops, basic_some rows w C a); fine = ((l, inside), tt) }
  union_opens t l (a ∷ (b ∷ [])) e =
      let first : alt_at rows t 0 ≡ a = ap (λ xs. get_or xs 0 any) e in
      let second : alt_at rows t 1 ≡ b = ap (λ xs. get_or xs 1 any) e in
      subst (λ x. Opens x (code_two rows w C a b) (5 * length (code_two rows w C a b) - 1)) (ap₂ (λ p q. expand_two t p q) (sym first) (sym second)) (looser (expand_two t a b) (code_two rows w C a b) (two_sides t l a b e) (union_some rows w C (a ∷ (b ∷ []))))
  union_opens t l (a ∷ (b ∷ (c ∷ xs))) e =
      let all : code_alts rows w C (row rows t).alts ≡ code_alts rows w C (a ∷ (b ∷ (c ∷ xs))) = ap (code_alts rows w C) e in
      subst (λ e. Opens e (code_union rows w C (a ∷ (b ∷ (c ∷ xs)))) (5 * length (code_union rows w C (a ∷ (b ∷ (c ∷ xs)))) - 1)) (sym (many (length (a ∷ (b ∷ (c ∷ xs)))) _ _ _ _ (omega arith))) (looser _ _ (two_opens (AnyOf (length (a ∷ (b ∷ (c ∷ xs))))) (Alternatives t 0) (code_alts rows w C (a ∷ (b ∷ (c ∷ xs)))) all (omega (arith, ap length all)) l) (union_some rows w C (a ∷ (b ∷ (c ∷ xs)))))

  alternatives_opens : (t i : ℕ) → t < length rows → Opens (expand_alternatives rows t i) (ops_of rows w C (Alternatives t i)) (cost rows w C (Alternatives t i))
  alternatives_opens t i l = by (ltb i (length (row rows t).alts)) refl
    where
      by : (b : Bool) → ltb i (length (row rows t).alts) ≡ b → Opens (cond b (Two (Alternatives t (i + 1)) (Basic t i)) Zero) (ops_of rows w C (Alternatives t i)) (cost rows w C (Alternatives t i))
      by true h =
          let inside = ltb-true i (length (row rows t).alts) h in
          let e : code_alts rows w C (drop i (row rows t).alts) ≡ code_basic rows w C (alt_at rows t i) ++ code_alts rows w C (drop (i + 1) (row rows t).alts) = ap (code_alts rows w C) (drop_more (row rows t).alts i any inside) in
          record { same = sym e; less = omega (arith, ap length e, length-append (code_basic rows w C (alt_at rows t i)) (code_alts rows w C (drop (i + 1) (row rows t).alts)), basic_some rows w C (alt_at rows t i)); fine = (l, ((l, inside), tt)) }
      by false h =
          let e : code_alts rows w C (drop i (row rows t).alts) ≡ [] = ap (code_alts rows w C) (drop_all i (row rows t).alts (ltb-false i (length (row rows t).alts) h)) in
          record { same = sym e; less = omega arith; fine = tt }

  elements_opens : (t i j : ℕ) → t < length rows → i < length (row rows t).alts → Opens (expand_elements rows t i j) (ops_of rows w C (Elements t i j)) (cost rows w C (Elements t i j))
  elements_opens t i j l m = by (ltb j (length (elems (alt_at rows t i)))) refl
    where
      es : List ℕ
      es = elems (alt_at rows t i)

      by : (b : Bool) → ltb j (length (elems (alt_at rows t i))) ≡ b → Opens (cond b (Two (Elements t i (j + 1)) (Ty (get_or (elems (alt_at rows t i)) j 0))) Zero) (ops_of rows w C (Elements t i j)) (cost rows w C (Elements t i j))
      by true h =
          let inside : j < length (elems (alt_at rows t i)) = omega (arith, ltb-true j (length (elems (alt_at rows t i))) h) in
          let p = get_or (elems (alt_at rows t i)) j 0 in
          let low = element_in rows sound t i l m j inside in
          let e : code_all C (drop j (elems (alt_at rows t i))) ≡ C p ++ code_all C (drop (j + 1) (elems (alt_at rows t i))) = ap (code_all C) (drop_more (elems (alt_at rows t i)) j 0 inside) in
          record { same = sym e; less = omega (arith, ap length e, length-append (C p) (code_all C (drop (j + 1) (elems (alt_at rows t i)))), code_some rows w sound p low); fine = ((l, m), (low, tt)) }
      by false h =
          let past : length (elems (alt_at rows t i)) ≤ j = omega (arith, ltb-false j (length (elems (alt_at rows t i))) h) in
          let e : code_all C (drop j (elems (alt_at rows t i))) ≡ [] = ap (code_all C) (drop_all j (elems (alt_at rows t i)) past) in
          record { same = sym e; less = omega arith; fine = tt }

  pub opens : (task : Task) → Fine rows task → ((o : Op) → task ≡ Step o → ⊥) → Opens (expand rows w task) (ops_of rows w C task) (cost rows w C task)
  unfolding expand
  opens (Ty t) f h = subst (λ ops. Opens (expand_union rows t (length (row rows t).alts)) ops (5 * length ops - 1)) (sym (code_is rows w sound t f)) (union_opens t f (row rows t).alts refl)
  opens (Basic t i) f h = basic_opens t i f.0 f.1 (alt_at rows t i) refl (under_up t (length rows) (parts (alt_at rows t i)) (omega (arith, f.0)) (alt_fine rows sound t i f.0 f.1).0) (λ j l. element_in rows sound t i f.0 f.1 j l)
  opens (Alternatives t i) f h = alternatives_opens t i f
  opens (Elements t i j) f h = elements_opens t i j f.0 f.1
  opens (Step o) f h = absurd (h o refl)
