-- A type's code is made of the codes of its parts. Assumes nothing.
use Rattle.std.proofs.Common.{◌≡◌, ℕ, zero, suc, ◌<◌, ◌≤◌, Bool, cond, ◌&&◌, List, [], ◌∷◌, ◌++◌, length, Some, None, Option, refl, ap, ◌∙◌, ap₂, arith, length-append}
use Rattle.std.proofs.lemmas.Bool.{cond_both}
use Rattle.matcher.specs.declared.kind.Kind.TheVariants.{IsList, IsSet, IsDict, IsTupleElems, IsTupleElems1, IsTupleElems2, IsTupleOf, IsAnyOfTwo, IsNone}
use Rattle.membership.specs.Rows.{Alt, any, plain, iter, callable, kind, list, tuple, tuple_of, dict, custom, set_of, Row, row, parts}
use Rattle.membership.specs.Readings.{just_any, plain_of}
use Rattle.compiling.proofs.Fines.{all_under, AltsFine, Fines}
use Rattle.compiling.specs.Code.{Codes, leaf, type_id, item_op, code_part, code_over, code_all, code_pair, code_tuple, code_basic, code_beside, code_none_or, code_two, code_alts, code_union, code_by, code}
use Rattle.compiling.specs.Written.{is_none}
use Rattle.compiling.specs.declared.tasks.Op.{Op}
use Rattle.compiling.specs.declared.tasks.Op.TheVariants.{Write, ListOf, SetOf, DictOf, AnyOfTwo, AnyOf}

module _ (rows : List Row) (w : ℕ → Bool) (C D : Codes) (t : ℕ) (same : (p : ℕ) → p < t → C p ≡ D p) where
  part_same : (op : ℕ → Op) (p : ℕ) (o : Option ℕ) → p < t → code_part op C p o ≡ code_part op D p o
  part_same op p (Some n) l = refl
  part_same op p None l = same p l

  over_same : (whole o : Op) (op : ℕ → Op) (p : ℕ) → p < t → code_over whole o op rows C p ≡ code_over whole o op rows D p
  over_same whole o op p l = ap (λ c. cond (just_any (row rows p).alts) (whole ∷ []) (c ++ o ∷ [])) (part_same op p (plain_of (row rows p).alts) l)

  all_same : (ps : List ℕ) → all_under t ps → code_all C ps ≡ code_all D ps
  all_same [] u = refl
  all_same (p ∷ ps) u = ap₂ ◌++◌ (same p u.0) (all_same ps u.1)

  pair_same : (x y : ℕ) (a b : Option ℕ) → x < t → y < t → code_pair C x y a b ≡ code_pair D x y a b
  pair_same x y (Some a) (Some b) l m = refl
  pair_same x y (Some a) None l m = ap₂ ◌++◌ (same x l) (same y m)
  pair_same x y None b l m = ap₂ ◌++◌ (same x l) (same y m)

  tuple_same : (ps : List ℕ) → all_under t ps → code_tuple rows C ps ≡ code_tuple rows D ps
  tuple_same [] u = refl
  tuple_same (x ∷ []) u = ap (λ c. c ++ Write IsTupleElems1 0 1 ∷ []) (same x u.0)
  tuple_same (x ∷ (y ∷ [])) u = ap (λ c. c ++ Write IsTupleElems2 0 2 ∷ []) (pair_same x y (plain_of (row rows x).alts) (plain_of (row rows y).alts) u.0 u.1.0)
  tuple_same (x ∷ (y ∷ (z ∷ zs))) u = ap (λ c. c ++ Write IsTupleElems 0 (length (x ∷ (y ∷ (z ∷ zs)))) ∷ []) (all_same (x ∷ (y ∷ (z ∷ zs))) u)

  pub basic_same : (a : Alt) → all_under t (parts a) → code_basic rows w C a ≡ code_basic rows w D a
  basic_same any u = refl
  basic_same (plain n) u = refl
  basic_same (iter p) u = refl
  basic_same callable u = refl
  basic_same kind u = refl
  basic_same (list p) u = over_same (leaf IsList) ListOf item_op p u.0
  basic_same (tuple ps) u = tuple_same ps u
  basic_same (tuple_of p) u = over_same (type_id 8) (Write IsTupleOf 0 1) type_id p u.0
  basic_same (dict k v) u = ap₂ (λ c d. cond (just_any (row rows k).alts && just_any (row rows v).alts) (leaf IsDict ∷ []) (c ++ (d ++ DictOf ∷ []))) (part_same item_op k (plain_of (row rows k).alts) u.0) (same v u.1.0)
  basic_same (custom n) u = refl
  basic_same (set_of p) u = over_same (leaf IsSet) SetOf item_op p u.0

  beside_same : (a : Alt) → all_under t (parts a) → code_beside rows w C a ≡ code_beside rows w D a
  beside_same (plain n) u = refl
  beside_same a u = basic_same a u

  none_or_same : (a : Alt) → all_under t (parts a) → code_none_or rows w C a ≡ code_none_or rows w D a
  none_or_same a u = ap (λ c. leaf IsNone ∷ (c ++ Write IsAnyOfTwo 0 2 ∷ [])) (beside_same a u)

  two_same : (a b : Alt) → all_under t (parts a) → all_under t (parts b) → code_two rows w C a b ≡ code_two rows w D a b
  two_same a b u v =
      ap₂ (λ x y. cond (is_none a) x (cond (is_none b) y (code_basic rows w C a ++ (code_basic rows w C b ++ AnyOfTwo ∷ [])))) (none_or_same b v) (none_or_same a u)
      ∙ ap₂ (λ x y. cond (is_none a) (code_none_or rows w D b) (cond (is_none b) (code_none_or rows w D a) (x ++ (y ++ AnyOfTwo ∷ [])))) (basic_same a u) (basic_same b v)

  alts_same : (xs : List Alt) → AltsFine t xs → code_alts rows w C xs ≡ code_alts rows w D xs
  alts_same [] f = refl
  alts_same (a ∷ xs) f = ap₂ ◌++◌ (basic_same a f.0.0) (alts_same xs f.1)

  pub union_same : (xs : List Alt) → AltsFine t xs → code_union rows w C xs ≡ code_union rows w D xs
  union_same [] f = refl
  union_same (a ∷ []) f = basic_same a f.0.0
  union_same (a ∷ (b ∷ [])) f = two_same a b f.0.0 f.1.0.0
  union_same (a ∷ (b ∷ (c ∷ xs))) f = ap (λ x. x ++ AnyOf (length (a ∷ (b ∷ (c ∷ xs)))) ∷ []) (alts_same (a ∷ (b ∷ (c ∷ xs))) f)

module _ (rows : List Row) (w : ℕ → Bool) (sound : Fines rows) where
  fuel : (f g t : ℕ) → t < length rows → t < f → t < g → code_by rows w f t ≡ code_by rows w g t
  unfolding code_by
  fuel zero g t l m n = absurd (omega arith)
  fuel (suc f) zero t l m n = absurd (omega arith)
  fuel (suc f) (suc g) t l m n = union_same rows w (code_by rows w f) (code_by rows w g) t (λ p k. fuel f g p (omega arith) (omega arith) (omega arith)) (row rows t).alts (sound.at t l).under

  pub code_is : (t : ℕ) → t < length rows → code rows w t ≡ code_union rows w (code rows w) (row rows t).alts
  unfolding code code_by
  code_is t l = fuel (length rows) (suc (length rows)) t l l (omega arith)

-- every code has a step
ends_some : (os : List Op) (o : Op) → 1 ≤ length (os ++ o ∷ [])
ends_some os o = omega (arith, length-append os (o ∷ []))

abbrev Some_steps : List Op → Type 0
Some_steps os = 1 ≤ length os

module _ (rows : List Row) (w : ℕ → Bool) (C : Codes) where
  tuple_some : (ts : List ℕ) → 1 ≤ length (code_tuple rows C ts)
  tuple_some [] = omega arith
  tuple_some (x ∷ []) = ends_some (C x) _
  tuple_some (x ∷ (y ∷ [])) = ends_some (code_pair C x y (plain_of (row rows x).alts) (plain_of (row rows y).alts)) _
  tuple_some (x ∷ (y ∷ (z ∷ zs))) = ends_some (code_all C (x ∷ (y ∷ (z ∷ zs)))) _

  over_some : (whole o : Op) (op : ℕ → Op) (p : ℕ) → 1 ≤ length (code_over whole o op rows C p)
  over_some whole o op p = cond_both (just_any (row rows p).alts) _ _ Some_steps (λ _. omega arith) (λ _. ends_some (code_part op C p (plain_of (row rows p).alts)) o)

  dict_some : (k v : ℕ) → 1 ≤ length (code_part item_op C k (plain_of (row rows k).alts) ++ (C v ++ DictOf ∷ []))
  dict_some k v = omega (arith, length-append (code_part item_op C k (plain_of (row rows k).alts)) (C v ++ DictOf ∷ []), ends_some (C v) DictOf)

  pub basic_some : (a : Alt) → 1 ≤ length (code_basic rows w C a)
  basic_some any = omega arith
  basic_some (plain n) = omega arith
  basic_some (iter p) = omega arith
  basic_some callable = omega arith
  basic_some kind = omega arith
  basic_some (list p) = over_some (leaf IsList) ListOf item_op p
  basic_some (tuple ps) = tuple_some ps
  basic_some (tuple_of p) = over_some (type_id 8) (Write IsTupleOf 0 1) type_id p
  basic_some (dict k v) = cond_both (just_any (row rows k).alts && just_any (row rows v).alts) _ _ Some_steps (λ _. omega arith) (λ _. dict_some k v)
  basic_some (custom n) = omega arith
  basic_some (set_of p) = over_some (leaf IsSet) SetOf item_op p

  two_some : (a b : Alt) → 1 ≤ length (code_two rows w C a b)
  two_some a b = cond_both (is_none a) _ _ Some_steps (λ _. omega arith) (λ _. cond_both (is_none b) _ _ Some_steps (λ _. omega arith) (λ _. omega (arith, length-append (code_basic rows w C a) (code_basic rows w C b ++ AnyOfTwo ∷ []), basic_some a)))

  pub union_some : (xs : List Alt) → 1 ≤ length (code_union rows w C xs)
  union_some [] = omega arith
  union_some (a ∷ []) = basic_some a
  union_some (a ∷ (b ∷ [])) = two_some a b
  union_some (a ∷ (b ∷ (c ∷ xs))) = ends_some (code_alts rows w C (a ∷ (b ∷ (c ∷ xs)))) _

pub code_some : (rows : List Row) (w : ℕ → Bool) → Fines rows → (t : ℕ) → t < length rows → 1 ≤ length (code rows w t)
code_some rows w sound t l = omega (arith, ap length (code_is rows w sound t l), union_some rows w (code rows w) (row rows t).alts)
