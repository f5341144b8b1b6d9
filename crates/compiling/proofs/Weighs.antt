-- Compiling a type takes no more steps than its weight. Assumes nothing.
use Rattle.std.proofs.Common.{ℕ, zero, suc, ◌+◌, ◌<◌, ◌≤◌, Bool, ◌&&◌, List, [], ◌∷◌, ◌++◌, length, Some, None, Option, ap, arith, length-append}
use Rattle.std.proofs.lemmas.Bool.{cond_both}
use Rattle.matcher.specs.declared.kind.Kind.TheVariants.{IsList, IsSet, IsTupleOf, IsTupleElems, IsTupleElems1, IsTupleElems2, IsAnyOfTwo}
use Rattle.membership.specs.Rows.{Alt, any, plain, iter, callable, kind, list, tuple, tuple_of, dict, custom, set_of, Row, row, parts, total, weight_alts, one_less}
use Rattle.membership.specs.Readings.{just_any, plain_of}
use Rattle.compiling.proofs.Fines.{all_under, AltsFine, Fines}
use Rattle.compiling.specs.Code.{Codes, code, leaf, type_id, item_op, code_part, code_over, code_all, code_pair, code_tuple, code_basic, code_beside, code_alts, code_union}
use Rattle.compiling.specs.Written.{is_none}
use Rattle.compiling.specs.declared.tasks.Op.{Op}
use Rattle.compiling.specs.declared.tasks.Op.TheVariants.{Write, ListOf, SetOf, DictOf, AnyOfTwo, AnyOf}
use Rattle.compiling.proofs.Codes.{code_is, code_some}

-- no more steps than the weight
abbrev Few : ℕ → List Op → Type 0
Few n os = length os ≤ n

module _ (rows : List Row) (w : ℕ → Bool) (sound : Fines rows) where
  abbrev D : Codes
  D = code rows w

  end : (c : List Op) (o : Op) (n : ℕ) → length c ≤ n → length (c ++ o ∷ []) ≤ n + 1
  end c o n l = omega (arith, length-append c (o ∷ []))

  join : (c e : List Op) (n m : ℕ) → length c ≤ n → length e ≤ m → length (c ++ e) ≤ n + m
  join c e n m l k = omega (arith, length-append c e)

  module _ (t : ℕ) (l : t < length rows) (ih : (p : ℕ) → p < t → length (D p) ≤ (row rows p).heavy) where
    one_light : (p : ℕ) → p < t → 1 ≤ (row rows p).heavy
    one_light p u = omega (arith, ih p u, code_some rows w sound p (omega arith))

    part_light : (op : ℕ → Op) (p : ℕ) (o : Option ℕ) → p < t → length (code_part op D p o) ≤ (row rows p).heavy
    part_light op p (Some n) u = one_light p u
    part_light op p None u = ih p u

    over_light : (whole o : Op) (op : ℕ → Op) (p : ℕ) → p < t → length (code_over whole o op rows D p) ≤ 1 + (row rows p).heavy
    over_light whole o op p u =
        let x = plain_of (row rows p).alts in
        cond_both (just_any (row rows p).alts) _ _ (Few (1 + (row rows p).heavy)) (λ _. omega arith) (λ _. omega (arith, end (code_part op D p x) o (row rows p).heavy (part_light op p x u)))

    all_light : (ps : List ℕ) → all_under t ps → length (code_all D ps) ≤ total rows ps
    all_light [] u = omega arith
    all_light (p ∷ ps) u = join (D p) (code_all D ps) (row rows p).heavy (total rows ps) (ih p u.0) (all_light ps u.1)

    pair_light : (x y : ℕ) (a b : Option ℕ) → x < t → y < t → length (code_pair D x y a b) ≤ (row rows x).heavy + (row rows y).heavy
    pair_light x y (Some a) (Some b) u v = omega (arith, one_light x u, one_light y v)
    pair_light x y (Some a) None u v = join (D x) (D y) _ _ (ih x u) (ih y v)
    pair_light x y None b u v = join (D x) (D y) _ _ (ih x u) (ih y v)

    tuple_light : (ps : List ℕ) → all_under t ps → length (code_tuple rows D ps) ≤ 1 + total rows ps
    tuple_light [] u = omega arith
    tuple_light (x ∷ []) u = omega (arith, end (D x) (Write IsTupleElems1 0 1) (row rows x).heavy (ih x u.0))
    tuple_light (x ∷ (y ∷ [])) u = omega (arith, end (code_pair D x y (plain_of (row rows x).alts) (plain_of (row rows y).alts)) (Write IsTupleElems2 0 2) ((row rows x).heavy + (row rows y).heavy) (pair_light x y (plain_of (row rows x).alts) (plain_of (row rows y).alts) u.0 u.1.0))
    tuple_light (x ∷ (y ∷ (z ∷ zs))) u = omega (arith, end (code_all D (x ∷ (y ∷ (z ∷ zs)))) (Write IsTupleElems 0 (length (x ∷ (y ∷ (z ∷ zs))))) (total rows (x ∷ (y ∷ (z ∷ zs)))) (all_light (x ∷ (y ∷ (z ∷ zs))) u))

    basic_light : (a : Alt) → all_under t (parts a) → length (code_basic rows w D a) ≤ 1 + total rows (parts a)
    basic_light any u = omega arith
    basic_light (plain n) u = omega arith
    basic_light (iter p) u = omega arith
    basic_light callable u = omega arith
    basic_light kind u = omega arith
    basic_light (list p) u = omega (arith, over_light (leaf IsList) ListOf item_op p u.0)
    basic_light (tuple ps) u = tuple_light ps u
    basic_light (tuple_of p) u = omega (arith, over_light (type_id 8) (Write IsTupleOf 0 1) type_id p u.0)
    basic_light (dict k v) u = cond_both (just_any (row rows k).alts && just_any (row rows v).alts) _ _ (Few (1 + total rows (parts (dict k v)))) (λ _. omega arith) (λ _. omega (arith, join (code_part item_op D k (plain_of (row rows k).alts)) (D v ++ DictOf ∷ []) (row rows k).heavy ((row rows v).heavy + 1) (part_light item_op k (plain_of (row rows k).alts) u.0) (end (D v) DictOf (row rows v).heavy (ih v u.1.0))))
    basic_light (custom n) u = omega arith
    basic_light (set_of p) u = omega (arith, over_light (leaf IsSet) SetOf item_op p u.0)

    beside_light : (a : Alt) → all_under t (parts a) → length (code_beside rows w D a) ≤ 1 + total rows (parts a)
    beside_light (plain n) u = omega arith
    beside_light a u = basic_light a u

    alts_light : (xs : List Alt) → AltsFine t xs → length (code_alts rows w D xs) ≤ weight_alts rows xs
    alts_light [] f = omega arith
    alts_light (a ∷ xs) f = omega (arith, join (code_basic rows w D a) (code_alts rows w D xs) (1 + total rows (parts a)) (weight_alts rows xs) (basic_light a f.0.0) (alts_light xs f.1))

    union_light : (xs : List Alt) → AltsFine t xs → length (code_union rows w D xs) ≤ weight_alts rows xs + one_less xs
    union_light [] f = omega arith
    union_light (a ∷ []) f = omega (arith, basic_light a f.0.0)
    union_light (a ∷ (b ∷ [])) f =
        let la = basic_light a f.0.0 in
        let lb = basic_light b f.1.0.0 in
        let n = weight_alts rows (a ∷ (b ∷ [])) + one_less (a ∷ (b ∷ [])) in
        cond_both (is_none a) _ _ (Few n) (λ _. omega (arith, end (code_beside rows w D b) (Write IsAnyOfTwo 0 2) (1 + total rows (parts b)) (beside_light b f.1.0.0)))
        (λ _. cond_both (is_none b) _ _ (Few n) (λ _. omega (arith, end (code_beside rows w D a) (Write IsAnyOfTwo 0 2) (1 + total rows (parts a)) (beside_light a f.0.0)))
        (λ _. omega (arith, join (code_basic rows w D a) (code_basic rows w D b ++ AnyOfTwo ∷ []) (1 + total rows (parts a)) (1 + total rows (parts b) + 1) la (end (code_basic rows w D b) AnyOfTwo (1 + total rows (parts b)) lb))))
    union_light (a ∷ (b ∷ (c ∷ xs))) f = end (code_alts rows w D (a ∷ (b ∷ (c ∷ xs)))) (AnyOf (length (a ∷ (b ∷ (c ∷ xs))))) (weight_alts rows (a ∷ (b ∷ (c ∷ xs)))) (alts_light (a ∷ (b ∷ (c ∷ xs))) f)

  pub light_by : (f t : ℕ) → t < f → t < length rows → length (D t) ≤ (row rows t).heavy
  light_by zero t m l = absurd (omega arith)
  light_by (suc f) t m l =
      let s = sound.at t l in
      omega (arith, ap length (code_is rows w sound t l), s.heavy, union_light t l (λ p u. light_by f p (omega arith) (omega arith)) (row rows t).alts s.under)
