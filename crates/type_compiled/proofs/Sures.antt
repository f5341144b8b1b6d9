-- What is read of a table of types. Assumes nothing.
use Rattle.std.proofs.Common.{◌≡◌, ℕ, ◌+◌, ◌-◌, ◌*◌, ◌<◌, ◌≤◌, Bool, true, false, cond, ltb, List, length, get_or, Some, Ok, Err, Option, Result, sym, refl, ap, ◌∙◌, subst, inl, inr, arith}
use Rattle.std.proofs.lemmas.Bool.{lt-ltb, le-ltb, ltb-true, ltb-false, cases_lt}
use Rattle.std.proofs.lemmas.Option.{slice_get_within, get_or_from_slice_get, slice_get-get_or}
use Rattle.std.specs.List.{slice_get, between}
use Rattle.values.specs.declared.refusal.Refusal.{Refusal}
use Rattle.values.specs.declared.refusal.Refusal.TheVariants.{NoType}
use Rattle.matcher.specs.Nodes.{Node, used, valid}
use Rattle.matcher.proofs.Grows.{valid_used}
use Rattle.membership.specs.Rows.{Alt, tuple, Row, row}
use Rattle.membership.specs.Readings.{alt_at, elems}
use Rattle.typing.specs.Held.{rows_of}
use Rattle.typing.specs.Outcomes.{type_says}
use Rattle.typing.specs.View.{alt, pooled}
use Rattle.typing.specs.declared.types.Types.{Types}
use Rattle.typing.specs.declared.basic.TyBasic.TheVariants.{Tuple}
use Rattle.typing.specs.declared.basic.TyTuple.{TyTuple}
use Rattle.typing.specs.declared.basic.TyTuple.TheVariants.{Elems}
use Rattle.typing.proofs.Walks.{elements_are}
use Rattle.typing.proofs.Reading.{sound_of}
use Rattle.compiling.specs.Tasks.{expand_elements, expand_basic, elems_by}
use Rattle.compiling.specs.declared.tasks.Task.TheVariants.{Ty, Elements}
use Rattle.compiling.specs.declared.tasks.Expansion.{Expansion}
use Rattle.compiling.specs.declared.tasks.Expansion.TheVariants.{Zero, Two}
use Rattle.compiling.proofs.Fines.{Fines, fines_of}
use Rattle.compiling.proofs.Unders.{alt_fine, elems_few}

pub fine_of : (s : Types) → Fines (rows_of s)
fine_of s = fines_of (rows_of s) (sound_of s)

module _ (rows : List Row) (t i j : ℕ) where
  abbrev es : List ℕ
  es = elems (alt_at rows t i)

  is_by : (b : Bool) → ltb j (length es) ≡ b → expand_elements rows t i j ≡ cond b (Two (Elements t i (j + 1)) (Ty (get_or es j 0))) Zero
  is_by b e = ap (λ c. cond c (Two (Elements t i (j + 1)) (Ty (get_or es j 0))) Zero) e

  pub elements_some : (e : ℕ) → Some e ≡ slice_get es j → Two (Elements t i (j + 1)) (Ty e) ≡ expand_elements rows t i j
  elements_some e h =
      sym (is_by true (lt-ltb j (length es) (slice_get_within es j e (sym h))) ∙ ap (λ x. Two (Elements t i (j + 1)) (Ty x)) (get_or_from_slice_get es j e 0 (sym h)))

  pub elements_none : (o : Option ℕ) → o ≡ slice_get es j → ((e : ℕ) → o ≡ Some e → ⊥) → Zero ≡ expand_elements rows t i j
  elements_none o h n =
      elim (cases_lt j (length es)) [ inl l ↦ absurd (n _ (h ∙ slice_get-get_or es j 0 l)) | inr l ↦ sym (is_by false (le-ltb j (length es) l)) ]

  pub elements_low : Fines rows → t < length rows → i < length (row rows t).alts → (e : ℕ) → Some e ≡ slice_get es j → j < 64
  elements_low fine l m e h = omega (arith, slice_get_within es j e (sym h), elems_few (alt_at rows t i) (alt_fine rows fine t i l m).2)

pub room_of : (limit : ℕ) (rows : List Row) (ns : List Node) (t : ℕ) → valid limit ns ≡ true → 2 * (row rows t).heavy ≤ limit - used ns → used ns + 2 * (row rows t).heavy ≤ limit
room_of limit rows ns t v r = omega (arith, valid_used limit ns v)

-- what an answer about a type says of it
pub says_ok : (rows : List Row) (t : ℕ) (f : Row → ℕ) (n : ℕ) → Ok n ≡ type_says rows t f → (t < length rows) × (n ≡ f (row rows t))
says_ok rows t f n h = by (ltb t (length rows)) refl h
  where
    by : (b : Bool) → ltb t (length rows) ≡ b → ◌≡◌ {A = Result ℕ Refusal} (Ok n) (cond b (Ok (f (row rows t))) (Err NoType)) → (t < length rows) × (n ≡ f (row rows t))
    by true q e = (ltb-true t (length rows) q, cc)
    by false q e = absurd cc

pub says_err : (rows : List Row) (t : ℕ) (f : Row → ℕ) (why : Refusal) → Err why ≡ type_says rows t f → (length rows ≤ t) × (why ≡ NoType)
says_err rows t f why h = by (ltb t (length rows)) refl h
  where
    by : (b : Bool) → ltb t (length rows) ≡ b → ◌≡◌ {A = Result ℕ Refusal} (Err why) (cond b (Ok (f (row rows t))) (Err NoType)) → (length rows ≤ t) × (why ≡ NoType)
    by true q e = absurd cc
    by false q e = (ltb-false t (length rows) q, cc)

module _ (pool : List ℕ) (a : Alt) (x : TyTuple) (from to : ℕ) (is : x ≡ Elems from to) (read : alt pool (Tuple x) ≡ a) (pool-ok : pooled (length pool) (Tuple x) ≡ true) where
  tuple_is : tuple (between from to pool) ≡ a
  tuple_is = sym (ap (λ (y : TyTuple). alt pool (Tuple y)) is) ∙ read

  pub tuple_many : to - from ≡ length (elems a)
  tuple_many =
      elements_are pool (Tuple (Elems from to)) from to refl (subst (λ (y : TyTuple). pooled (length pool) (Tuple y) ≡ true) is pool-ok)
      ∙ ap (λ (b : Alt). length (elems b)) tuple_is

elems_open : (rows : List Row) (t i n : ℕ) (ts : List ℕ) (a : Alt) → tuple ts ≡ a → n ≡ length (elems a) → (r : Expansion) → r ≡ elems_by rows t i (elems a) n → (w : ℕ → Bool) → r ≡ expand_basic rows w t i a
elems_open rows t i n ts a e p r q w =
    subst (λ (x : Alt). n ≡ length (elems x) → r ≡ elems_by rows t i (elems x) n → r ≡ expand_basic rows w t i x) e (λ p' q'. q' ∙ ap (elems_by rows t i ts) p') p q

pub tuple_opens : (rows : List Row) (pool : List ℕ) (t i : ℕ) (x : TyTuple) (from to : ℕ) → x ≡ Elems from to → alt pool (Tuple x) ≡ alt_at rows t i → pooled (length pool) (Tuple x) ≡ true → (r : Expansion) → r ≡ elems_by rows t i (elems (alt_at rows t i)) (to - from) → (w : ℕ → Bool) → r ≡ expand_basic rows w t i (alt_at rows t i)
tuple_opens rows pool t i x from to is read ok r h w =
    elems_open rows t i (to - from) (between from to pool) (alt_at rows t i) (tuple_is pool (alt_at rows t i) x from to is read ok) (tuple_many pool (alt_at rows t i) x from to is read ok) r h w
