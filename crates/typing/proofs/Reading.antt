-- What is read of a table of types. Assumes nothing.
use Rattle.std.proofs.Common.{◌≡◌, ℕ, zero, suc, ◌<◌, ◌≤◌, true, false, List, [], ◌∷◌, length, get_or, Some, None, Ok, Err, Result, sym, refl, ap, ◌∙◌, arith}
use Rattle.std.proofs.lemmas.List.{length-map, get_or-map, get_or_default}
use Rattle.std.proofs.lemmas.Bool.{lt-ltb}
use Rattle.std.specs.List.{slice_get}
use Rattle.values.specs.declared.refusal.Refusal.{Refusal}
use Rattle.membership.specs.Rows.{Alt, any, Row, row, never, is_any, each, Sound, grown, union2}
use Rattle.membership.specs.Readings.{elems, just_any, plain_alt, plain_of}
use Rattle.membership.proofs.Laws.{unions}
use Rattle.typing.specs.View.{alt, alts, pooled}
use Rattle.typing.specs.Outcomes.{type_says, BasicAt, only_of, Answered, MembersOf}
use Rattle.typing.specs.Held.{rows_of}
use Rattle.typing.specs.Growing.{Ready}
use Rattle.typing.specs.declared.basic.TyBasic.{TyBasic}
use Rattle.typing.specs.declared.basic.TyBasic.TheVariants.{Any}
use Rattle.typing.specs.declared.types.Types.{Types}
use Rattle.typing.proofs.Walks.{pooled_at}

-- what always holds of the rows of a table
pub sound_of : (s : Types) → Sound (rows_of s)
sound_of s = record { standing = s.standing; forms = s.forms; sizes = s.sizes; own_numbers = s.unique; begun = s.begun; limited = s.limited }

pub ready_of : (s : Types) → Ready s.rows s.scratch
ready_of s = record { sound = sound_of s; packed = omega (arith, s.packed); for_rows = s.forrows; for_all = s.forall; for_scratch = s.forscratch }

pub missing_row : (t : List Row) (n : ℕ) → length t ≤ n → row t n ≡ never
missing_row [] n l = refl
missing_row (r ∷ t) zero l = absurd (omega arith)
missing_row (r ∷ t) (suc n) l = missing_row t n (omega arith)

pub says_there : (t : List Row) (n : ℕ) (f : Row → ℕ) (x : ℕ) → n < length t → x ≡ f (row t n) → ◌≡◌ {A = Result ℕ Refusal} (Ok x) (type_says t n f)
says_there t n f x l e = rw (lt-ltb n (length t) l) (ap (λ (y : ℕ). ok_of y) e)
  where
    ok_of : ℕ → Result ℕ Refusal
    ok_of y = Ok y

-- the alternatives of a type, as a slice xs
module _ (pool : List ℕ) (xs : List TyBasic) (ys : List Alt) (is : alts pool xs ≡ ys) where
  pub as_many : length xs ≡ length ys
  as_many = sym (length-map xs (alt pool)) ∙ ap length is

  pub basic_there : (i : ℕ) (b : TyBasic) → each (pooled (length pool)) xs ≡ true → i < length xs → b ≡ get_or xs i Any → BasicAt pool ys i (Some b)
  basic_there i b fits l e = (
    omega (arith, as_many),
    ap (alt pool) e ∙ sym (get_or-map (alt pool) xs i Any any l) ∙ ap (λ (z : List Alt). get_or z i any) is,
    pooled_at (pooled (length pool)) xs i b fits l (e ∙ get_or_default xs i Any b l),
  )

  pub only_any : (x : TyBasic) → only_of xs ≡ Some x → is_any (alt pool x) ≡ just_any ys
  only_any x e = go xs e ∙ ap just_any is
    where
      go : (zs : List TyBasic) → only_of zs ≡ Some x → is_any (alt pool x) ≡ just_any (alts pool zs)
      go [] e = let z : ◌≡◌ {A = ℕ} 0 1 = cc in absurd (omega arith)
      go (z ∷ []) e = let p : z ≡ x = cc in ap (λ (y : TyBasic). is_any (alt pool y)) (sym p)
      go (z ∷ (y ∷ zs)) e = let z : ◌≡◌ {A = ℕ} 0 1 = cc in absurd (omega arith)

  pub only_none : only_of xs ≡ None → (false ≡ just_any ys) × (None ≡ plain_of ys)
  only_none e = let g = go xs e in (g.0 ∙ ap just_any is, g.1 ∙ ap plain_of is)
    where
      go : (zs : List TyBasic) → only_of zs ≡ None → (false ≡ just_any (alts pool zs)) × (None ≡ plain_of (alts pool zs))
      go [] e = (refl, refl)
      go (z ∷ []) e = let z : ◌≡◌ {A = ℕ} 0 1 = cc in absurd (omega arith)
      go (z ∷ (y ∷ zs)) e = (refl, refl)

  pub only_plain : (x : TyBasic) → only_of xs ≡ Some x → plain_alt (alt pool x) ≡ plain_of ys
  only_plain x e = go xs e ∙ ap plain_of is
    where
      go : (zs : List TyBasic) → only_of zs ≡ Some x → plain_alt (alt pool x) ≡ plain_of (alts pool zs)
      go [] e = let z : ◌≡◌ {A = ℕ} 0 1 = cc in absurd (omega arith)
      go (z ∷ []) e = let p : z ≡ x = cc in ap (λ (y : TyBasic). plain_alt (alt pool y)) (sym p)
      go (z ∷ (y ∷ zs)) e = let z : ◌≡◌ {A = ℕ} 0 1 = cc in absurd (omega arith)

-- a place past the last reads as Any, which has no elements
pub none_there : (ys : List Alt) (i j : ℕ) → length ys ≤ i → None ≡ slice_get (elems (get_or ys i any)) j
none_there [] i j l = refl
none_there (y ∷ ys) zero j l = absurd (omega arith)
none_there (y ∷ ys) (suc i) j l = none_there ys i j (omega arith)

pub union_members : (t t' : List Row) (a b : ℕ) (r : Result ℕ Refusal) → Sound t → Answered (union2 t a b) t t' r → MembersOf t t' a b r
union_members t t' a b (Ok n) s h = unions t a b (grown t' n) s h
union_members t t' a b (Err f) s h = tt
