-- The values of a type, by those of its parts, in the words of the nodes. Assumes nothing.
use Rattle.std.proofs.Common.{◌≡◌, ℕ, ◌/◌, ◌%◌, Bool, true, false, ◌&&◌, ◌||◌, eqb, List, [], ◌∷◌, map, Some, sym, refl, ap, ◌∙◌, ap₂, arith}
use Rattle.std.proofs.Math.Bool.{and-true, or-false}
use Rattle.values.specs.Cells.{Cell, cell_at}
use Rattle.custom.specs.Worlds.{World}
use Rattle.matcher.specs.Meaning.{Test, all, entries, placed, some}
use Rattle.membership.specs.Rows.{Alt, any, plain, iter, callable, kind, list, tuple, tuple_of, dict, custom, set_of, Row, row, is_any, each, any_of}
use Rattle.membership.specs.Readings.{just_any, plain_of, plain_alt}
use Rattle.membership.specs.Members.{keys, values, each_place, alternative_has, member}
use Rattle.membership.proofs.Belongs as belongs
use Rattle.compiling.proofs.Fines.{Fines}

-- the values of an alternative, by those of its parts
abbrev pub alt_has : World → (ℕ → Test) → Alt → ℕ → Cell → Bool
alt_has W P any v c = true
alt_has W P (plain n) v c = eqb c.ty n
alt_has W P (iter t) v c = eqb (c.flags / 2 % 2) 1
alt_has W P callable v c = eqb (c.flags % 2) 1
alt_has W P kind v c = eqb (c.flags / 4 % 2) 1
alt_has W P (list t) v c = eqb c.ty 5 && all (P t) c.parts
alt_has W P (tuple ts) v c = eqb c.ty 8 && placed (map P ts) c.parts
alt_has W P (tuple_of t) v c = eqb c.ty 8 && all (P t) c.parts
alt_has W P (dict k u) v c = eqb c.ty 6 && entries (P k) (P u) c.parts
alt_has W P (custom n) v c = W.says n c.ty c.flags c.mark
alt_has W P (set_of t) v c = eqb c.ty 7 && all (P t) c.parts

abbrev pub has : World → (ℕ → Test) → Alt → Test
has W P a v = alt_has W P a v (cell_at W.cells v)

abbrev pub some_has : World → (ℕ → Test) → List Alt → Test
some_has W P [] v = false
some_has W P (a ∷ xs) v = has W P a v || some_has W P xs v

all_each : (p : Test) (xs : List ℕ) → all p xs ≡ each p xs
all_each p [] = refl
all_each p (x ∷ xs) = ap (λ b. p x && b) (all_each p xs)

placed_each : (P : ℕ → Test) (ts vs : List ℕ) → placed (map P ts) vs ≡ each_place P ts vs
placed_each P [] [] = refl
placed_each P [] (v ∷ vs) = refl
placed_each P (t ∷ ts) [] = refl
placed_each P (t ∷ ts) (v ∷ vs) = ap (λ b. P t v && b) (placed_each P ts vs)

and_turn : (a b c d : Bool) → (a && (b && (c && d))) ≡ ((a && c) && (b && d))
and_turn true true c d = refl
and_turn true false true d = refl
and_turn true false false d = refl
and_turn false b c d = refl

entries_each : (p q : Test) (xs : List ℕ) → entries p q xs ≡ (each p (keys xs) && each q (values xs))
entries_each p q [] = refl
entries_each p q (k ∷ []) = sym (and-true (p k && true))
entries_each p q (k ∷ (v ∷ rest)) = ap (λ b. p k && (q v && b)) (entries_each p q rest) ∙ and_turn (p k) (q v) (each p (keys rest)) (each q (values rest))

over_one : (n : ℕ) → n ≡ n / 1
over_one n = omega arith

-- the two ways to say what an alternative has agree
has_is : (W : World) (P : ℕ → Test) (a : Alt) (v : ℕ) (c : Cell) → alt_has W P a v c ≡ alternative_has P W.says a c
has_is W P any v c = refl
has_is W P (plain n) v c = refl
has_is W P (iter t) v c = refl
has_is W P callable v c = ap (λ n. eqb (n % 2) 1) (over_one c.flags)
has_is W P kind v c = refl
has_is W P (list t) v c = ap (λ b. eqb c.ty 5 && b) (all_each (P t) c.parts)
has_is W P (tuple ts) v c = ap (λ b. eqb c.ty 8 && b) (placed_each P ts c.parts)
has_is W P (tuple_of t) v c = ap (λ b. eqb c.ty 8 && b) (all_each (P t) c.parts)
has_is W P (dict k u) v c = ap (λ b. eqb c.ty 6 && b) (entries_each (P k) (P u) c.parts)
has_is W P (custom n) v c = refl
has_is W P (set_of t) v c = ap (λ b. eqb c.ty 7 && b) (all_each (P t) c.parts)

some_is : (W : World) (P : ℕ → Test) (xs : List Alt) (v : ℕ) → some_has W P xs v ≡ any_of (λ a. alternative_has P W.says a (cell_at W.cells v)) xs
some_is W P [] v = refl
some_is W P (a ∷ xs) v = ap₂ ◌||◌ (has_is W P a v (cell_at W.cells v)) (some_is W P xs v)

pub member_is : (W : World) (rows : List Row) → Fines rows → (t : ℕ) → member rows W t ≡ some_has W (member rows W) (row rows t).alts
member_is W rows fine t = λ i v. (belongs.member_is rows W fine.standing t v ∙ sym (some_is W (member rows W) (row rows t).alts v)) i

module _ (W : World) (P : ℕ → Test) where
  plain_one : (a : Alt) (n : ℕ) → plain_alt a ≡ Some n → (v : ℕ) → has W P a v ≡ eqb (cell_at W.cells v).ty n
  plain_one (plain m) n e v = let q : m ≡ n = cc in ap (λ j. eqb (cell_at W.cells v).ty j) q
  plain_one _ n e v = cc

  pub plain_has : (xs : List Alt) (n : ℕ) → plain_of xs ≡ Some n → (v : ℕ) → some_has W P xs v ≡ eqb (cell_at W.cells v).ty n
  plain_has [] n e v = cc
  plain_has (a ∷ []) n e v = or-false (has W P a v) ∙ plain_one a n e v
  plain_has (a ∷ (b ∷ xs)) n e v = cc

  any_alt : (a : Alt) → is_any a ≡ true → (v : ℕ) → has W P a v ≡ true
  any_alt any e v = refl
  any_alt _ e v = cc

  pub any_has : (xs : List Alt) → just_any xs ≡ true → (v : ℕ) → some_has W P xs v ≡ true
  any_has [] e v = cc
  any_has (a ∷ []) e v = or-false (has W P a v) ∙ any_alt a e v
  any_has (a ∷ (b ∷ xs)) e v = cc

  pub some_map : (xs : List Alt) (v : ℕ) → some (map (has W P) xs) v ≡ some_has W P xs v
  some_map [] v = refl
  some_map (a ∷ xs) v = ap (λ b. has W P a v || b) (some_map xs v)
