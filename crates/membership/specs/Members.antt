-- Which values a type has, on a heap and under a custom. Assumes nothing.
use Rattle.std.specs.Prelude.{◌≡◌, ℕ, zero, suc, ◌/◌, ◌%◌, ◌<◌, Bool, true, false, ◌&&◌, ◌||◌, List, [], ◌∷◌, length, ◌==◌}
use Rattle.values.specs.Cells.{Cell, cell_at}
use Rattle.custom.specs.Worlds.{Answers, World}
use Rattle.membership.specs.Rows.{Alt, any, plain, iter, callable, kind, list, tuple, tuple_of, dict, custom, set_of, Row, row, any_of, each, merges, Grown, granted, union2, Keeps, Sound}

-- flags add up: the flag f (1, 2 or 4) is among them
abbrev pub flagged : ℕ → ℕ → Bool
flagged f flags = (flags / f) % 2 == 1

-- a dict's parts are key, value by turns
abbrev pub keys : List ℕ → List ℕ
keys [] = []
keys (k ∷ []) = k ∷ []
keys (k ∷ (v ∷ rest)) = k ∷ keys rest

abbrev pub values : List ℕ → List ℕ
values [] = []
values (k ∷ []) = []
values (k ∷ (v ∷ rest)) = v ∷ values rest

-- each place is in the type of its place, and there are no more and no fewer
abbrev pub each_place : (ℕ → ℕ → Bool) → List ℕ → List ℕ → Bool
each_place has [] [] = true
each_place has [] (v ∷ vs) = false
each_place has (t ∷ ts) [] = false
each_place has (t ∷ ts) (v ∷ vs) = has t v && each_place has ts vs

-- an alternative has a cell, where `has t v` says that the type t has the value v
abbrev pub alternative_has : (ℕ → ℕ → Bool) → Answers → Alt → Cell → Bool
alternative_has has says any c = true
alternative_has has says (plain n) c = c.ty == n
alternative_has has says (iter t) c = flagged 2 c.flags
alternative_has has says callable c = flagged 1 c.flags
alternative_has has says kind c = flagged 4 c.flags
alternative_has has says (list t) c = c.ty == 5 && each (has t) c.parts
alternative_has has says (tuple ts) c = c.ty == 8 && each_place has ts c.parts
alternative_has has says (tuple_of t) c = c.ty == 8 && each (has t) c.parts
alternative_has has says (dict k v) c = c.ty == 6 && (each (has k) (keys c.parts) && each (has v) (values c.parts))
alternative_has has says (custom n) c = says n c.ty c.flags c.mark
alternative_has has says (set_of t) c = c.ty == 7 && each (has t) c.parts

-- a type has what any of its alternatives has. Parts are numbered below their type, so n + 1 levels are enough for the type n.
abbrev pub member_within : ℕ → List Row → World → ℕ → ℕ → Bool
member_within zero t w n v = false
member_within (suc f) t w n v = any_of (λ a. alternative_has (member_within f t w) w.says a (cell_at w.cells v)) (row t n).alts

abbrev pub member : List Row → World → ℕ → ℕ → Bool
member t w n v = member_within (suc n) t w n v

-- The members of the type n of t', a union of a and b of t
pub record UnionMembers (t t' : List Row) (a b n : ℕ) : Type 0 where
  pub left : (w : World) (v : ℕ) → member t w a v ≡ true → member t' w n v ≡ true
  pub right : (w : World) (v : ℕ) → member t w b v ≡ true → member t' w n v ≡ true
  pub no_other : merges t a b ≡ false → (w : World) (v : ℕ) → member t' w n v ≡ true → (member t w a v || member t w b v) ≡ true

-- A granted union has the members of its sides, and no others unless it merges
abbrev pub UnionsHaveTheirSides : Type 0
UnionsHaveTheirSides = (t : List Row) (a b : ℕ) (g : Grown) → Sound t → union2 t a b ≡ granted g → UnionMembers t g.rows a b g.number

-- A table that grows keeps the members of the types that stand
abbrev pub GrowingKeepsMembers : Type 0
GrowingKeepsMembers = (t t' : List Row) → Sound t → Keeps t t' → (w : World) (n v : ℕ) → n < length t → member t' w n v ≡ member t w n v
