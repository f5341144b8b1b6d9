-- A live heap as a state, and what its calls answer and leave. Assumes nothing.
use Rattle.std.specs.Prelude.{ℕ, ◌+◌, ◌-◌, ◌%◌, Bool, cond, ◌&&◌, ◌||◌, ltb, List, [], ◌∷◌, ◌++◌, length, drop, ℤ, is_ok, Ok, Err, Result, ◌==◌, nat_le, nat_lt, slice_set}
use Rattle.values.specs.Cells.{Cell, cell_at, cell_says, well_formed, each, most}
use Rattle.values.specs.declared.refusal.Refusal.{Refusal}
use Rattle.values.specs.declared.value.Value.{Value}
use Rattle.values.specs.Values.{value}
use Rattle.values.specs.declared.refusal.Refusal.TheVariants.{NoValue, BadForm, Frozen, NoItem, NoRoom}

-- All cells; the first `base` are those below, and the first `frozen` are frozen.
pub record Live : Type 0 where
  pub cells : List Cell
  pub base : ℕ
  pub frozen : ℕ

abbrev pub cell : ℕ → ℕ → ℤ → List ℕ → Cell
cell t f m ps = record { ty = t; flags = f; mark = m; parts = ps }

-- a live heap with no cells of its own
abbrev pub blank_over : List Cell → Live
blank_over cs = record { cells = cs; base = length cs; frozen = length cs }

-- how many parts the cells have in all
unfoldable pub parts_in : List Cell → ℕ
parts_in [] = 0
parts_in (c ∷ cs) = length c.parts + parts_in cs

-- the most cells that a live heap has of its own, and the most parts of those in all
abbrev pub most_own : ℕ
most_own = 256

abbrev pub most_parts : ℕ
most_parts = 2048

-- room for a cell with n parts
abbrev pub has_room_lem : Live → ℕ → Bool
has_room_lem s n = nat_lt (length s.cells) most && nat_lt (length s.cells - s.base) most_own && nat_le (parts_in (drop s.base s.cells) + n) most_parts

-- `new`: the number of the new cell, or 3, 4, 10
abbrev pub new_says : Live → Cell → Result Value Refusal
new_says s c =
    cond (each (λ p. ltb p (length s.cells)) c.parts)
    (cond (well_formed c)
    (cond (has_room_lem s (length c.parts)) (Ok (value (length s.cells))) (Err NoRoom))
    (Err BadForm))
    (Err NoValue)

abbrev pub added : Live → Cell → Live
added s c = record { cells = s.cells ++ (c ∷ []); base = s.base; frozen = s.frozen }

abbrev pub new_leaves : Live → Cell → Live
new_leaves s c = cond (is_ok (new_says s c)) (added s c) s

-- the cell with another part at i
abbrev pub changed : Cell → ℕ → ℕ → Cell
changed c i x = record { ty = c.ty; flags = c.flags; mark = c.mark; parts = slice_set c.parts i x }

-- the place i is an item of a list or a value of a dict
abbrev pub settable : ℕ → ℕ → Bool
settable t i = t == 5 || (t == 6 && i % 2 == 1)

-- `put`: done, or 3, 5, 6
abbrev pub put_says : Live → ℕ → ℕ → ℕ → Result Unit Refusal
put_says s v i x =
    cond (nat_lt v (length s.cells) && nat_lt i (length (cell_at s.cells v).parts) && nat_lt x (length s.cells))
    (cond (nat_lt v s.frozen) (Err Frozen)
    (cond (settable (cell_at s.cells v).ty i) (Ok tt) (Err NoItem)))
    (Err NoValue)

abbrev pub put : Live → ℕ → ℕ → ℕ → Live
put s v i x = record { cells = slice_set s.cells v (changed (cell_at s.cells v) i x); base = s.base; frozen = s.frozen }

abbrev pub put_leaves : Live → ℕ → ℕ → ℕ → Live
put_leaves s v i x = cond (is_ok (put_says s v i x)) (put s v i x) s

-- every cell that stands is frozen
abbrev pub frozen_all : Live → Live
frozen_all s = record { cells = s.cells; base = s.base; frozen = length s.cells }

-- whether the value v is frozen, or 3
abbrev pub frozen_says : Live → ℕ → Result Bool Refusal
frozen_says s v = cell_says s.cells v (λ _. ltb v s.frozen)
