-- What holds of the rows before a call, and what it adds. Assumes nothing.
use Rattle.std.specs.Prelude.{◌≡◌, ℕ, ◌+◌, ◌≤◌, length, take, Vec, vec_items, vec_len, vec_capacity}
use Rattle.std.specs.declared.alloc.Global.{Global}
use Rattle.membership.specs.Rows.{all_places, Sound}
use Rattle.typing.specs.Rooms.{Places, places}
use Rattle.typing.specs.Making.{rows_room, all_room, scratch_room}
use Rattle.typing.specs.Held.{table_of}
use Rattle.typing.specs.declared.basic.TyBasic.{TyBasic}
use Rattle.typing.specs.declared.types.Rows.{Rows}

-- rows and alternatives that were added: those before stay, and so does the pool
pub record Grew (s s' : Rows) : Type 0 where
  pub pool_stays : s'.pool ≡ s.pool
  pub all_stay : take (length (vec_items s.all)) (vec_items s'.all) ≡ vec_items s.all
  pub rows_stay : take (length (vec_items s.rows)) (vec_items s'.rows) ≡ vec_items s.rows
  -- no more alternatives are added than the rows that are added take places
  pub packed : length (vec_items s'.all) + all_places (table_of s) ≤ length (vec_items s.all) + all_places (table_of s')

-- rows cut back to the first n, and their alternatives to the first m
pub record Cut (s s' : Rows) (n m : ℕ) : Type 0 where
  pub pool_stays : s'.pool ≡ s.pool
  pub all_cut : vec_items s'.all ≡ take m (vec_items s.all)
  pub rows_cut : vec_items s'.rows ≡ take n (vec_items s.rows)
  pub same_all_room : vec_capacity s'.all ≡ vec_capacity s.all
  pub same_rows_room : vec_capacity s'.rows ≡ vec_capacity s.rows

-- the places of the rows, and those of the alternatives of a union
abbrev pub held : Rows → Vec TyBasic Global → Places
held s u = places (vec_len s.rows) (vec_capacity s.rows) (vec_len s.all) (vec_capacity s.all) (vec_capacity u)

-- rows that a call may add to: sound, packed, and in reserved memory
pub record Ready (s : Rows) (u : Vec TyBasic Global) : Type 0 where
  pub sound : Sound (table_of s)
  pub packed : length (vec_items s.all) ≤ all_places (table_of s)
  pub for_rows : rows_room ≤ vec_capacity s.rows
  pub for_all : all_room ≤ vec_capacity s.all
  pub for_scratch : scratch_room ≤ vec_capacity u
