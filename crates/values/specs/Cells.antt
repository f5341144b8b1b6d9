-- What a heap means: a list of cells. Assumes nothing.
use Rattle.std.specs.Prelude.{◌≡◌, ℕ, ◌%◌, ◌<◌, Bool, true, cond, ◌&&◌, ◌||◌, List, [], ◌∷◌, length, ℤ, pos, Some, None, Ok, Err, Option, Result, ◌==◌, int_le, nat_le, nat_lt, slice_index, slice_index_or}
use Rattle.values.specs.declared.refusal.Refusal.{Refusal}
use Rattle.values.specs.declared.value.Value.{Value}
use Rattle.values.specs.declared.head.Head.{Head}
use Rattle.values.specs.Values.{value}
use Rattle.values.specs.declared.refusal.Refusal.TheVariants.{NoValue}

-- A type number, flags, a mark, and parts that are numbers of cells.
-- Type numbers: 1 int, 2 bool, 3 None, 4 str, 5 list, 6 dict, 7 set, 8 tuple, 16 to 65535 the host's own.
-- Flags add up: 1 callable, 2 iterable, 4 stands for a type, 8 big integer.
pub record Cell : Type 0 where
  pub ty : ℕ
  pub flags : ℕ
  pub mark : ℤ
  pub parts : List ℕ

-- the most cells that a heap has
abbrev pub most : ℕ
most = 65536

-- what is read where there is no cell
abbrev pub no_cell : Cell
no_cell = record { ty = 0; flags = 0; mark = pos 0; parts = [] }

abbrev pub cell_at : List Cell → ℕ → Cell
cell_at cs v = slice_index_or cs v no_cell

-- the mark m is the number n
abbrev pub marks : ℤ → ℕ → Bool
marks m n = int_le m (pos n) && int_le (pos n) m

-- an int has flags 0 and its number as mark, or flags 8 and mark 0; n is the count of parts
abbrev pub int_formed_lem : ℕ → ℤ → ℕ → Bool
int_formed_lem f m n = (f == 0 || (f == 8 && marks m 0)) && n == 0

-- a bool has flags 0 and mark 0 or 1
abbrev pub bool_formed_lem : ℕ → ℤ → ℕ → Bool
bool_formed_lem f m n = f == 0 && (marks m 0 || marks m 1) && n == 0

-- None and a str have both 0
abbrev pub bare_formed_lem : ℕ → ℤ → ℕ → Bool
bare_formed_lem f m n = f == 0 && marks m 0 && n == 0

-- a list, a dict, a set and a tuple have flags 2 and mark 0
abbrev pub holder_formed_lem : ℕ → ℤ → Bool
holder_formed_lem f m = f == 2 && marks m 0

-- a dict's parts are key, value by turns
abbrev pub dict_formed_lem : ℕ → ℤ → ℕ → Bool
dict_formed_lem f m n = holder_formed_lem f m && n % 2 == 0

-- an own type has a number from 16 to 65535, flags 0 to 7 and any mark
abbrev pub host_formed_lem : ℕ → ℕ → ℕ → Bool
host_formed_lem t f n = nat_le 16 t && nat_le t 65535 && nat_le f 7 && n == 0

-- None or a str
abbrev pub bare_type : ℕ → Bool
bare_type t = t == 3 || t == 4

-- a list, a set or a tuple
abbrev pub holder_type : ℕ → Bool
holder_type t = t == 5 || t == 7 || t == 8

-- type number t, flags f, mark m, n parts
unfoldable pub formed : ℕ → ℕ → ℤ → ℕ → Bool
formed t f m n =
    cond (t == 1) (int_formed_lem f m n)
    (cond (t == 2) (bool_formed_lem f m n)
    (cond (bare_type t) (bare_formed_lem f m n)
    (cond (holder_type t) (holder_formed_lem f m)
    (cond (t == 6) (dict_formed_lem f m n)
    (host_formed_lem t f n)))))

abbrev pub well_formed : Cell → Bool
well_formed c = formed c.ty c.flags c.mark (length c.parts)

-- every part is a value of the list
abbrev pub Closed : List Cell → Type 0
Closed cs = (v i : ℕ) → v < length cs → i < length (cell_at cs v).parts → slice_index (cell_at cs v).parts i < length cs

abbrev pub Formed : List Cell → Type 0
Formed cs = (v : ℕ) → v < length cs → well_formed (cell_at cs v) ≡ true

-- an answer read off the cell v, or refusal 3
abbrev pub cell_says : {X : Type 0} → List Cell → ℕ → (Cell → X) → Result X Refusal
cell_says cs v f = cond (nat_lt v (length cs)) (Ok (f (cell_at cs v))) (Err NoValue)

abbrev pub head_of : Cell → Head
head_of c = record { ty = c.ty; flags = c.flags; mark = c.mark }

abbrev pub head_mark_if : ℕ → Head → Option ℤ
head_mark_if t h = cond (h.ty == t) (Some h.mark) None

-- the mark of a cell of type t
abbrev pub mark_if_lem : ℕ → Cell → Option ℤ
mark_if_lem t c = cond (c.ty == t) (Some c.mark) None

-- the part i of the cell v, or refusal 3
abbrev pub cell_part : List Cell → ℕ → ℕ → Result Value Refusal
cell_part cs v i = cond (nat_lt v (length cs) && nat_lt i (length (cell_at cs v).parts)) (Ok (value (slice_index (cell_at cs v).parts i))) (Err NoValue)

unfoldable pub each : {A : Type 0} → (A → Bool) → List A → Bool
each p [] = true
each p (x ∷ xs) = p x && each p xs
