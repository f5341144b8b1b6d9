-- What a table of types means: the list of its rows. Assumes nothing.
use Rattle.std.specs.Prelude.{ℕ, List, vec_items}
use Rattle.membership.specs.Rows.{Row}
use Rattle.typing.specs.View.{table}
use Rattle.typing.specs.declared.types.Rows.{Rows}
use Rattle.typing.specs.declared.types.Types.{Types}

abbrev pub table_of : Rows → List Row
table_of s = table (vec_items s.pool) (vec_items s.all) (vec_items s.rows)

-- the elements of fixed tuples
abbrev pub pool_in : Rows → List ℕ
pool_in s = vec_items s.pool

abbrev pub rows_of : Types → List Row
rows_of s = table_of s.rows

-- the elements of its fixed tuples
abbrev pub pool_of : Types → List ℕ
pool_of s = pool_in s.rows
