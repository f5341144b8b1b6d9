-- Types made, compiled and asked in the definitions. Assumes nothing.
use Rattle.std.specs.Prelude.{◌≡◌, ℕ, Bool, true, false, List, [], ◌∷◌, pos, ◌==◌, nat_eq}
use Rattle.values.specs.Cells.{Cell}
use Rattle.custom.specs.Worlds.{World}
use Rattle.matcher.specs.Nodes.{Node, node}
use Rattle.matcher.specs.declared.kind.Kind.TheVariants.{IsAny, IsNever, IsStr, IsList, IsListOf, IsTupleElems2, IsDictOf, IsAnyOfTwo, IsInt, IsNone, StarlarkTypeIdMatcher}
use Rattle.membership.specs.Rows.{plain, list, tuple, dict, custom, Row, row, Grown, start, single, plain_type, union2}
use Rattle.membership.specs.Samples.{made}
use Rattle.membership.specs.Members.{member}
use Rattle.compiling.specs.Written.{written}
use Rattle.compiling.specs.Outcomes.{alloc_ty_lem, granted, refused, entered, annotation}

-- the types: never 0, any 1, int 2, None 3, str 4, int | None 5, list[str] 6, list[int] 7
abbrev pub g1 : Grown
g1 = made (plain_type start 1)

abbrev pub g2 : Grown
g2 = made (plain_type g1.rows 3)

abbrev pub g3 : Grown
g3 = made (plain_type g2.rows 4)

abbrev pub g4 : Grown
g4 = made (union2 g3.rows 2 3)

abbrev pub g5 : Grown
g5 = made (single g4.rows (list 4))

abbrev pub g6 : Grown
g6 = made (single g5.rows (list 2))

-- list[int] joined with list[str]: int | str is 8, list[int | str] 9
abbrev pub g7 : Grown
g7 = made (union2 g6.rows 7 6)

-- list[typing.Never] 10, list 11, list[list] 12, list[list[int]] 13, custom.0 14, int | custom.0 15, None | custom.0 16
abbrev pub g8 : Grown
g8 = made (single g7.rows (list 0))

abbrev pub g9 : Grown
g9 = made (single g8.rows (list 1))

abbrev pub g10 : Grown
g10 = made (single g9.rows (list 11))

abbrev pub g11 : Grown
g11 = made (single g10.rows (list 7))

abbrev pub g12 : Grown
g12 = made (single g11.rows (custom 0))

abbrev pub g13 : Grown
g13 = made (union2 g12.rows 2 14)

abbrev pub g14 : Grown
g14 = made (union2 g13.rows 3 14)

-- dict[int, int] 17, dict[int, custom.0] 18, tuple[str, str] 19
abbrev pub g15 : Grown
g15 = made (single g14.rows (dict 2 2))

abbrev pub g16 : Grown
g16 = made (single g15.rows (dict 2 14))

abbrev pub g17 : Grown
g17 = made (single g16.rows (tuple (4 ∷ 4 ∷ [])))

abbrev pub the_types : List Row
the_types = g17.rows

-- the nodes of a type in a store that shares, or not, where custom.0 is a wildcard
abbrev pub sample_nodes : Bool → ℕ → List Node
sample_nodes shares t = (written shares the_types (λ n. nat_eq n 0) t []).nodes

-- a heap: 7, "a", [], [7], a list whose only part is itself, True
abbrev pub leaf_cell : ℕ → Cell
leaf_cell n = record { ty = n; flags = 0; mark = pos 1; parts = [] }

abbrev pub list_cell : List ℕ → Cell
list_cell ps = record { ty = 5; flags = 2; mark = pos 0; parts = ps }

abbrev pub the_world : World
the_world = record { cells = leaf_cell 1 ∷ leaf_cell 4 ∷ list_cell [] ∷ list_cell (0 ∷ []) ∷ list_cell (4 ∷ []) ∷ leaf_cell 2 ∷ []; says = λ n ty flags mark. (n == 0) }

abbrev pub has : ℕ → ℕ → Bool
has t v = member the_types the_world t v

abbrev pub Samples : Type 0
Samples =
    -- never gives IsNever
    (sample_nodes false 0 ≡ node IsNever 0 [] ∷ [])
    -- int | None gives IsAnyOfTwo(IsNone, IsInt) and needs 6 free places; 5 are refused
    × (sample_nodes false 5 ≡ node IsNone 0 [] ∷ node IsInt 0 [] ∷ node IsAnyOfTwo 0 (0 ∷ 1 ∷ []) ∷ [])
    × (alloc_ty_lem false 6 the_types (λ n. nat_eq n 0) 5 [] [] ≡ granted (entered (node IsNone 0 [] ∷ node IsInt 0 [] ∷ node IsAnyOfTwo 0 (0 ∷ 1 ∷ []) ∷ []) (annotation 5 2 ∷ []) 0))
    × (alloc_ty_lem false 5 the_types (λ n. nat_eq n 0) 5 [] [] ≡ refused 10)
    × (alloc_ty_lem false 6 the_types (λ n. nat_eq n 0) 20 [] [] ≡ refused 1)
    -- list[str] gives IsListOf(IsStr), list[int] IsListOf of the type number
    × (sample_nodes false 6 ≡ node IsStr 0 [] ∷ node IsListOf 0 (0 ∷ []) ∷ [])
    × (sample_nodes false 7 ≡ node StarlarkTypeIdMatcher 1 [] ∷ node IsListOf 0 (0 ∷ []) ∷ [])
    -- list[int] joined with list[str] is list[int | str]
    × (g7.number ≡ 9)
    × ((row g7.rows 9).alts ≡ list 8 ∷ [])
    × ((row g7.rows 8).alts ≡ plain 1 ∷ plain 4 ∷ [])
    -- list[typing.Never] has the empty list and no other
    × (has 10 0 ∷ has 10 1 ∷ has 10 2 ∷ has 10 3 ∷ has 10 4 ∷ has 10 5 ∷ [] ≡ false ∷ false ∷ true ∷ false ∷ false ∷ false ∷ [])
    -- a list whose only part is itself is in list[list], not in list[list[int]]
    × (has 12 4 ≡ true)
    × (has 13 4 ≡ false)
    -- int with a wildcard custom gives IsAny; None with one gives IsAnyOfTwo(IsNone, IsAny)
    × (sample_nodes false 15 ≡ node IsInt 0 [] ∷ node IsAny 0 [] ∷ node IsAny 0 [] ∷ [])
    × (sample_nodes true 15 ≡ node IsInt 0 [] ∷ node IsAny 0 [] ∷ [])
    × (sample_nodes false 16 ≡ node IsNone 0 [] ∷ node IsAny 0 [] ∷ node IsAnyOfTwo 0 (0 ∷ 1 ∷ []) ∷ [])
    -- True is no int
    × (has 2 5 ≡ false)
    × (has 2 0 ≡ true)
    -- a list of anything; a dict keeps a lone wildcard; two plain elements go by their type numbers
    × (sample_nodes false 11 ≡ node IsList 0 [] ∷ [])
    × (sample_nodes false 17 ≡ node StarlarkTypeIdMatcher 1 [] ∷ node IsInt 0 [] ∷ node IsDictOf 0 (0 ∷ 1 ∷ []) ∷ [])
    × (sample_nodes false 18 ≡ node StarlarkTypeIdMatcher 1 [] ∷ node IsAny 0 [] ∷ node IsDictOf 0 (0 ∷ 1 ∷ []) ∷ [])
    × (sample_nodes true 19 ≡ node StarlarkTypeIdMatcher 4 [] ∷ node IsTupleElems2 0 (0 ∷ 0 ∷ []) ∷ [])
