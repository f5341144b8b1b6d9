-- What a node accepts, kind by kind. Assumes nothing.
use Rattle.std.specs.Prelude.{ℕ, ◌/◌, ◌%◌, Bool, true, false, ◌&&◌, ◌||◌, List, [], ◌∷◌, ◌++◌, ◌==◌, slice_index_or}
use Rattle.values.specs.Cells.{Cell, cell_at}
use Rattle.custom.specs.Worlds.{World}
use Rattle.matcher.specs.Nodes.{Node}
use Rattle.matcher.specs.declared.kind.Kind.{Kind}
use Rattle.matcher.specs.declared.kind.Kind.TheVariants.{IsAny, IsNever, IsStr, IsList, IsListOf, IsTupleOf, IsTupleElems, IsTupleElems0, IsTupleElems1, IsTupleElems2, IsDict, IsDictOf, IsSet, IsSetOf, IsAnyOfTwo, IsAnyOf, IsCallable, IsType, IsIterable, IsInt, IsBool, IsNone, StarlarkTypeIdMatcher, Custom}

-- a yes or no for each value
abbrev pub Test : Type 0
Test = ℕ → Bool

abbrev pub nay : Test
nay v = false

abbrev pub first : List Test → Test
first ps = slice_index_or ps 0 nay

abbrev pub second : List Test → Test
second ps = slice_index_or ps 1 nay

abbrev pub all : Test → List ℕ → Bool
all p [] = true
all p (x ∷ xs) = p x && all p xs

-- keys by p and values by q, in turn
abbrev pub entries : Test → Test → List ℕ → Bool
entries p q [] = true
entries p q (x ∷ xs) = p x && entries q p xs

-- as many values as tests, each by its own
abbrev pub placed : List Test → List ℕ → Bool
placed [] [] = true
placed [] (x ∷ xs) = false
placed (p ∷ ps) [] = false
placed (p ∷ ps) (x ∷ xs) = p x && placed ps xs

abbrev pub some : List Test → Test
some [] v = false
some (p ∷ ps) v = p v || some ps v

-- what a matcher of a kind, with a number and its kids' tests, says of a value with the cell c
abbrev pub kind_says : World → Kind → ℕ → List Test → ℕ → Cell → Bool
kind_says W IsAny m ps v c = true
kind_says W IsNever m ps v c = false
kind_says W IsStr m ps v c = c.ty == 4
kind_says W IsList m ps v c = c.ty == 5
kind_says W IsListOf m ps v c = c.ty == 5 && all (first ps) c.parts
kind_says W IsTupleOf m ps v c = c.ty == 8 && all (first ps) c.parts
kind_says W IsTupleElems m ps v c = c.ty == 8 && placed ps c.parts
kind_says W IsTupleElems0 m ps v c = c.ty == 8 && placed ps c.parts
kind_says W IsTupleElems1 m ps v c = c.ty == 8 && placed ps c.parts
kind_says W IsTupleElems2 m ps v c = c.ty == 8 && placed ps c.parts
kind_says W IsDict m ps v c = c.ty == 6
kind_says W IsDictOf m ps v c = c.ty == 6 && entries (first ps) (second ps) c.parts
kind_says W IsSet m ps v c = c.ty == 7
kind_says W IsSetOf m ps v c = c.ty == 7 && all (first ps) c.parts
kind_says W IsAnyOfTwo m ps v c = some ps v
kind_says W IsAnyOf m ps v c = some ps v
kind_says W IsCallable m ps v c = c.flags % 2 == 1
kind_says W IsType m ps v c = c.flags / 4 % 2 == 1
kind_says W IsIterable m ps v c = c.flags / 2 % 2 == 1
kind_says W IsInt m ps v c = c.ty == 1
kind_says W IsBool m ps v c = c.ty == 2
kind_says W IsNone m ps v c = c.ty == 3
kind_says W StarlarkTypeIdMatcher m ps v c = c.ty == m
kind_says W Custom m ps v c = W.says m c.ty c.flags c.mark

abbrev pub says : World → Kind → ℕ → List Test → Test
says W k m ps v = kind_says W k m ps v (cell_at W.cells v)

abbrev pub kid_tests : List Test → List ℕ → List Test
kid_tests ts [] = []
kid_tests ts (k ∷ ks) = slice_index_or ts k nay ∷ kid_tests ts ks

abbrev pub node_test : World → List Test → Node → Test
node_test W ts d = says W d.kind d.number (kid_tests ts d.kids)

-- what each node accepts, by what the nodes before it accept
abbrev pub tests_from : World → List Test → List Node → List Test
tests_from W ts [] = ts
tests_from W ts (d ∷ ns) = tests_from W (ts ++ node_test W ts d ∷ []) ns

unfoldable pub tests : World → List Node → List Test
tests W ns = tests_from W [] ns

-- whether the node n accepts the value v
abbrev pub accepts : World → List Node → ℕ → Test
accepts W ns n = slice_index_or (tests W ns) n nay
