-- What a node asks of a value, place by place. Assumes nothing.
use Rattle.std.specs.Prelude.{ℕ, zero, suc, ◌+◌, ◌/◌, ◌%◌, Bool, true, false, cond, ◌&&◌, ◌||◌, List, length, ◌==◌, slice_index}
use Rattle.values.specs.Cells.{Cell, cell_at}
use Rattle.custom.specs.Worlds.{Answers, World}
use Rattle.matcher.specs.Nodes.{Node, node_at_lem}
use Rattle.matcher.specs.declared.kind.Kind.{Kind}
use Rattle.matcher.specs.declared.kind.Kind.TheVariants.{IsAny, IsNever, IsStr, IsList, IsListOf, IsTupleOf, IsTupleElems, IsTupleElems0, IsTupleElems1, IsTupleElems2, IsDict, IsDictOf, IsSet, IsSetOf, IsAnyOfTwo, IsAnyOf, IsCallable, IsType, IsIterable, IsInt, IsBool, IsNone, StarlarkTypeIdMatcher, Custom}
use Rattle.matching.specs.declared.asked.Shape.{Shape}
use Rattle.matching.specs.declared.asked.Shape.TheVariants.{Given, Asks}
use Rattle.matching.specs.declared.asked.Quantifier.{Quantifier}
use Rattle.matching.specs.declared.asked.Quantifier.TheVariants.{Every, Either}

-- what a quantifier says of no places
abbrev pub none_of : Quantifier → Bool
none_of Every = true
none_of Either = false

-- each of m places, where the test holds
abbrev pub every_if : Bool → ℕ → Shape
every_if b m = cond b (Asks Every m) (Given false)

-- what a node d of a kind asks of a cell c, where the customs answer y
abbrev pub shape_of : Kind → Node → Cell → Answers → Shape
shape_of IsAny d c y = Given true
shape_of IsNever d c y = Given false
shape_of IsStr d c y = Given (c.ty == 4)
shape_of IsList d c y = Given (c.ty == 5)
shape_of IsListOf d c y = every_if (c.ty == 5) (length c.parts)
shape_of IsTupleOf d c y = every_if (c.ty == 8) (length c.parts)
shape_of IsTupleElems d c y = every_if (c.ty == 8 && length c.parts == length d.kids) (length d.kids)
shape_of IsTupleElems0 d c y = Given (c.ty == 8 && length c.parts == 0)
shape_of IsTupleElems1 d c y = every_if (c.ty == 8 && length c.parts == 1) 1
shape_of IsTupleElems2 d c y = every_if (c.ty == 8 && length c.parts == 2) 2
shape_of IsDict d c y = Given (c.ty == 6)
shape_of IsDictOf d c y = every_if (c.ty == 6) (length c.parts)
shape_of IsSet d c y = Given (c.ty == 7)
shape_of IsSetOf d c y = every_if (c.ty == 7) (length c.parts)
shape_of IsAnyOfTwo d c y = Asks Either 2
shape_of IsAnyOf d c y = Asks Either (length d.kids)
shape_of IsCallable d c y = Given (c.flags % 2 == 1)
shape_of IsType d c y = Given (c.flags / 4 % 2 == 1)
shape_of IsIterable d c y = Given (c.flags / 2 % 2 == 1)
shape_of IsInt d c y = Given (c.ty == 1)
shape_of IsBool d c y = Given (c.ty == 2)
shape_of IsNone d c y = Given (c.ty == 3)
shape_of StarlarkTypeIdMatcher d c y = Given (c.ty == d.number)
shape_of Custom d c y = Given (y d.number c.ty c.flags c.mark)

-- which kid it asks at the place i
abbrev pub kid_by_lem : Kind → ℕ → ℕ
kid_by_lem IsDictOf i = i % 2
kid_by_lem IsTupleElems i = i
kid_by_lem IsTupleElems1 i = i
kid_by_lem IsTupleElems2 i = i
kid_by_lem IsAnyOfTwo i = i
kid_by_lem IsAnyOf i = i
kid_by_lem _ i = 0

-- whether it asks it of the part i, or of the value itself
abbrev pub inside : Kind → Bool
inside IsListOf = true
inside IsTupleOf = true
inside IsTupleElems = true
inside IsTupleElems1 = true
inside IsTupleElems2 = true
inside IsDictOf = true
inside IsSetOf = true
inside _ = false

unfoldable pub shape : World → List Node → ℕ → ℕ → Shape
shape W ns n v = shape_of (node_at_lem ns n).kind (node_at_lem ns n) (cell_at W.cells v) W.says

-- the kid and the value of the place i
unfoldable pub kid_of : List Node → ℕ → ℕ → ℕ
kid_of ns n i = slice_index (node_at_lem ns n).kids (kid_by_lem (node_at_lem ns n).kind i)

unfoldable pub sub_of : List Cell → List Node → ℕ → ℕ → ℕ → ℕ
sub_of cs ns n v i = cond (inside (node_at_lem ns n).kind) (slice_index (cell_at cs v).parts i) v

-- what a quantifier says of a place that says b, and of places of which it says c
abbrev pub join : Quantifier → Bool → Bool → Bool
join Every b c = b && c
join Either b c = b || c

-- what a quantifier says of m places from i on, which say f
unfoldable pub holds : Quantifier → (ℕ → Bool) → ℕ → ℕ → Bool
holds q f i zero = none_of q
holds q f i (suc m) = join q (f i) (holds q f (i + 1) m)

-- what a shape answers, where its places say f
abbrev pub settle : Shape → (ℕ → Bool) → Bool
settle (Given b) f = b
settle (Asks q m) f = holds q f 0 m
