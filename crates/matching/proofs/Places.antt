-- Each place that a node asks has a kid and a value. Assumes nothing.
use Rattle.std.proofs.Common.{◌≡◌, ℕ, zero, suc, ◌<◌, Bool, true, false, cond, ◌&&◌, eqb, List, length, get_or, refl, arith}
use Rattle.std.proofs.lemmas.Bool.Decides.{nat_tests}
use Rattle.values.specs.Cells.{Cell, Closed, cell_at}
use Rattle.custom.specs.Worlds.{Answers, World}
use Rattle.matcher.specs.Nodes.{Node, arity, node_at_lem}
use Rattle.matcher.specs.declared.kind.Kind.{Kind}
use Rattle.matcher.specs.declared.kind.Kind.TheVariants.{IsAny, IsNever, IsStr, IsList, IsListOf, IsTupleOf, IsTupleElems, IsTupleElems0, IsTupleElems1, IsTupleElems2, IsDict, IsDictOf, IsSet, IsSetOf, IsAnyOfTwo, IsAnyOf, IsCallable, IsType, IsIterable, IsInt, IsBool, IsNone, StarlarkTypeIdMatcher, Custom}
use Rattle.matching.specs.Shapes.{every_if, shape, shape_of, kid_by_lem, inside, kid_of, sub_of}
use Rattle.matching.specs.Stacks.{Stands, Place}
use Rattle.matching.specs.declared.asked.Shape.{Shape}
use Rattle.matching.specs.declared.asked.Shape.TheVariants.{Given, Asks}

-- how many places a shape has
abbrev pub many : Shape → ℕ
many (Given b) = 0
many (Asks q m) = m

many_if : (t : Bool) (m i : ℕ) → i < many (every_if t m) → (t ≡ true) × (i < m)
many_if true m i h = (refl, h)
many_if false m i h = absurd (omega arith)

abbrev Fine : Kind → ℕ → ℕ → ℕ → Type 0
Fine k kids len i = (kid_by_lem k i < kids) × (inside k ≡ true → i < len)

fine : (k : Kind) (d : Node) (c : Cell) (y : Answers) (i : ℕ) → arity k (length d.kids) ≡ true → i < many (shape_of k d c y) → Fine k (length d.kids) (length c.parts) i
fine IsAny d c y i a h = absurd (omega arith)
fine IsNever d c y i a h = absurd (omega arith)
fine IsStr d c y i a h = absurd (omega arith)
fine IsList d c y i a h = absurd (omega arith)
fine IsListOf d c y i a h = let m = many_if (eqb c.ty 5) (length c.parts) i h in (grind (arith, nat_tests), λ _. grind (arith, nat_tests))
fine IsTupleOf d c y i a h = let m = many_if (eqb c.ty 8) (length c.parts) i h in (grind (arith, nat_tests), λ _. grind (arith, nat_tests))
fine IsTupleElems d c y i a h = let m = many_if (eqb c.ty 8 && eqb (length c.parts) (length d.kids)) (length d.kids) i h in (grind (arith, nat_tests), λ _. grind (arith, nat_tests))
fine IsTupleElems0 d c y i a h = absurd (omega arith)
fine IsTupleElems1 d c y i a h = let m = many_if (eqb c.ty 8 && eqb (length c.parts) 1) 1 i h in (grind (arith, nat_tests), λ _. grind (arith, nat_tests))
fine IsTupleElems2 d c y i a h = let m = many_if (eqb c.ty 8 && eqb (length c.parts) 2) 2 i h in (grind (arith, nat_tests), λ _. grind (arith, nat_tests))
fine IsDict d c y i a h = absurd (omega arith)
fine IsDictOf d c y i a h = let m = many_if (eqb c.ty 6) (length c.parts) i h in (grind (arith, nat_tests), λ _. grind (arith, nat_tests))
fine IsSet d c y i a h = absurd (omega arith)
fine IsSetOf d c y i a h = let m = many_if (eqb c.ty 7) (length c.parts) i h in (grind (arith, nat_tests), λ _. grind (arith, nat_tests))
fine IsAnyOfTwo d c y i a h = (grind (arith, nat_tests), λ e. absurd (grind arith))
fine IsAnyOf d c y i a h = (grind (arith, nat_tests), λ e. absurd (grind arith))
fine IsCallable d c y i a h = absurd (omega arith)
fine IsType d c y i a h = absurd (omega arith)
fine IsIterable d c y i a h = absurd (omega arith)
fine IsInt d c y i a h = absurd (omega arith)
fine IsBool d c y i a h = absurd (omega arith)
fine IsNone d c y i a h = absurd (omega arith)
fine StarlarkTypeIdMatcher d c y i a h = absurd (omega arith)
fine Custom d c y i a h = absurd (omega arith)

pub places : (W : World) (ns : List Node) (n v : ℕ) → arity (node_at_lem ns n).kind (length (node_at_lem ns n).kids) ≡ true → (i : ℕ) → i < many (shape W ns n v) → Place W.cells ns n v i
unfolding shape
places W ns n v form i h =
    let f = fine (node_at_lem ns n).kind (node_at_lem ns n) (cell_at W.cells v) W.says i form h in
    record { kid = f.0; part = f.1 }

pub depth_of : (ns : List Node) (d n : ℕ) → Stands ns d n → (e : ℕ) × (d ≡ suc e)
unfolding Stands
depth_of ns zero n s = absurd s
depth_of ns (suc d) n s = (d, refl)

pub stands_in : (ns : List Node) (d n : ℕ) → Stands ns d n → n < length ns
unfolding Stands
stands_in ns zero n s = absurd s
stands_in ns (suc d) n s = s.0

-- the kid of a place is a node one less deep
pub kid_stands : (cs : List Cell) (ns : List Node) (d n v i : ℕ) → Stands ns (suc d) n → Place cs ns n v i → Stands ns d (kid_of ns n i)
unfolding Stands kid_of
kid_stands cs ns d n v i s p = s.1 (kid_by_lem (node_at_lem ns n).kind i) p.kid

sub_by : (b : Bool) (x v m i n : ℕ) → (b ≡ true → i < n) → (i < n → x < m) → v < m → cond b x v < m
sub_by true x v m i n p q r = q (p refl)
sub_by false x v m i n p q r = r

pub sub_stands : (cs : List Cell) (ns : List Node) (n v i : ℕ) → Closed cs → v < length cs → Place cs ns n v i → sub_of cs ns n v i < length cs
unfolding sub_of
sub_stands cs ns n v i closed h p = sub_by (inside (node_at_lem ns n).kind) (get_or (cell_at cs v).parts i 0) v (length cs) i (length (cell_at cs v).parts) p.part (closed v i h) h
