-- What a store means: a list of nodes, and what alloc answers. Assumes nothing.
use Rattle.std.specs.Prelude.{ℕ, suc, ◌+◌, max, Bool, true, false, cond, ◌&&◌, ◌||◌, List, [], ◌∷◌, ◌++◌, length, Some, None, Ok, Err, Option, Result, ◌==◌, nat_le, nat_lt, slice_index, slice_index_or}
use Rattle.std.specs.Str.{bytes_eq}
use Rattle.values.specs.Types.{type_numbered}
use Rattle.values.specs.declared.refusal.Refusal.{Refusal}
use Rattle.values.specs.declared.refusal.Refusal.TheVariants.{NoNode, BadForm, TooDeep, TooWide, NoRoom}
use Rattle.matcher.specs.declared.kind.Kind.{Kind}
use Rattle.matcher.specs.declared.kind.Kind.TheVariants.{IsAny, IsNever, IsStr, IsList, IsListOf, IsTupleOf, IsTupleElems, IsTupleElems0, IsTupleElems1, IsTupleElems2, IsDict, IsDictOf, IsSet, IsSetOf, IsAnyOfTwo, IsAnyOf, IsCallable, IsType, IsIterable, IsInt, IsBool, IsNone, StarlarkTypeIdMatcher, Custom}

pub record Node : Type 0 where
  pub kind : Kind
  pub number : ℕ
  pub kids : List ℕ

abbrev pub node : Kind → ℕ → List ℕ → Node
node k m ks = record { kind = k; number = m; kids = ks }

abbrev pub no_node : Node
no_node = record { kind = IsNever; number = 0; kids = [] }

abbrev pub node_at_lem : List Node → ℕ → Node
node_at_lem ns n = slice_index_or ns n no_node

-- an answer read off the node n, or refusal 2
abbrev pub node_says : {X : Type 0} → List Node → ℕ → (Node → X) → Result X Refusal
node_says ns n f = cond (nat_lt n (length ns)) (Ok (f (node_at_lem ns n))) (Err NoNode)

-- the kid i of the node n, or refusal 2
abbrev pub node_kid : List Node → ℕ → ℕ → Result ℕ Refusal
node_kid ns n i = cond (nat_lt n (length ns) && nat_lt i (length (node_at_lem ns n).kids)) (Ok (slice_index (node_at_lem ns n).kids i)) (Err NoNode)

-- the place of a kind in the list of kinds
abbrev pub ordinal : Kind → ℕ
ordinal IsAny = 0
ordinal IsNever = 1
ordinal IsStr = 2
ordinal IsList = 3
ordinal IsListOf = 4
ordinal IsTupleOf = 5
ordinal IsTupleElems = 6
ordinal IsTupleElems0 = 7
ordinal IsTupleElems1 = 8
ordinal IsTupleElems2 = 9
ordinal IsDict = 10
ordinal IsDictOf = 11
ordinal IsSet = 12
ordinal IsSetOf = 13
ordinal IsAnyOfTwo = 14
ordinal IsAnyOf = 15
ordinal IsCallable = 16
ordinal IsType = 17
ordinal IsIterable = 18
ordinal IsInt = 19
ordinal IsBool = 20
ordinal IsNone = 21
ordinal StarlarkTypeIdMatcher = 22
ordinal Custom = 23

-- whether a kind may have so many kids
abbrev pub arity : Kind → ℕ → Bool
arity IsAny k = k == 0
arity IsNever k = k == 0
arity IsStr k = k == 0
arity IsList k = k == 0
arity IsListOf k = k == 1
arity IsTupleOf k = k == 1
arity IsTupleElems k = nat_le 3 k
arity IsTupleElems0 k = k == 0
arity IsTupleElems1 k = k == 1
arity IsTupleElems2 k = k == 2
arity IsDict k = k == 0
arity IsDictOf k = k == 2
arity IsSet k = k == 0
arity IsSetOf k = k == 1
arity IsAnyOfTwo k = k == 2
arity IsAnyOf k = nat_le 3 k
arity IsCallable k = k == 0
arity IsType k = k == 0
arity IsIterable k = k == 0
arity IsInt k = k == 0
arity IsBool k = k == 0
arity IsNone k = k == 0
arity StarlarkTypeIdMatcher k = k == 0
arity Custom k = k == 0

abbrev pub plain_type_number : ℕ → Bool
plain_type_number n = type_numbered n

-- whether a kind may have such a number: a type number, a custom's number, else 0
abbrev pub numbered : Kind → ℕ → Bool
numbered IsAny m = m == 0
numbered IsNever m = m == 0
numbered IsStr m = m == 0
numbered IsList m = m == 0
numbered IsListOf m = m == 0
numbered IsTupleOf m = m == 0
numbered IsTupleElems m = m == 0
numbered IsTupleElems0 m = m == 0
numbered IsTupleElems1 m = m == 0
numbered IsTupleElems2 m = m == 0
numbered IsDict m = m == 0
numbered IsDictOf m = m == 0
numbered IsSet m = m == 0
numbered IsSetOf m = m == 0
numbered IsAnyOfTwo m = m == 0
numbered IsAnyOf m = m == 0
numbered IsCallable m = m == 0
numbered IsType m = m == 0
numbered IsIterable m = m == 0
numbered IsInt m = m == 0
numbered IsBool m = m == 0
numbered IsNone m = m == 0
numbered StarlarkTypeIdMatcher m = plain_type_number m
numbered Custom m = true

abbrev pub formed : Node → Bool
formed d = arity d.kind (length d.kids) && numbered d.kind d.number

-- the greatest depth of a node, and its most kids
abbrev pub deepest : ℕ
deepest = 64

abbrev pub widest : ℕ
widest = 64

abbrev pub largest : ℕ
largest = 65535

-- the depth of the deepest kid, by the depths of the nodes
abbrev pub highest : List ℕ → List ℕ → ℕ
highest ds [] = 0
highest ds (k ∷ ks) = max (slice_index ds k) (highest ds ks)

abbrev pub depth_over : List ℕ → List ℕ → ℕ
depth_over ds ks = highest ds ks + 1

-- the depths of nodes, after nodes with the depths ds
abbrev pub depths_from : List ℕ → List Node → List ℕ
depths_from ds [] = ds
depths_from ds (d ∷ ns) = depths_from (ds ++ depth_over ds d.kids ∷ []) ns

unfoldable pub depths : List Node → List ℕ
depths ns = depths_from [] ns

abbrev pub all_below : ℕ → List ℕ → Bool
all_below n [] = true
all_below n (k ∷ ks) = nat_lt k n && all_below n ks

-- a node takes one place and one for each kid
abbrev pub places : Node → ℕ
places d = 1 + length d.kids

abbrev pub used : List Node → ℕ
used [] = 0
used (d ∷ ns) = places d + used ns

-- the first reason, other than room, why a node can't be added
unfoldable pub fault : List Node → Node → Option Refusal
fault ns d =
    cond (all_below (length ns) d.kids)
    (cond (formed d)
    (cond (nat_le (depth_over (depths ns) d.kids) deepest)
    (cond (nat_le (length d.kids) widest) None (Some TooWide))
    (Some TooDeep))
    (Some BadForm))
    (Some NoNode)

abbrev pub roomy : ℕ → List Node → Node → Bool
roomy limit ns d = nat_le (used ns + places d) limit

abbrev pub same_node : Node → Node → Bool
same_node a b = (ordinal a.kind == ordinal b.kind && a.number == b.number) && bytes_eq a.kids b.kids

-- the lowest equal node, or the count of nodes
abbrev pub find : List Node → Node → ℕ
find [] d = 0
find (x ∷ xs) d = cond (same_node x d) 0 (suc (find xs d))

-- where a store that shares, or not, places a node
unfoldable pub place : Bool → List Node → Node → ℕ
place shares ns d = cond shares (find ns d) (length ns)

abbrev pub settled : Bool → ℕ → List Node → Node → Option Refusal → Result ℕ Refusal
settled shares limit ns d (Some f) = Err f
settled shares limit ns d None = cond (nat_lt (place shares ns d) (length ns) || roomy limit ns d) (Ok (place shares ns d)) (Err NoRoom)

-- what alloc answers
unfoldable pub allocated : Bool → ℕ → List Node → Node → Result ℕ Refusal
allocated shares limit ns d = settled shares limit ns d (fault ns d)

-- the nodes with d at the place n
abbrev pub put : List Node → Node → ℕ → List Node
put ns d n = cond (nat_lt n (length ns)) ns (ns ++ d ∷ [])

-- the nodes after alloc's answer: a refusal adds nothing
abbrev pub grown : List Node → Node → Result ℕ Refusal → List Node
grown ns d (Ok n) = put ns d n
grown ns d (Err f) = ns

abbrev pub is_granted : Option Refusal → Bool
is_granted None = true
is_granted (Some f) = false

-- each node could be added after those before it
abbrev pub valid_from : ℕ → List Node → List Node → Bool
valid_from limit before [] = true
valid_from limit before (d ∷ ns) = (is_granted (fault before d) && roomy limit before d) && valid_from limit (before ++ d ∷ []) ns

unfoldable pub valid : ℕ → List Node → Bool
valid limit ns = valid_from limit [] ns
