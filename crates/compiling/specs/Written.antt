-- The nodes that each type is written as, in a store that shares or not. Assumes nothing.
use Rattle.std.specs.Prelude.{ℕ, zero, suc, Bool, true, false, cond, ◌&&◌, List, [], ◌∷◌, map, Some, None, Option, ◌==◌}
use Rattle.std.specs.List.{list_any, list_all}
use Rattle.matcher.specs.Nodes.{Node, node, node_at_lem, place, put}
use Rattle.matcher.specs.declared.kind.Kind.{Kind}
use Rattle.matcher.specs.declared.kind.Kind.TheVariants.{IsAny, IsNever, IsStr, IsList, IsListOf, IsTupleOf, IsTupleElems, IsTupleElems0, IsTupleElems1, IsTupleElems2, IsDict, IsDictOf, IsSet, IsSetOf, IsAnyOfTwo, IsAnyOf, IsCallable, IsType, IsIterable, IsInt, IsBool, IsNone, StarlarkTypeIdMatcher, Custom}
use Rattle.membership.specs.Rows.{Alt, any, plain, iter, callable, kind, list, tuple, tuple_of, dict, custom, set_of, Row, row}
use Rattle.membership.specs.Readings.{just_any, plain_of}

-- the nodes after a type was written, and the number of its root
pub record Written : Type 0 where
  pub nodes : List Node
  pub root : ℕ

-- a way to write a type after the nodes that stand
abbrev pub Writer : Type 0
Writer = List Node → Written

-- one node: where the store shares and an equal node stands, that one is the root
abbrev pub writes : Bool → Node → Writer
writes shares d ns = record { nodes = put ns d (place shares ns d); root = place shares ns d }

-- kids written left to right, and their roots
pub record Kids : Type 0 where
  pub nodes : List Node
  pub roots : List ℕ

abbrev pub kids_written : List Writer → List Node → Kids
kids_written [] ns = record { nodes = ns; roots = [] }
kids_written (a ∷ fs) ns =
    let x = a ns in
    let rest = kids_written fs x.nodes in
    record { nodes = rest.nodes; roots = x.root ∷ rest.roots }

-- first the kids, then the node over them, which may depend on what the kids are
abbrev pub over : Bool → (List Node → List ℕ → Node) → List Writer → Writer
over shares f fs ns = let kids = kids_written fs ns in writes shares (f kids.nodes kids.roots) kids.nodes

-- only `IsAny` is a wildcard
abbrev pub is_any_kind_lem : Kind → Bool
is_any_kind_lem IsAny = true
is_any_kind_lem _ = false

abbrev pub wildcard : List Node → ℕ → Bool
wildcard ns k = is_any_kind_lem (node_at_lem ns k).kind

abbrev pub some_wildcard : List Node → List ℕ → Bool
some_wildcard ns ks = list_any (wildcard ns) ks

abbrev pub every_wildcard : List Node → List ℕ → Bool
every_wildcard ns ks = list_all (wildcard ns) ks

abbrev pub bare : Kind → Node
bare k = node k 0 []

-- the node of a kind over kids
abbrev pub matcher : Kind → List Node → List ℕ → Node
matcher k ns ks = node k 0 ks

-- a list, set or dict of wildcards is one of anything; a dict keeps a lone wildcard
abbrev pub unless_every : Kind → Kind → List Node → List ℕ → Node
unless_every whole k ns ks = cond (every_wildcard ns ks) (bare whole) (node k 0 ks)

-- a union with a wildcard side is a wildcard
abbrev pub unless_some : Kind → List Node → List ℕ → Node
unless_some k ns ks = cond (some_wildcard ns ks) (bare IsAny) (node k 0 ks)

-- a plain type: by itself, as the item of a list or set or a dict's key, beside None
abbrev pub id_node : ℕ → Node
id_node n = node StarlarkTypeIdMatcher n []

abbrev pub value_node : ℕ → Node
value_node n = cond (n == 1) (bare IsInt) (cond (n == 2) (bare IsBool) (cond (n == 3) (bare IsNone) (cond (n == 4) (bare IsStr) (id_node n))))

abbrev pub item_node : ℕ → Node
item_node n = cond (n == 4) (bare IsStr) (id_node n)

abbrev pub beside_node : ℕ → Node
beside_node n = cond (n == 4) (bare IsStr) (cond (n == 1) (bare IsInt) (id_node n))

-- below, `shares` says whether the store shares, `w` which customs are wildcards, and `C` how the parts' types are written

-- a part: the node of its plain type, or the type as it is written
abbrev pub part_written : Bool → (ℕ → Node) → (ℕ → Writer) → ℕ → Option ℕ → Writer
part_written shares d C t (Some n) = writes shares (d n)
part_written shares d C t None = C t

-- a type over one part: one node where the part is anything
abbrev pub over_written : Bool → Node → (List Node → List ℕ → Node) → (ℕ → Node) → List Row → (ℕ → Writer) → ℕ → Writer
over_written shares whole f d rows C t = cond (just_any (row rows t).alts) (writes shares whole) (over shares f (part_written shares d C t (plain_of (row rows t).alts) ∷ []))

abbrev pub dict_written : Bool → List Row → (ℕ → Writer) → ℕ → ℕ → Writer
dict_written shares rows C k v = cond (just_any (row rows k).alts && just_any (row rows v).alts) (writes shares (bare IsDict)) (over shares (unless_every IsDict IsDictOf) (part_written shares item_node C k (plain_of (row rows k).alts) ∷ C v ∷ []))

-- two elements: both plain types, or both as they are written
abbrev pub pair_written : Bool → (ℕ → Writer) → ℕ → ℕ → Option ℕ → Option ℕ → List Writer
pair_written shares C x y (Some a) (Some b) = writes shares (id_node a) ∷ writes shares (id_node b) ∷ []
pair_written shares C x y (Some a) None = C x ∷ C y ∷ []
pair_written shares C x y None b = C x ∷ C y ∷ []

abbrev pub tuple_written : Bool → List Row → (ℕ → Writer) → List ℕ → Writer
tuple_written shares rows C [] = writes shares (bare IsTupleElems0)
tuple_written shares rows C (x ∷ []) = over shares (matcher IsTupleElems1) (C x ∷ [])
tuple_written shares rows C (x ∷ (y ∷ [])) = over shares (matcher IsTupleElems2) (pair_written shares C x y (plain_of (row rows x).alts) (plain_of (row rows y).alts))
tuple_written shares rows C (x ∷ (y ∷ (z ∷ zs))) = over shares (matcher IsTupleElems) (map C (x ∷ (y ∷ (z ∷ zs))))

-- one alternative
abbrev pub basic_written : Bool → List Row → (ℕ → Bool) → (ℕ → Writer) → Alt → Writer
basic_written shares rows w C any = writes shares (bare IsAny)
basic_written shares rows w C (plain n) = writes shares (value_node n)
basic_written shares rows w C (iter t) = writes shares (bare IsIterable)
basic_written shares rows w C callable = writes shares (bare IsCallable)
basic_written shares rows w C kind = writes shares (bare IsType)
basic_written shares rows w C (list t) = over_written shares (bare IsList) (unless_every IsList IsListOf) item_node rows C t
basic_written shares rows w C (tuple ts) = tuple_written shares rows C ts
basic_written shares rows w C (tuple_of t) = over_written shares (id_node 8) (matcher IsTupleOf) id_node rows C t
basic_written shares rows w C (dict k v) = dict_written shares rows C k v
basic_written shares rows w C (custom n) = writes shares (cond (w n) (bare IsAny) (node Custom n []))
basic_written shares rows w C (set_of t) = over_written shares (bare IsSet) (unless_every IsSet IsSetOf) item_node rows C t

abbrev pub is_none : Alt → Bool
is_none (plain n) = n == 3
is_none _ = false

-- the side beside None
abbrev pub beside_written : Bool → List Row → (ℕ → Bool) → (ℕ → Writer) → Alt → Writer
beside_written shares rows w C (plain n) = writes shares (beside_node n)
beside_written shares rows w C a = basic_written shares rows w C a

-- None first, then the other side; a wildcard stays as its kid
abbrev pub none_or_written : Bool → List Row → (ℕ → Bool) → (ℕ → Writer) → Alt → Writer
none_or_written shares rows w C a = over shares (matcher IsAnyOfTwo) (writes shares (bare IsNone) ∷ beside_written shares rows w C a ∷ [])

-- a type with these alternatives
abbrev pub union_written : Bool → List Row → (ℕ → Bool) → (ℕ → Writer) → List Alt → Writer
union_written shares rows w C [] = writes shares (bare IsNever)
union_written shares rows w C (a ∷ []) = basic_written shares rows w C a
union_written shares rows w C (a ∷ (b ∷ [])) =
    cond (is_none a) (none_or_written shares rows w C b)
    (cond (is_none b) (none_or_written shares rows w C a)
    (over shares (unless_some IsAnyOfTwo) (basic_written shares rows w C a ∷ basic_written shares rows w C b ∷ [])))
union_written shares rows w C (a ∷ (b ∷ (c ∷ xs))) = over shares (unless_some IsAnyOf) (map (basic_written shares rows w C) (a ∷ (b ∷ (c ∷ xs))))

-- the type t, whose parts are numbered below it: t + 1 levels are enough
unfoldable pub written_within : ℕ → Bool → List Row → (ℕ → Bool) → ℕ → Writer
written_within zero shares rows w t ns = record { nodes = ns; root = 0 }
written_within (suc f) shares rows w t ns = union_written shares rows w (written_within f shares rows w) (row rows t).alts ns

unfoldable pub written : Bool → List Row → (ℕ → Bool) → ℕ → Writer
written shares rows w t = written_within (suc t) shares rows w t
