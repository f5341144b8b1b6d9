-- The steps that a type is compiled by, and what each step writes. Assumes nothing.
use Rattle.std.specs.Prelude.{◌≡◌, ℕ, zero, suc, ◌-◌, ◌≤◌, Bool, true, cond, ◌&&◌, List, [], ◌∷◌, ◌++◌, length, take, drop, Some, None, Option, ◌==◌}
use Rattle.matcher.specs.Nodes.{Node, node, place, put, fault, roomy}
use Rattle.matcher.specs.declared.kind.Kind.{Kind}
use Rattle.matcher.specs.declared.kind.Kind.TheVariants.{IsAny, IsNever, IsStr, IsList, IsListOf, IsTupleOf, IsTupleElems, IsTupleElems0, IsTupleElems1, IsTupleElems2, IsDict, IsDictOf, IsSet, IsSetOf, IsAnyOfTwo, IsAnyOf, IsCallable, IsType, IsIterable, IsInt, IsBool, IsNone, StarlarkTypeIdMatcher, Custom}
use Rattle.compiling.specs.Written.{is_none, unless_every, unless_some}
use Rattle.compiling.specs.declared.tasks.Op.{Op}
use Rattle.compiling.specs.declared.tasks.Op.TheVariants.{Write, ListOf, SetOf, DictOf, AnyOfTwo, AnyOf}
use Rattle.membership.specs.Rows.{Alt, any, plain, iter, callable, kind, list, tuple, tuple_of, dict, custom, set_of, Row, row}
use Rattle.membership.specs.Readings.{just_any, plain_of}

-- A step takes the last results as kids, writes a node, and puts its number in their place: `Write` a node of a kind,
-- with a number, over so many results; the others look first whether a kid is a wildcard.

abbrev pub leaf : Kind → Op
leaf k = Write k 0 0

abbrev pub type_id : ℕ → Op
type_id n = Write StarlarkTypeIdMatcher n 0

-- a plain type by itself
abbrev pub value_op : ℕ → Op
value_op n = cond (n == 1) (leaf IsInt) (cond (n == 2) (leaf IsBool) (cond (n == 3) (leaf IsNone) (cond (n == 4) (leaf IsStr) (type_id n))))

-- a plain type as the item of a list or a set, or as a dict's key
abbrev pub item_op : ℕ → Op
item_op n = cond (n == 4) (leaf IsStr) (type_id n)

-- a plain type beside None
abbrev pub beside_none_op : ℕ → Op
beside_none_op n = cond (n == 4) (leaf IsStr) (cond (n == 1) (leaf IsInt) (type_id n))

-- the code of a type's parts
abbrev pub Codes : Type 0
Codes = ℕ → List Op

-- a part: the step of its plain type, or its code
abbrev pub code_part : (ℕ → Op) → Codes → ℕ → Option ℕ → List Op
code_part op C t (Some n) = op n ∷ []
code_part op C t None = C t

-- a type over one part: one step where the part is anything
abbrev pub code_over : Op → Op → (ℕ → Op) → List Row → Codes → ℕ → List Op
code_over whole o op rows C t = cond (just_any (row rows t).alts) (whole ∷ []) (code_part op C t (plain_of (row rows t).alts) ++ o ∷ [])

abbrev pub code_dict : List Row → Codes → ℕ → ℕ → List Op
code_dict rows C k v =
    cond (just_any (row rows k).alts && just_any (row rows v).alts) (leaf IsDict ∷ [])
    (code_part item_op C k (plain_of (row rows k).alts) ++ (C v ++ DictOf ∷ []))

abbrev pub code_all : Codes → List ℕ → List Op
code_all C [] = []
code_all C (t ∷ ts) = C t ++ code_all C ts

abbrev pub code_pair : Codes → ℕ → ℕ → Option ℕ → Option ℕ → List Op
code_pair C x y (Some a) (Some b) = type_id a ∷ type_id b ∷ []
code_pair C x y (Some a) None = C x ++ C y
code_pair C x y None b = C x ++ C y

abbrev pub code_tuple : List Row → Codes → List ℕ → List Op
code_tuple rows C [] = leaf IsTupleElems0 ∷ []
code_tuple rows C (x ∷ []) = C x ++ Write IsTupleElems1 0 1 ∷ []
code_tuple rows C (x ∷ (y ∷ [])) = code_pair C x y (plain_of (row rows x).alts) (plain_of (row rows y).alts) ++ Write IsTupleElems2 0 2 ∷ []
code_tuple rows C (x ∷ (y ∷ (z ∷ zs))) = code_all C (x ∷ (y ∷ (z ∷ zs))) ++ Write IsTupleElems 0 (length (x ∷ (y ∷ (z ∷ zs)))) ∷ []

-- a custom, where the customs' wildcards are w
abbrev pub custom_op : (ℕ → Bool) → ℕ → Op
custom_op w n = cond (w n) (leaf IsAny) (Write Custom n 0)

-- one alternative
abbrev pub code_basic : List Row → (ℕ → Bool) → Codes → Alt → List Op
code_basic rows w C any = leaf IsAny ∷ []
code_basic rows w C (plain n) = value_op n ∷ []
code_basic rows w C (iter t) = leaf IsIterable ∷ []
code_basic rows w C callable = leaf IsCallable ∷ []
code_basic rows w C kind = leaf IsType ∷ []
code_basic rows w C (list t) = code_over (leaf IsList) ListOf item_op rows C t
code_basic rows w C (tuple ts) = code_tuple rows C ts
code_basic rows w C (tuple_of t) = code_over (type_id 8) (Write IsTupleOf 0 1) type_id rows C t
code_basic rows w C (dict k v) = code_dict rows C k v
code_basic rows w C (custom n) = custom_op w n ∷ []
code_basic rows w C (set_of t) = code_over (leaf IsSet) SetOf item_op rows C t

-- the side beside None
abbrev pub code_beside : List Row → (ℕ → Bool) → Codes → Alt → List Op
code_beside rows w C (plain n) = beside_none_op n ∷ []
code_beside rows w C a = code_basic rows w C a

abbrev pub code_none_or : List Row → (ℕ → Bool) → Codes → Alt → List Op
code_none_or rows w C a = leaf IsNone ∷ (code_beside rows w C a ++ Write IsAnyOfTwo 0 2 ∷ [])

abbrev pub code_two : List Row → (ℕ → Bool) → Codes → Alt → Alt → List Op
code_two rows w C a b =
    cond (is_none a) (code_none_or rows w C b)
    (cond (is_none b) (code_none_or rows w C a)
    (code_basic rows w C a ++ (code_basic rows w C b ++ AnyOfTwo ∷ [])))

abbrev pub code_alts : List Row → (ℕ → Bool) → Codes → List Alt → List Op
code_alts rows w C [] = []
code_alts rows w C (a ∷ xs) = code_basic rows w C a ++ code_alts rows w C xs

-- a type with these alternatives
abbrev pub code_union : List Row → (ℕ → Bool) → Codes → List Alt → List Op
code_union rows w C [] = leaf IsNever ∷ []
code_union rows w C (a ∷ []) = code_basic rows w C a
code_union rows w C (a ∷ (b ∷ [])) = code_two rows w C a b
code_union rows w C (a ∷ (b ∷ (c ∷ xs))) = code_alts rows w C (a ∷ (b ∷ (c ∷ xs))) ++ AnyOf (length (a ∷ (b ∷ (c ∷ xs)))) ∷ []

-- the code of the type t, whose parts are numbered below it: more than t levels are enough
unfoldable pub code_by : List Row → (ℕ → Bool) → ℕ → Codes
code_by rows w zero t = []
code_by rows w (suc f) t = code_union rows w (code_by rows w f) (row rows t).alts

unfoldable pub code : List Row → (ℕ → Bool) → Codes
code rows w t = code_by rows w (length rows) t

-- how many results a step takes
abbrev pub takes : Op → ℕ
takes (Write k m n) = n
takes ListOf = 1
takes SetOf = 1
takes DictOf = 2
takes AnyOfTwo = 2
takes (AnyOf n) = n

-- the node that a step writes over these kids
abbrev pub chosen : Op → List Node → List ℕ → Node
chosen (Write k m n) ns ks = node k m ks
chosen ListOf ns ks = unless_every IsList IsListOf ns ks
chosen SetOf ns ks = unless_every IsSet IsSetOf ns ks
chosen DictOf ns ks = unless_every IsDict IsDictOf ns ks
chosen AnyOfTwo ns ks = unless_some IsAnyOfTwo ns ks
chosen (AnyOf n) ns ks = unless_some IsAnyOf ns ks

-- the nodes, and the results that wait for their parent
pub record State : Type 0 where
  pub nodes : List Node
  pub results : List ℕ

abbrev pub state : List Node → List ℕ → State
state ns rs = record { nodes = ns; results = rs }

-- the last n of a list, and those before
abbrev pub kids_of : ℕ → List ℕ → List ℕ
kids_of n rs = drop (length rs - n) rs

abbrev pub rest_of : ℕ → List ℕ → List ℕ
rest_of n rs = take (length rs - n) rs

abbrev pub op_node : Op → State → Node
op_node o st = chosen o st.nodes (kids_of (takes o) st.results)

-- a step in a store that shares, or not
unfoldable pub exec : Bool → Op → State → State
exec shares o st =
    let n = place shares st.nodes (op_node o st) in
    state (put st.nodes (op_node o st) n) (rest_of (takes o) st.results ++ n ∷ [])

abbrev pub execs : Bool → List Op → State → State
execs shares [] st = st
execs shares (o ∷ os) st = execs shares os (exec shares o st)

-- a node that can be written, and one that was
pub record Can (limit : ℕ) (ns : List Node) (d : Node) : Type 0 where
  pub fine : fault ns d ≡ None
  pub room : roomy limit ns d ≡ true

pub record Wrote (shares : Bool) (ns : List Node) (d : Node) (n : ℕ) (ns' : List Node) : Type 0 where
  pub number : n ≡ place shares ns d
  pub nodes : ns' ≡ put ns d n

-- no step lacks a kid, breaks a form or lacks room
pub record Grants (limit : ℕ) (o : Op) (st : State) : Type 0 where
  pub kids : takes o ≤ length st.results
  pub can : Can limit st.nodes (op_node o st)

abbrev pub Safe : ℕ → Bool → List Op → State → Type 0
Safe limit shares [] st = Unit {0}
Safe limit shares (o ∷ os) st = Grants limit o st × Safe limit shares os (exec shares o st)
