-- The alternatives and the rows that the code holds, as plain lists. Assumes nothing.
use Rattle.std.specs.Prelude.{ℕ, ◌-◌, Bool, true, ◌&&◌, List, [], ◌∷◌, map, nat_le}
use Rattle.std.specs.List.{between}
use Rattle.std.specs.Ordering.{nat_cmp, ordering_then}
use Rattle.std.specs.declared.cmp.Ordering.{Ordering}
use Rattle.std.specs.Cmp.Lexicographic.{slice_cmp}
use Rattle.membership.specs.Rows.{Alt, any, plain, iter, callable, kind, list, tuple, tuple_of, dict, custom, set_of, each}
use Rattle.membership.specs.Rows as theory
use Rattle.typing.specs.declared.basic.TyBasic.{TyBasic}
use Rattle.typing.specs.declared.basic.TyBasic.TheVariants as basic
use Rattle.typing.specs.declared.basic.TyTuple.TheVariants.{Elems, Of}
use Rattle.typing.specs.declared.basic.Inner.{Inner}
use Rattle.typing.specs.declared.rows.Row.{Row}

-- an alternative; the elements of fixed tuples stand in the pool
abbrev pub alt : List ℕ → TyBasic → Alt
alt pool basic.Any = any
alt pool (basic.StarlarkValue n) = plain n
alt pool (basic.Iter t) = iter t
alt pool basic.Callable = callable
alt pool basic.Type = kind
alt pool (basic.List t) = list t
alt pool (basic.Tuple (Elems from to)) = tuple (between from to pool)
alt pool (basic.Tuple (Of t)) = tuple_of t
alt pool (basic.Dict k v) = dict k v
alt pool (basic.Custom n) = custom n
alt pool (basic.Set t) = set_of t

-- the number of a plain type or of a custom, or 0
abbrev pub own_number : Alt → ℕ
own_number any = 0
own_number (plain n) = n
own_number (iter t) = 0
own_number callable = 0
own_number kind = 0
own_number (list t) = 0
own_number (tuple ts) = 0
own_number (tuple_of t) = 0
own_number (dict k v) = 0
own_number (custom n) = n
own_number (set_of t) = 0

-- its parts, but for the value of a dict
abbrev pub first_parts : Alt → List ℕ
first_parts any = []
first_parts (plain n) = []
first_parts (iter t) = t ∷ []
first_parts callable = []
first_parts kind = []
first_parts (list t) = t ∷ []
first_parts (tuple ts) = ts
first_parts (tuple_of t) = t ∷ []
first_parts (dict k v) = k ∷ []
first_parts (custom n) = []
first_parts (set_of t) = t ∷ []

-- the value of a dict
abbrev pub second_parts : Alt → List ℕ
second_parts any = []
second_parts (plain n) = []
second_parts (iter t) = []
second_parts callable = []
second_parts kind = []
second_parts (list t) = []
second_parts (tuple ts) = []
second_parts (tuple_of t) = []
second_parts (dict k v) = v ∷ []
second_parts (custom n) = []
second_parts (set_of t) = []

-- the order of the parts, for two of one kind and one number
abbrev pub by_parts : Alt → Alt → Ordering
by_parts x y = ordering_then (slice_cmp nat_cmp (first_parts x) (first_parts y)) (slice_cmp nat_cmp (second_parts x) (second_parts y))

-- its elements stand among the first n of the pool
abbrev pub pooled : ℕ → TyBasic → Bool
pooled n basic.Any = true
pooled n (basic.StarlarkValue k) = true
pooled n (basic.Iter t) = true
pooled n basic.Callable = true
pooled n basic.Type = true
pooled n (basic.List t) = true
pooled n (basic.Tuple (Elems from to)) = nat_le from to && nat_le to n
pooled n (basic.Tuple (Of t)) = true
pooled n (basic.Dict k v) = true
pooled n (basic.Custom k) = true
pooled n (basic.Set t) = true

-- how many places of the pool its elements take
abbrev pub span : TyBasic → ℕ
span basic.Any = 0
span (basic.StarlarkValue k) = 0
span (basic.Iter t) = 0
span basic.Callable = 0
span basic.Type = 0
span (basic.List t) = 0
span (basic.Tuple (Elems from to)) = to - from
span (basic.Tuple (Of t)) = 0
span (basic.Dict k v) = 0
span (basic.Custom k) = 0
span (basic.Set t) = 0

abbrev pub alts : List ℕ → List TyBasic → List Alt
alts pool xs = map (alt pool) xs

-- a row's alternatives stand side by side
abbrev pub row_of : List ℕ → List TyBasic → Row → theory.Row
row_of pool all r = record { alts = alts pool (between r.start r.end all); deep = r.depth; heavy = r.weight }

abbrev pub table : List ℕ → List TyBasic → List Row → List theory.Row
table pool all rows = map (row_of pool all) rows

-- a row's alternatives stand among the first n
abbrev pub placed : ℕ → Row → Bool
placed n r = nat_le r.start r.end && nat_le r.end n

abbrev pub inner_of : Inner → theory.Inner
inner_of p = record { item = p.item; key = p.key; value = p.value }
