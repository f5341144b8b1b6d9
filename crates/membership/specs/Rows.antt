-- What a table of types is, as plain lists, and what each call answers. Assumes nothing.
use Rattle.std.specs.Prelude.{◌≡◌, ℕ, zero, suc, ◌+◌, ◌<◌, min, max, Bool, true, false, cond, ◌&&◌, ◌||◌, List, [], ◌∷◌, ◌++◌, length, take, Some, None, Option, ◌==◌, nat_lt, slice_index_or}
use Rattle.std.specs.declared.cmp.Ordering.TheVariants.{Less, Equal, Greater}
use Rattle.std.specs.declared.cmp.Ordering.{Ordering}
use Rattle.std.specs.Ordering.{is_eq, is_lt}

-- an alternative; its parts are numbers of types
pub data Alt : Type 0 where
  any : Alt
  plain : ℕ → Alt
  iter : ℕ → Alt
  callable : Alt
  kind : Alt
  list : ℕ → Alt
  tuple : List ℕ → Alt
  tuple_of : ℕ → Alt
  dict : ℕ → ℕ → Alt
  custom : ℕ → Alt
  set_of : ℕ → Alt

-- the kind's place in the order of kinds
abbrev pub rank : Alt → ℕ
rank any = 0
rank (plain n) = 1
rank (iter t) = 2
rank callable = 3
rank kind = 4
rank (list t) = 5
rank (tuple ts) = 6
rank (tuple_of t) = 7
rank (dict k v) = 8
rank (custom n) = 9
rank (set_of t) = 10

-- the numbers that decide within a kind
abbrev pub numbers : Alt → List ℕ
numbers any = []
numbers (plain n) = n ∷ []
numbers (iter t) = t ∷ []
numbers callable = []
numbers kind = []
numbers (list t) = t ∷ []
numbers (tuple ts) = ts
numbers (tuple_of t) = t ∷ []
numbers (dict k v) = k ∷ v ∷ []
numbers (custom n) = n ∷ []
numbers (set_of t) = t ∷ []

-- the numbers of the types that an alternative is made of
abbrev pub parts : Alt → List ℕ
parts any = []
parts (plain n) = []
parts (iter t) = t ∷ []
parts callable = []
parts kind = []
parts (list t) = t ∷ []
parts (tuple ts) = ts
parts (tuple_of t) = t ∷ []
parts (dict k v) = k ∷ v ∷ []
parts (custom n) = []
parts (set_of t) = t ∷ []

-- the elements of a fixed tuple
abbrev pub elements : Alt → ℕ
elements any = 0
elements (plain n) = 0
elements (iter t) = 0
elements callable = 0
elements kind = 0
elements (list t) = 0
elements (tuple ts) = length ts
elements (tuple_of t) = 0
elements (dict k v) = 0
elements (custom n) = 0
elements (set_of t) = 0

-- lists of numbers, as slices are compared: the first difference decides, and a front comes first
abbrev pub order : List ℕ → List ℕ → Ordering
order [] [] = Equal
order [] (y ∷ ys) = Less
order (x ∷ xs) [] = Greater
order (x ∷ xs) (y ∷ ys) = cond (nat_lt x y) Less (cond (nat_lt y x) Greater (order xs ys))

abbrev pub compared : Alt → Alt → Ordering
compared x y = order (rank x ∷ numbers x) (rank y ∷ numbers y)

-- an alternative put into a kept order, once
abbrev pub put_by : Ordering → Alt → Alt → List Alt → List Alt → List Alt
put_by Less x y ys rest = x ∷ y ∷ ys
put_by Equal x y ys rest = y ∷ ys
put_by Greater x y ys rest = y ∷ rest

abbrev pub put : Alt → List Alt → List Alt
put x [] = x ∷ []
put x (y ∷ ys) = put_by (compared x y) x y ys (put x ys)

abbrev pub put_all : List Alt → List Alt → List Alt
put_all out [] = out
put_all out (x ∷ xs) = put_all (put x out) xs

-- a type as it stands in the table: its alternatives in order, its depth and its weight.
-- A depth past 32 is held at 33, and a weight past 4096 at 4097.
pub record Row : Type 0 where
  pub alts : List Alt
  pub deep : ℕ
  pub heavy : ℕ

abbrev pub never : Row
never = record { alts = []; deep = 1; heavy = 1 }

abbrev pub row : List Row → ℕ → Row
row t n = slice_index_or t n never

abbrev pub deepest : List Row → List ℕ → ℕ
deepest t [] = 0
deepest t (p ∷ ps) = max (row t p).deep (deepest t ps)

abbrev pub total : List Row → List ℕ → ℕ
total t [] = 0
total t (p ∷ ps) = (row t p).heavy + total t ps

abbrev pub depth_alts : List Row → List Alt → ℕ
depth_alts t [] = 1
depth_alts t (a ∷ xs) = max (1 + deepest t (parts a)) (depth_alts t xs)

abbrev pub weight_alts : List Row → List Alt → ℕ
weight_alts t [] = 0
weight_alts t (a ∷ xs) = 1 + total t (parts a) + weight_alts t xs

abbrev pub one_less : List Alt → ℕ
one_less [] = 1
one_less (a ∷ []) = 0
one_less (a ∷ (b ∷ bs)) = 1

abbrev pub made_row : List Row → List Alt → Row
made_row t xs = record { alts = xs; deep = min 33 (depth_alts t xs); heavy = min 4097 (weight_alts t xs + one_less xs) }

-- equal lists of alternatives
abbrev pub same_alts : List Alt → List Alt → Bool
same_alts [] [] = true
same_alts [] (y ∷ ys) = false
same_alts (x ∷ xs) [] = false
same_alts (x ∷ xs) (y ∷ ys) = is_eq (compared x y) && same_alts xs ys

-- the lowest number, counted from n, of a row with these alternatives
abbrev pub find : ℕ → List Row → List Alt → Option ℕ
find n [] xs = None
find n (r ∷ rs) xs = cond (same_alts r.alts xs) (Some n) (find (n + 1) rs xs)

-- a table, and a number in it
pub record Grown : Type 0 where
  pub rows : List Row
  pub number : ℕ

abbrev pub grown : List Row → ℕ → Grown
grown t n = record { rows = t; number = n }

abbrev pub intern_by : Option ℕ → List Row → List Alt → Grown
intern_by None t xs = record { rows = t ++ made_row t xs ∷ []; number = length t }
intern_by (Some n) t xs = record { rows = t; number = n }

-- the number of the type with these alternatives, added last where no row has them
abbrev pub intern : List Row → List Alt → Grown
intern t xs = intern_by (find 0 t xs) t xs

-- every part is numbered below n
abbrev pub all_below_lem : ℕ → List ℕ → Bool
all_below_lem n [] = true
all_below_lem n (p ∷ ps) = nat_lt p n && all_below_lem n ps

abbrev pub below : ℕ → List Alt → Bool
below n [] = true
below n (x ∷ xs) = all_below_lem n (parts x) && below n xs

-- every part of a type is numbered below the type; the first row has the number n
abbrev pub stands : ℕ → List Row → Bool
stands n [] = true
stands n (r ∷ rs) = below n r.alts && stands (n + 1) rs

-- the item of a list and the key and the value of a dict among the alternatives of a side; never (0) where there is none
pub record Inner : Type 0 where
  pub item : ℕ
  pub key : ℕ
  pub value : ℕ

abbrev pub no_inner : Inner
no_inner = record { item = 0; key = 0; value = 0 }

abbrev pub with_part : Inner → Alt → Inner
with_part p any = p
with_part p (plain n) = p
with_part p (iter t) = p
with_part p callable = p
with_part p kind = p
with_part p (list t) = record { item = t; key = p.key; value = p.value }
with_part p (tuple ts) = p
with_part p (tuple_of t) = p
with_part p (dict k v) = record { item = p.item; key = k; value = v }
with_part p (custom n) = p
with_part p (set_of t) = p

abbrev pub inner : Inner → List Alt → Inner
inner p [] = p
inner p (x ∷ xs) = inner (with_part p x) xs

-- an alternative of a side, with the joined item, key and value in place of its own
abbrev pub settle : Inner → Alt → Alt
settle j any = any
settle j (plain n) = plain n
settle j (iter t) = iter t
settle j callable = callable
settle j kind = kind
settle j (list t) = list j.item
settle j (tuple ts) = tuple ts
settle j (tuple_of t) = tuple_of t
settle j (dict k v) = dict j.key j.value
settle j (custom n) = custom n
settle j (set_of t) = set_of t

abbrev pub put_settled_lem : Inner → List Alt → List Alt → List Alt
put_settled_lem j out [] = out
put_settled_lem j out (x ∷ xs) = put_settled_lem j (put (settle j x) out) xs

-- a way to join two types of a table
abbrev pub Joins : Type 0
Joins = List Row → ℕ → ℕ → Grown

-- items first, then keys, then values, then the type itself. Where a side has no list, its item counts as never, which is neutral.
abbrev pub join_rows_lem : Joins → List Row → List Alt → List Alt → Grown
join_rows_lem f t xs ys =
    let x = inner no_inner xs in
    let y = inner no_inner ys in
    let i = f t x.item y.item in
    let k = f i.rows x.key y.key in
    let v = f k.rows x.value y.value in
    let j : Inner = record { item = i.number; key = k.number; value = v.number } in
    intern v.rows (put_settled_lem j (put_settled_lem j [] xs) ys)

-- two types joined, with no limit. A part is numbered below its type, so more than a levels are enough.
abbrev pub join : ℕ → Joins
join zero t a b = grown t 0
join (suc n) t a b =
    cond (a == 1 || b == 1) (grown t 1)
    (cond (a == b || b == 0) (grown t a)
    (cond (a == 0) (grown t b)
    (join_rows_lem (join n) t (row t a).alts (row t b).alts)))

-- the types of t stand in t' under their numbers
abbrev pub Keeps : List Row → List Row → Type 0
Keeps t t' = take (length t) t' ≡ t

-- t' is t with a and b joined, as the type n
pub record Joined (t t' : List Row) (a b n : ℕ) : Type 0 where
  pub grows : (f : ℕ) → a < f → grown t' n ≡ join f t a b
  pub within : n < length t'
  pub standing : stands 0 t' ≡ true

-- the limits

-- one place for an alternative and one more for each element of a fixed tuple
abbrev pub places : List Alt → ℕ
places [] = 0
places (a ∷ xs) = 1 + elements a + places xs

abbrev pub all_places : List Row → ℕ
all_places [] = 0
all_places (r ∷ rs) = places r.alts + all_places rs

abbrev pub any_of : {X : Type 0} → (X → Bool) → List X → Bool
any_of f [] = false
any_of f (x ∷ xs) = f x || any_of f xs

abbrev pub too_long : Alt → Bool
too_long a = nat_lt 64 (elements a)

abbrev pub too_deep : Row → Bool
too_deep r = nat_lt 32 r.deep

abbrev pub too_wide : Row → Bool
too_wide r = nat_lt 64 (length r.alts) || any_of too_long r.alts

abbrev pub too_heavy : Row → Bool
too_heavy r = nat_lt 4096 r.heavy

abbrev pub crowded : List Row → Bool
crowded t = nat_lt 1024 (length t) || nat_lt 8192 (all_places t)

-- the number of the first limit that a table breaks, or 0
abbrev pub verdict : List Row → ℕ
verdict t = cond (any_of too_deep t) 7 (cond (any_of too_wide t) 8 (cond (any_of too_heavy t) 9 (cond (crowded t) 10 0)))

-- what a call comes to: a grown table, or the number of the first reason to refuse
pub data Outcome : Type 0 where
  granted : Grown → Outcome
  refused : ℕ → Outcome

abbrev pub judged : Grown → Outcome
judged g = cond (verdict g.rows == 0) (granted g) (refused (verdict g.rows))

-- the calls
abbrev pub plain_number : ℕ → Bool
plain_number n = (nat_lt 0 n && nat_lt n 9) || nat_lt 15 n

abbrev pub single : List Row → Alt → Outcome
single t x = cond (all_below_lem (length t) (parts x)) (judged (intern t (x ∷ []))) (refused 1)

abbrev pub plain_type : List Row → ℕ → Outcome
plain_type t n = cond (plain_number n) (single t (plain n)) (refused 4)

abbrev pub union2 : List Row → ℕ → ℕ → Outcome
union2 t a b = cond (nat_lt a (length t) && nat_lt b (length t)) (judged (join (a + 1) t a b)) (refused 1)

-- what always holds of a table

abbrev pub each : {X : Type 0} → (X → Bool) → List X → Bool
each f [] = true
each f (x ∷ xs) = f x && each f xs

abbrev pub how_many : {X : Type 0} → (X → Bool) → List X → ℕ
how_many f [] = 0
how_many f (x ∷ xs) = cond (f x) (suc (how_many f xs)) (how_many f xs)

abbrev pub is_any : Alt → Bool
is_any any = true
is_any (plain n) = false
is_any (iter t) = false
is_any callable = false
is_any kind = false
is_any (list t) = false
is_any (tuple ts) = false
is_any (tuple_of t) = false
is_any (dict k v) = false
is_any (custom n) = false
is_any (set_of t) = false

abbrev pub is_list : Alt → Bool
is_list any = false
is_list (plain n) = false
is_list (iter t) = false
is_list callable = false
is_list kind = false
is_list (list t) = true
is_list (tuple ts) = false
is_list (tuple_of t) = false
is_list (dict k v) = false
is_list (custom n) = false
is_list (set_of t) = false

abbrev pub is_dict : Alt → Bool
is_dict any = false
is_dict (plain n) = false
is_dict (iter t) = false
is_dict callable = false
is_dict kind = false
is_dict (list t) = false
is_dict (tuple ts) = false
is_dict (tuple_of t) = false
is_dict (dict k v) = true
is_dict (custom n) = false
is_dict (set_of t) = false

-- each alternative comes before all that follow it
abbrev pub ascends : List Alt → Bool
ascends [] = true
ascends (x ∷ xs) = each (λ y. is_lt (compared x y)) xs && ascends xs

-- where Any is among the alternatives, they are just Any
abbrev pub alone : List Alt → Bool
alone xs = cond (any_of is_any xs) (same_alts xs (any ∷ [])) true

-- a plain type has the number of a plain type
abbrev pub plainly : Alt → Bool
plainly any = true
plainly (plain n) = plain_number n
plainly (iter t) = true
plainly callable = true
plainly kind = true
plainly (list t) = true
plainly (tuple ts) = true
plainly (tuple_of t) = true
plainly (dict k v) = true
plainly (custom n) = true
plainly (set_of t) = true

-- the alternatives of a type: ascending, Any only alone, at most one list and at most one dict, plain types by their numbers
abbrev pub formed : List Alt → Bool
formed xs = ascends xs && (alone xs && (nat_lt (how_many is_list xs) 2 && (nat_lt (how_many is_dict xs) 2 && each plainly xs)))

-- a row's depth and weight are those that its parts give
abbrev pub sized : List Row → Row → Bool
sized t r = r.deep == (made_row t r.alts).deep && r.heavy == (made_row t r.alts).heavy

abbrev pub is_at : ℕ → Option ℕ → Bool
is_at n None = false
is_at n (Some m) = m == n

-- the alternatives of each row are found under its own number, so that equal types have equal numbers; the first row of rs has the number n
abbrev pub numbered : List Row → ℕ → List Row → Bool
numbered t n [] = true
numbered t n (r ∷ rs) = is_at n (find 0 t r.alts) && numbered t (n + 1) rs

-- the first two types are never and any
abbrev pub begins : List Row → Bool
begins [] = false
begins (r ∷ []) = false
begins (r ∷ (s ∷ t)) = same_alts r.alts [] && same_alts s.alts (any ∷ [])

-- what holds of a table, also while it grows, where f says how alternatives are formed
pub record KeptAs (f : List Alt → Bool) (t : List Row) : Type 0 where
  pub standing : stands 0 t ≡ true
  pub forms : each (λ r. f r.alts) t ≡ true
  pub sizes : each (sized t) t ≡ true
  pub own_numbers : numbered t 0 t ≡ true
  pub begun : begins t ≡ true

abbrev pub Kept : List Row → Type 0
Kept t = KeptAs formed t

-- what holds of a table between the calls
pub record Sound (t : List Row) : Type 0 where
  pub standing : stands 0 t ≡ true
  pub forms : each (λ r. formed r.alts) t ≡ true
  pub sizes : each (sized t) t ≡ true
  pub own_numbers : numbered t 0 t ≡ true
  pub begun : begins t ≡ true
  pub limited : verdict t ≡ 0

abbrev pub start : List Row
start = never ∷ record { alts = any ∷ []; deep = 1; heavy = 1 } ∷ []

-- a side holds a list, or a dict, when one of its own alternatives is one
abbrev pub holds_list : List Row → ℕ → Bool
holds_list t a = any_of is_list (row t a).alts

abbrev pub holds_dict : List Row → ℕ → Bool
holds_dict t a = any_of is_dict (row t a).alts

-- a union of a and b merges where both sides hold a list or both a dict
abbrev pub merges : List Row → ℕ → ℕ → Bool
merges t a b = (holds_list t a && holds_list t b) || (holds_dict t a && holds_dict t b)
