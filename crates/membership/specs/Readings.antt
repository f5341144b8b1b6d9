-- What is read of a type: an alternative, the elements of a fixed tuple, whether it is just Any or one plain type. Assumes nothing.
use Rattle.std.specs.Prelude.{ℕ, Bool, false, List, [], ◌∷◌, Some, None, Option, slice_index_or}
use Rattle.membership.specs.Rows.{Alt, any, plain, iter, callable, kind, list, tuple, tuple_of, dict, custom, set_of, Row, row, is_any}

-- the alternative i of the type n
abbrev pub alt_at : List Row → ℕ → ℕ → Alt
alt_at t n i = slice_index_or (row t n).alts i any

-- the elements of a fixed tuple; no other alternative has any
abbrev pub elems : Alt → List ℕ
elems any = []
elems (plain n) = []
elems (iter t) = []
elems callable = []
elems kind = []
elems (list t) = []
elems (tuple ts) = ts
elems (tuple_of t) = []
elems (dict k v) = []
elems (custom n) = []
elems (set_of t) = []

-- the alternatives are Any and no other
abbrev pub just_any : List Alt → Bool
just_any [] = false
just_any (a ∷ []) = is_any a
just_any (a ∷ (b ∷ bs)) = false

abbrev pub plain_alt : Alt → Option ℕ
plain_alt any = None
plain_alt (plain n) = Some n
plain_alt (iter t) = None
plain_alt callable = None
plain_alt kind = None
plain_alt (list t) = None
plain_alt (tuple ts) = None
plain_alt (tuple_of t) = None
plain_alt (dict k v) = None
plain_alt (custom n) = None
plain_alt (set_of t) = None

-- the type number of a type that is one plain type
abbrev pub plain_of : List Alt → Option ℕ
plain_of [] = None
plain_of (a ∷ []) = plain_alt a
plain_of (a ∷ (b ∷ bs)) = None
