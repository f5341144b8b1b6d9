-- Which values a type has: what it reads, and that growing leaves it. Assumes nothing.
use Rattle.std.proofs.Common.{◌≡◌, ℕ, zero, suc, ◌<◌, Bool, true, ◌&&◌, eqb, ltb, List, [], ◌∷◌, length, refl, ap, ◌∙◌, ap₂, arith}
use Rattle.std.proofs.lemmas.Bool.{and_parts, and_from, ltb-true}
use Rattle.membership.specs.Rows.{Alt, any, plain, iter, callable, kind, list, tuple, tuple_of, dict, custom, set_of, Row, row, parts, all_below_lem, below, stands, Keeps, each, any_of}
use Rattle.values.specs.Cells.{Cell, cell_at}
use Rattle.custom.specs.Worlds.{Answers, World}
use Rattle.membership.specs.Members.{keys, values, each_place, alternative_has, member_within, member}
use Rattle.membership.proofs.Joins.{keeps_row}
use Rattle.membership.proofs.Eachs.{each_same, any_same}
use Rattle.membership.proofs.Kepts.{row_under}

pub below_each : (n : ℕ) (xs : List Alt) → below n xs ≡ true → each (λ a. all_below_lem n (parts a)) xs ≡ true
below_each n [] h = refl
below_each n (x ∷ xs) h =
    let a = and_parts (all_below_lem n (parts x)) (below n xs) h in
    and_from (all_below_lem n (parts x)) (each (λ a. all_below_lem n (parts a)) xs) a.0 (below_each n xs a.1)

-- two answers on parts that agree below m
module _ (h g : ℕ → ℕ → Bool) (m : ℕ) (same : (p v : ℕ) → p < m → h p v ≡ g p v) where
  head : (p : ℕ) (ps : List ℕ) → all_below_lem m (p ∷ ps) ≡ true → p < m
  head p ps b = ltb-true p m (and_parts (ltb p m) (all_below_lem m ps) b).0

  tail : (p : ℕ) (ps : List ℕ) → all_below_lem m (p ∷ ps) ≡ true → all_below_lem m ps ≡ true
  tail p ps b = (and_parts (ltb p m) (all_below_lem m ps) b).1

  places_same : (ts vs : List ℕ) → all_below_lem m ts ≡ true → each_place h ts vs ≡ each_place g ts vs
  places_same [] [] b = refl
  places_same [] (v ∷ vs) b = refl
  places_same (t ∷ ts) [] b = refl
  places_same (t ∷ ts) (v ∷ vs) b = ap₂ ◌&&◌ (same t v (head t ts b)) (places_same ts vs (tail t ts b))

  all_same : (t : ℕ) (ps : List ℕ) (vs : List ℕ) → all_below_lem m (t ∷ ps) ≡ true → each (h t) vs ≡ each (g t) vs
  all_same t ps vs b = each_same (h t) (g t) vs (λ v. same t v (head t ps b))

  pub has_same : (says : Answers) (a : Alt) (c : Cell) → all_below_lem m (parts a) ≡ true → alternative_has h says a c ≡ alternative_has g says a c
  has_same says any c b = refl
  has_same says (plain n) c b = refl
  has_same says (iter t) c b = refl
  has_same says callable c b = refl
  has_same says kind c b = refl
  has_same says (list t) c b = ap (λ (z : Bool). eqb c.ty 5 && z) (all_same t [] c.parts b)
  has_same says (tuple ts) c b = ap (λ (z : Bool). eqb c.ty 8 && z) (places_same ts c.parts b)
  has_same says (tuple_of t) c b = ap (λ (z : Bool). eqb c.ty 8 && z) (all_same t [] c.parts b)
  has_same says (dict k v) c b = ap₂ (λ (y z : Bool). eqb c.ty 6 && (y && z)) (all_same k (v ∷ []) (keys c.parts) b) (all_same v [] (values c.parts) (tail k (v ∷ []) b))
  has_same says (custom n) c b = refl
  has_same says (set_of t) c b = ap (λ (z : Bool). eqb c.ty 7 && z) (all_same t [] c.parts b)

-- more levels than the number say nothing new
pub levels : (t : List Row) (w : World) → stands 0 t ≡ true → (f g n v : ℕ) → n < f → n < g → member_within f t w n v ≡ member_within g t w n v
levels t w s zero g n v l m = absurd (omega arith)
levels t w s (suc f) zero n v l m = absurd (omega arith)
levels t w s (suc f) (suc g) n v l m =
    any_same (λ a. all_below_lem n (parts a)) (λ a. alternative_has (member_within f t w) w.says a (cell_at w.cells v)) (λ a. alternative_has (member_within g t w) w.says a (cell_at w.cells v)) (row t n).alts
    (below_each n (row t n).alts (row_under t n s))
    (λ a b. has_same (member_within f t w) (member_within g t w) n (λ p u k. levels t w s f g p u (omega arith) (omega arith)) w.says a (cell_at w.cells v) b)

-- an alternative has a value, in a table
abbrev pub has_at : List Row → World → ℕ → Alt → Bool
has_at t w v a = alternative_has (member t w) w.says a (cell_at w.cells v)

-- a type has what any of its alternatives has
pub member_is : (t : List Row) (w : World) → stands 0 t ≡ true → (n v : ℕ) → member t w n v ≡ any_of (has_at t w v) (row t n).alts
member_is t w s n v =
    any_same (λ a. all_below_lem n (parts a)) (λ a. alternative_has (member_within n t w) w.says a (cell_at w.cells v)) (has_at t w v) (row t n).alts
    (below_each n (row t n).alts (row_under t n s))
    (λ a b. has_same (member_within n t w) (member t w) n (λ p u k. levels t w s n (suc p) p u k (omega arith)) w.says a (cell_at w.cells v) b)

-- a table that grows keeps the members of the types that stand
within_kept : (t u : List Row) (w : World) → stands 0 t ≡ true → Keeps t u → (f n v : ℕ) → n < length t → member_within f u w n v ≡ member_within f t w n v
within_kept t u w s k zero n v l = refl
within_kept t u w s k (suc f) n v l =
    ap (λ (r : Row). any_of (λ a. alternative_has (member_within f u w) w.says a (cell_at w.cells v)) r.alts) (keeps_row t u n k l)
    ∙ any_same (λ a. all_below_lem n (parts a)) (λ a. alternative_has (member_within f u w) w.says a (cell_at w.cells v)) (λ a. alternative_has (member_within f t w) w.says a (cell_at w.cells v)) (row t n).alts
    (below_each n (row t n).alts (row_under t n s))
    (λ a b. has_same (member_within f u w) (member_within f t w) n (λ p x h. within_kept t u w s k f p x (omega arith)) w.says a (cell_at w.cells v) b)

pub member_kept : (t u : List Row) (w : World) → stands 0 t ≡ true → Keeps t u → (n v : ℕ) → n < length t → member u w n v ≡ member t w n v
member_kept t u w s k n v l = within_kept t u w s k (suc n) n v l
