-- The members of a union. Assumes nothing.
use Rattle.std.proofs.Common.{◌≡◌, ℕ, zero, suc, ◌<◌, ◌≤◌, Bool, true, false, cond, ◌&&◌, ◌||◌, eqb, ◌⊎◌, List, [], length, sym, refl, ap, ◌∙◌, subst, ap₂, inl, inr, arith}
use Rattle.std.proofs.lemmas.Bool.Decides.{nat_tests}
use Rattle.std.proofs.lemmas.Bool.{and_parts, and_from, and_cases, or_parts, or_cases, or_left, or_right, eqb-true, cond_both}
use Rattle.membership.specs.Rows.{Alt, any, plain, iter, callable, kind, list, tuple, tuple_of, dict, custom, set_of, Row, row, parts, all_below_lem, Keeps, each, any_of, is_list, is_dict, Inner, inner, no_inner, settle, put_settled_lem, compared, Grown, grown, Joins, join, join_rows_lem, Kept, holds_list, holds_dict, merges}
use Rattle.values.specs.Cells.{Cell, cell_at}
use Rattle.custom.specs.Worlds.{Answers, World}
use Rattle.membership.specs.Members.{keys, values, alternative_has, member_within, member}
use Rattle.membership.proofs.Joins.{keeps_length, keeps_trans}
use Rattle.membership.proofs.Order.{same_alt, equal_from}
use Rattle.membership.proofs.Stands.{Under}
use Rattle.membership.proofs.Eachs.{each_under, each_and, any_under, any_same, any_none}
use Rattle.membership.proofs.Puts.{only, only_none, item_none, item_one, pair_none, pair_one, any_union}
use Rattle.membership.proofs.Kepts.{row_under, Fine, First, first_of, intern_row_lem, row_form, Apart, apart, JoinsFine, join_fine, joined, under_x, under_y, items_fine, pairs_fine, vals_fine, row_fine, rows_fine}
use Rattle.membership.proofs.Belongs.{below_each, has_same, has_at, member_is, member_kept}

abbrev pub only_list : ℕ → Alt → Bool
only_list i = only is_list (list i)

abbrev pub only_dict : ℕ → ℕ → Alt → Bool
only_dict k v = only is_dict (dict k v)

list_part : (t i : ℕ) → only_list i (list t) ≡ true → t ≡ i
list_part t i h = let e : list t ≡ list i = same_alt (list t) (list i) (equal_from (compared (list t) (list i)) h) in cc

dict_parts : (k v i j : ℕ) → only_dict i j (dict k v) ≡ true → (k ≡ i) × (v ≡ j)
dict_parts k v i j h = let e : dict k v ≡ dict i j = same_alt (dict k v) (dict i j) (equal_from (compared (dict k v) (dict i j)) h) in (cc, cc)

-- an alternative whose list and dict are those of j is settled by j
settle_same : (j : Inner) (a : Alt) → only_list j.item a ≡ true → only_dict j.key j.value a ≡ true → settle j a ≡ a
settle_same j any p q = refl
settle_same j (plain n) p q = refl
settle_same j (iter t) p q = refl
settle_same j callable p q = refl
settle_same j kind p q = refl
settle_same j (list t) p q = ap list (sym (list_part t j.item p))
settle_same j (tuple ts) p q = refl
settle_same j (tuple_of t) p q = refl
settle_same j (dict k v) p q = let e = dict_parts k v j.key j.value q in ap₂ dict (sym e.0) (sym e.1)
settle_same j (custom n) p q = refl
settle_same j (set_of t) p q = refl

-- h says of the parts q what g says of more
abbrev pub Within : (ℕ → ℕ → Bool) → (ℕ → ℕ → Bool) → ℕ → ℕ → Type 0
Within h g p q = (v : ℕ) → h p v ≡ true → g q v ≡ true

each_within : (h g : ℕ → ℕ → Bool) (t p q : ℕ) (vs : List ℕ) → t ≡ p → Within h g p q → each (h t) vs ≡ true → each (g q) vs ≡ true
each_within h g t p q vs e w k = each_under (h t) (g q) vs (λ v u. w v (subst (λ (z : ℕ). h z v ≡ true) e u)) k

-- what an alternative has, the settled one has
has_more : (h g : ℕ → ℕ → Bool) (m : ℕ) (says : Answers) (c : Cell) (q j : Inner) → ((p v : ℕ) → p < m → h p v ≡ g p v)
    → Within h g q.item j.item → Within h g q.key j.key → Within h g q.value j.value
    → (a : Alt) → all_below_lem m (parts a) ≡ true → only_list q.item a ≡ true → only_dict q.key q.value a ≡ true
    → alternative_has h says a c ≡ true → alternative_has g says (settle j a) c ≡ true
has_more h g m says c q j s wi wk wv any b l d k = refl
has_more h g m says c q j s wi wk wv (plain n) b l d k = k
has_more h g m says c q j s wi wk wv (iter t) b l d k = k
has_more h g m says c q j s wi wk wv callable b l d k = k
has_more h g m says c q j s wi wk wv kind b l d k = k
has_more h g m says c q j s wi wk wv (list t) b l d k =
    let e = and_parts (eqb c.ty 5) (each (h t) c.parts) k in
    and_from (eqb c.ty 5) (each (g j.item) c.parts) e.0 (each_within h g t q.item j.item c.parts (list_part t q.item l) wi e.1)
has_more h g m says c q j s wi wk wv (tuple ts) b l d k = sym (has_same h g m s says (tuple ts) c b) ∙ k
has_more h g m says c q j s wi wk wv (tuple_of t) b l d k = sym (has_same h g m s says (tuple_of t) c b) ∙ k
has_more h g m says c q j s wi wk wv (dict x y) b l d k =
    let e = and_parts (eqb c.ty 6) (each (h x) (keys c.parts) && each (h y) (values c.parts)) k in
    let f = and_parts (each (h x) (keys c.parts)) (each (h y) (values c.parts)) e.1 in
    let p = dict_parts x y q.key q.value d in
    and_from (eqb c.ty 6) (each (g j.key) (keys c.parts) && each (g j.value) (values c.parts)) e.0
    (and_from (each (g j.key) (keys c.parts)) (each (g j.value) (values c.parts))
    (each_within h g x q.key j.key (keys c.parts) p.0 wk f.0)
    (each_within h g y q.value j.value (values c.parts) p.1 wv f.1))
has_more h g m says c q j s wi wk wv (custom n) b l d k = k
has_more h g m says c q j s wi wk wv (set_of t) b l d k = sym (has_same h g m s says (set_of t) c b) ∙ k

-- g's type has what both sides have
pub record Covers (t : List Row) (a b : ℕ) (g : Grown) : Type 0 where
  pub left : (w : World) (v : ℕ) → member t w a v ≡ true → member g.rows w g.number v ≡ true
  pub right : (w : World) (v : ℕ) → member t w b v ≡ true → member g.rows w g.number v ≡ true

-- one side of a union, whose joined parts are in the table u, the union's
module _ (t u : List Row) (a : ℕ) (j : Inner) (kept : Kept t) (al : a < length t) (keeps : Keeps t u) where
  abbrev side : List Alt
  side = (row t a).alts

  abbrev mine : Inner
  mine = inner no_inner side

  alike : each (λ x. all_below_lem a (parts x) && (only_list mine.item x && only_dict mine.key mine.value x)) side ≡ true
  alike =
      let f = row_form t a kept al in
      each_and (λ x. all_below_lem a (parts x)) (λ x. only_list mine.item x && only_dict mine.key mine.value x) side (below_each a side (row_under t a kept.standing))
      (each_and (only_list mine.item) (only_dict mine.key mine.value) side (item_one no_inner side f.one_list) (pair_one no_inner side f.one_dict))

  pub side_covered : (w : World) (v : ℕ) → Within (member t w) (member u w) mine.item j.item → Within (member t w) (member u w) mine.key j.key → Within (member t w) (member u w) mine.value j.value
      → member t w a v ≡ true → any_of (λ x. has_at u w v (settle j x)) side ≡ true
  side_covered w v wi wk wv h =
      any_under (λ x. all_below_lem a (parts x) && (only_list mine.item x && only_dict mine.key mine.value x)) (has_at t w v) (λ x. has_at u w v (settle j x)) side alike
      (λ x o k.
      let p = and_parts (all_below_lem a (parts x)) (only_list mine.item x && only_dict mine.key mine.value x) o in
      let q = and_parts (only_list mine.item x) (only_dict mine.key mine.value x) p.1 in
      has_more (member t w) (member u w) a w.says (cell_at w.cells v) mine j (λ n z l. sym (member_kept t u w kept.standing keeps n z (omega arith))) wi wk wv x p.0 q.0 q.1 k)
      (sym (member_is t w kept.standing a v) ∙ h)

  -- where its own list and dict are left as they are, a side gives its own members
  pub side_same : (w : World) (v : ℕ) → each (only_list j.item) side ≡ true → each (only_dict j.key j.value) side ≡ true → any_of (λ x. has_at u w v (settle j x)) side ≡ member t w a v
  side_same w v l d =
      any_same (λ x. all_below_lem a (parts x) && (only_list j.item x && only_dict j.key j.value x)) (λ x. has_at u w v (settle j x)) (has_at t w v) side
      (each_and (λ x. all_below_lem a (parts x)) (λ x. only_list j.item x && only_dict j.key j.value x) side (below_each a side (row_under t a kept.standing)) (each_and (only_list j.item) (only_dict j.key j.value) side l d))
      (λ x o.
      let p = and_parts (all_below_lem a (parts x)) (only_list j.item x && only_dict j.key j.value x) o in
      let q = and_parts (only_list j.item x) (only_dict j.key j.value x) p.1 in
      ap (has_at u w v) (settle_same j x q.0 q.1)
      ∙ has_same (member u w) (member t w) a (λ n z s. member_kept t u w kept.standing keeps n z (omega arith)) w.says x (cell_at w.cells v) p.0)
      ∙ sym (member_is t w kept.standing a v)

-- the plain answers
pub never_empty : (t : List Row) (w : World) (v : ℕ) → First t → member t w 0 v ≡ false
never_empty t w v f = ap (λ (xs : List Alt). any_of (λ a. alternative_has (member_within 0 t w) w.says a (cell_at w.cells v)) xs) f.none

pub any_all : (t : List Row) (w : World) (v : ℕ) → First t → member t w 1 v ≡ true
any_all t w v f = ap (λ (xs : List Alt). any_of (λ a. alternative_has (member_within 1 t w) w.says a (cell_at w.cells v)) xs) f.all

none_of_never : (t : List Row) (w : World) (n v : ℕ) → First t → n ≡ 0 → member t w n v ≡ true → ⊥
none_of_never t w n v f e h =
    let k : member t w 0 v ≡ true = subst (λ (z : ℕ). member t w z v ≡ true) e h in
    let l = never_empty t w v f in
    let z : ◌≡◌ {A = ℕ} 0 1 = cc in omega arith

covers_any : (t : List Row) (a b : ℕ) → First t → Covers t a b (grown t 1)
covers_any t a b f = record { left = λ w v h. any_all t w v f; right = λ w v h. any_all t w v f }

covers_first : (t : List Row) (a b : ℕ) → First t → (eqb a b ≡ true) ⊎ (eqb b 0 ≡ true) → Covers t a b (grown t a)
covers_first t a b f o = record { left = λ w v h. h; right = λ w v h. go o w v h }
  where
    go : (eqb a b ≡ true) ⊎ (eqb b 0 ≡ true) → (w : World) (v : ℕ) → member t w b v ≡ true → member t w a v ≡ true
    go (inl e) w v h = subst (λ (z : ℕ). member t w z v ≡ true) (sym (eqb-true a b e)) h
    go (inr e) w v h = absurd (none_of_never t w b v f (eqb-true b 0 e) h)

covers_second : (t : List Row) (a b : ℕ) → First t → eqb a 0 ≡ true → Covers t a b (grown t b)
covers_second t a b f e = record { left = λ w v h. absurd (none_of_never t w a v f (eqb-true a 0 e) h); right = λ w v h. h }

abbrev JoinsCover : ℕ → Joins → Type 0
JoinsCover m f = (t : List Row) (a b : ℕ) → Kept t → a < m → a < length t → b < length t → Covers t a b (f t a b)

module _ (m : ℕ) (f : Joins) (fine : JoinsFine m f) (cover : JoinsCover m f) (t : List Row) (a b : ℕ) (k : Kept t) (am : a < suc m) (al : a < length t) (bl : b < length t) (ab : Apart a b) where
  abbrev xs : List Alt
  xs = (row t a).alts

  abbrev ys : List Alt
  ys = (row t b).alts

  abbrev x : Inner
  x = inner no_inner xs

  abbrev y : Inner
  y = inner no_inner ys

  abbrev items : Grown
  items = f t x.item y.item

  abbrev pairs : Grown
  pairs = f items.rows x.key y.key

  abbrev vals : Grown
  vals = f pairs.rows x.value y.value

  abbrev j : Inner
  j = joined m f fine t a b k am al bl ab

  abbrev done : Grown
  done = join_rows_lem f t xs ys

  ux : Under a x
  ux = under_x m f fine t a b k am al bl ab

  uy : Under b y
  uy = under_y m f fine t a b k am al bl ab

  fi : Fine t items
  fi = items_fine m f fine t a b k am al bl ab

  fk : Fine items.rows pairs
  fk = pairs_fine m f fine t a b k am al bl ab

  fv : Fine pairs.rows vals
  fv = vals_fine m f fine t a b k am al bl ab

  fr : Fine vals.rows done
  fr = row_fine m f fine t a b k am al bl ab

  fa : Fine t done
  fa = rows_fine m f fine t a b k am al bl ab

  pub done_is : (w : World) (v : ℕ) → member done.rows w done.number v ≡ (any_of (λ x. has_at done.rows w v (settle j x)) xs || any_of (λ x. has_at done.rows w v (settle j x)) ys)
  done_is w v =
      member_is done.rows w fa.kept.standing done.number v
      ∙ ap (any_of (has_at done.rows w v)) (intern_row_lem vals.rows (put_settled_lem j (put_settled_lem j [] xs) ys))
      ∙ any_union (has_at done.rows w v) j xs ys

  keeps₁ : Keeps items.rows done.rows
  keeps₁ = keeps_trans items.rows pairs.rows done.rows fk.keeps (keeps_trans pairs.rows vals.rows done.rows fv.keeps fr.keeps)

  keeps₂ : Keeps pairs.rows done.rows
  keeps₂ = keeps_trans pairs.rows vals.rows done.rows fv.keeps fr.keeps

  longer₁ : length t ≤ length items.rows
  longer₁ = keeps_length t items.rows fi.keeps

  longer₂ : length items.rows ≤ length pairs.rows
  longer₂ = keeps_length items.rows pairs.rows fk.keeps

  keeps₀₂ : Keeps t pairs.rows
  keeps₀₂ = keeps_trans t items.rows pairs.rows fi.keeps fk.keeps

  ci : Covers t x.item y.item items
  ci = cover t x.item y.item k (omega (arith, ux.0)) (omega (arith, ux.0)) (omega (arith, uy.0))

  ck : Covers items.rows x.key y.key pairs
  ck = cover items.rows x.key y.key fi.kept (omega (arith, ux.1)) (omega (arith, ux.1, longer₁)) (omega (arith, uy.1, longer₁))

  cv : Covers pairs.rows x.value y.value vals
  cv = cover pairs.rows x.value y.value fk.kept (omega (arith, ux.2)) (omega (arith, ux.2, longer₁, longer₂)) (omega (arith, uy.2, longer₁, longer₂))

  pub rows_cover : Covers t a b done
  rows_cover = record {
    left = λ w v h. done_is w v ∙ or_left (any_of (λ x. has_at done.rows w v (settle j x)) xs) (any_of (λ x. has_at done.rows w v (settle j x)) ys)
        (side_covered t done.rows a j k al fa.keeps w v
        (λ z p. member_kept items.rows done.rows w fi.kept.standing keeps₁ j.item z fi.within ∙ ci.left w z p)
        (λ z p. member_kept pairs.rows done.rows w fk.kept.standing keeps₂ j.key z fk.within ∙ ck.left w z (member_kept t items.rows w k.standing fi.keeps x.key z (omega (arith, ux.1)) ∙ p))
        (λ z p. member_kept vals.rows done.rows w fv.kept.standing fr.keeps j.value z fv.within ∙ cv.left w z (member_kept t pairs.rows w k.standing keeps₀₂ x.value z (omega (arith, ux.2)) ∙ p))
        h);
    right = λ w v h. done_is w v ∙ or_right (any_of (λ x. has_at done.rows w v (settle j x)) xs) (any_of (λ x. has_at done.rows w v (settle j x)) ys)
        (side_covered t done.rows b j k bl fa.keeps w v
        (λ z p. member_kept items.rows done.rows w fi.kept.standing keeps₁ j.item z fi.within ∙ ci.right w z p)
        (λ z p. member_kept pairs.rows done.rows w fk.kept.standing keeps₂ j.key z fk.within ∙ ck.right w z (member_kept t items.rows w k.standing fi.keeps y.key z (omega (arith, uy.1)) ∙ p))
        (λ z p. member_kept vals.rows done.rows w fv.kept.standing fr.keeps j.value z fv.within ∙ cv.right w z (member_kept t pairs.rows w k.standing keeps₀₂ y.value z (omega (arith, uy.2)) ∙ p))
        h);
  }

-- a join has the members of both sides
pub join_covers : (m : ℕ) → JoinsCover m (join m)
join_covers zero t a b k am al bl = absurd (omega arith)
join_covers (suc m) t a b k am al bl =
    let f = first_of t k.begun in
    cond_both (eqb a 1 || eqb b 1) (grown t 1) _ (Covers t a b) (λ e. covers_any t a b f) (λ e.
    cond_both (eqb a b || eqb b 0) (grown t a) _ (Covers t a b) (λ g. covers_first t a b f (or_cases (eqb a b) (eqb b 0) g)) (λ g.
    cond_both (eqb a 0) (grown t b) _ (Covers t a b) (λ h. covers_second t a b f h) (λ h.
    rows_cover m (join m) (join_fine m) (join_covers m) t a b k am al bl (apart a b e g h))))

-- never is neutral
pub right_neutral : (m : ℕ) (t : List Row) (p : ℕ) → p < m → join m t p 0 ≡ grown t p
right_neutral zero t p l = absurd (omega arith)
right_neutral (suc m) t p l = go (eqb p 1) refl
  where
    go : (b : Bool) → eqb p 1 ≡ b → cond (b || eqb 0 1) (grown t 1) (cond (eqb p 0 || eqb 0 0) (grown t p) (cond (eqb p 0) (grown t 0) (join_rows_lem (join m) t (row t p).alts (row t 0).alts))) ≡ grown t p
    go true e = ap (grown t) (sym (eqb-true p 1 e))
    go false e = inner_go (eqb p 0)
      where
        inner_go : (c : Bool) → cond (c || true) (grown t p) (cond c (grown t 0) (join_rows_lem (join m) t (row t p).alts (row t 0).alts)) ≡ grown t p
        inner_go true = refl
        inner_go false = refl

pub left_neutral : (m : ℕ) (t : List Row) (q : ℕ) → 0 < m → join m t 0 q ≡ grown t q
left_neutral zero t q l = absurd (omega arith)
left_neutral (suc m) t q l = go (eqb q 1) refl (eqb 0 q || eqb q 0) refl
  where
    go : (b : Bool) → eqb q 1 ≡ b → (c : Bool) → (eqb 0 q || eqb q 0) ≡ c → cond b (grown t 1) (cond c (grown t 0) (grown t q)) ≡ grown t q
    go true e c d = ap (grown t) (sym (eqb-true q 1 e))
    go false e true d = let z : 0 ≡ q = grind (arith, nat_tests, d) in ap (grown t) z
    go false e false d = refl

-- g's type has no other members than those of both sides, unless they merge
abbrev pub Bounded : List Row → ℕ → ℕ → Grown → Type 0
Bounded t a b g = merges t a b ≡ false → (w : World) (v : ℕ) → member g.rows w g.number v ≡ true → (member t w a v || member t w b v) ≡ true

module _ (m : ℕ) (t : List Row) (a b : ℕ) (k : Kept t) (am : a < suc m) (al : a < length t) (bl : b < length t) (ab : Apart a b) where
  abbrev ls : List Alt
  ls = (row t a).alts

  abbrev rs : List Alt
  rs = (row t b).alts

  abbrev l : Inner
  l = inner no_inner ls

  abbrev r : Inner
  r = inner no_inner rs

  abbrev is : Inner
  is = joined m (join m) (join_fine m) t a b k am al bl ab

  abbrev items' : Grown
  items' = join m t l.item r.item

  abbrev pairs' : Grown
  pairs' = join m items'.rows l.key r.key

  abbrev union : Grown
  union = join_rows_lem (join m) t ls rs

  lu : Under a l
  lu = under_x m (join m) (join_fine m) t a b k am al bl ab

  -- where the right side holds no list, the item is the left one's, and the other way round
  item_left : holds_list t b ≡ false → is.item ≡ l.item
  item_left h =
      ap (λ (i : ℕ). (join m t l.item i).number) (item_none no_inner rs (any_none is_list rs h))
      ∙ ap (λ (g : Grown). g.number) (right_neutral m t l.item (omega (arith, lu.0)))

  item_right : holds_list t a ≡ false → is.item ≡ r.item
  item_right h =
      ap (λ (i : ℕ). (join m t i r.item).number) (item_none no_inner ls (any_none is_list ls h))
      ∙ ap (λ (g : Grown). g.number) (left_neutral m t r.item (omega (arith, lu.0)))

  pair_left : holds_dict t b ≡ false → (is.key ≡ l.key) × (is.value ≡ l.value)
  pair_left h =
      let n = pair_none no_inner rs (any_none is_dict rs h) in (
        ap (λ (i : ℕ). (join m items'.rows l.key i).number) n.0 ∙ ap (λ (g : Grown). g.number) (right_neutral m items'.rows l.key (omega (arith, lu.1))),
        ap (λ (i : ℕ). (join m pairs'.rows l.value i).number) n.1 ∙ ap (λ (g : Grown). g.number) (right_neutral m pairs'.rows l.value (omega (arith, lu.2))),
      )

  pair_right : holds_dict t a ≡ false → (is.key ≡ r.key) × (is.value ≡ r.value)
  pair_right h =
      let n = pair_none no_inner ls (any_none is_dict ls h) in (
        ap (λ (i : ℕ). (join m items'.rows i r.key).number) n.0 ∙ ap (λ (g : Grown). g.number) (left_neutral m items'.rows r.key (omega (arith, lu.1))),
        ap (λ (i : ℕ). (join m pairs'.rows i r.value).number) n.1 ∙ ap (λ (g : Grown). g.number) (left_neutral m pairs'.rows r.value (omega (arith, lu.2))),
      )

  lists_left : (holds_list t a ≡ false) ⊎ (holds_list t b ≡ false) → each (only_list is.item) ls ≡ true
  lists_left (inl h) = only_none is_list (list is.item) ls (any_none is_list ls h)
  lists_left (inr h) = subst (λ (i : ℕ). each (only_list i) ls ≡ true) (sym (item_left h)) (item_one no_inner ls (row_form t a k al).one_list)

  lists_right : (holds_list t a ≡ false) ⊎ (holds_list t b ≡ false) → each (only_list is.item) rs ≡ true
  lists_right (inl h) = subst (λ (i : ℕ). each (only_list i) rs ≡ true) (sym (item_right h)) (item_one no_inner rs (row_form t b k bl).one_list)
  lists_right (inr h) = only_none is_list (list is.item) rs (any_none is_list rs h)

  dicts_left : (holds_dict t a ≡ false) ⊎ (holds_dict t b ≡ false) → each (only_dict is.key is.value) ls ≡ true
  dicts_left (inl h) = only_none is_dict (dict is.key is.value) ls (any_none is_dict ls h)
  dicts_left (inr h) =
      let e : dict is.key is.value ≡ dict l.key l.value = ap₂ dict (pair_left h).0 (pair_left h).1 in
      subst (λ (d : Alt). each (only is_dict d) ls ≡ true) (sym e) (pair_one no_inner ls (row_form t a k al).one_dict)

  dicts_right : (holds_dict t a ≡ false) ⊎ (holds_dict t b ≡ false) → each (only_dict is.key is.value) rs ≡ true
  dicts_right (inl h) =
      let e : dict is.key is.value ≡ dict r.key r.value = ap₂ dict (pair_right h).0 (pair_right h).1 in
      subst (λ (d : Alt). each (only is_dict d) rs ≡ true) (sym e) (pair_one no_inner rs (row_form t b k bl).one_dict)
  dicts_right (inr h) = only_none is_dict (dict is.key is.value) rs (any_none is_dict rs h)

  pub rows_bounded : Bounded t a b union
  rows_bounded n w v h =
      let p = or_parts (holds_list t a && holds_list t b) (holds_dict t a && holds_dict t b) n in
      let o = and_cases (holds_list t a) (holds_list t b) p.0 in
      let d = and_cases (holds_dict t a) (holds_dict t b) p.1 in
      let fine : Fine t union = rows_fine m (join m) (join_fine m) t a b k am al bl ab in
      let x : any_of (λ x. has_at union.rows w v (settle is x)) ls ≡ member t w a v = side_same t union.rows a is k al fine.keeps w v (lists_left o) (dicts_left d) in
      let y : any_of (λ x. has_at union.rows w v (settle is x)) rs ≡ member t w b v = side_same t union.rows b is k bl fine.keeps w v (lists_right o) (dicts_right d) in
      sym (ap₂ ◌||◌ x y) ∙ sym (done_is m (join m) (join_fine m) (join_covers m) t a b k am al bl ab w v) ∙ h

bounded_any : (t : List Row) (a b : ℕ) → First t → (eqb a 1 ≡ true) ⊎ (eqb b 1 ≡ true) → Bounded t a b (grown t 1)
bounded_any t a b f (inl e) n w v h = or_left (member t w a v) (member t w b v) (subst (λ (z : ℕ). member t w z v ≡ true) (sym (eqb-true a 1 e)) h)
bounded_any t a b f (inr e) n w v h = or_right (member t w a v) (member t w b v) (subst (λ (z : ℕ). member t w z v ≡ true) (sym (eqb-true b 1 e)) h)

pub join_bounded : (m : ℕ) (t : List Row) (a b : ℕ) → Kept t → a < m → a < length t → b < length t → Bounded t a b (join m t a b)
join_bounded zero t a b k am al bl = absurd (omega arith)
join_bounded (suc m) t a b k am al bl =
    let f = first_of t k.begun in
    cond_both (eqb a 1 || eqb b 1) (grown t 1) _ (Bounded t a b) (λ e. bounded_any t a b f (or_cases (eqb a 1) (eqb b 1) e)) (λ e.
    cond_both (eqb a b || eqb b 0) (grown t a) _ (Bounded t a b) (λ g n w v h. or_left (member t w a v) (member t w b v) h) (λ g.
    cond_both (eqb a 0) (grown t b) _ (Bounded t a b) (λ i n w v h. or_right (member t w a v) (member t w b v) h) (λ i.
    rows_bounded m t a b k am al bl (apart a b e g i))))
