-- Rows and alternatives that are added leave those that stand. Assumes nothing.
use Rattle.std.proofs.Common.{◌≡◌, ℕ, ◌+◌, ◌-◌, ◌≤◌, true, leb, List, [], ◌∷◌, ◌++◌, length, take, drop, Some, None, Option, vec_items, sym, refl, ap, ◌∙◌, subst, ap₂, arith, length-append}
use Rattle.std.proofs.lemmas.List.{take-take, take-map, take_all, take_at, drop_at, length-map, length-take, map_push}
use Rattle.std.proofs.lemmas.Slice.{between_is}
use Rattle.std.proofs.lemmas.Bool.{and_parts, and_from, leb-true, le-leb}
use Rattle.std.specs.List.{between}
use Rattle.membership.specs.Rows.{Alt, Row, each, find, intern, intern_by, made_row, places, all_places, grown, Keeps}
use Rattle.membership.proofs.Eachs.{each_under, each_push}
use Rattle.typing.specs.View.{alts, pooled, table, row_of, placed}
use Rattle.typing.specs.Held.{table_of, pool_in}
use Rattle.typing.specs.Growing.{Grew}
use Rattle.typing.specs.declared.basic.TyBasic.{TyBasic}
use Rattle.typing.specs.declared.rows.Row.{Row as CodeRow}
use Rattle.typing.specs.declared.types.Rows.{Rows}
use Rattle.typing.proofs.Walks.{each_both, each_take}

pub between_kept : (i j : ℕ) (all all' : List TyBasic) → take (length all) all' ≡ all → j ≤ length all → between i j all' ≡ between i j all
between_kept i j all all' e l =
    between_is all' i j ∙ ap (drop i) (sym (take-take j (length all) all' l) ∙ ap (take j) e) ∙ sym (between_is all i j)

placed_end : (n : ℕ) (r : CodeRow) → placed n r ≡ true → r.end ≤ n
placed_end n r h = leb-true r.end n (and_parts (leb r.start r.end) (leb r.end n) h).1

pub placed_up : (m n : ℕ) (r : CodeRow) → m ≤ n → placed m r ≡ true → placed n r ≡ true
placed_up m n r l h =
    let a = and_parts (leb r.start r.end) (leb r.end m) h in
    and_from (leb r.start r.end) (leb r.end n) a.0 (le-leb r.end n (omega (arith, placed_end m r h)))

row_kept : (pool : List ℕ) (all all' : List TyBasic) (r : CodeRow) → take (length all) all' ≡ all → placed (length all) r ≡ true → row_of pool all' r ≡ row_of pool all r
row_kept pool all all' r e h =
    let f : List TyBasic → Row = λ xs. record { alts = alts pool xs; deep = r.depth; heavy = r.weight } in
    ap f (between_kept r.start r.end all all' e (placed_end (length all) r h))

pub table_kept : (pool : List ℕ) (all all' : List TyBasic) (rows : List CodeRow) → take (length all) all' ≡ all → each (placed (length all)) rows ≡ true → table pool all' rows ≡ table pool all rows
table_kept pool all all' [] e h = refl
table_kept pool all all' (r ∷ rows) e h =
    let a = and_parts (placed (length all) r) (each (placed (length all)) rows) h in
    ap₂ ◌∷◌ (row_kept pool all all' r e a.0) (table_kept pool all all' rows e a.1)

placed_both : (m n k : ℕ) (rows : List CodeRow) → ((e : ℕ) → e ≤ m → e ≤ n → e ≤ k) → each (placed m) rows ≡ true → each (placed n) rows ≡ true → each (placed k) rows ≡ true
placed_both m n k [] l g h = refl
placed_both m n k (r ∷ rows) l g h =
    let a = and_parts (placed m r) (each (placed m) rows) g in
    let b = and_parts (placed n r) (each (placed n) rows) h in
    let c = and_parts (leb r.start r.end) (leb r.end m) a.0 in
    and_from (placed k r) (each (placed k) rows)
    (and_from (leb r.start r.end) (leb r.end k) c.0 (le-leb r.end k (l r.end (placed_end m r a.0) (placed_end n r b.0))))
    (placed_both m n k rows l a.1 b.1)

-- rows that are cut back
pub placed_cut : (all all' : List TyBasic) (rows rows' : List CodeRow) (n m : ℕ) → rows' ≡ take n rows → all' ≡ take m all → each (placed (length all)) rows ≡ true → each (placed m) (take n rows) ≡ true → each (placed (length all')) rows' ≡ true
placed_cut all all' rows rows' n m p q g h =
    subst (λ (z : List CodeRow). each (placed (length all')) z ≡ true) (sym p)
    (placed_both (length all) m (length all') (take n rows) (λ e k l. omega (arith, ap length q, length-take m all)) (each_take (placed (length all)) n rows g) h)

pub grew_here : (s : Rows) → Grew s s
grew_here s = record { pool_stays = refl; all_stay = take_all (length (vec_items s.all)) (vec_items s.all) (omega arith); rows_stay = take_all (length (vec_items s.rows)) (vec_items s.rows) (omega arith); packed = omega arith }

front_trans : {X : Type 0} (xs ys zs : List X) → take (length xs) ys ≡ xs → take (length ys) zs ≡ ys → take (length xs) zs ≡ xs
front_trans xs ys zs p q =
    let l : length xs ≤ length ys = omega (arith, ap length p, length-take (length xs) ys) in
    sym (take-take (length xs) (length ys) zs l) ∙ ap (take (length xs)) q ∙ p

pub grew_trans : (s s' s'' : Rows) → Grew s s' → Grew s' s'' → Grew s s''
grew_trans s s' s'' g h = record {
  pool_stays = h.pool_stays ∙ g.pool_stays;
  all_stay = front_trans (vec_items s.all) (vec_items s'.all) (vec_items s''.all) g.all_stay h.all_stay;
  rows_stay = front_trans (vec_items s.rows) (vec_items s'.rows) (vec_items s''.rows) g.rows_stay h.rows_stay;
  packed = omega (arith, g.packed, h.packed);
}

pub grew_keeps : (s s' : Rows) → Grew s s' → Keeps (table_of s) (table_of s')
grew_keeps s s' g =
    let pool = pool_in s in
    let all = vec_items s.all in
    let rows = vec_items s.rows in
    let all' = vec_items s'.all in
    let rows' = vec_items s'.rows in
    ap (λ (z : List ℕ). take (length (table_of s)) (table z all' rows')) (ap (λ v. vec_items v) g.pool_stays)
    ∙ ap (λ (n : ℕ). take n (table pool all' rows')) (length-map rows (row_of pool all))
    ∙ take-map (row_of pool all') (length rows) rows' ∙ ap (table pool all') g.rows_stay ∙ table_kept pool all all' rows g.all_stay s.alternatives

pub intern_old : (t : List Row) (xs : List Alt) (n : ℕ) → find 0 t xs ≡ Some n → grown t n ≡ intern t xs
intern_old t xs n e = ap (λ (o : Option ℕ). intern_by o t xs) (sym e)

pub places_push : (t : List Row) (r : Row) → all_places (t ++ r ∷ []) ≡ all_places t + places r.alts
places_push [] r = omega arith
places_push (s ∷ t) r = omega (arith, places_push t r)

places_many : (pool : List ℕ) (xs : List TyBasic) → length xs ≤ places (alts pool xs)
places_many pool [] = omega arith
places_many pool (x ∷ xs) = omega (arith, places_many pool xs)

-- a new row, whose alternatives are added last
module _ (s : Rows) (new all' : List TyBasic) (rows' : List CodeRow) (r : CodeRow) (fits : each (pooled (length (pool_in s))) new ≡ true)
    (all-is : all' ≡ vec_items s.all ++ new) (rows_is : rows' ≡ vec_items s.rows ++ r ∷ []) (start_is : r.start ≡ length (vec_items s.all)) (end_is : r.end ≡ length (vec_items s.all) + length new) where
  abbrev pool : List ℕ
  pool = pool_in s

  abbrev all : List TyBasic
  all = vec_items s.all

  abbrev rows : List CodeRow
  rows = vec_items s.rows

  all_longer : length all' ≡ length all + length new
  all_longer = ap length all-is ∙ length-append all new

  all_stays : take (length all) all' ≡ all
  all_stays = ap (take (length all)) all-is ∙ take_at all new (length all) refl

  own : between r.start r.end all' ≡ new
  own =
      let n : r.end - r.start ≡ length new = omega (arith, start_is, end_is) in
      ap (λ (k : ℕ). take k (drop r.start all')) n
      ∙ ap (λ (k : ℕ). take (length new) (drop k all')) start_is
      ∙ ap (λ (z : List TyBasic). take (length new) (drop (length all) z)) all-is
      ∙ ap (take (length new)) (drop_at all new (length all) refl) ∙ take_all (length new) new (omega arith)

  places_longer : all_places (table pool all' rows') ≡ all_places (table pool all rows) + places (alts pool new)
  places_longer =
      ap all_places (ap (table pool all') rows_is ∙ map_push (row_of pool all') rows r ∙ ap (λ (y : List Row). y ++ row_of pool all' r ∷ []) (table_kept pool all all' rows all_stays s.alternatives))
      ∙ places_push (table pool all rows) (row_of pool all' r) ∙ ap (λ (z : List TyBasic). all_places (table pool all rows) + places (alts pool z)) own

  pub new_elements : each (pooled (length pool)) all' ≡ true
  new_elements = subst (λ (z : List TyBasic). each (pooled (length pool)) z ≡ true) (sym all-is) (each_both (pooled (length pool)) all new s.elements fits)

  pub new_alternatives : each (placed (length all')) rows' ≡ true
  new_alternatives =
      subst (λ (z : List CodeRow). each (placed (length all')) z ≡ true) (sym rows_is)
      (each_push (placed (length all')) rows r
      (each_under (placed (length all)) (placed (length all')) rows (λ q h. placed_up (length all) (length all') q (omega (arith, all_longer)) h) s.alternatives)
      (and_from (leb r.start r.end) (leb r.end (length all')) (le-leb r.start r.end (omega (arith, start_is, end_is))) (le-leb r.end (length all') (omega (arith, all_longer, end_is)))))

  pub grew_new : (s' : Rows) → s'.pool ≡ s.pool → vec_items s'.all ≡ all' → vec_items s'.rows ≡ rows' → Grew s s'
  grew_new s' p q o =
      let e : table_of s' ≡ table pool all' rows' = ap₂ (table (pool_in s')) q o ∙ ap (λ v. table (vec_items v) all' rows') p in
      record {
        pool_stays = p;
        all_stay = ap (take (length all)) q ∙ all_stays;
        rows_stay = ap (take (length rows)) (o ∙ rows_is) ∙ take_at rows (r ∷ []) (length rows) refl;
        packed = omega (arith, all_longer, places_longer, places_many pool new, ap length q, ap all_places e);
      }

  pub intern_new : (n : ℕ) → find 0 (table pool all rows) (alts pool new) ≡ None → n ≡ length rows → r.depth ≡ (made_row (table pool all rows) (alts pool new)).deep → r.weight ≡ (made_row (table pool all rows) (alts pool new)).heavy → grown (table pool all' rows') n ≡ intern (table_of s) (alts pool new)
  intern_new n f l d w =
      let t : List Row = table pool all rows in
      let m : row_of pool all' r ≡ made_row t (alts pool new) = λ i. record { alts = alts pool (own i); deep = d i; heavy = w i } in
      let e : table pool all' rows' ≡ t ++ made_row t (alts pool new) ∷ [] =
      ap (table pool all') rows_is ∙ map_push (row_of pool all') rows r
      ∙ ap₂ (λ (y : List Row) (z : Row). y ++ z ∷ []) (table_kept pool all all' rows all_stays s.alternatives) m in
      let k : n ≡ length t = l ∙ sym (length-map rows (row_of pool all)) in
      ap₂ (λ (y : List Row) (z : ℕ). grown y z) e k ∙ ap (λ (o : Option ℕ). intern_by o t (alts pool new)) (sym f)
