-- The rows and the pool of a live heap, as they change. Assumes nothing.
use Rattle.std.specs.Prelude.{◌≡◌, ℕ, zero, suc, ◌+◌, ◌-◌, ◌<◌, ◌≤◌, true, ◌≢◌, ◌⊎◌, List, [], ◌∷◌, ◌++◌, map, length, get_or, take, drop, slice_index, slice_index_or, slice_set, refl}
use Rattle.std.proofs.Common.{sym, ap, ap₂, subst, ◌∙◌, inl, inr, arith, length-append, length-set, length-take, length-drop}
use Rattle.std.proofs.Math.Seq.{take-set-lt}
use Rattle.std.proofs.lemmas.List.{get_or_append_left, get_or-append_right, get_or_push, map-append, length-map, get_or-map, ext_get_or, take-append-le, drop-append-le, take-take, get_or-take, get_or-drop, take-set-le, drop-set-lt, drop-set-add, length_push, take_at, drop_at, take_all, get_or-set_same, get_or-set_other}
use Rattle.std.proofs.lemmas.Bool.{cases_lt, cases_eq, cases_order}
use Rattle.values.specs.Cells.{Cell, no_cell, cell_at}
use Rattle.values.specs.Owned.{no_own, cell_of, cells_of, total, Laid, Below, Shaped, own_formed}
use Rattle.values.specs.Lives.{cell, changed, parts_in}
use Rattle.values.specs.declared.own.Own.{Own}

-- each row's parts lie in a pool of n
abbrev pub Within : ℕ → List Own → Type 0
Within n own = (k : ℕ) → k < length own → (get_or own k no_own).first + (get_or own k no_own).count ≤ n

total_split : (own : List Own) (k : ℕ) → k < length own → total (take k own) + (get_or own k no_own).count ≤ total own
unfolding total
total_split [] k h = absurd (omega arith)
total_split (o ∷ os) zero h = omega arith
total_split (o ∷ os) (suc k) h = let r = total_split os k (omega arith) in omega arith

pub within : (own : List Own) (n : ℕ) → Laid own → n ≡ total own → Within n own
within own n laid full k h = omega (arith, laid k h, total_split own k h)

pub apart : (own : List Own) (j k : ℕ) → Laid own → j < k → k < length own → (get_or own j no_own).first + (get_or own j no_own).count ≤ (get_or own k no_own).first
apart own j k laid lt h =
    let inner : j < length (take k own) = omega (arith, length-take k own) in
    let s : total (take j own) + (get_or own j no_own).count ≤ total (take k own) =
    subst (λ (x : Own). total (take j own) + x.count ≤ total (take k own)) (get_or-take k own j no_own lt)
    (subst (λ (x : List Own). total x + (get_or (take k own) j no_own).count ≤ total (take k own)) (take-take j k own (omega arith)) (total_split (take k own) j inner)) in
    omega (arith, laid j (omega arith), laid k h, s)

pub parts_length : (pool : List ℕ) (o : Own) → o.first + o.count ≤ length pool → length (cell_of pool o).parts ≡ o.count
parts_length pool o h = omega (arith, length-take o.count (drop o.first pool), length-drop o.first pool)

pub part_at : (pool : List ℕ) (o : Own) (i : ℕ) → i < o.count → slice_index (cell_of pool o).parts i ≡ slice_index pool (o.first + i)
part_at pool o i h = get_or-take o.count (drop o.first pool) i 0 h ∙ get_or-drop o.first pool i 0

-- a longer pool
cell_grows : (pool more : List ℕ) (o : Own) → o.first + o.count ≤ length pool → cell_of (pool ++ more) o ≡ cell_of pool o
cell_grows pool more o h =
    let e : take o.count (drop o.first (pool ++ more)) ≡ take o.count (drop o.first pool) =
    ap (take o.count) (drop-append-le o.first pool more (omega arith)) ∙ take-append-le o.count (drop o.first pool) more (omega (arith, length-drop o.first pool)) in
    ap (cell o.head.ty o.head.flags o.head.mark) e

map_same : (f g : Own → Cell) (own : List Own) → ((k : ℕ) → k < length own → f (slice_index_or own k no_own) ≡ g (slice_index_or own k no_own)) → map f own ≡ map g own
map_same f g [] h = refl
map_same f g (o ∷ os) h = ap₂ ◌∷◌ (h 0 (omega arith)) (map_same f g os (λ k l. h (suc k) (omega arith)))

pub cells_grow : (own : List Own) (pool more : List ℕ) → Within (length pool) own → cells_of own (pool ++ more) ≡ cells_of own pool
cells_grow own pool more w = map_same (cell_of (pool ++ more)) (cell_of pool) own (λ k h. cell_grows pool more (slice_index_or own k no_own) (w k h))

pub new_cells : (own : List Own) (pool parts : List ℕ) (o : Own) → Within (length pool) own → o.first ≡ length pool → o.count ≡ length parts
    → cells_of (own ++ (o ∷ [])) (pool ++ parts) ≡ cells_of own pool ++ (cell o.head.ty o.head.flags o.head.mark parts ∷ [])
new_cells own pool parts o w f n =
    let e : take o.count (drop o.first (pool ++ parts)) ≡ parts =
    ap (take o.count) (drop_at pool parts o.first (sym f)) ∙ take_all o.count parts (omega arith) in
    map-append (cell_of (pool ++ parts)) own (o ∷ []) ∙ ap₂ ◌++◌ (cells_grow own pool parts w) (ap (λ ps. cell o.head.ty o.head.flags o.head.mark ps ∷ []) e)

total_push : (own : List Own) (o : Own) → total (own ++ (o ∷ [])) ≡ total own + o.count
unfolding total
total_push [] o = omega arith
total_push (x ∷ own) o = let r = total_push own o in omega arith

pub new_full : (own : List Own) (pool parts : List ℕ) (o : Own) → length pool ≡ total own → o.count ≡ length parts → length (pool ++ parts) ≡ total (own ++ (o ∷ []))
new_full own pool parts o e n = omega (arith, length-append pool parts, total_push own o)

old_or_last : (k n : ℕ) → k < n + 1 → (k < n) ⊎ (k ≡ n)
old_or_last k n h = grind arith

pub new_laid : (own : List Own) (o : Own) → Laid own → o.first ≡ total own → Laid (own ++ (o ∷ []))
new_laid own o laid f k h = by (old_or_last k (length own) (omega (arith, length_push own o)))
  where
    by : (k < length own) ⊎ (k ≡ length own) → (get_or (own ++ (o ∷ [])) k no_own).first ≡ total (take k (own ++ (o ∷ [])))
    by (inl l) = ap (λ x. x.first) (get_or_append_left own (o ∷ []) no_own k l) ∙ laid k l ∙ ap total (sym (take-append-le k own (o ∷ []) (omega arith)))
    by (inr e) = ap (λ x. x.first) (get_or_push own o no_own k (sym e)) ∙ f ∙ ap total (sym (take_at own (o ∷ []) k (sym e)))

pub new_shaped : (own : List Own) (o : Own) → Shaped own → own_formed o ≡ true → Shaped (own ++ (o ∷ []))
new_shaped own o shaped f k h = by (old_or_last k (length own) (omega (arith, length_push own o)))
  where
    by : (k < length own) ⊎ (k ≡ length own) → own_formed (slice_index_or (own ++ (o ∷ [])) k no_own) ≡ true
    by (inl l) = ap own_formed (get_or_append_left own (o ∷ []) no_own k l) ∙ shaped k l
    by (inr e) = ap own_formed (get_or_push own o no_own k (sym e)) ∙ f

pub new_below : (m n : ℕ) (pool parts : List ℕ) → m ≤ n → Below m pool → Below m parts → Below n (pool ++ parts)
new_below m n pool parts le old new i h = by (cases_lt i (length pool))
  where
    by : (i < length pool) ⊎ (length pool ≤ i) → slice_index (pool ++ parts) i < n
    by (inl l) = rw (get_or_append_left pool parts 0 i l) (omega (arith, old i l))
    by (inr l) = rw (get_or-append_right pool parts (length pool) i 0 refl l) (omega (arith, new (i - length pool) (omega (arith, length-append pool parts))))

-- another part
pub put_below : (n : ℕ) (pool : List ℕ) (j x : ℕ) → x < n → Below n pool → Below n (slice_set pool j x)
put_below n pool j x h old i l = by (cases_eq i j)
  where
    l' : i < length pool
    l' = omega (arith, length-set pool j x)

    by : (i ≡ j) ⊎ (i ≢ j) → slice_index (slice_set pool j x) i < n
    by (inl e) = rw e (rw (get_or-set_same pool j x 0 (omega (arith, l'))) h)
    by (inr ne) = rw (get_or-set_other pool j i x 0 ne) (old i l')

cell_put : (pool : List ℕ) (o : Own) (i x : ℕ) → i < o.count → cell_of (slice_set pool (o.first + i) x) o ≡ changed (cell_of pool o) i x
cell_put pool o i x h =
    ap (cell o.head.ty o.head.flags o.head.mark) (ap (take o.count) (drop-set-add o.first pool i x) ∙ take-set-lt o.count (drop o.first pool) i x h)

-- a place that is not among the row's parts
cell_kept : (pool : List ℕ) (o : Own) (j x : ℕ) → (j < o.first) ⊎ (o.first + o.count ≤ j) → cell_of (slice_set pool j x) o ≡ cell_of pool o
cell_kept pool o j x (inl h) = ap (λ ps. cell o.head.ty o.head.flags o.head.mark (take o.count ps)) (drop-set-lt o.first pool j x h)
cell_kept pool o j x (inr h) =
    let e : o.first + (j - o.first) ≡ j = omega arith in
    ap (cell o.head.ty o.head.flags o.head.mark) (ap (λ n. take o.count (drop o.first (slice_set pool n x))) (sym e) ∙ ap (take o.count) (drop-set-add o.first pool (j - o.first) x) ∙ take-set-le o.count (drop o.first pool) (j - o.first) x (omega arith))

pub put_cells : (own : List Own) (pool : List ℕ) (k i x : ℕ) → Laid own → k < length own → i < (get_or own k no_own).count
    → cells_of own (slice_set pool ((get_or own k no_own).first + i) x) ≡ slice_set (cells_of own pool) k (changed (cell_at (cells_of own pool) k) i x)
put_cells own pool k i x laid h p = ext_get_or no_cell (cells_of own pool') (slice_set cs k new) (length-map own (cell_of pool') ∙ sym (length-set cs k new ∙ length-map own (cell_of pool))) (λ j l. by j (omega (arith, length-map own (cell_of pool'))) (cases_order j k))
  where
    o : Own
    o = slice_index_or own k no_own

    pool' : List ℕ
    pool' = slice_set pool (o.first + i) x

    cs : List Cell
    cs = cells_of own pool

    new : Cell
    new = changed (cell_at cs k) i x

    there : cell_at cs k ≡ cell_of pool o
    there = get_or-map (cell_of pool) own k no_own no_cell h

    other : (j : ℕ) → j < length own → j ≢ k → (o.first + i < (get_or own j no_own).first) ⊎ ((get_or own j no_own).first + (get_or own j no_own).count ≤ o.first + i) → slice_index_or (cells_of own pool') j no_cell ≡ slice_index_or (slice_set cs k new) j no_cell
    other j l ne q = get_or-map (cell_of pool') own j no_own no_cell l ∙ cell_kept pool (slice_index_or own j no_own) (o.first + i) x q ∙ sym (get_or-set_other cs k j new no_cell ne ∙ get_or-map (cell_of pool) own j no_own no_cell l)

    by : (j : ℕ) → j < length own → (j ≡ k) ⊎ ((j < k) ⊎ (k < j)) → slice_index_or (cells_of own pool') j no_cell ≡ slice_index_or (slice_set cs k new) j no_cell
    by j l (inl e) = ap (λ m. get_or (cells_of own pool') m no_cell) e ∙ get_or-map (cell_of pool') own k no_own no_cell h ∙ cell_put pool o i x p ∙ ap (λ z. changed z i x) (sym there) ∙ sym (ap (λ m. get_or (slice_set cs k new) m no_cell) e ∙ get_or-set_same cs k new no_cell (omega (arith, length-map own (cell_of pool))))
    by j l (inr (inl lt)) = other j l (omega arith) (inr (omega (arith, apart own j k laid lt h)))
    by j l (inr (inr lt)) = other j l (omega arith) (inl (omega (arith, apart own k j laid lt l)))

-- as many parts as the rows say
pub parts_all : (own : List Own) (pool : List ℕ) → Within (length pool) own → parts_in (cells_of own pool) ≡ total own
unfolding parts_in total
parts_all [] pool w = refl
parts_all (o ∷ os) pool w = omega (arith, parts_length pool o (w 0 (omega arith)), parts_all os pool (λ k h. w (suc k) (omega arith)))

-- what a place among a row's parts tells
pub place_within : (own : List Own) (pool : List ℕ) (k i : ℕ) (o : Own) → Laid own → length pool ≡ total own → k < length own → o ≡ slice_index_or own k no_own → i < length (cell_at (cells_of own pool) k).parts → (i < (get_or own k no_own).count) × (o.first + i < length pool)
place_within own pool k i o laid full h e p =
    let w = within own (length pool) laid full k h in
    let q : i < length (cell_of pool (slice_index_or own k no_own)).parts = subst (λ (z : Cell). i < length z.parts) (get_or-map (cell_of pool) own k no_own no_cell h) p in
    let c : i < (get_or own k no_own).count = omega (arith, parts_length pool (slice_index_or own k no_own) w) in
    (c, omega (arith, ap (λ (z : Own). z.first) e))
