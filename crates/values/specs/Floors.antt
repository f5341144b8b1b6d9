-- The cells of a live heap. Assumes nothing.
use Rattle.std.specs.Prelude.{◌≡◌, ℕ, ◌+◌, ◌-◌, ◌<◌, ◌≤◌, Bool, true, false, cond, ◌⊎◌, List, length, get_or, replicate, vec_items, vec_len, ◌==◌, ◌≢◌, slice_index_or, refl}
use Rattle.std.proofs.Common.{sym, ap, subst, ◌∙◌, inl, inr, arith}
use Rattle.std.proofs.Math.ListN.{length-append}
use Rattle.std.proofs.lemmas.List.{get_or_append_left, get_or-append_right, get_or-replicate, length-map, get_or-map, length-replicate}
use Rattle.std.proofs.lemmas.Bool.{eqb-true, eq-eqb, ne_eqb, cases_lt}
use Rattle.values.specs.Cells.{Cell, no_cell, cell_at, Closed, Formed, well_formed, formed}
use Rattle.values.specs.Owned.{no_own, cell_of, cells_of, Below}
use Rattle.values.specs.Held.{none_cell, floor, live_cells, Lies}
use Rattle.values.specs.declared.own.Own.{Own}
use Rattle.values.specs.declared.live.LiveHeap.{LiveHeap}
use Rattle.values.specs.Rows.{Within, within, parts_length, part_at}

pub length_floor : (base : ℕ) (below : List Cell) → length (floor base below) ≡ base
length_floor base below = go (base == length below) refl
  where
    go : (b : Bool) → (base == length below) ≡ b → length (cond b below (replicate base none_cell)) ≡ base
    go true e = sym (eqb-true base (length below) e)
    go false e = length-replicate base none_cell

pub floor_whole : (base : ℕ) (below : List Cell) → length below ≡ base → floor base below ≡ below
floor_whole base below e = rw (eq-eqb base (length below) (sym e)) refl

floor_none : (base : ℕ) (below : List Cell) (v : ℕ) → (length below ≢ base) → v < base → cell_at (floor base below) v ≡ none_cell
floor_none base below v ne h = rw (ne_eqb base (length below) (λ e. ne (sym e))) (get_or-replicate base v none_cell no_cell h)

-- what holds of each cell below and of a None cell holds of each of the floor
floor_each : (P : Cell → Type 0) (base : ℕ) (below : List Cell) → P none_cell → (length below ≡ base → (v : ℕ) → v < length below → P (cell_at below v)) → (v : ℕ) → v < base → P (cell_at (floor base below) v)
floor_each P base below none all v h = by (base == length below) refl
  where
    by : (b : Bool) → (base == length below) ≡ b → P (cell_at (cond b below (replicate base none_cell)) v)
    by true e = let q = eqb-true base (length below) e in all (sym q) v (omega (arith, q))
    by false e = subst P (sym (get_or-replicate base v none_cell no_cell h)) none

none_formed : well_formed none_cell ≡ true
unfolding formed
none_formed = refl

-- every part of the cell is below n
Parted : ℕ → Cell → Type 0
Parted n c = Below n c.parts

module _ {H : Type 0} (cells : H → List Cell) (l : LiveHeap H) where
  own : List Own
  own = vec_items l.own.rows

  pool : List ℕ
  pool = vec_items l.own.pool

  lower : List Cell
  lower = cells l.below

  all : List Cell
  all = live_cells cells l

  pub length_live : length (live_cells cells l) ≡ l.base + vec_len l.own.rows
  unfolding own pool lower all
  length_live = omega (arith, length-append (floor l.base lower) (cells_of own pool), length_floor l.base lower, length-map own (cell_of pool), l.own.rows.ok.0)

  pub inside : Within (length (vec_items l.own.pool)) (vec_items l.own.rows)
  inside = within (vec_items l.own.rows) (length (vec_items l.own.pool)) l.own.laid l.own.full

  at_below : (v : ℕ) → v < l.base → cell_at (live_cells cells l) v ≡ cell_at (floor l.base (cells l.below)) v
  unfolding own pool lower all
  at_below v h = get_or_append_left (floor l.base lower) (cells_of own pool) no_cell v (omega (arith, length_floor l.base lower))

  pub at_own : (v : ℕ) → l.base ≤ v → cell_at (live_cells cells l) v ≡ cell_at (cells_of (vec_items l.own.rows) (vec_items l.own.pool)) (v - l.base)
  unfolding own pool lower all
  at_own v h = get_or-append_right (floor l.base lower) (cells_of own pool) l.base v no_cell (length_floor l.base lower) h

  pub at_row : (v : ℕ) → l.base ≤ v → v - l.base < vec_len l.own.rows → cell_at (live_cells cells l) v ≡ cell_of (vec_items l.own.pool) (slice_index_or (vec_items l.own.rows) (v - l.base) no_own)
  unfolding own pool lower all
  at_row v h k = at_own v h ∙ get_or-map (cell_of pool) own (v - l.base) no_own no_cell (omega (arith, l.own.rows.ok.0))

  pub lies_lower : (v : ℕ) → v < l.base → length (cells l.below) ≡ l.base → Lies (live_cells cells l) v (cell_at (cells l.below) v)
  lies_lower v h e = record { within = omega (arith, length_live); is = at_below v h ∙ ap (λ cs. cell_at cs v) (floor_whole l.base (cells l.below) e) }

  pub lies_none : (v : ℕ) → v < l.base → (length (cells l.below) ≢ l.base) → Lies (live_cells cells l) v none_cell
  lies_none v h ne = record { within = omega (arith, length_live); is = at_below v h ∙ floor_none l.base (cells l.below) v ne h }

  pub lies_own : (v : ℕ) → l.base ≤ v → v - l.base < vec_len l.own.rows → Lies (live_cells cells l) v (cell_of (vec_items l.own.pool) (slice_index_or (vec_items l.own.rows) (v - l.base) no_own))
  lies_own v h k = record { within = omega (arith, length_live); is = at_row v h k }

  -- what holds of each cell below, of a None cell and of each own cell holds of all
  live_each : (P : Cell → Type 0) → P none_cell → (length (cells l.below) ≡ l.base → (v : ℕ) → v < length (cells l.below) → P (cell_at (cells l.below) v)) → ((k : ℕ) → k < length (vec_items l.own.rows) → P (cell_of (vec_items l.own.pool) (slice_index_or (vec_items l.own.rows) k no_own)))
      → (v : ℕ) → v < length (live_cells cells l) → P (cell_at (live_cells cells l) v)
  live_each P none low mine v h = by (cases_lt v l.base)
    where
      by : (v < l.base) ⊎ (l.base ≤ v) → P (cell_at (live_cells cells l) v)
      by (inl lt) = subst P (sym (at_below v lt)) (floor_each P l.base (cells l.below) none low v lt)
      by (inr ge) = let k : v - l.base < vec_len l.own.rows = omega (arith, length_live) in subst P (sym (at_row v ge k)) (mine (v - l.base) (omega (arith, l.own.rows.ok.0)))

  pub live_formed : Formed (cells l.below) → Formed (live_cells cells l)
  live_formed low = live_each (λ c. well_formed c ≡ true) none_formed (λ _. low) (λ k h. let o = get_or (vec_items l.own.rows) k no_own in ap (formed o.head.ty o.head.flags o.head.mark) (parts_length (vec_items l.own.pool) o (inside k h)) ∙ l.own.shaped k h)

  pub live_closed : Closed (cells l.below) → Closed (live_cells cells l)
  unfolding Parted
  live_closed closed v i h p =
      live_each (Parted (length (live_cells cells l))) (λ k q. absurd (omega arith)) low mine v h i p
    where
      low : length (cells l.below) ≡ l.base → (w : ℕ) → w < length (cells l.below) → Below (length (live_cells cells l)) (cell_at (cells l.below) w).parts
      low e w q k r = omega (arith, closed w k q r, length_live)

      mine : (k : ℕ) → k < length (vec_items l.own.rows) → Below (length (live_cells cells l)) (cell_of (vec_items l.own.pool) (slice_index_or (vec_items l.own.rows) k no_own)).parts
      mine k q j r =
          let o = get_or (vec_items l.own.rows) k no_own in
          let n : j < o.count = omega (arith, parts_length (vec_items l.own.pool) o (inside k q)) in
          rw (part_at (vec_items l.own.pool) o j n) (omega (arith, length_live, l.stand (o.first + j) (omega (arith, inside k q))))
