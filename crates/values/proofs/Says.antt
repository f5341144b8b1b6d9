-- What `new` and `put` answer and leave, by their tests. Assumes nothing.
use Rattle.std.proofs.Common.{◌≡◌, ℕ, ◌+◌, ◌-◌, ◌<◌, ◌≤◌, Bool, true, false, cond, ◌&&◌, ltb, leb, List, ◌++◌, length, get_or, drop, set, is_ok, Ok, Err, vec_items, vec_len, Result, sym, refl, ap, ◌∙◌, arith}
use Rattle.std.proofs.lemmas.Bool.{and_parts, lt-ltb, le-ltb, ltb-true, leb-true}
use Rattle.std.proofs.lemmas.Bool.Decides.{nat_tests}
use Rattle.std.proofs.lemmas.List.{set-append_right, drop_at}
use Rattle.values.specs.Cells.{Cell, cell_at, cell_says, cell_part, most}
use Rattle.values.specs.Values.{value}
use Rattle.values.specs.declared.value.Value.{Value}
use Rattle.values.specs.Owned.{cells_of}
use Rattle.values.specs.Lives.{Live, parts_in, has_room_lem, put_says, put_leaves, put, settable, changed}
use Rattle.values.specs.Held.{floor, own_cells, live_cells, live_of}
use Rattle.values.specs.declared.own_cells.OwnCells.{OwnCells}
use Rattle.values.specs.declared.live.LiveHeap.{LiveHeap}
use Rattle.values.specs.declared.refusal.Refusal.{Refusal}
use Rattle.values.specs.declared.refusal.Refusal.TheVariants.{NoValue, Frozen, NoItem}
use Rattle.values.specs.Rows.{parts_all}
use Rattle.values.specs.Floors.{length_live, length_floor, inside}

module _ {H : Type 0} (cells : H → List Cell) (l : LiveHeap H) where
  -- the counts that the limits read
  pub own_count : length (live_cells cells l) - l.base ≡ vec_len l.own.rows
  own_count = omega (arith, length_live cells l)

  pub own_parts : parts_in (drop l.base (live_cells cells l)) ≡ vec_len l.own.pool
  own_parts =
      ap parts_in (drop_at (floor l.base (cells l.below)) (cells_of (vec_items l.own.rows) (vec_items l.own.pool)) l.base (length_floor l.base (cells l.below)))
      ∙ parts_all (vec_items l.own.rows) (vec_items l.own.pool) (inside cells l)
      ∙ sym l.own.full ∙ sym l.own.pool.ok.0

  -- room, by the rows and the pool
  pub room_is : (n : ℕ) → l.base + vec_len l.own.rows < 65536 → has_room_lem (live_of cells l) n ≡ (ltb (vec_len l.own.rows) 256 && leb (vec_len l.own.pool + n) 2048)
  room_is n h = λ i. lt-ltb (length (live_cells cells l)) most (omega (arith, length_live cells l)) i && ltb (own_count i) 256 && leb (own_parts i + n) 2048

  pub room_has : (n : ℕ) → true ≡ has_room_lem (live_of cells l) n → (l.base + vec_len l.own.rows < 65536) × (vec_len l.own.rows < 256) × (vec_len l.own.pool + n ≤ 2048)
  room_has n h =
      let cs = live_cells cells l in
      let a = ltb (length cs) most in
      let b = ltb (length cs - l.base) 256 in
      let d = leb (parts_in (drop l.base cs) + n) 2048 in
      let t = and_parts (a && b) d (sym h) in
      let u = and_parts a b t.0 in
      (omega (arith, ltb-true (length cs) most u.0, length_live cells l), omega (arith, ltb-true (length cs - l.base) 256 u.1, own_count), omega (arith, leb-true (parts_in (drop l.base cs) + n) 2048 t.1, own_parts))

-- another part in an own cell
pub live_put : {H : Type 0} (cells : H → List Cell) (l : LiveHeap H) (own : OwnCells) (v i x : ℕ) → l.base ≤ v → own_cells own ≡ set (own_cells l.own) (v - l.base) (changed (cell_at (live_cells cells l) v) i x)
    → record { cells = floor l.base (cells l.below) ++ own_cells own; base = l.base; frozen = l.frozen } ≡ put (live_of cells l) v i x
live_put cells l own v i x h e =
    let low = floor l.base (cells l.below) in
    let all : low ++ own_cells own ≡ set (live_cells cells l) v (changed (cell_at (live_cells cells l) v) i x) = ap (λ o. low ++ o) e ∙ sym (set-append_right low (own_cells l.own) l.base v _ (length_floor l.base (cells l.below)) h) in
    λ j. record { cells = all j; base = l.base; frozen = l.frozen }

-- an answer that was given
pub said : {X : Type 0} (cs : List Cell) (v : ℕ) (f : Cell → X) (x : X) → Ok x ≡ cell_says cs v f → (v < length cs) × (x ≡ f (cell_at cs v))
said {X} cs v f x h = by (ltb v (length cs)) refl h
  where
    by : (b : Bool) → ltb v (length cs) ≡ b → ◌≡◌ {A = Result X Refusal} (Ok x) (cond b (Ok (f (cell_at cs v))) (Err NoValue)) → (v < length cs) × (x ≡ f (cell_at cs v))
    by true t h = (ltb-true v (length cs) t, cc)
    by false t h = let z : ◌≡◌ {A = ℕ} 0 1 = cc in absurd (omega arith)

pub said_part : (cs : List Cell) (v i : ℕ) (x : Value) → Ok x ≡ cell_part cs v i → i < length (cell_at cs v).parts
said_part cs v i x h = by (ltb v (length cs) && ltb i (length (cell_at cs v).parts)) refl h
  where
    by : (b : Bool) → (ltb v (length cs) && ltb i (length (cell_at cs v).parts)) ≡ b → ◌≡◌ {A = Result Value Refusal} (Ok x) (cond b (Ok (value (get_or (cell_at cs v).parts i 0))) (Err NoValue)) → i < length (cell_at cs v).parts
    by true t h = ltb-true _ _ (and_parts _ _ t).1
    by false t h = let z : ◌≡◌ {A = ℕ} 0 1 = cc in absurd (omega arith)

module _ (s : Live) (v i x : ℕ) where
  pub put_ok : v < length s.cells → i < length (cell_at s.cells v).parts → x < length s.cells → s.frozen ≤ v → settable (cell_at s.cells v).ty i ≡ true → (Ok tt ≡ put_says s v i x) × (put s v i x ≡ put_leaves s v i x)
  put_ok a b d f t =
      let stand : (ltb v (length s.cells) && ltb i (length (cell_at s.cells v).parts) && ltb x (length s.cells)) ≡ true = grind (arith, nat_tests) in
      let e : put_says s v i x ≡ Ok tt = λ j. cond (stand j) (cond (le-ltb v s.frozen f j) (Err Frozen) (cond (t j) (Ok tt) (Err NoItem))) (Err NoValue) in
      (sym e, sym (ap (λ (r : Result Unit Refusal). cond (is_ok r) (put s v i x) s) e))
