use Rattle.std.proofs.Common.{◌≡◌, length, vec_items, sym, ap, ◌∙◌, subst, arith}
use Rattle.values.specs.Owned.{cells_of, total, Laid, Below, Shaped}
use Rattle.values.specs.declared.own.Own.{Own}
use Rattle.values.specs.Values.{numbers}
use Rattle.values.proofs.Numbers.{numbers_length}
use Rattle.values.specs.Rows.{within, new_cells, new_full, new_laid, new_shaped, new_below}
use Rattle.values.proofs.own_cells.OwnCells.add.Goals as goal

pub invariant_of-self : goal.invariant_of-self
invariant_of-self c =
    let s = c.args.self.now in
    let parts = numbers c.args.parts.now in
    let size : length c.args.parts.now ≡ length parts = sym (numbers_length c.args.parts.now) in
    let rows = vec_items s.rows in
    let pool = vec_items s.pool in
    let o : Own = record { head = c.args.head; first = c.len-first.result; count = length c.args.parts.now } in
    let at : o.first ≡ total rows = c.len-first.ensures ∙ s.pool.ok.0 ∙ s.full in
    let now = c.push_reserved.ensures.items in
    let all = c.append.ensures.items in
    let n = c.push_reserved.ensures.len in record {
      few = omega (arith, n, c.requires.few);
      parts = omega (arith, c.append.ensures.len, c.requires.room);
      row_room = omega (arith, c.push_reserved.ensures.capacity, s.row_room);
      part_room = omega (arith, c.append.ensures.cap, s.part_room);
      laid = subst Laid (sym now) (new_laid rows o s.laid at);
      full = ap length all ∙ new_full rows pool parts o s.full size ∙ ap total (sym now);
      shaped = subst Shaped (sym now) (new_shaped rows o s.shaped c.requires.shaped);
    }

pub returns : goal.returns
returns c =
    let s = c.args.self.now in
    let parts = numbers c.args.parts.now in
    let size : length c.args.parts.now ≡ length parts = sym (numbers_length c.args.parts.now) in
    let rows = vec_items s.rows in
    let pool = vec_items s.pool in
    let o : Own = record { head = c.args.head; first = c.len-first.result; count = length c.args.parts.now } in
    record {
      cells = (λ i. cells_of (c.push_reserved.ensures.items i) (c.append.ensures.items i)) ∙ new_cells rows pool parts o (within rows (length pool) s.laid s.full) (c.len-first.ensures ∙ s.pool.ok.0) size;
      rows = c.push_reserved.ensures.len;
      pool = λ n old new. subst (Below n) (sym c.append.ensures.items) (new_below n n pool parts (omega arith) old new);
    }
