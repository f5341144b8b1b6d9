use Rattle.std.proofs.Common.{◌≡◌, length, vec_items, sym, ap, ◌∙◌, arith}
use Rattle.values.specs.Owned.{total}
use Rattle.values.proofs.own_cells.OwnCells.new.Goals as goal

pub invariant_of-result : goal.invariant_of-result
unfolding total
invariant_of-result c =
    let r = c.in_ok-rows.ensures in
    let p = c.in_ok-pool.ensures in
    let none : length (vec_items c.in_ok-rows.rows) ≡ 0 = ap length r.items in
    record {
      few = omega (arith, r.len);
      parts = omega (arith, p.len);
      row_room = omega (arith, r.capacity);
      part_room = omega (arith, p.capacity);
      laid = (λ k h. absurd (omega arith));
      full = ap length p.items ∙ sym (ap total r.items);
      shaped = (λ k h. absurd (omega arith));
    }
