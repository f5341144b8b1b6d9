use Rattle.std.proofs.Common.{◌≡◌, ◌-◌, ◌≤◌, true, set, sym, ap, ◌∙◌, arith}
use Rattle.values.specs.Cells.{Cell, cell_at}
use Rattle.values.specs.Lives.{changed, settable}
use Rattle.values.specs.Held.{live_cells, live_of, own_cells}
use Rattle.values.specs.Floors.{length_live, at_own}
use Rattle.values.proofs.Says.{live_put, said, said_part, put_ok}
use Rattle.values.proofs.live.LiveHeap.put.Goals as goal

pub invariant_of-self : goal.invariant_of-self
invariant_of-self g c =
    let l = c.args.self.now in
    let rows = c.set_part.ensures.rows in
    record {
      few = omega (arith, l.few, rows);
      fixed = l.fixed;
      within = omega (arith, l.within, rows);
      stand = c.set_part.ensures.pool _ (omega (arith, length_live g.H.Heap.cells l, c.count.ensures, c.if-x-count.false, rows)) (λ i h. omega (arith, l.stand i h, rows));
    }

pub returns-clause-after : goal.returns-clause-after
returns-clause-after g c =
    let l = c.args.self.now in
    let cells = g.H.Heap.cells in
    let v = c.args.v.0 in
    let s = said (live_cells cells l) v (λ z. z.ty) c.in_ok-ty.ty c.in_ok-ty.ensures in
    let p = said_part (live_cells cells l) v c.args.i c.in_ok-part.field-0 c.in_ok-part.ensures in
    let above : l.base ≤ v = omega (arith, l.fixed, c.if-v-self.false) in
    let may : settable (cell_at (live_cells cells l) v).ty c.args.i ≡ true = ap (λ t. settable t c.args.i) (sym s.1) ∙ sym c.if-not-is_settable.ensures in
    let r = put_ok (live_of cells l) v c.args.i c.args.x.0 s.0 p (omega (arith, c.count.ensures, c.if-x-count.false)) c.if-v-self.false may in
    let own = c.set_part.ensures.cells ∙ ap (λ (z : Cell). set (own_cells l.own) (v - l.base) (changed z c.args.i c.args.x.0)) (sym (at_own cells l v above)) in
    live_put cells l c.set_part.new.self v c.args.i c.args.x.0 above own ∙ r.1
