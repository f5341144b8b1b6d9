use Rattle.std.proofs.Common.{ltb, length, sym, arith}
use Rattle.std.proofs.lemmas.Bool.{ltb-true}
use Rattle.values.specs.Values.{numbers}
use Rattle.values.specs.Floors.{length_live}
use Rattle.values.proofs.Eaches.{each_at}
use Rattle.values.proofs.Says.{room_has}
use Rattle.values.proofs.live.LiveHeap.new.Goals as goal

pub add-requires-clause-room : goal.add-requires-clause-room
add-requires-clause-room g c = (room_has g.H.Heap.cells c.args.self.now (length c.args.parts.now) c.if-not-has_room.ensures).2

pub invariant_of-self : goal.invariant_of-self
invariant_of-self g c =
    let l = c.args.self.now in
    let parts = numbers c.args.parts.now in
    let n = length_live g.H.Heap.cells l in
    let room = room_has g.H.Heap.cells l (length c.args.parts.now) c.if-not-has_room.ensures in
    let rows = c.add.ensures.rows in
    record {
      few = omega (arith, room.0, rows);
      fixed = l.fixed;
      within = omega (arith, l.within, rows);
      stand = c.add.ensures.pool _ (λ i h. omega (arith, l.stand i h, rows))
          (λ i h. omega (arith, ltb-true _ _ (each_at (λ p. ltb p c.count-n.result) parts i 0 (sym c.if-not-all_below.ensures) h), c.count-n.ensures, n, rows));
    }
