use Rattle.std.proofs.Common.{◌≡◌, ◌+◌, ◌-◌, ◌<◌, ◌≤◌, List, length, get_or, vec_items, vec_len, sym, ap, ◌∙◌, subst, arith}
use Rattle.std.proofs.lemmas.List.{get_or_default}
use Rattle.std.proofs.lemmas.Bool.{ltb-true}
use Rattle.values.specs.Owned.{no_own, cell_of}
use Rattle.values.specs.Held.{live_cells, Lies}
use Rattle.values.specs.declared.own.Own.{Own}
use Rattle.values.specs.Floors.{inside, lies_own}
use Rattle.values.proofs.live.LiveHeap.own_cell.Goals as goal

pub returns-in-Some : goal.returns-in-Some
returns-in-Some g c =
    let l = c.args.self.now in
    let rows = vec_items l.own.rows in
    let k = c.args.v.0 - l.base in
    let row = c.in-Some.own.now in
    let h : k < vec_len l.own.rows = omega (arith, ltb-true k (length c.deref.result.now) (sym c.in-Some.ensures.lookup.0), c.deref.ensures.len) in
    let h' : k < length rows = omega (arith, l.own.rows.ok.0) in
    let e : row ≡ get_or rows k no_own = c.in-Some.ensures.lookup.1 ∙ ap (λ (xs : List Own). get_or xs k row) c.deref.ensures.value ∙ get_or_default rows k row no_own h' in (
      subst (λ (o : Own). o.first + o.count ≤ length (vec_items l.own.pool)) (sym e) (inside g.H.Heap.cells l k h'),
      subst (λ (o : Own). Lies (live_cells g.H.Heap.cells l) c.args.v.0 (cell_of (vec_items l.own.pool) o)) (sym e) (lies_own g.H.Heap.cells l c.args.v.0 c.if-v-self.false h),
    )
