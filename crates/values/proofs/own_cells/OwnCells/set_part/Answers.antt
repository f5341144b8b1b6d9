use Rattle.std.proofs.Common.{◌≡◌, ◌+◌, ◌<◌, length, get_or, set, vec_items, ap, ◌∙◌, arith}
use Rattle.std.proofs.lemmas.List.{get_or_default}
use Rattle.values.specs.Owned.{no_own, cells_of}
use Rattle.values.specs.declared.own.Own.{Own}
use Rattle.values.specs.Rows.{put_cells, place_within}
use Rattle.values.proofs.own_cells.OwnCells.set_part.Goals as goal

pub returns-clause-cells : goal.returns-clause-cells
returns-clause-cells c =
    let s = c.args.self.now in
    let rows = vec_items s.rows in
    let pool = vec_items s.pool in
    let k : c.args.k < length rows = omega (arith, s.rows.ok.0, c.requires.own) in
    let e : c.index.result.now ≡ get_or rows c.args.k no_own = c.index.ensures ∙ get_or_default rows c.args.k _ no_own k in
    let w = place_within rows pool c.args.k c.args.i c.index.result.now s.laid s.full k e c.requires.place in
    ap (λ (o : Own). cells_of rows (set pool (o.first + c.args.i) c.args.x)) e ∙ put_cells rows pool c.args.k c.args.i c.args.x s.laid k w.0
