use Rattle.std.proofs.Common.{sym, ap, ◌∙◌, arith}
use Rattle.std.proofs.lemmas.Result.{err_from_is_err_and}
use Rattle.matcher.specs.Nodes.{node}
use Rattle.matcher.specs.Tables.{node_of}
use Rattle.matcher.proofs.Flats.{long, node_at, span_at, found, not_found}
use Rattle.matcher.proofs.rows.Table.node.Goals as goal

pub returns-in_err-row : goal.returns-in_err-row
returns-in_err-row c =
    let t = c.args.self.now in
    let p = err_from_is_err_and c.from_residual.result c.from_residual.ensures.1 in
    let f = not_found t.rows.items c.args.n c.in_err-row.field-0.0 c.in_err-row.ensures in
    rw (p.1, p.2) (omega (arith, f.0, long t.rows.items t.pool.items), f.1)

pub kids-requires : goal.kids-requires
kids-requires c =
    let t = c.args.self.now in
    let f = found t.rows.items c.args.n c.in_ok-row.row c.in_ok-row.ensures in
    rw f.1 (span_at _ t.rows.items c.args.n t.within f.0)

pub returns : goal.returns
returns c =
    let t = c.args.self.now in
    let f = found t.rows.items c.args.n c.in_ok-row.row c.in_ok-row.ensures in
    (omega (arith, f.0, long t.rows.items t.pool.items), sym (node_at t.rows.items t.pool.items c.args.n f.0 ∙ ap (node_of t.pool.items) (sym f.1) ∙ sym (ap (node c.in_ok-row.row.kind c.in_ok-row.row.number) c.kids.ensures)))
