use Rattle.std.proofs.Common.{List, ◌++◌, length, get_or, take, sym, ap, ◌∙◌, arith}
use Rattle.std.proofs.lemmas.List.{drop_all, take_all}
use Rattle.membership.specs.Rows.{Alt}
use Rattle.typing.specs.View.{alt, alts}
use Rattle.typing.specs.declared.basic.TyBasic.TheVariants.{Any}
use Rattle.typing.proofs.Walks.{put_less, put_equal, put_more, alts_split, read_plain}
use Rattle.typing.proofs.basic.place.Goals as goal

pub returns-in-Less : goal.returns-in-Less
returns-in-Less c =
    let pool = c.args.pool.now in
    let row = c.args.row.now in
    let i = c.loop-i.i in
    (omega arith, c.loop-i.invariant ∙ ap (λ (zs : List Alt). alts pool (take i row) ++ zs) (put_less pool row i (get_or row i Any) (alt pool c.args.x.now) c.loop-i-test.true (read_plain row i Any c.loop-i-test.true) (sym c.compare.ensures ∙ c.in-Less.is)))

pub returns-in-Equal : goal.returns-in-Equal
returns-in-Equal c =
    let pool = c.args.pool.now in
    let row = c.args.row.now in
    let i = c.loop-i.i in
    c.loop-i.invariant ∙ ap (λ (zs : List Alt). alts pool (take i row) ++ zs) (put_equal pool row i (get_or row i Any) (alt pool c.args.x.now) c.loop-i-test.true (read_plain row i Any c.loop-i-test.true) (sym c.compare.ensures ∙ c.in-Equal.is)) ∙ alts_split pool i row

pub loop-i-preserved : goal.loop-i-preserved
loop-i-preserved c =
    let pool = c.args.pool.now in
    let row = c.args.row.now in
    let i = c.loop-i.i in
    c.loop-i.invariant ∙ put_more pool row i (get_or row i Any) (alt pool c.args.x.now) c.loop-i-test.true (read_plain row i Any c.loop-i-test.true) (sym c.compare.ensures ∙ c.in-Greater.is)

pub returns : goal.returns
returns c =
    let d = drop_all c.loop-i.i c.args.row.now c.loop-i-test.false in
    let t = take_all c.loop-i.i c.args.row.now c.loop-i-test.false in
    let d' = drop_all (length c.args.row.now) c.args.row.now (omega arith) in
    let t' = take_all (length c.args.row.now) c.args.row.now (omega arith) in
    (omega arith, rw (d', t') (rw (d, t) at c.loop-i.invariant))
