use Rattle.std.proofs.Common.{length, get_or, vec_items, ◌∙◌, arith}
use Rattle.std.proofs.lemmas.List.{drop_all}
use Rattle.typing.specs.View.{alt, alts, inner_of, pooled}
use Rattle.typing.specs.declared.basic.TyBasic.TheVariants.{Any}
use Rattle.typing.proofs.Walks.{put_settled_step, read_plain, pooled_at}
use Rattle.typing.proofs.basic.put_settled.Goals as goal

pub put_once-requires : goal.put_once-requires
put_once-requires c =
    let xs = c.args.side.now in
    let i = c.loop-x.x-index in
    let n = length c.args.pool.now in
    record {
      room = omega (arith, c.loop-x.invariant.1, c.loop-x.invariant.2, c.requires.room, c.loop-x-test.true);
      row = c.loop-x.invariant.3;
      new = c.settled.ensures.pooled n (pooled_at (pooled n) xs i (get_or xs i Any) c.requires.side c.loop-x-test.true (read_plain xs i Any c.loop-x-test.true));
    }

pub loop-x-preserved : goal.loop-x-preserved
loop-x-preserved c =
    let pool = c.args.pool.now in
    let xs = c.args.side.now in
    let i = c.loop-x.x-index in (
      put_settled_step pool (inner_of c.args.joined) (alts pool (vec_items c.loop-x.row)) (alts pool (vec_items c.put_once.new.row)) xs i (get_or xs i Any) (alt pool c.settled.result) c.loop-x-test.true (read_plain xs i Any c.loop-x-test.true) (c.settled.ensures.is pool) c.put_once.ensures.put ∙ c.loop-x.invariant.0,
      omega (arith, c.put_once.ensures.room, c.loop-x.invariant.1),
      c.put_once.ensures.reserved ∙ c.loop-x.invariant.2,
      c.put_once.ensures.row,
    )

pub returns : goal.returns
returns c =
    let d = drop_all c.loop-x.x-index c.args.side.now c.loop-x-test.false in
    record {
      put = rw d at c.loop-x.invariant.0;
      room = omega (arith, c.loop-x.invariant.1, c.loop-x.auto.x-index-end);
      reserved = c.loop-x.invariant.2;
      row = c.loop-x.invariant.3;
    }
