use Rattle.std.proofs.Common.{ℕ, ◌+◌, min, List, get_or, ap, ◌∙◌, arith}
use Rattle.membership.specs.Rows.{parts, deepest, total}
use Rattle.typing.specs.View.{alt, alts}
use Rattle.typing.specs.declared.basic.TyBasic.TheVariants.{Any}
use Rattle.typing.proofs.Walks.{read_plain}
use Rattle.typing.specs.Held.{table_of, pool_in}
use Rattle.typing.proofs.Sizes.{one_deep, depth_step, weight_step, depth_end, weight_end, one_less_one, one_less_other}
use Rattle.typing.proofs.types.Rows.size.Goals as goal

pub loop-x-init : goal.loop-x-init
loop-x-init c =
    let h = one_deep (table_of c.args.self.now) (alts (pool_in c.args.self.now) c.args.new.now) in
    (omega arith, omega arith, omega arith, omega arith, omega arith)

pub loop-x-preserved : goal.loop-x-preserved
loop-x-preserved c =
    let t = table_of c.args.self.now in
    let pool = pool_in c.args.self.now in
    let xs = c.args.new.now in
    let i = c.loop-x.x-index in
    let y = get_or xs i Any in
    let e = read_plain xs i Any c.loop-x-test.true in
    let whole = c.parts.ensures.all ∙ ap (λ (z : List ℕ). parts (alt z y)) c.as_slice.ensures.value in
    let d = depth_step pool t xs i y c.loop-x-test.true e c.loop-x.depth c.max-depth.result c.size_of_parts-size.result.depth _
    (c.size_of_parts-size.ensures.depth ∙ ap (λ (ps : List ℕ). min 33 (1 + deepest t ps)) whole) c.max-depth.ensures c.loop-x.invariant.0 c.loop-x.invariant.1 c.loop-x.invariant.2 in
    let w = weight_step pool t xs i y c.loop-x-test.true e c.loop-x.weight c.held_sum-weight.result c.size_of_parts-size.result.weight _
    (c.size_of_parts-size.ensures.weight ∙ ap (λ (ps : List ℕ). min 4097 (1 + total t ps)) whole) c.held_sum-weight.ensures c.loop-x.invariant.3 c.loop-x.invariant.4 in
    (d.0, d.1, d.2, w.0, w.1)

pub returns-then-new-eq1 : goal.returns-then-new-eq1
returns-then-new-eq1 c =
    let pool = pool_in c.args.self.now in
    let t = table_of c.args.self.now in
    let w = weight_end pool t c.args.new.now c.loop-x.x-index c.loop-x.weight _ c.loop-x-test.false c.loop-x.invariant.3 c.loop-x.invariant.4 in
    record {
      depth = depth_end pool t c.args.new.now c.loop-x.x-index c.loop-x.depth _ c.loop-x-test.false c.loop-x.invariant.0 c.loop-x.invariant.1 c.loop-x.invariant.2;
      weight = omega (arith, w, one_less_one pool c.args.new.now c.if-new-eq1.true);
    }

pub returns : goal.returns
returns c =
    let pool = pool_in c.args.self.now in
    let t = table_of c.args.self.now in
    let w = weight_end pool t c.args.new.now c.loop-x.x-index c.loop-x.weight _ c.loop-x-test.false c.loop-x.invariant.3 c.loop-x.invariant.4 in
    record {
      depth = depth_end pool t c.args.new.now c.loop-x.x-index c.loop-x.depth _ c.loop-x-test.false c.loop-x.invariant.0 c.loop-x.invariant.1 c.loop-x.invariant.2;
      weight = omega (arith, w, c.held_sum.ensures, one_less_other pool c.args.new.now c.if-new-eq1.false);
    }
