use Rattle.std.proofs.Common.{List, [], ◌∷◌, ◌++◌, get_or, take, sym, ap, ◌∙◌, append_assoc, arith}
use Rattle.std.proofs.lemmas.List.{take_all}
use Rattle.values.specs.Values.{value, numbers}
use Rattle.values.specs.declared.value.Value.{Value}
use Rattle.values.proofs.Numbers.{numbers_more}
use Rattle.values.proofs.own_calls.append.Goals as goal

pub loop-p-preserved : goal.loop-p-preserved
loop-p-preserved c =
    let parts = c.args.parts.now in
    let i = c.loop-p.p-index in
    let old = c.args.pool.now.items in (
      c.push_reserved.ensures.items ∙ ap (λ xs. xs ++ ((get_or parts i (value 0)).0 ∷ [])) c.loop-p.invariant.0 ∙ append_assoc old (numbers (take i parts)) ((get_or parts i (value 0)).0 ∷ []) ∙ ap (λ xs. old ++ xs) (sym (numbers_more parts i c.loop-p-test.true)),
      omega (arith, c.push_reserved.ensures.len, c.loop-p.invariant.1),
      omega (arith, c.push_reserved.ensures.capacity, c.loop-p.invariant.2),
    )

pub returns : goal.returns
returns c =
    let parts = c.args.parts.now in
    record {
      items = c.loop-p.invariant.0 ∙ ap (λ (xs : List Value). c.args.pool.now.items ++ numbers xs) (take_all c.loop-p.p-index parts c.loop-p-test.false);
      len = omega (arith, c.loop-p.invariant.1, c.loop-p-test.false, c.loop-p.auto.p-index-end);
      cap = c.loop-p.invariant.2;
    }
