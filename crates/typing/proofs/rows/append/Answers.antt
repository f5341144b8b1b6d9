use Rattle.std.proofs.Common.{List, [], ◌∷◌, ◌++◌, get_or, take, vec_items, sym, ap, ◌∙◌, append_assoc, arith}
use Rattle.std.proofs.lemmas.List.{take_more, take_all}
use Rattle.typing.specs.declared.basic.TyBasic.{TyBasic}
use Rattle.typing.specs.declared.basic.TyBasic.TheVariants.{Any}
use Rattle.typing.proofs.rows.append.Goals as goal

pub loop-x-preserved : goal.loop-x-preserved
loop-x-preserved c =
    let xs = c.args.new.now in
    let i = c.loop-x.x-index in
    let old = vec_items c.args.all.now in (
      c.push_reserved.ensures.items ∙ ap (λ (z : List TyBasic). z ++ get_or xs i Any ∷ []) c.loop-x.invariant.0 ∙ append_assoc old (take i xs) (get_or xs i Any ∷ []) ∙ ap (λ (z : List TyBasic). old ++ z) (sym (take_more xs i Any c.loop-x-test.true)),
      omega (arith, c.push_reserved.ensures.len, c.loop-x.invariant.1),
      c.push_reserved.ensures.capacity ∙ c.loop-x.invariant.2,
    )

pub returns : goal.returns
returns c =
    let xs = c.args.new.now in
    record {
      items = c.loop-x.invariant.0 ∙ ap (λ (z : List TyBasic). vec_items c.args.all.now ++ z) (take_all c.loop-x.x-index xs c.loop-x-test.false);
      reserved = c.loop-x.invariant.2;
    }
