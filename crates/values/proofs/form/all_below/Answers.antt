use Rattle.std.proofs.Common.{ltb, sym, ◌∙◌, rules, tests}
use Rattle.std.proofs.lemmas.Iterator.{YieldsList-from_slice}
use Rattle.std.proofs.lemmas.Iterator.Search.{all_from_yields_List}
use Rattle.values.specs.declared.value.Value.{Value}
use Rattle.values.proofs.Numbers.{each_numbers}
use Rattle.values.proofs.form.all_below.Goals as goal

pub returns : goal.returns
returns c =
    let all = all_from_yields_List (λ (v : Value). ltb v.0 c.args.n) _ _ _ c.all.ensures.ran (YieldsList-from_slice c.args.parts.now cc) (λ x b q k. search (rules, tests)) in
    all ∙ sym (each_numbers c.args.n c.args.parts.now)
