use Rattle.std.proofs.Common.{rules, tests, ltb, ◌∙◌}
use Rattle.std.proofs.lemmas.Iterator.{YieldsList-from_slice}
use Rattle.std.proofs.lemmas.Iterator.Search.{all_from_yields_List}
use Rattle.matcher.proofs.Flats.{all_by_test}
use Rattle.matcher.proofs.node.Node.is_over.Goals as goal

pub returns : goal.returns
returns c = all_from_yields_List (λ k. ltb k c.args.count) _ _ _ c.all.ensures.ran (YieldsList-from_slice c.args.self.now.kids.now cc) (λ x b q k. search (rules, tests)) ∙ all_by_test c.args.count c.args.self.now.kids.now
