use Rattle.std.proofs.Common.{rules, ltb, length, ◌∙◌}
use borrow.Author.Tests.{tests}
use Rattle.std.proofs.lemmas.Iterator.{YieldsList-from_slice}
use Rattle.std.proofs.lemmas.Iterator.Search.{all_from_yields_List}
use Rattle.typing.specs.Held.{table_of}
use Rattle.typing.proofs.Bounds.{below_is}
use Rattle.typing.proofs.types.Rows.all_stand.Goals as goal

pub returns : goal.returns
returns c =
    let n = length (table_of c.args.self.now) in
    all_from_yields_List (λ p. ltb p n) _ _ _ c.all.ensures.ran (YieldsList-from_slice c.args.parts.now cc) (λ x b q k. search (rules, tests)) ∙ below_is n c.args.parts.now
