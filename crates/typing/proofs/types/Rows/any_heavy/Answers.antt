use Rattle.std.proofs.Common.{rules, ltb, ◌∙◌}
use borrow.Author.Tests.{tests}
use Rattle.std.proofs.lemmas.Iterator.{YieldsList-from_slice}
use Rattle.std.proofs.lemmas.Iterator.Search.{any_from_yields_List}
use Rattle.membership.specs.Rows.{too_heavy}
use Rattle.typing.specs.View.{row_of}
use Rattle.typing.specs.Held.{pool_in}
use Rattle.typing.proofs.Bounds.{any_plain}
use Rattle.typing.proofs.types.Rows.any_heavy.Goals as goal

pub returns : goal.returns
returns c =
    let s = c.args.self.now in
    any_from_yields_List (λ r. ltb 4096 r.weight) _ _ _ c.any.ensures.ran (YieldsList-from_slice s.rows.items cc) (λ x b q k. search (rules, tests))
    ∙ any_plain too_heavy (row_of (pool_in s) s.all.items) s.rows.items
