use Rattle.std.proofs.Common.{rules, length, ◌∙◌, arith}
use borrow.Author.Tests.{tests}
use Rattle.std.proofs.lemmas.Iterator.{YieldsList-from_range}
use Rattle.std.proofs.lemmas.Iterator.Search.{any_from_yields_List}
use Rattle.membership.specs.Rows.{row, too_wide}
use Rattle.typing.specs.Held.{table_of}
use Rattle.typing.proofs.Bounds.{any_row}
use Rattle.typing.proofs.types.Rows.any_wide.Goals as goal

pub returns : goal.returns
returns c =
    let t = table_of c.args.self.now in
    any_from_yields_List (λ i. too_wide (row t i)) _ _ _ c.any.ensures.ran (YieldsList-from_range 0 (length t) (length t) (cc) (omega arith)) (λ x b q k. search (rules, tests)) ∙ any_row t too_wide 0 (length t) (omega arith)
