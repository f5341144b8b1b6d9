use Rattle.std.proofs.Common.{rules, length, sym, ◌∙◌, arith}
use borrow.Author.Tests.{tests}
use Rattle.std.proofs.lemmas.Iterator.{YieldsList-from_range}
use Rattle.std.proofs.lemmas.Iterator.Search.{find_from_yields_List}
use Rattle.std.proofs.lemmas.Iterator.Adapters.{option_map_id}
use Rattle.membership.specs.Rows.{same_alts, row}
use Rattle.typing.specs.View.{alts}
use Rattle.typing.specs.Held.{table_of, pool_in}
use Rattle.typing.proofs.Bounds.{find_row}
use Rattle.typing.proofs.types.Rows.find.Goals as goal

pub returns : goal.returns
returns c =
    let t = table_of c.args.self.now in
    let xs = alts (pool_in c.args.self.now) c.args.new.now in
    sym (option_map_id c.find.result) ∙ find_from_yields_List (λ i. same_alts (row t i).alts xs) _ _ c.find.result c.find.ensures.ran (YieldsList-from_range 0 (length t) (length t) (cc) (omega arith)) (λ x b q k. search (rules, tests)) ∙ find_row t xs 0 (length t) (omega arith)
