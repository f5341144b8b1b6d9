use Rattle.std.proofs.Common.{rules, ℕ, ◌+◌, min, length, arith}
use borrow.Author.Tests.{tests}
use Rattle.std.proofs.lemmas.Iterator.{YieldsList-from_range}
use Rattle.std.proofs.lemmas.Iterator.Consumers.{fold_from_yields_List}
use Rattle.membership.specs.Rows.{Row, row, places}
use Rattle.typing.specs.Held.{table_of}
use Rattle.typing.proofs.Bounds.{fold_rows, fold_places}
use Rattle.typing.proofs.types.Rows.table_places.Goals as goal

pub returns : goal.returns
returns c =
    let t = table_of c.args.self.now in
    let e = fold_from_yields_List _ (λ (s i : ℕ). min 8193 (s + min 8193 (places (row t i).alts))) 0 c.fold.result c.fold.ensures.ran (YieldsList-from_range 0 (length t) (length t) (cc) (omega arith)) (λ a x b q k. search (rules, tests)) in
    omega (arith, e, fold_rows t (λ (s : ℕ) (r : Row). min 8193 (s + min 8193 (places r.alts))) 0 0 (length t) (omega arith), fold_places 0 t (omega arith))
