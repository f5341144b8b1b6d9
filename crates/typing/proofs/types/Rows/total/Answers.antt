use Rattle.std.proofs.Common.{rules, ◌≡◌, ℕ, ◌+◌, min, fold, arith}
use Rattle.std.proofs.iter.runs.Made.{chains}
use Rattle.membership.specs.Rows.{row}
use Rattle.typing.specs.Held.{table_of}
use Rattle.typing.proofs.Bounds.{fold_total}
use Rattle.typing.proofs.types.Rows.total.Goals as goal

pub returns : goal.returns
returns c =
    let t = table_of c.args.self.now in
    let e : c.fold.result ≡ fold (λ (m p : ℕ). min 4097 (m + (row t p).heavy)) 0 c.args.parts.now = search (rules, chains) in
    omega (arith, e, fold_total t 0 c.args.parts.now (omega arith))
