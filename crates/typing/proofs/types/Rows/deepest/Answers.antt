use Rattle.std.proofs.Common.{rules, ◌≡◌, ℕ, max, fold, arith}
use Rattle.std.proofs.iter.runs.Made.{chains}
use Rattle.membership.specs.Rows.{row}
use Rattle.typing.specs.Held.{table_of}
use Rattle.typing.proofs.Bounds.{fold_deepest}
use Rattle.typing.proofs.types.Rows.deepest.Goals as goal

pub returns : goal.returns
returns c =
    let t = table_of c.args.self.now in
    let e : c.fold.result ≡ fold (λ (m p : ℕ). max m (row t p).deep) 0 c.args.parts.now = search (rules, chains) in
    omega (arith, e, fold_deepest t 0 c.args.parts.now)
