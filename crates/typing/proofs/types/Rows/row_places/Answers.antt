use Rattle.std.proofs.Common.{rules, ◌≡◌, ℕ, ◌+◌, min, fold, ap, arith}
use Rattle.std.proofs.iter.runs.Made.{chains}
use Rattle.membership.specs.Rows.{places}
use Rattle.typing.specs.View.{span}
use Rattle.typing.specs.Held.{pool_in}
use Rattle.typing.specs.declared.basic.TyBasic.{TyBasic}
use Rattle.typing.proofs.Bounds.{fold_spans}
use Rattle.typing.proofs.types.Rows.row_places.Goals as goal

pub returns : goal.returns
returns c =
    let xs = c.alternatives.result.now in
    let e : c.fold.result ≡ fold (λ (s : ℕ) (x : TyBasic). min 8193 (min 8193 (s + 1) + span x)) 0 xs = search (rules, chains) in
    omega (arith, e, fold_spans (pool_in c.args.self.now) 0 xs (omega arith) c.alternatives.ensures.pooled, ap places c.alternatives.ensures.are)
