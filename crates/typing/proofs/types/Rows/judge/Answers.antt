use Rattle.std.proofs.Common.{◌≡◌, true, List, length, sym, subst}
use Rattle.membership.specs.Rows.{each}
use Rattle.typing.specs.View.{pooled}
use Rattle.typing.specs.Held.{pool_in}
use Rattle.typing.specs.declared.basic.TyBasic.{TyBasic}
use Rattle.typing.proofs.Walks.{each_take}
use Rattle.typing.proofs.Stores.{placed_cut}
use Rattle.typing.proofs.types.Rows.judge.Goals as goal

pub invariant_of-self : goal.invariant_of-self
invariant_of-self c =
    let s = c.args.self.now in
    let f = pooled (length (pool_in s)) in
    record {
      elements = subst (λ (z : List TyBasic). each f z ≡ true) (sym c.truncate-then-is_err.ensures.items) (each_take f c.args.filled s.all.items s.elements);
      alternatives = placed_cut s.all.items c.truncate-then-is_err.new.self.items s.rows.items c.truncate.new.self.items c.args.stood c.args.filled c.truncate.ensures.items c.truncate-then-is_err.ensures.items s.alternatives c.requires;
    }
