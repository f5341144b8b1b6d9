use Rattle.std.proofs.Common.{◌≡◌, ◌++◌, true, List, ℕ, length, is_ok, sym, subst, ◌∙◌}
use Rattle.std.proofs.lemmas.Bool.{cond-true}
use Rattle.membership.specs.Rows.{each}
use Rattle.typing.specs.View.{pooled}
use Rattle.typing.specs.Held.{pool_in}
use Rattle.typing.proofs.Tupling.{pooled_longer}
use Rattle.typing.proofs.types.Rows.add_elements.Goals as goal

pub invariant_of-self : goal.invariant_of-self
invariant_of-self c =
    let s = c.args.self.now in
    let es = c.args.elements.now in
    let r = c.extend_from_slice.result in
    let items : c.extend_from_slice.new.self.items ≡ pool_in s ++ es = c.extend_from_slice.ensures.items ∙ cond-true (is_ok r) (pool_in s ++ es) (pool_in s) (c.extend_from_slice.ensures.succeeds c.requires) in
    record {
      elements = subst (λ (z : List ℕ). each (pooled (length z)) s.all.items ≡ true) (sym items) (pooled_longer (pool_in s) es s.all.items s.elements);
      alternatives = s.alternatives;
    }
