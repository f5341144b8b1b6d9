use Rattle.std.proofs.Common.{rules, ◌≡◌, false, eqb, length, sym, ◌∙◌, arith}
use borrow.Author.Tests.{tests}
use Rattle.std.proofs.lemmas.Bool.Decides.{nat_tests}
use Rattle.std.proofs.lemmas.Iterator.{YieldsList-from_slice, YieldsList-from_zip}
use Rattle.std.proofs.lemmas.Iterator.Search.{all_from_yields_List}
use Rattle.std.specs.Ordering.{is_eq}
use Rattle.membership.specs.Rows.{compared}
use Rattle.typing.specs.View.{alt}
use Rattle.typing.proofs.Walks.{same_length, same_zip}
use Rattle.typing.proofs.basic.same.Goals as goal

pub returns-then-a-b : goal.returns-then-a-b
returns-then-a-b c =
    let pool = c.args.pool.now in
    let a = c.args.a.now in
    let b = c.args.b.now in
    all_from_yields_List (λ p. is_eq (compared (alt pool p.0) (alt pool p.1))) c.all.new.self _ _ c.all.ensures.ran (YieldsList-from_zip (YieldsList-from_slice a cc) (YieldsList-from_slice b cc)) (λ x b q k. search (rules, tests)) ∙ same_zip pool a b c.if-a-b.true

pub returns-else-a-b : goal.returns-else-a-b
returns-else-a-b c =
    let e : eqb (length c.args.a.now) (length c.args.b.now) ≡ false = grind (arith, nat_tests, c.if-a-b.false) in
    e ∙ sym (same_length c.args.pool.now c.args.a.now c.args.b.now c.if-a-b.false)
