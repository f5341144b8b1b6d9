use Rattle.std.proofs.Common.{rules, Bool, ltb, ◌≡◌, false, ◌||◌, List, length, sym, ap, ◌∙◌}
use borrow.Author.Tests.{tests}
use Rattle.std.proofs.lemmas.Iterator.{YieldsList-from_slice}
use Rattle.std.proofs.lemmas.Iterator.Search.{any_from_yields_List}
use Rattle.std.proofs.lemmas.Bool.{le-ltb}
use Rattle.std.proofs.lemmas.List.{length-map}
use Rattle.membership.specs.Rows.{Alt, any_of, too_long}
use Rattle.typing.specs.View.{alt, alts, span}
use Rattle.typing.specs.Held.{pool_in}
use Rattle.typing.proofs.Bounds.{any_long}
use Rattle.typing.proofs.types.Rows.is_wide.Goals as goal

pub returns-else-alternatives-gt-MAX_WIDTH : goal.returns-else-alternatives-gt-MAX_WIDTH
returns-else-alternatives-gt-MAX_WIDTH c =
    let pool = pool_in c.args.self.now in
    let a = c.alternatives-alternatives in
    let xs = a.result.now in
    let few : ltb 64 (length (alts pool xs)) ≡ false = ap (ltb 64) (length-map xs (alt pool)) ∙ le-ltb 64 (length xs) c.if-alternatives-gt-MAX_WIDTH.false in
    any_from_yields_List (λ x. ltb 64 (span x)) _ _ _ c.any.ensures.ran (YieldsList-from_slice xs cc) (λ x b q k. search (rules, tests))
    ∙ any_long pool xs a.ensures.pooled ∙ sym (ap (λ (b : Bool). b || any_of too_long (alts pool xs)) few)
    ∙ ap (λ (ys : List Alt). ltb 64 (length ys) || any_of too_long ys) a.ensures.are
