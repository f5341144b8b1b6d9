use Rattle.std.proofs.Common.{◌≡◌, ◌<◌, ◌&&◌, ltb, length, get_or, sym, subst, rules, tests, arith}
use Rattle.std.specs.Option.{MatchOption}
use Rattle.std.proofs.lemmas.Iterator.{YieldsList-from_range}
use Rattle.std.proofs.lemmas.Iterator.Search.{position_from_yields_List}
use Rattle.matcher.specs.Nodes.{no_node, same_node, find, place}
use Rattle.matcher.specs.Held.{nodes_in, meant}
use Rattle.matcher.proofs.Flats.{first_equal}
use Rattle.matcher.proofs.rows.Table.standing.Goals as goal

pub returns-then-shares : goal.returns-then-shares
unfolding place
returns-then-shares c =
    let ns = nodes_in c.args.self.now in
    let d = meant c.args.node in
    let n = c.count.result in
    let e = position_from_yields_List (λ k. ltb k (length ns) && same_node (get_or ns k no_node) d) _ _ c.position.result c.position.ensures.ran (YieldsList-from_range 0 n n (cc) (omega arith)) (λ x b q k. search (rules, tests)) in
    rw c.if-shares.true (subst (λ o. MatchOption o (find ns d ≡ length ns) (λ k. (k < length ns) × (k ≡ find ns d))) (sym e) (first_equal ns d n c.count.ensures))
