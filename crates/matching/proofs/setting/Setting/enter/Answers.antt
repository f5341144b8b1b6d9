use Rattle.std.proofs.Common.{◌≡◌, ◌<◌, length, arith, rules}
use Rattle.std.proofs.lemmas.Bool.Decides.{nat_tests}
use Rattle.matcher.specs.Nodes.{node_at_lem}
use Rattle.matching.proofs.Places.{depth_of, stands_in}
use Rattle.matching.proofs.Tops.{above_length}
use Rattle.matching.proofs.Turns.{shape_is, enter_given, enter_fresh}
use Rattle.matching.proofs.setting.Setting.enter.Goals as goal

pub unwrap-requires : goal.unwrap-requires
unwrap-requires g c =
    let in_store : c.args.n < length (g.S.TypeMatcherAlloc.nodes c.args.self.now.store.now) = stands_in _ _ _ c.requires.node in
    grind (arith, nat_tests)

pub push-requires : goal.push-requires
push-requires g c =
    let d = depth_of _ _ _ c.requires.node in
    let low : length c.args.stack.now.items < 64 = above_length _ _ d.0 d.1 in
    search rules

pub returns-in-Given : goal.returns-in-Given
returns-in-Given g c =
    let in_store : c.args.n < length (g.S.TypeMatcherAlloc.nodes c.args.self.now.store.now) = stands_in _ _ _ c.requires.node in
    let kind : c.unwrap.result ≡ (node_at_lem (g.S.TypeMatcherAlloc.nodes c.args.self.now.store.now) c.args.n).kind = grind (arith, nat_tests) in
    let is = shape_is _ _ _ _ _ kind _ c.in-Given.ensures in
    enter_given _ _ _ (g.met.S.TypeMatcherAlloc.granted c.args.self.now.store.now) _ (record { node = c.args.n; kind = c.unwrap.result; value = c.args.v }) c.requires c.in-Given.b is

pub returns-in-Asks : goal.returns-in-Asks
returns-in-Asks g c =
    let in_store : c.args.n < length (g.S.TypeMatcherAlloc.nodes c.args.self.now.store.now) = stands_in _ _ _ c.requires.node in
    let kind : c.unwrap.result ≡ (node_at_lem (g.S.TypeMatcherAlloc.nodes c.args.self.now.store.now) c.args.n).kind = grind (arith, nat_tests) in
    let is = shape_is _ _ _ _ _ kind _ c.in-Asks.ensures in
    rw (c.push.ensures.items, c.of_none.ensures) (enter_fresh _ _ _ (g.met.S.TypeMatcherAlloc.granted c.args.self.now.store.now) _ (record { node = c.args.n; kind = c.unwrap.result; value = c.args.v }) c.requires kind c.in-Asks.quantifier c.in-Asks.count is)
