use Rattle.std.proofs.Common.{◌≡◌, ◌+◌, get_or, ap, ◌∙◌, rules, arith}
use Rattle.std.specs.Option.{unwrap_or}
use Rattle.std.proofs.lemmas.List.Folds.{max_of_map}
use Rattle.matcher.specs.Nodes.{depths, highest}
use Rattle.matcher.specs.Tables.{nodes_of}
use Rattle.matcher.proofs.Grows.{valid_low}
use Rattle.matcher.proofs.Flats.{highest_by_max, highest_low}
use Rattle.matcher.proofs.rows.Table.depth_over.Goals as goal
use Rattle.std.proofs.lemmas.Iterator.{YieldsList-from_slice, YieldsList-from_map}
use Rattle.std.proofs.lemmas.Iterator.Consumers.{reduce_from_yields_List}

module _ (c : goal.After-unwrap_or) where
  pub deepest_is : c.unwrap_or.result ≡ highest (depths (nodes_of c.args.self.now.rows.items c.args.self.now.pool.items)) c.args.kids.now
  deepest_is =
      let ds = depths (nodes_of c.args.self.now.rows.items c.args.self.now.pool.items) in
      let h = λ (k : _). get_or ds k 0 in
      c.unwrap_or.ensures
      ∙ ap (λ o. unwrap_or o 0) (reduce_from_yields_List _ _ _ c.max.ensures.ran (YieldsList-from_map _ h (YieldsList-from_slice c.args.kids.now cc) c.map.ensures.closure (λ x r q k. search rules)))
      ∙ max_of_map h c.args.kids.now
      ∙ highest_by_max ds c.args.kids.now

pub overflow_add-result : goal.overflow_add-result
overflow_add-result c =
    let t = c.args.self.now in
    let ns = nodes_of t.rows.items t.pool.items in
    omega (arith, deepest_is c, highest_low (depths ns) c.args.kids.now (valid_low t.limit ns t.granted))

pub returns : goal.returns
returns c = ap (λ x. x + 1) (deepest_is c)
