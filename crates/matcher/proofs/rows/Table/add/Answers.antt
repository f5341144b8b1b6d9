use Rattle.std.proofs.Common.{◌≡◌, ◌+◌, true, cond, [], ◌∷◌, ◌++◌, length, is_ok, vec_items, vec_len, sym, refl, ap, ◌∙◌, subst, arith}
use Rattle.matcher.specs.Nodes.{is_granted, valid, used}
use Rattle.matcher.specs.Held.{meant, nodes_in}
use Rattle.matcher.specs.Tables.{spans, Deep}
use Rattle.matcher.specs.declared.rows.Row.{Row}
use Rattle.matcher.proofs.Grows.{valid_push, used_push}
use Rattle.matcher.proofs.Flats.{long, nodes_grow, spans_push, deep_push}
use Rattle.matcher.proofs.rows.Table.add.Goals as goal

pub invariant_of-self : goal.invariant_of-self
invariant_of-self c =
    let t = c.args.self.now in
    let ns = nodes_in t in
    let d = meant c.args.node in
    let kids = c.args.node.kids.now in
    let row : Row = record { kind = d.kind; number = d.number; depth = c.depth_over.result; first = c.len-first.result; count = length kids } in
    let rows = c.push_reserved.ensures.items in
    let ok = ap is_ok c.unwrap.ensures in
    let pool = c.extend_from_slice.ensures.items ∙ ap (λ b. cond b (t.pool.items ++ kids) t.pool.items) ok in
    let more = c.extend_from_slice.ensures.len ∙ ap (λ b. cond b (vec_len t.pool + length kids) (vec_len t.pool)) ok in
    let nodes = nodes_grow t.rows.items t.pool.items kids row _ rows pool t.pool.ok.0 t.within c.len-first.ensures refl in record {
      granted = subst (λ x. valid t.limit x ≡ true) (sym nodes) (valid_push t.limit ns d t.granted (ap is_granted c.requires.fine) c.requires.room);
      small = t.small;
      within = subst (λ x. spans (vec_len c.extend_from_slice.new.self) x ≡ true) (sym rows) (spans_push _ _ t.rows.items row t.within (omega (arith, more)) (omega (arith, more)));
      taken = ap used nodes ∙ omega (arith, used_push ns d, more);
      deep = subst (Deep (vec_items c.push_reserved.new.self)) (sym nodes) (subst (λ x. Deep x (ns ++ d ∷ [])) (sym rows) (deep_push t.rows.items ns row d (long t.rows.items t.pool.items) t.deep c.depth_over.ensures));
      rows_reserved = omega arith;
      pool_reserved = omega arith;
    }

pub returns-clause-number : goal.returns-clause-number
returns-clause-number c = omega (arith, long c.args.self.now.rows.items c.args.self.now.pool.items, c.args.self.now.rows.ok.0)

pub returns-clause-nodes : goal.returns-clause-nodes
returns-clause-nodes c =
    let t = c.args.self.now in
    let kids = c.args.node.kids.now in
    let row : Row = record { kind = c.args.node.kind; number = c.args.node.number; depth = c.depth_over.result; first = c.len-first.result; count = length kids } in
    let pool = c.extend_from_slice.ensures.items ∙ ap (λ b. cond b (t.pool.items ++ kids) t.pool.items) (ap is_ok c.unwrap.ensures) in
    nodes_grow t.rows.items t.pool.items kids row _ c.push_reserved.ensures.items pool t.pool.ok.0 t.within c.len-first.ensures refl
