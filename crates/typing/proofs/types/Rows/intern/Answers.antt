use Rattle.std.proofs.Common.{length, refl, sym, ap, ◌∙◌, arith, length-append}
use Rattle.typing.specs.View.{alts}
use Rattle.typing.specs.Held.{table_of, pool_in}
use Rattle.typing.specs.declared.rows.Row.{Row}
use Rattle.typing.proofs.Stores.{grew_here, grew_new, intern_old, intern_new, new_elements, new_alternatives}
use Rattle.typing.proofs.types.Rows.intern.Goals as goal

pub returns-in-Some : goal.returns-in-Some
returns-in-Some c =
    let s = c.args.self.now in
    record {
      grew = grew_here s;
      grows = intern_old (table_of s) (alts (pool_in s) c.args.new.now) c.in-Some.n (sym c.find.ensures ∙ c.in-Some.is);
      rows_room = (omega arith, refl);
      all_room = (omega arith, refl);
    }

pub invariant_of-self : goal.invariant_of-self
invariant_of-self c =
    let s = c.args.self.now in
    let new = c.args.new.now in
    let all' = c.append.new.all.items in
    let rows' = c.push_reserved.new.self.items in
    let r : Row = record { start = c.len-start.result; end = c.len-end.result; depth = c.size-size.result.depth; weight = c.size-size.result.weight } in
    let start_is = c.len-start.ensures ∙ s.all.ok.0 in
    let end_is = c.len-end.ensures ∙ c.append.new.all.ok.0 ∙ ap length c.append.ensures.items ∙ length-append s.all.items new in
    record {
      elements = new_elements s new all' rows' r c.requires.new c.append.ensures.items c.push_reserved.ensures.items start_is end_is;
      alternatives = new_alternatives s new all' rows' r c.requires.new c.append.ensures.items c.push_reserved.ensures.items start_is end_is;
    }

pub returns : goal.returns
returns c =
    let s = c.args.self.now in
    let new = c.args.new.now in
    let all' = c.append.new.all.items in
    let rows' = c.push_reserved.new.self.items in
    let r : Row = record { start = c.len-start.result; end = c.len-end.result; depth = c.size-size.result.depth; weight = c.size-size.result.weight } in
    let start_is = c.len-start.ensures ∙ s.all.ok.0 in
    let end_is = c.len-end.ensures ∙ c.append.new.all.ok.0 ∙ ap length c.append.ensures.items ∙ length-append s.all.items new in
    record {
      grew = grew_new s new all' rows' r c.requires.new c.append.ensures.items c.push_reserved.ensures.items start_is end_is _ refl refl refl;
      grows = intern_new s new all' rows' r c.requires.new c.append.ensures.items c.push_reserved.ensures.items start_is end_is c.len-n.result (sym c.find.ensures ∙ c.in_default.is) (c.len-n.ensures ∙ s.rows.ok.0) c.size-size.ensures.depth c.size-size.ensures.weight;
      rows_room = (omega (arith, c.push_reserved.ensures.len), c.push_reserved.ensures.capacity);
      all_room = (omega (arith, end_is, c.len-end.ensures, s.all.ok.0), c.append.ensures.reserved);
    }
