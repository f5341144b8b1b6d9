use Rattle.std.proofs.Common.{◌≡◌, ◌+◌, true, List, ◌∷◌, length, take, drop, is_ok, vec_items, vec_len, sym, ap, ◌∙◌, subst, arith}
use mathlib.Core.List.{map-append}
use Rattle.std.proofs.lemmas.Bool.{cond-true}
use Rattle.std.specs.List.{insert}
use Rattle.membership.specs.Rows.{each}
use Rattle.typing.specs.View.{alt, alts, pooled}
use Rattle.typing.specs.declared.basic.TyBasic.{TyBasic}
use Rattle.typing.proofs.Walks.{each_inserted}
use Rattle.typing.proofs.basic.put_once.Goals as goal

pub returns-in-Err : goal.returns-in-Err
returns-in-Err c =
    let pool = c.args.pool.now in
    let ys = vec_items c.args.row.now in
    let i = c.in-Err.i in
    let x = c.args.x in
    let r = c.insert.result in
    let ok : is_ok r ≡ true = c.insert.ensures.succeeds c.requires.room in
    let items : vec_items c.insert.new.self ≡ insert ys i x = c.insert.ensures.items ∙ cond-true (is_ok r) (insert ys i x) ys ok in
    let len = c.insert.ensures.len ∙ cond-true (is_ok r) (vec_len c.args.row.now + 1) (vec_len c.args.row.now) ok in
    let p = rw c.as_slice.ensures.value at c.in-Err.ensures in
    record {
      put = ap (alts pool) items ∙ map-append (alt pool) (take i ys) (x ∷ drop i ys) ∙ sym p.1;
      room = omega (arith, len);
      reserved = (c.insert.ensures.in_place c.requires.room).1.0;
      row = subst (λ (zs : List TyBasic). each (pooled (length pool)) zs ≡ true) (sym items) (each_inserted (pooled (length pool)) ys i x c.requires.row c.requires.new);
    }
