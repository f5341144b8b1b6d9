use Rattle.std.proofs.Common.{sym, ◌∙◌, lt-ltb, le-ltb}
use Rattle.typing.specs.Held.{table_of}
use Rattle.typing.proofs.Tupling.{long_deep, long_wide, long_depth}
use Rattle.typing.proofs.types.Rows.long_tuple.Goals as goal

pub returns-then-size_of_parts-gt-MAX_DEPTH : goal.returns-then-size_of_parts-gt-MAX_DEPTH
returns-then-size_of_parts-gt-MAX_DEPTH c sound =
    let t = table_of c.args.self.now in
    let es = c.args.elements.now in
    let d = c.size_of_parts.result.depth in
    long_deep t es sound c.requires (sym c.all_stand.ensures ∙ c.if-not-all_stand.false) (sym (long_depth t es sound c.requires d c.size_of_parts.ensures.depth) ∙ lt-ltb 32 d c.if-size_of_parts-gt-MAX_DEPTH.true)

pub returns : goal.returns
returns c sound =
    let t = table_of c.args.self.now in
    let es = c.args.elements.now in
    let d = c.size_of_parts.result.depth in
    long_wide t es sound c.requires (sym c.all_stand.ensures ∙ c.if-not-all_stand.false) (sym (long_depth t es sound c.requires d c.size_of_parts.ensures.depth) ∙ le-ltb 32 d c.if-size_of_parts-gt-MAX_DEPTH.false)
