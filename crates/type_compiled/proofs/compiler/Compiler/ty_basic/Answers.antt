use Rattle.typing.specs.Held.{rows_of, pool_of}
use Rattle.type_compiled.proofs.Sures.{tuple_opens}
use Rattle.type_compiled.proofs.compiler.Compiler.ty_basic.Goals as goal

pub returns-in-Tuple-Elems : goal.returns-in-Tuple-Elems
returns-in-Tuple-Elems g c =
    let types = c.args.self.now.types.now in
    let read = rw c.in-Tuple-Elems.ensures at c.basic.ensures in
    tuple_opens (rows_of types) (pool_of types) c.args.t c.args.i c.in-Tuple-Elems.field-0 c.in-Tuple-Elems.from c.in-Tuple-Elems.to c.in-Tuple-Elems.field-0-is read.1 read.2 c.tuple_elems.result c.tuple_elems.ensures (g.C.TyCustom.custom c.args.self.now.customs.now).wild
