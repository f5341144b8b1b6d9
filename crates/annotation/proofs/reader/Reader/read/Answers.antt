use Rattle.std.proofs.Common.{refl, arith, rules}
use Rattle.std.proofs.lemmas.Result.{err_from_is_err_and}
use Rattle.typing.specs.Held.{rows_of}
use Rattle.annotation.proofs.Reading.{read_whole, read_refused}
use Rattle.annotation.proofs.reader.Reader.read.Goals as goal

pub returns-in_err-read_text : goal.returns-in_err-read_text
returns-in_err-read_text c =
    let q = err_from_is_err_and c.from_residual.result c.from_residual.ensures.1 in
    rw (q.1, q.2) (c.in_err-read_text.ensures, refl)

pub returns : goal.returns
returns c = read_whole c.args.text.now (rows_of c.args.types.now) (rows_of c.text_type.new.self.types.now) c.in_ok-read_text.ensures _ (first_of (search rules, cc, grind arith)) c.in_ok-built.built c.in_ok-built.ensures.built

pub returns-in_err-built : goal.returns-in_err-built
returns-in_err-built c =
    let q = err_from_is_err_and c.from_residual-in_err-built.result c.from_residual-in_err-built.ensures.1 in
    rw (q.1, q.2) (read_refused c.args.text.now (rows_of c.args.types.now) (rows_of c.text_type.new.self.types.now) c.in_ok-read_text.ensures _ (first_of (search rules, cc, grind arith)) c.in_err-built.field-0.0 c.in_err-built.ensures.built)
