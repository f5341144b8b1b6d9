use Rattle.std.proofs.Common.{refl, ap, ◌∙◌}
use Rattle.std.proofs.lemmas.Result.{err_from_is_err_and}
use Rattle.compiling.specs.Outcomes.{granted, entered}
use Rattle.typing.specs.Held.{rows_of}
use Rattle.typing.proofs.Reading.{sound_of}
use Rattle.type_compiled.specs.Compiled.{annotations_of}
use Rattle.report.specs.Held.{state_of}
use Rattle.report.proofs.Entered.{entered_right}
use Rattle.report.proofs.tables.Tables.enter.Goals as goal

pub returns-in_err-ty : goal.returns-in_err-ty
returns-in_err-ty g c =
    let p = err_from_is_err_and c.from_residual.result c.from_residual.ensures.1 in
    let e = c.in_err-ty.ensures.read in
    rw (p.1, p.2) (record { entered = (e.0, (rows_of c.read_type.new.types, e.1)); right = tt; limit = refl })

pub returns-in_err-compile_type : goal.returns-in_err-compile_type
returns-in_err-compile_type g c =
    let p = err_from_is_err_and c.from_residual-in_err-compile_type.result c.from_residual-in_err-compile_type.ensures.1 in
    let r = c.in_ok-ty.ensures.read in
    let e = c.in_err-compile_type.ensures.made in
    rw (p.1, p.2) (record { entered = (e.0, (rows_of c.read_type.new.types, c.in_ok-ty.ty, r, e.1)); right = tt; limit = c.in_err-compile_type.ensures.limit })

pub returns : goal.returns
returns g c =
    let l = c.args.self.now in
    let k = g.C.TyCustom.custom c.args.customs.now in
    let m = c.in_ok-compile_type.ensures.made in
    let a = c.in_ok-compile_type.field-0 in
    let to = entered (g.S.TypeMatcherAlloc.nodes c.compile_type.new.store) (annotations_of c.compile_type.new.annotations) a.0 in
    let r = entered_right k g.S.TypeMatcherAlloc.sharing (g.S.TypeMatcherAlloc.limit l.store) (state_of g.S.TypeMatcherAlloc.nodes l) (rows_of c.read_type.new.types) c.in_ok-ty.ty
    (g.met.C.TyCustom.open c.args.customs.now) (sound_of l.types) (sound_of c.read_type.new.types) c.in_ok-ty.ensures.stay (g.met.S.TypeMatcherAlloc.granted l.store) c.requires to m in
    record {
      entered = record { ty = c.in_ok-ty.ty; read = c.in_ok-ty.ensures.read; compiled = m ∙ ap (λ n. granted (entered to.nodes to.list n)) r.1 };
      right = r.0;
      limit = c.in_ok-compile_type.ensures.limit;
    }
