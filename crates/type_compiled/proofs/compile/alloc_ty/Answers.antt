use Rattle.std.proofs.Common.{◌-◌, ◌*◌, ◌<◌, ◌≤◌, length, sym, refl, ◌∙◌, arith}
use Rattle.std.proofs.lemmas.Bool.{leb-true, leb-false}
use Rattle.std.proofs.lemmas.Result.{err_from_is_err_and}
use Rattle.matcher.specs.Nodes.{used}
use Rattle.membership.specs.Rows.{row}
use Rattle.typing.specs.Held.{rows_of}
use Rattle.typing.proofs.Reading.{sound_of}
use Rattle.compiling.specs.Limits.{most_annotations}
use Rattle.compiling.proofs.Rights.{May, no_type, no_place, no_room}
use Rattle.type_compiled.specs.Compiled.{annotations_of}
use Rattle.type_compiled.proofs.Finish.{finish}
use Rattle.type_compiled.proofs.Sures.{says_ok, says_err}
use Rattle.type_compiled.proofs.compile.alloc_ty.Goals as goal
use Rattle.type_compiled.proofs.compile.alloc_ty.Goals.{then-is_full-via-then-is_full, then-is_full-via-else-is_full+then-free-weight}

pub returns-in_err-weight-clause-made : goal.returns-in_err-weight-clause-made
returns-in_err-weight-clause-made g c =
    let rows = rows_of c.args.types.now in
    let store = c.args.store.now in
    let no = says_err rows c.args.factory.ty (λ w. w.heavy) _ c.in_err-weight.ensures.held in
    let out = err_from_is_err_and c.from_residual.result c.from_residual.ensures.1 in
    rw (out.1, out.2, no.1) (no_type g.S.TypeMatcherAlloc.sharing (g.S.TypeMatcherAlloc.limit store) rows (g.C.TyCustom.custom c.args.customs.now).wild c.args.factory.ty (g.S.TypeMatcherAlloc.nodes store) (annotations_of c.args.annotations.now) no.0, refl, refl)

pub returns-then-is_full-clause-made : goal.returns-then-is_full-clause-made
returns-then-is_full-clause-made g c =
    let rows = rows_of c.args.types.now in
    let store = c.args.store.now in
    let ns = g.S.TypeMatcherAlloc.nodes store in
    let limit = g.S.TypeMatcherAlloc.limit store in
    let sh = g.S.TypeMatcherAlloc.sharing in
    let wild = (g.C.TyCustom.custom c.args.customs.now).wild in
    let t = c.args.factory.ty in
    let known = annotations_of c.args.annotations.now in
    let ok = says_ok rows t (λ w. w.heavy) c.in_ok-weight.weight c.in_ok-weight.ensures.held in
    elim c.then-is_full.branch [
      | then-is_full-via-then-is_full w ↦ (no_place sh limit rows wild t ns known ok.0 (leb-true most_annotations (length known) (sym c.is_full.ensures ∙ w.if-is_full.true)), refl, refl)
      | then-is_full-via-else-is_full+then-free-weight w ↦ (no_room sh limit rows wild t ns known ok.0 (omega (arith, ok.1, w.free.ensures, w.if-free-weight.true)), refl, refl)
    ]

pub returns : goal.returns
returns g c =
    let rows = rows_of c.args.types.now in
    let store = c.args.store.now in
    let ns = g.S.TypeMatcherAlloc.nodes store in
    let limit = g.S.TypeMatcherAlloc.limit store in
    let sh = g.S.TypeMatcherAlloc.sharing in
    let custom = g.C.TyCustom.custom c.args.customs.now in
    let t = c.args.factory.ty in
    let known = annotations_of c.args.annotations.now in
    let ok = says_ok rows t (λ w. w.heavy) c.in_ok-weight.weight c.in_ok-weight.ensures.held in
    let few : length known < most_annotations = leb-false most_annotations (length known) (sym c.is_full.ensures ∙ c.if-is_full.false) in
    let r : 2 * (row rows t).heavy ≤ limit - used ns = omega (arith, ok.1, c.free.ensures, c.if-free-weight.false) in
    let may : May sh limit rows custom.wild t ns known = record { stands = ok.0; few = few; room = r } in
    let f = finish custom sh limit rows t ns (g.S.TypeMatcherAlloc.nodes c.write_ty-root.new.store) known (annotations_of c.enter.new.self) c.write_ty-root.result c.enter.result.0 (g.met.C.TyCustom.open c.args.customs.now) (sound_of c.args.types.now) (g.met.S.TypeMatcherAlloc.granted store) may c.write_ty-root.ensures.nodes c.write_ty-root.ensures.root c.enter.ensures.list c.enter.ensures.number in
    record { made = f.made; means = (f.for_type, f.means); stand = f.stand; limit = c.write_ty-root.ensures.limit }
