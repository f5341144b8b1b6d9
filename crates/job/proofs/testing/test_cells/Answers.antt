use Rattle.std.proofs.Common.{sym, ap, ◌∙◌, rules}
use Rattle.std.proofs.lemmas.Result.{err_from_is_err_and}
use Rattle.job_format.specs.Bodies.{fault_of}
use Rattle.job.specs.declared.fault.JobFault.TheVariants.{Cell}
use Rattle.job.proofs.Results.{no_error, error_of}
use Rattle.job.proofs.Passes.{cell_long, bad_cell, good_cell, no_cell, sound_all}
use Rattle.job.proofs.testing.test_cells.Goals as goal

pub new-requires : goal.new-requires
new-requires c = cell_long c.args.bytes.now c.loop-record.record-iterator c.in-Some.record c.next.new.self c.loop-record.invariant.0 c.in-Some.ensures.steps c.requires.framed (c.if-record-cell.true ∙ c.from-cell.ensures)

pub loop-record-preserved-in-Continue-1 : goal.loop-record-preserved-in-Continue-1
loop-record-preserved-in-Continue-1 c =
    let h = c.loop-record.invariant in
    let none = no_error _ c.test.result c.in_ok-map_err.ensures.cases in
    good_cell c.args.bytes.now c.loop-record.record-iterator c.in-Some.record c.next.new.self h.0 c.in-Some.ensures.steps h.1 c.args.cells c.requires.cells (sym none ∙ c.test.ensures ∙ ap (fault_of c.args.cells) c.new.ensures)

pub returns-in_err-map_err : goal.returns-in_err-map_err
returns-in_err-map_err c =
    let h = c.loop-record.invariant in
    let f = c.in_err-map_err.field-0.0 in
    let e = error_of _ _ (λ why. Cell c.in-Some.record.number why) f c.test.result c.in_err-map_err.ensures.cases (λ x k. cc) (λ why k. search rules) in
    let q = err_from_is_err_and c.from_residual.result c.from_residual.ensures.1 in
    rw (q.1, q.2, e.2) (bad_cell c.args.bytes.now c.loop-record.record-iterator c.in-Some.record c.next.new.self h.0 c.in-Some.ensures.steps c.requires.framed h.1 (c.if-record-cell.true ∙ c.from-cell.ensures) c.args.cells c.requires.cells e.0 (e.1 ∙ c.test.ensures ∙ ap (fault_of c.args.cells) c.new.ensures))

pub loop-record-preserved : goal.loop-record-preserved
loop-record-preserved c =
    let h = c.loop-record.invariant in
    no_cell c.args.bytes.now c.loop-record.record-iterator c.in-Some.record c.next.new.self h.0 c.in-Some.ensures.steps h.1 (λ e. c.if-record-cell.false (e ∙ sym c.from-cell.ensures))

pub returns : goal.returns
returns c = let h = c.loop-record.invariant in sound_all c.args.bytes.now c.loop-record.record-iterator c.next.new.self h.0 c.in-None.ensures.steps c.requires.framed h.1
