use Rattle.std.proofs.Common.{◌≡◌, ℕ, vec_items, ap, ◌∙◌}
use Rattle.working_set.specs.Sets.{state_of as set_state}
use Rattle.matcher.specs.Held.{sharing_nodes, sharing_limit}
use Rattle.job.specs.Held.{job_bytes}
use Rattle.job_format.specs.Contents.{job_cells}
use Rattle.report.specs.Held.{state_of, set_over}
use Rattle.report.specs.Reports.{job_custom}
use Rattle.report.proofs.RightAnswers.{answered_by_calls, answered, entered_of, asked_of}
use Rattle.report.proofs.Entered.{bad_of, ok_of, customs_mean, customs_are}
use Rattle.report.proofs.reporting.report_verified.Goals as goal

pub returns-in-Err : goal.returns-in-Err
returns-in-Err c =
    let pair = c.new-customs.result in
    let t = c.in_ok-tables.tables in
    let began = c.in_ok-tables.ensures in
    record { reports = bad_of (job_bytes c.args.job) (customs_mean pair) (sharing_limit t.store) (state_of sharing_nodes t) c.in-Err.bad (customs_are (job_bytes c.args.job) pair c.new-customs.ensures.first c.new-customs.ensures.second c.in_ok-marks.ensures c.in_ok-ranges.ensures) began.1 began.0 c.requires c.in-Err.ensures.entered; by_calls = tt }

pub returns : goal.returns
returns c =
    let s = job_bytes c.args.job in
    let pair = c.new-customs.result in
    let e : customs_mean pair ≡ job_custom s = customs_are s pair c.new-customs.ensures.first c.new-customs.ensures.second c.in_ok-marks.ensures c.in_ok-ranges.ensures in
    let t = c.in_ok-tables.tables in
    let began = c.in_ok-tables.ensures in
    let texts = state_of sharing_nodes c.enter_all.new.self in
    let all = entered_of s (customs_mean pair) (sharing_limit t.store) (state_of sharing_nodes t) texts e began.1 began.0 (ok_of _ _ c.enter_all.result c.in_default.not-Err c.enter_all.ensures.entered).1 in
    let set = c.in_ok-set.set in
    let is = c.in_ok-set.ensures in
    let f = is.0 ∙ ap (λ (n : ℕ). set_over (job_cells s) n texts) (c.enter_all.ensures.limit ∙ began.1) in
    let asked = asked_of s (customs_mean set.customs) (set_state (λ j. job_cells (job_bytes j)) sharing_nodes sharing_limit set) texts c.deref.result.now (vec_items c.in_ok-ask.field-0) (ap customs_mean is.1 ∙ e) f (c.deref.ensures.value ∙ c.in_ok-queries.ensures) c.in_ok-ask.ensures in
    let by = answered_by_calls s c.requires texts all (vec_items c.in_ok-ask.field-0) asked in
    record { reports = answered s (vec_items c.in_ok-ask.field-0) by; by_calls = by }
