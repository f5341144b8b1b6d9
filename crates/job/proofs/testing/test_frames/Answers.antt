use Rattle.std.proofs.Common.{[], length, take, sym, subst, inr, arith}
use Rattle.std.proofs.lemmas.Bool.{eqb-true, eqb-false}
use Rattle.job_format.specs.Frames.{records}
use Rattle.job.specs.Seens.{Sees}
use Rattle.job.specs.declared.tally.Seen.{Seen}
use Rattle.job.proofs.Seeing.{blank}
use Rattle.job.proofs.Passes.{begins, pass, stop, room, cut_short, framed_all, all_cells}
use Rattle.job.proofs.testing.test_frames.Goals as goal

pub loop-record-init : goal.loop-record-init
loop-record-init c =
    let w = c.records-walk.result in
    let e = c.records-walk.ensures in
    let d = c.default-seen.ensures in
    let none = subst (λ n. Sees c.default-seen.result (take n (records c.args.bytes.now))) (sym e.0) (subst (λ (s : Seen). Sees s []) (sym (λ i. record { last = d.0 i; run = d.1.0 i; cells = d.1.1 i })) blank) in
    (begins c.args.bytes.now w e, (λ i h. absurd (omega (arith, e.0))), none)

pub returns-then-not-can_follow : goal.returns-then-not-can_follow
returns-then-not-can_follow c =
    let h = c.loop-record.invariant in
    inr (stop c.args.bytes.now c.loop-record.walk c.in-Some.record c.next.new.self h.0 c.in-Some.ensures.steps c.loop-record.seen h.1 h.2 c.requires (sym c.if-not-can_follow.ensures))

pub with_record-seen-requires-clause-cells : goal.with_record-seen-requires-clause-cells
with_record-seen-requires-clause-cells c =
    let h = c.loop-record.invariant in
    (room c.args.bytes.now c.loop-record.walk c.in-Some.record c.next.new.self h.0 c.in-Some.ensures.steps c.loop-record.seen h.1 h.2 c.requires (sym c.if-not-can_follow.ensures)).1

pub loop-record-preserved : goal.loop-record-preserved
loop-record-preserved c =
    let h = c.loop-record.invariant in
    let p = pass c.args.bytes.now c.loop-record.walk c.in-Some.record c.next.new.self h.0 c.in-Some.ensures.steps c.loop-record.seen h.1 h.2 (sym c.if-not-can_follow.ensures) in
    (p.0, p.1, subst (λ (s : Seen). Sees s (take c.next.new.self.number (records c.args.bytes.now))) (sym c.with_record-seen.ensures) p.2)

pub returns-then-not-is_empty : goal.returns-then-not-is_empty
returns-then-not-is_empty c =
    let h = c.loop-record.invariant in
    inr (cut_short c.args.bytes.now c.loop-record.walk c.next.new.self h.0 c.in_default.ensures.steps c.requires h.1 (omega (arith, eqb-false (length c.next.new.self.rest.now) 0 (sym c.if-not-is_empty.ensures))))

pub returns : goal.returns
returns c =
    let h = c.loop-record.invariant in
    (framed_all c.args.bytes.now c.loop-record.walk c.next.new.self h.0 c.in_default.ensures.steps c.requires h.1 (omega (arith, eqb-true (length c.next.new.self.rest.now) 0 (sym c.if-not-is_empty.ensures))), all_cells c.args.bytes.now c.loop-record.walk c.next.new.self h.0 c.in_default.ensures.steps c.loop-record.seen h.2)
