use Rattle.std.proofs.Common.{map, length, vec_items, ap, ◌∙◌, arith}
use Rattle.std.proofs.lemmas.List.{length-map}
use Rattle.std.proofs.lemmas.Result.{IfOk-weaker}
use Rattle.working_set.specs.Words.{act}
use Rattle.report.specs.Asking.{asks}
use Rattle.report.proofs.Replies.{made_replies, has_room}
use Rattle.report.proofs.asking.ask.Goals as goal

pub unwrap-requires : goal.unwrap-requires
unwrap-requires g c =
    let calls = ap length (ap (map act) c.deref.ensures.value ∙ c.in_ok-calls.ensures) in
    let made = c.in_ok-outcomes.ensures in
    has_room g.H.Heap g.S.TypeMatcherAlloc g.C.TyCustom _ _ _ _ _ c.perform.result c.perform.ensures
    (omega (arith, calls, length-map c.deref.result.now act, length-map c.args.queries.now asks, ap length made.items, made.capacity))

pub answers_of-requires : goal.answers_of-requires
answers_of-requires g c =
    let r = made_replies g.H.Heap g.S.TypeMatcherAlloc g.C.TyCustom c.deref.result.now c.args.set.now c.perform.new.self _ _ c.args.queries.now c.deref-2.result.now
    (rw c.unwrap.ensures at c.perform.ensures) c.in_ok-outcomes.ensures.items (ap (map act) c.deref.ensures.value ∙ c.in_ok-calls.ensures) c.deref-2.ensures.value in
    record { checks = r.of_checks; each = r.each }

pub returns : goal.returns
returns g c =
    let r = made_replies g.H.Heap g.S.TypeMatcherAlloc g.C.TyCustom c.deref.result.now c.args.set.now c.perform.new.self _ _ c.args.queries.now c.deref-2.result.now
    (rw c.unwrap.ensures at c.perform.ensures) c.in_ok-outcomes.ensures.items (ap (map act) c.deref.ensures.value ∙ c.in_ok-calls.ensures) c.deref-2.ensures.value in
    IfOk-weaker c.answers_of.result _ _ (λ xs p. r.asked (vec_items xs) p.0 p.1) c.answers_of.ensures
