use Rattle.std.proofs.Common.{◌≡◌, ◌+◌, [], ◌∷◌, ◌++◌, length, vec_items, sym, ap, ◌∙◌, subst, arith, length-append}
use Rattle.std.proofs.lemmas.List.{take_more, map_more}
use Rattle.std.proofs.lemmas.Slice.Zip.{zip_turn}
use Rattle.working_set.specs.Words.{told}
use Rattle.report.specs.Asking.{tells, query_of, OfCheck}
use Rattle.report.specs.declared.answer.Answer.{Answer}
use Rattle.report.proofs.Lists.{pushed, of_at}
use Rattle.report.proofs.asking.answers_of.Goals as goal

pub said-requires : goal.said-requires
said-requires c =
    let o = c.in-Some.outcome.now in
    let turn = zip_turn c.args.queries.now c.args.outcomes.now c.loop-query.yielded c.into_iter-query-iterator.result c.loop-query.query-iterator c.next.new.self c.next.result (cc) (cc) c.loop-query.yielded_by (c.in-Some.query, c.in-Some.outcome) c.in-Some.is c.next.ensures.steps in
    subst (λ x. OfCheck (told x)) (sym (turn.3 o)) (of_at c.args.outcomes.now (length c.loop-query.yielded) o c.requires.checks turn.1)

pub loop-query-preserved : goal.loop-query-preserved
loop-query-preserved c =
    let n = length c.loop-query.yielded in
    let q = c.in-Some.query.now in
    let o = c.in-Some.outcome.now in
    let turn = zip_turn c.args.queries.now c.args.outcomes.now c.loop-query.yielded c.into_iter-query-iterator.result c.loop-query.query-iterator c.next.new.self c.next.result (cc) (cc) c.loop-query.yielded_by (c.in-Some.query, c.in-Some.outcome) c.in-Some.is c.next.ensures.steps in
    let x : Answer = record { annotation = q.annotation; value = q.value; says = c.said.result } in
    let inv = c.loop-query.invariant in
    let longer : length (c.loop-query.yielded ++ ((c.in-Some.query, c.in-Some.outcome) ∷ [])) ≡ n + 1 = length-append c.loop-query.yielded ((c.in-Some.query, c.in-Some.outcome) ∷ []) in
    rw longer (
      pushed query_of (vec_items c.loop-query.all) x c.push_reserved.ensures.items inv.0 (turn.2 q) ∙ sym (take_more c.args.queries.now n q turn.0),
      pushed tells (vec_items c.loop-query.all) x c.push_reserved.ensures.items inv.1 (c.said.ensures ∙ ap told (turn.3 o)) ∙ sym (map_more told c.args.outcomes.now n o turn.1),
      omega (arith, c.push_reserved.ensures.len, inv.2),
      omega (arith, c.push_reserved.ensures.capacity, inv.3),
    )
