-- The outcomes of checks that ask queries, and the answers that they are. Assumes nothing.
use Rattle.std.proofs.Common.{◌≡◌, ℕ, ◌+◌, ◌≤◌, Bool, true, false, cond, ◌&&◌, eqb, ltb, List, [], ◌∷◌, ◌++◌, map, length, Ok, Err, Result, IsOk, sym, refl, ap, ◌∙◌, subst, ap₂, arith}
use Rattle.std.proofs.lemmas.List.{length-map}
use Rattle.values.specs.Refusals.{number}
use Rattle.values.specs.declared.heap.Heap.{Ghosts as Heap}
use Rattle.values.specs.declared.refusal.Refusal.{Refusal}
use Rattle.values.specs.declared.refusal.Refusal.TheVariants.{NoType, NoNode, NoValue, BadForm, Frozen, NoItem, TooDeep, TooWide, TooHeavy, NoRoom}
use Rattle.custom.specs.Customs.{Custom}
use Rattle.custom.specs.declared.ty_custom.TyCustom.{Ghosts as TyCustom}
use Rattle.matcher.specs.declared.alloc.TypeMatcherAlloc.{Ghosts as TypeMatcherAlloc}
use Rattle.matcher.specs.Meaning.{accepts}
use Rattle.runs.specs.Acts.{Act, Answer as Told, value_is, done, type_is, annotation_is, says, refused, check_told}
use Rattle.runs.specs.States.{State, annotation_in, world_of, answer, after}
use Rattle.runs.specs.Runs.{Step, Run}
use Rattle.runs.specs.Throughout.{Ran}
use Rattle.working_set.specs.Words.{act, told}
use Rattle.working_set.specs.Sets.{state_of}
use Rattle.working_set.specs.Performed.{Places, MadeAll, Performed}
use Rattle.working_set.specs.declared.calls.Call.{Call}
use Rattle.working_set.specs.declared.outcomes.Granted.{Granted}
use Rattle.working_set.specs.declared.outcomes.OutcomesFull.{OutcomesFull}
use Rattle.working_set.specs.declared.set.WorkingSet.{WorkingSet}
use Rattle.job_format.specs.declared.query.Query.{Query}
use Rattle.report.specs.Asking.{asks, tells, query_of, OfCheck, OfChecks, Asked}
use Rattle.report.specs.declared.answer.Answer.{Answer}

-- a reason is known by its number
reason : ℕ → Refusal
reason n =
    cond (eqb n 1) NoType (cond (eqb n 2) NoNode (cond (eqb n 3) NoValue (cond (eqb n 4) BadForm (cond (eqb n 5) Frozen
    (cond (eqb n 6) NoItem (cond (eqb n 7) TooDeep (cond (eqb n 8) TooWide (cond (eqb n 9) TooHeavy NoRoom))))))))

reason_of : (why : Refusal) → reason (number why) ≡ why
unfolding reason
reason_of NoType = refl
reason_of NoNode = refl
reason_of NoValue = refl
reason_of BadForm = refl
reason_of Frozen = refl
reason_of NoItem = refl
reason_of TooDeep = refl
reason_of TooWide = refl
reason_of TooHeavy = refl
reason_of NoRoom = refl

back : Told → Result Bool Refusal
back (value_is n) = Err NoRoom
back done = Err NoRoom
back (type_is n) = Err NoRoom
back (annotation_is n) = Err NoRoom
back (says b) = Ok b
back (refused n) = Err (reason n)

back_of : (r : Result Bool Refusal) → back (check_told r) ≡ r
unfolding back
back_of (Ok b) = refl
back_of (Err why) = ap Err (reason_of why)

told_once : (p q : Result Bool Refusal) → check_told p ≡ check_told q → p ≡ q
told_once p q e = sym (back_of p) ∙ ap back e ∙ back_of q

-- each outcome is what a check says
of_check : (a b x : Bool) → OfCheck (cond a (cond b (says x) (refused 3)) (refused 2))
of_check true true x = (Ok x, refl)
of_check true false x = (Err NoValue, refl)
of_check false b x = (Err NoNode, refl)

module _ (c : Custom) (shares : Bool) (s : State) where
  abbrev reply : Query → Told
  reply q = answer c shares s (asks q)

  pub replies : (steps : List Step) (qs : List Query) → Run c shares s steps → map (λ (x : Step). x.call) steps ≡ map asks qs → map (λ (x : Step). x.outcome) steps ≡ map reply qs
  replies [] [] r e = refl
  replies [] (q ∷ qs) r e = cc
  replies (x ∷ xs) [] r e = cc
  replies (x ∷ xs) (q ∷ qs) r e =
      let first : x.call ≡ asks q = cc in
      let rest : map (λ (y : Step). y.call) xs ≡ map asks qs = cc in
      let same : x.after ≡ s = r.0.leaves ∙ ap (after c shares s) first in
      ap₂ (λ (o : Told) (os : List Told). o ∷ os) (r.0.answered ∙ ap (answer c shares s) first) (replies xs qs (subst (λ (t : State). Run c shares t xs) same r.1) rest)

  pub of_replies : (qs : List Query) → OfChecks (map reply qs)
  of_replies [] = tt
  of_replies (q ∷ qs) = (
    of_check (ltb q.annotation (length s.annotations) && ltb (annotation_in s q.annotation).root (length s.nodes)) (ltb q.value (length s.heap.cells)) (accepts (world_of c shares s) s.nodes (annotation_in s q.annotation).root q.value),
    of_replies qs,
  )

-- answers to the queries are known by what they tell
by_queries : (f : Query → Result Bool Refusal) (given : List Answer)
    → map tells given ≡ map (λ q. check_told (f q)) (map query_of given)
    → given ≡ map (λ q. record { annotation = q.annotation; value = q.value; says = f q }) (map query_of given)
by_queries f [] e = refl
by_queries f (a ∷ given) e =
    let first : tells a ≡ check_told (f (query_of a)) = cc in
    let rest : map tells given ≡ map (λ q. check_told (f q)) (map query_of given) = cc in
    let says_so = told_once a.says (f (query_of a)) first in
    let here : a ≡ record { annotation = a.annotation; value = a.value; says = f (query_of a) } = λ i. record { annotation = a.annotation; value = a.value; says = says_so i } in
    ap₂ (λ (x : Answer) (xs : List Answer). x ∷ xs) here (by_queries f given rest)

pub answers_are : (f : Query → Result Bool Refusal) (given : List Answer) (qs : List Query) → map query_of given ≡ qs
    → map tells given ≡ map (λ q. check_told (f q)) qs → given ≡ map (λ q. record { annotation = q.annotation; value = q.value; says = f q }) qs
answers_are f given qs e t =
    subst (λ (xs : List Query). given ≡ map (λ q. record { annotation = q.annotation; value = q.value; says = f q }) xs) e
    (by_queries f given (subst (λ (xs : List Query). map tells given ≡ map (λ q. check_told (f q)) xs) (sym e) t))

abbrev Outcomes : Type 0
Outcomes = List (Result Granted Refusal)

-- calls that ask queries have the outcomes of checks, one for each query; answers that tell those outcomes are what is asked
pub record Replied (c : Custom) (shares : Bool) (s : State) (qs : List Query) (os : Outcomes) : Type 0 where
  pub of_checks : OfChecks (map told os)
  pub each : length os ≡ length qs
  pub asked : (given : List Answer) → map query_of given ≡ qs → map tells given ≡ map told os → Asked c shares s qs given

replied : (c : Custom) (shares : Bool) (s t : State) (os : Outcomes) (qs : List Query) → Ran c shares s (map asks qs) (map told os) t → Replied c shares s qs os
replied c shares s t os qs r =
    let same : map told os ≡ map (reply c shares s) qs = sym r.answered ∙ replies c shares s r.steps qs r.run r.called in
    record {
      of_checks = subst OfChecks (sym same) (of_replies c shares s qs);
      each = sym (length-map os told) ∙ ap length same ∙ length-map qs (reply c shares s);
      asked = λ given q a. record { of_queries = q; left = t; ran = subst (λ (xs : List Told). Ran c shares s (map asks qs) xs t) (sym a) r };
    }

pub made_replies : {H S C : Type 0} (h : Heap H) (s : TypeMatcherAlloc S) (c : TyCustom C) (calls : List Call) (w w' : WorkingSet H S C) (before after : Places) (qs : List Query) (os : Outcomes)
    → MadeAll h s c calls w w' before after → before.items ≡ [] → map act calls ≡ map asks qs → os ≡ after.items
    → Replied (c.custom w.customs) s.sharing (state_of h.cells s.nodes s.limit w) qs os
made_replies h s c calls w w' before after qs os m none ask is =
    let k = c.custom w.customs in
    let st : WorkingSet _ _ _ → State = state_of h.cells s.nodes s.limit in
    let all : os ≡ m.outcomes = is ∙ ap (λ (p : Places). p.items) m.written ∙ ap (λ (xs : Outcomes). xs ++ m.outcomes) none in
    subst (Replied k s.sharing (st w) qs) (sym all) (replied k s.sharing (st w) (st w') m.outcomes qs (subst (λ (xs : List Act). Ran k s.sharing (st w) xs (map told m.outcomes) (st w')) ask m.ran))

-- with room for the outcomes, the calls are made
pub has_room : {H S C : Type 0} (h : Heap H) (s : TypeMatcherAlloc S) (c : TyCustom C) (calls : List Call) (w w' : WorkingSet H S C) (before after : Places) (r : Result Unit OutcomesFull)
    → Performed h s c calls w w' before after r → length before.items + length calls ≤ before.capacity → IsOk r
has_room h s c calls w w' before after (Ok u) p room = refl
has_room h s c calls w w' before after (Err e) p room = absurd (omega (arith, p.full))
