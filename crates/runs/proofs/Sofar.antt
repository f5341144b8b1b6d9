-- A run as far as it has come. Assumes nothing.
use Rattle.std.proofs.Common.{◌≡◌, Bool, List, [], ◌∷◌, ◌++◌, map, sym, refl, ap, ◌∙◌, subst}
use Rattle.std.proofs.lemmas.List.{map-append}
use Rattle.custom.specs.Customs.{Custom, Open}
use Rattle.runs.specs.Acts.{Act, Answer}
use Rattle.runs.specs.States.{State, OutcomeOf}
use Rattle.runs.specs.Runs.{Step, Run, end, Reaches}
use Rattle.runs.specs.Throughout.{Ran}
use Rattle.runs.proofs.Whole.{throughout}

-- the calls so far, their answers, and the set that they led to
pub record Sofar (c : Custom) (shares : Bool) (s : State) (calls : List Act) (answers : List Answer) (t : State) : Type 0 where
  pub steps : List Step
  pub called : map (λ x. x.call) steps ≡ calls
  pub answered : map (λ x. x.outcome) steps ≡ answers
  pub run : Run c shares s steps
  pub ends : end s steps ≡ t

module _ (c : Custom) (shares : Bool) where
  pub run_append : (s : State) (xs ys : List Step) → Run c shares s xs → Run c shares (end s xs) ys → Run c shares s (xs ++ ys)
  run_append s [] ys p q = q
  run_append s (x ∷ xs) ys p q = (p.0, run_append x.after xs ys p.1 q)

  end_append : (s : State) (xs ys : List Step) → end s (xs ++ ys) ≡ end (end s xs) ys
  end_append s [] ys = refl
  end_append s (x ∷ xs) ys = end_append x.after xs ys

  pub reaches_here : (s : State) → Reaches c shares s s
  reaches_here s = record { steps = []; run = tt; ends = refl }

  pub reaches_by : (s : State) (a : Act) (o : Answer) (t : State) → OutcomeOf c shares s a o t → Reaches c shares s t
  reaches_by s a o t p = record { steps = record { call = a; outcome = o; after = t } ∷ []; run = (p, tt); ends = refl }

  pub reaches_trans : (s t u : State) → Reaches c shares s t → Reaches c shares t u → Reaches c shares s u
  reaches_trans s t u p q = record {
    steps = p.steps ++ q.steps;
    run = run_append s p.steps q.steps p.run (subst (λ w. Run c shares w q.steps) (sym p.ends) q.run);
    ends = end_append s p.steps q.steps ∙ ap (λ w. end w q.steps) p.ends ∙ q.ends;
  }

  pub sofar_none : (s : State) → Sofar c shares s [] [] s
  sofar_none s = record { steps = []; called = refl; answered = refl; run = tt; ends = refl }

  pub sofar_more : (s : State) (calls : List Act) (answers : List Answer) (t : State) (a : Act) (o : Answer) (u : State)
      → Sofar c shares s calls answers t → OutcomeOf c shares t a o u → Sofar c shares s (calls ++ (a ∷ [])) (answers ++ (o ∷ [])) u
  sofar_more s calls answers t a o u p b =
      let x : Step = record { call = a; outcome = o; after = u } in
      record {
        steps = p.steps ++ (x ∷ []);
        called = map-append (λ (y : Step). y.call) p.steps (x ∷ []) ∙ ap (λ w. w ++ (a ∷ [])) p.called;
        answered = map-append (λ (y : Step). y.outcome) p.steps (x ∷ []) ∙ ap (λ w. w ++ (o ∷ [])) p.answered;
        run = run_append s p.steps (x ∷ []) p.run (subst (λ w. OutcomeOf c shares w a o u) (sym p.ends) b, tt);
        ends = end_append s p.steps (x ∷ []);
      }

  pub ran : Open c → (s : State) (calls : List Act) (answers : List Answer) (t : State) → Sofar c shares s calls answers t → Ran c shares s calls answers t
  ran opens s calls answers t p = record {
    steps = p.steps;
    called = p.called;
    answered = p.answered;
    run = p.run;
    ends = p.ends;
    lawful = λ b earlier blank r e. throughout c shares b (earlier ++ p.steps) opens blank (run_append b earlier p.steps r (subst (λ w. Run c shares w p.steps) (sym e) p.run));
  }
