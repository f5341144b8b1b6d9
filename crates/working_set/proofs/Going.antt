-- Calls performed so far. Assumes nothing.
use Rattle.std.proofs.Common.{◌≡◌, ℕ, ◌+◌, ◌<◌, ◌≤◌, List, [], ◌∷◌, ◌++◌, map, length, get_or, take, Result, sym, refl, ap, ◌∙◌, subst, ap₂, append_assoc, append-nil}
use Rattle.std.proofs.lemmas.List.{map-append, take_all, take_more}
use Rattle.values.specs.declared.refusal.Refusal.{Refusal}
use Rattle.values.specs.declared.heap.Heap.{Ghosts as Heap}
use Rattle.custom.specs.Customs.{Open}
use Rattle.custom.specs.declared.ty_custom.TyCustom.{Ghosts as TyCustom}
use Rattle.matcher.specs.declared.alloc.TypeMatcherAlloc.{Ghosts as TypeMatcherAlloc}
use Rattle.runs.specs.States.{State, OutcomeOf}
use Rattle.runs.proofs.Sofar.{Sofar, sofar_none, sofar_more, ran}
use Rattle.working_set.specs.Words.{act, told}
use Rattle.working_set.specs.Sets.{state_of, Effect}
use Rattle.working_set.specs.Performed.{places, MadeAll}
use Rattle.working_set.specs.declared.calls.Call.{Call}
use Rattle.working_set.specs.declared.outcomes.Granted.{Granted}
use Rattle.working_set.specs.declared.set.WorkingSet.{WorkingSet}

abbrev Outcomes : Type 0
Outcomes = List (Result Granted Refusal)

module _ {H S C : Type 0} (h : Heap H) (s : TypeMatcherAlloc S) (c : TyCustom C) where
  abbrev held : WorkingSet H S C → State
  held = state_of h.cells s.nodes s.limit

  pub record Going (calls : List Call) (w w' : WorkingSet H S C) (before after : Outcomes) : Type 0 where
    pub outcomes : Outcomes
    pub written : after ≡ before ++ outcomes
    pub sofar : Sofar (c.custom w.customs) s.sharing (held w) (map act calls) (map told outcomes) (held w')
    pub customs : w'.customs ≡ w.customs
    pub below : w'.live.below ≡ w.live.below

  pub going_none : (w : WorkingSet H S C) (before : Outcomes) → Going [] w w before before
  going_none w before = record { outcomes = []; written = sym (append-nil before); sofar = sofar_none (c.custom w.customs) s.sharing (held w); customs = refl; below = refl }

  -- one more of the calls
  pub going_more : {w w' w'' : WorkingSet H S C} {before after after' : Outcomes} (calls : List Call) (i : ℕ) (x : Call) (o : Result Granted Refusal) → i < length calls → x ≡ get_or calls i x
      → Going (take i calls) w w' before after → Effect h s c w' (act x) (told o) w'' → after' ≡ after ++ (o ∷ []) → Going (take (i + 1) calls) w w'' before after'
  going_more {w} {w'} {w''} {before} calls i x o within is g e written =
      let k = c.custom w.customs in
      let more : take (i + 1) calls ≡ take i calls ++ (x ∷ []) = take_more calls i x within ∙ ap (λ y. take i calls ++ (y ∷ [])) (sym is) in
      let step : OutcomeOf k s.sharing (held w') (act x) (told o) (held w'') = subst (λ (y : C). OutcomeOf (c.custom y) s.sharing (held w') (act x) (told o) (held w'')) g.customs e.outcome in
      let next = sofar_more k s.sharing (held w) (map act (take i calls)) (map told g.outcomes) (held w') (act x) (told o) (held w'') g.sofar step in
      record {
        outcomes = g.outcomes ++ (o ∷ []);
        written = written ∙ ap (λ xs. xs ++ (o ∷ [])) g.written ∙ append_assoc before g.outcomes (o ∷ []);
        sofar = rw more (simp map-append next);
        customs = e.customs ∙ g.customs;
        below = e.below ∙ g.below;
      }

  -- all calls are made
  pub made_all : {w w' : WorkingSet H S C} {before after : Outcomes} (calls : List Call) (i cap cap' : ℕ)
      → Open (c.custom w.customs) → length calls ≤ i → length before + length calls ≤ cap → cap' ≡ cap → Going (take i calls) w w' before after
      → MadeAll h s c calls w w' (places before cap) (places after cap')
  made_all {w} {w'} calls i cap cap' opens over room same going =
      let g = rw (take_all i calls over) at going in
      record {
        room = room;
        outcomes = g.outcomes;
        written = ap₂ places g.written same;
        ran = ran (c.custom w.customs) s.sharing opens (held w) (map act calls) (map told g.outcomes) (held w') g.sofar;
        customs = g.customs;
        below = g.below;
      }
