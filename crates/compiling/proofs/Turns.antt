-- One turn of the loop. Assumes nothing.
use Rattle.std.proofs.Common.{◌≡◌, ℕ, ◌+◌, ◌-◌, ◌<◌, ◌≤◌, Bool, List, [], ◌∷◌, ◌++◌, length, sym, refl, ap, ◌∙◌, subst, append_assoc, append-nil, arith, length-append, length-take}
use Rattle.compiling.specs.Limits.{most_tasks}
use Rattle.membership.specs.Rows.{Row}
use Rattle.membership.specs.Readings.{alt_at}
use Rattle.compiling.proofs.Fines.{Fines}
use Rattle.compiling.specs.Code.{Codes, State, code, exec, execs, Safe, takes, rest_of, op_node}
use Rattle.compiling.specs.Tasks.{ops_of, pending, cost, load, Fine, AllFine, listed, expand, advance, Ready}
use Rattle.compiling.specs.Tasks.{Going}
use Rattle.matcher.specs.Nodes.{place}
use Rattle.compiling.specs.declared.tasks.Op.{Op}
use Rattle.compiling.specs.declared.tasks.Task.{Task}
use Rattle.compiling.specs.declared.tasks.Task.TheVariants.{Ty, Basic, Alternatives, Elements, Step}
use Rattle.compiling.proofs.Codes.{code_some, basic_some}
use Rattle.compiling.proofs.Opens.{opens}

module _ (rows : List Row) (w : ℕ → Bool) where
  abbrev C : Codes
  C = code rows w

  pending-++ : (xs ys : List Task) → pending rows w C (xs ++ ys) ≡ pending rows w C ys ++ pending rows w C xs
  pending-++ [] ys = sym (append-nil (pending rows w C ys))
  pending-++ (x ∷ xs) ys = ap (λ z. z ++ ops_of rows w C x) (pending-++ xs ys) ∙ append_assoc (pending rows w C ys) (pending rows w C xs) (ops_of rows w C x)

  load-++ : (xs ys : List Task) → load rows w C (xs ++ ys) ≡ load rows w C xs + load rows w C ys
  load-++ [] ys = omega arith
  load-++ (x ∷ xs) ys = omega (arith, load-++ xs ys)

  fine_join : (xs ys : List Task) → AllFine rows xs → AllFine rows ys → AllFine rows (xs ++ ys)
  fine_join [] ys f g = g
  fine_join (x ∷ xs) ys f g = (f.0, fine_join xs ys f.1 g)

  fine_left : (xs ys : List Task) → AllFine rows (xs ++ ys) → AllFine rows xs
  fine_left [] ys f = tt
  fine_left (x ∷ xs) ys f = (f.0, fine_left xs ys f.1)

  fine_right : (xs ys : List Task) → AllFine rows (xs ++ ys) → AllFine rows ys
  fine_right [] ys f = f
  fine_right (x ∷ xs) ys f = fine_right xs ys f.1

  module _ (sound : Fines rows) where
    cost_some : (x : Task) → Fine rows x → 1 ≤ cost rows w C x
    cost_some (Ty t) f = omega (arith, code_some rows w sound t f)
    cost_some (Basic t i) f = omega (arith, basic_some rows w C (alt_at rows t i))
    cost_some (Alternatives t i) f = omega arith
    cost_some (Elements t i j) f = omega arith
    cost_some (Step o) f = omega arith

    tasks_few : (xs : List Task) → AllFine rows xs → length xs ≤ load rows w C xs
    tasks_few [] f = omega arith
    tasks_few (x ∷ xs) f = omega (arith, cost_some x f.0, tasks_few xs f.1)

    module _ (sh : Bool) (limit : ℕ) (end st : State) (rest : List Task) where
      pub record Taken (task : Task) : Type 0 where
        pub fine : Fine rows task
        pub ready : Ready limit task st
        pub tasks : length rest + 3 ≤ most_tasks
        pub keeps : Going rows w sh limit end (rest ++ listed (expand rows w task)) (advance sh task st)
        pub falls : load rows w C (rest ++ listed (expand rows w task)) < load rows w C (rest ++ task ∷ [])

      inner : (task : Task) → ((o : Op) → task ≡ Step o → ⊥) → advance sh task st ≡ st → Ready limit task st → Going rows w sh limit end (rest ++ task ∷ []) st → Taken task
      inner task h stays ready g =
          let f : Fine rows task = (fine_right rest (task ∷ []) g.fine).0 in
          let o = opens rows w sound task f h in
          let e = expand rows w task in
          let ops : pending rows w C (rest ++ listed e) ≡ pending rows w C (rest ++ task ∷ []) = pending-++ rest (listed e) ∙ ap (λ x. x ++ pending rows w C rest) o.same ∙ sym (pending-++ rest (task ∷ [])) in
          let falls : load rows w C (rest ++ listed e) < load rows w C (rest ++ task ∷ []) = omega (arith, load-++ rest (listed e), load-++ rest (task ∷ []), o.less) in
          let few : length rest ≤ load rows w C rest = tasks_few rest (fine_left rest (task ∷ []) g.fine) in
          record {
            fine = f;
            ready = ready;
            tasks = omega (arith, few, load-++ rest (task ∷ []), g.light);
            keeps = subst (Going rows w sh limit end (rest ++ listed e)) (sym stays) (record {
              fine = fine_join rest (listed e) (fine_left rest (task ∷ []) g.fine) o.fine;
              safe = subst (λ os. Safe limit sh os st) (sym ops) g.safe;
              ends = ap (λ os. execs sh os st) ops ∙ g.ends;
              light = omega (arith, falls, g.light);
              few = omega (arith, ap length ops, g.few);
            });
            falls = falls;
          }

      exec_few : (o : Op) → length (exec sh o st).results ≤ length st.results + 1
      unfolding exec
      exec_few o = omega (arith, length-append (rest_of (takes o) st.results) (place sh st.nodes (op_node o st) ∷ []), length-take (length st.results - takes o) st.results)

      step : (o : Op) → Going rows w sh limit end (rest ++ Step o ∷ []) st → Taken (Step o)
      unfolding expand
      step o g =
          let ops : pending rows w C (rest ++ Step o ∷ []) ≡ o ∷ pending rows w C rest = pending-++ rest (Step o ∷ []) in
          let safe = subst (λ os. Safe limit sh os st) ops g.safe in
          let same : rest ++ [] ≡ rest = append-nil rest in
          let few : length rest ≤ load rows w C rest = tasks_few rest (fine_left rest (Step o ∷ []) g.fine) in
          record {
            fine = tt;
            ready = (safe.0, omega (arith, ap length ops, g.few));
            tasks = omega (arith, few, load-++ rest (Step o ∷ []), g.light);
            keeps = subst (λ xs. Going rows w sh limit end xs (exec sh o st)) (sym same) (record {
              fine = fine_left rest (Step o ∷ []) g.fine;
              safe = safe.1;
              ends = sym (ap (λ os. execs sh os st) ops) ∙ g.ends;
              light = omega (arith, load-++ rest (Step o ∷ []), g.light);
              few = omega (arith, ap length ops, g.few, exec_few o);
            });
            falls = omega (arith, ap (load rows w C) same, load-++ rest (Step o ∷ []));
          }

      pub taken : (task : Task) → Going rows w sh limit end (rest ++ task ∷ []) st → Taken task
      taken (Step o) g = step o g
      taken task g = inner task (λ o e. cc) refl tt g

module _ (rows : List Row) (w : ℕ → Bool) (sound : Fines rows) (sh : Bool) (limit : ℕ) (end st : State) (rest : List Task) (task : Task) where
  pub taken_from : (tasks : List Task) → tasks ≡ rest ++ task ∷ [] → Going rows w sh limit end tasks st → Taken rows w sound sh limit end st rest task
  taken_from tasks e g = taken rows w sound sh limit end st rest task (subst (λ xs. Going rows w sh limit end xs st) e g)

  pub keeps_from : (tasks : List Task) (st' : State) → Taken rows w sound sh limit end st rest task → tasks ≡ rest ++ listed (expand rows w task) → st' ≡ advance sh task st → Going rows w sh limit end tasks st'
  keeps_from tasks st' t e f = subst (λ xs. Going rows w sh limit end xs st') (sym e) (subst (Going rows w sh limit end (rest ++ listed (expand rows w task))) (sym f) t.keeps)

  pub falls_from : (tasks tasks' : List Task) → Taken rows w sound sh limit end st rest task → tasks ≡ rest ++ task ∷ [] → tasks' ≡ rest ++ listed (expand rows w task) → load rows w (code rows w) tasks' < load rows w (code rows w) tasks
  falls_from tasks tasks' t e f = omega (arith, t.falls, ap (load rows w (code rows w)) e, ap (load rows w (code rows w)) f)

pub ended : (rows : List Row) (w : ℕ → Bool) (sh : Bool) (limit : ℕ) (end st : State) (tasks : List Task) → tasks ≡ [] → Going rows w sh limit end tasks st → st ≡ end
ended rows w sh limit end st tasks e g = sym (ap (λ xs. execs sh (pending rows w (code rows w) xs) st) e) ∙ g.ends
