-- One step of the stacks. Assumes nothing.
use Rattle.std.proofs.Common.{◌≡◌, ℕ, ◌-◌, Bool, List, [], ◌∷◌, ◌++◌, length, take, drop, sym, refl, ap, ◌∙◌, subst, ap₂, append-nil, arith, length-append}
use Rattle.std.proofs.lemmas.List.{take_rest, take_at, drop_at}
use Rattle.matcher.specs.Nodes.{Node, place, put}
use Rattle.compiling.specs.Code.{State, state, kids_of, takes, op_node, chosen, exec, execs, Can, Wrote, Grants}
use Rattle.compiling.specs.Tasks.{expand, listed}
use Rattle.membership.specs.Rows.{Row}
use Rattle.compiling.specs.declared.tasks.Op.{Op}
use Rattle.compiling.specs.declared.tasks.Task.{Task}
use Rattle.compiling.specs.declared.tasks.Task.TheVariants.{Step}

pub part_is : (slice rs : List ℕ) (len taken n : ℕ) → slice ≡ rs → len ≡ length rs → taken ≡ n → take (length slice - (len - taken)) (drop (len - taken) slice) ≡ kids_of n rs
part_is slice rs len taken n e l t =
    take_rest slice (len - taken) ∙ ap₂ drop (ap₂ ◌-◌ l t) e

pub step_can : (limit : ℕ) (o : Op) (ns : List Node) (rs kids : List ℕ) → kids ≡ kids_of (takes o) rs → Grants limit o (state ns rs) → Can limit ns (chosen o ns kids)
step_can limit o ns rs kids e g = subst (λ ks. Can limit ns (chosen o ns ks)) (sym e) g.can

pub step_exec : (sh : Bool) (o : Op) (ns ns' : List Node) (rs rs' kids : List ℕ) (n rest : ℕ) → kids ≡ kids_of (takes o) rs → rest ≡ length rs - takes o → Wrote sh ns (chosen o ns kids) n ns' → rs' ≡ take rest rs ++ n ∷ [] → state ns' rs' ≡ exec sh o (state ns rs)
unfolding exec
step_exec sh o ns ns' rs rs' kids n rest e f wr r =
    let d : chosen o ns kids ≡ op_node o (state ns rs) = ap (chosen o ns) e in
    let n_is : n ≡ place sh ns (op_node o (state ns rs)) = wr.number ∙ ap (place sh ns) d in
    ap₂ state (wr.nodes ∙ ap₂ (put ns) d n_is) (r ∙ ap₂ (λ k m. take k rs ++ m ∷ []) f n_is)

pub none_more : (rows : List Row) (w : ℕ → Bool) (task : Task) (o : Op) (xs ys : List Task) → task ≡ Step o → ys ≡ xs → ys ≡ xs ++ listed (expand rows w task)
unfolding expand
none_more rows w task o xs ys e h = h ∙ sym (append-nil xs) ∙ ap (λ x. xs ++ listed (expand rows w x)) (sym e)

pub execs-++ : (sh : Bool) (c e : List Op) (st : State) → execs sh (c ++ e) st ≡ execs sh e (execs sh c st)
execs-++ sh [] e st = refl
execs-++ sh (o ∷ c) e st = execs-++ sh c e (exec sh o st)

pub exec_is : (sh : Bool) (o : Op) (ns : List Node) (rs ks : List ℕ) → length ks ≡ takes o → exec sh o (state ns (rs ++ ks)) ≡ state (put ns (chosen o ns ks) (place sh ns (chosen o ns ks))) (rs ++ place sh ns (chosen o ns ks) ∷ [])
unfolding exec
exec_is sh o ns rs ks e =
    let at : length rs ≡ length (rs ++ ks) - takes o = omega (arith, length-append rs ks) in
    ap₂ (λ kids rest. state (put ns (chosen o ns kids) (place sh ns (chosen o ns kids))) (rest ++ place sh ns (chosen o ns kids) ∷ [])) (drop_at rs ks (length (rs ++ ks) - takes o) at) (take_at rs ks (length (rs ++ ks) - takes o) at)
