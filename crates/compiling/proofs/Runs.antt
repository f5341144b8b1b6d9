-- Steps taken one after another, and what they leave. Assumes nothing.
use Rattle.std.proofs.Common.{◌≡◌, ℕ, ◌+◌, ◌-◌, ◌*◌, ◌<◌, ◌≤◌, Bool, true, ◌&&◌, eqb, leb, List, [], ◌∷◌, ◌++◌, length, sym, refl, ap, ◌∙◌, subst, ap₂, append_assoc, append-nil, arith, length-append}
use Rattle.std.proofs.lemmas.List.{drop_at}
use Rattle.std.proofs.lemmas.Bool.{and_from, le-leb, cond_both}
use Rattle.matcher.specs.Nodes.{Node, arity, numbered, valid, used, places, roomy, place, put}
use Rattle.matcher.proofs.Grows.{grants}
use Rattle.compiling.specs.Code.{State, state, takes, kids_of, chosen, exec, execs, Safe, Grants, Can}
use Rattle.compiling.specs.Written.{every_wildcard, some_wildcard}
use Rattle.compiling.specs.declared.tasks.Op.{Op}
use Rattle.compiling.specs.declared.tasks.Op.TheVariants.{Write, ListOf, SetOf, DictOf, AnyOfTwo, AnyOf}
use Rattle.matcher.specs.Meaning.{Test, kid_tests, tests}
use Rattle.custom.specs.Worlds.{World}
use Rattle.compiling.proofs.Takes.{execs-++, exec_is}
use Rattle.compiling.proofs.Says.{Said, said_refl, said_trans, kids_same, kids_append, valid_speak, spoken, op_says, Kids, chosen_says}
use Rattle.compiling.proofs.Writes.{good_below, Front, front_refl, front_trans, Good, good_later, good_deeper, good_append, Fit, fit_grants, placed}

-- a step over k kids
abbrev pub OpFine : Op → ℕ → Type 0
OpFine (Write kd m n) k = (n ≡ k) × ((arity kd k && numbered kd m) ≡ true)
OpFine ListOf k = k ≡ 1
OpFine SetOf k = k ≡ 1
OpFine DictOf k = k ≡ 2
OpFine AnyOfTwo k = k ≡ 2
OpFine (AnyOf n) k = (n ≡ k) × (3 ≤ k)

takes_is : (o : Op) (k : ℕ) → OpFine o k → takes o ≡ k
takes_is (Write kd m n) k f = f.0
takes_is ListOf k f = sym f
takes_is SetOf k f = sym f
takes_is DictOf k f = sym f
takes_is AnyOfTwo k f = sym f
takes_is (AnyOf n) k f = f.0

op_fit : (o : Op) (d k : ℕ) (ns : List Node) (ks : List ℕ) → OpFine o k → length ks ≡ k → Good d ns ks → Fit d k ns (chosen o ns ks)
op_fit (Write kd m n) d k ns ks f e g = record { form = ap (λ j. arity kd j && numbered kd m) e ∙ f.1; good = g; few = omega arith }
op_fit ListOf d k ns ks f e g = cond_both (every_wildcard ns ks) _ _ (Fit d k ns) (λ _. record { form = refl; good = tt; few = omega arith }) (λ _. record { form = ap (λ j. eqb j 1 && eqb 0 0) (e ∙ f); good = g; few = omega arith })
op_fit SetOf d k ns ks f e g = cond_both (every_wildcard ns ks) _ _ (Fit d k ns) (λ _. record { form = refl; good = tt; few = omega arith }) (λ _. record { form = ap (λ j. eqb j 1 && eqb 0 0) (e ∙ f); good = g; few = omega arith })
op_fit DictOf d k ns ks f e g = cond_both (every_wildcard ns ks) _ _ (Fit d k ns) (λ _. record { form = refl; good = tt; few = omega arith }) (λ _. record { form = ap (λ j. eqb j 2 && eqb 0 0) (e ∙ f); good = g; few = omega arith })
op_fit AnyOfTwo d k ns ks f e g = cond_both (some_wildcard ns ks) _ _ (Fit d k ns) (λ _. record { form = refl; good = tt; few = omega arith }) (λ _. record { form = ap (λ j. eqb j 2 && eqb 0 0) (e ∙ f); good = g; few = omega arith })
op_fit (AnyOf n) d k ns ks f e g = cond_both (some_wildcard ns ks) _ _ (Fit d k ns) (λ _. record { form = refl; good = tt; few = omega arith }) (λ _. record { form = and_from (leb 3 (length ks)) (eqb 0 0) (le-leb 3 (length ks) (omega (arith, f.1))) refl; good = g; few = omega arith })

module _ (W : World) (sh : Bool) (limit : ℕ) where
  safe-++ : (c e : List Op) (st : State) → Safe limit sh c st → Safe limit sh e (execs sh c st) → Safe limit sh (c ++ e) st
  safe-++ [] e st s r = r
  safe-++ (o ∷ c) e st s r = (s.0, safe-++ c e (exec sh o st) s.1 r)

  -- what results at most d deep, that accept ps, leave
  pub record Made (d : ℕ) (ps : List Test) (c : List Op) (ns : List Node) (rs : List ℕ) : Type 0 where
    pub nodes : List Node
    pub kids : List ℕ
    pub runs : execs sh c (state ns rs) ≡ state nodes (rs ++ kids)
    pub safe : Safe limit sh c (state ns rs)
    pub count : length kids ≡ length ps
    pub speaks : kid_tests (tests W nodes) kids ≡ ps
    pub said : Said W ns nodes
    pub good : Good d nodes kids
    pub front : Front ns nodes
    pub fine : valid limit nodes ≡ true
    pub room : used nodes + length ps ≤ used ns + 2 * length c

  abbrev pub Makes : ℕ → List Test → List Op → Type 0
  Makes d ps c = (ns : List Node) (rs : List ℕ) → valid limit ns ≡ true → used ns + 2 * length c ≤ limit → Made d ps c ns rs

  pub makes_nil : (d : ℕ) → Makes d [] []
  makes_nil d ns rs v room = record { nodes = ns; kids = []; runs = ap (state ns) (sym (append-nil rs)); safe = tt; count = refl; speaks = refl; said = said_refl W ns; good = tt; front = front_refl ns; fine = v; room = omega arith }

  pub makes_deeper : (d e : ℕ) (ps : List Test) (c : List Op) → d ≤ e → Makes d ps c → Makes e ps c
  makes_deeper d e ps c l m ns rs v room =
      let a = m ns rs v room in
      record { nodes = a.nodes; kids = a.kids; runs = a.runs; safe = a.safe; count = a.count; speaks = a.speaks; said = a.said; good = good_deeper d e a.nodes l a.kids a.good; front = a.front; fine = a.fine; room = a.room }

  pub makes_append : (d : ℕ) (ps qs : List Test) (c e : List Op) → Makes d ps c → Makes d qs e → Makes d (ps ++ qs) (c ++ e)
  makes_append d ps qs c e m n ns rs v room =
      let long = length-append c e in
      let a = m ns rs v (omega arith) in
      let b = n a.nodes (rs ++ a.kids) a.fine (omega (arith, a.room)) in
      record {
        nodes = b.nodes;
        kids = a.kids ++ b.kids;
        runs = execs-++ sh c e (state ns rs) ∙ ap (execs sh e) a.runs ∙ b.runs ∙ ap (state b.nodes) (append_assoc rs a.kids b.kids);
        safe = safe-++ c e (state ns rs) a.safe (subst (Safe limit sh e) (sym a.runs) b.safe);
        count = length-append a.kids b.kids ∙ omega (arith, a.count, b.count, length-append ps qs);
        speaks = kids_append W (tests W b.nodes) a.kids b.kids ∙ ap₂ ◌++◌ (kids_same W a.nodes b.nodes a.kids b.said (good_below d a.nodes a.kids a.good) ∙ a.speaks) b.speaks;
        said = said_trans W ns a.nodes b.nodes a.said b.said;
        good = good_append d b.nodes a.kids b.kids (good_later d a.nodes b.nodes b.front a.kids a.good) b.good;
        front = front_trans ns a.nodes b.nodes a.front b.front;
        fine = b.fine;
        room = omega (arith, a.room, b.room, length-append ps qs);
      }

  kids_by : (o : Op) (k : ℕ) → OpFine o k → Kids o k
  kids_by (Write kd m n) k f = tt
  kids_by ListOf k f = f
  kids_by SetOf k f = f
  kids_by DictOf k f = f
  kids_by AnyOfTwo k f = tt
  kids_by (AnyOf n) k f = tt

  kids_are : (o : Op) (rs ks : List ℕ) → length ks ≡ takes o → kids_of (takes o) (rs ++ ks) ≡ ks
  kids_are o rs ks e = drop_at rs ks (length (rs ++ ks) - takes o) (omega (arith, length-append rs ks))

  pub makes_op : (d : ℕ) (ps : List Test) (c : List Op) (o : Op) → d < 64 → length ps ≤ 64 → OpFine o (length ps) → Makes d ps c → Makes (d + 1) (op_says W o ps ∷ []) (c ++ o ∷ [])
  makes_op d ps c o dl kl f m ns rs v room =
      let k = length ps in
      let long = length-append c (o ∷ []) in
      let a = m ns rs v (omega arith) in
      let x = chosen o a.nodes a.kids in
      let fit = op_fit o d k a.nodes a.kids f a.count a.good in
      let roomed : used a.nodes + places x ≤ limit = omega (arith, a.room, fit.few) in
      let r : roomy limit a.nodes x ≡ true = le-leb (used a.nodes + places x) limit roomed in
      let p = placed sh limit d k a.nodes x a.fine dl kl fit r in
      let sp = spoken W sh limit a.nodes x a.fine in
      let taken : length a.kids ≡ takes o = a.count ∙ sym (takes_is o k f) in
      let n = place sh a.nodes x in
      let g : Grants limit o (state a.nodes (rs ++ a.kids)) = record { kids = omega (arith, length-append rs a.kids); can = subst (λ ks. Can limit a.nodes (chosen o a.nodes ks)) (sym (kids_are o rs a.kids taken)) (record { fine = grants a.nodes x (fit_grants d k a.nodes x dl kl fit); room = r }) } in
      record {
        nodes = put a.nodes x n;
        kids = n ∷ [];
        runs = execs-++ sh c (o ∷ []) (state ns rs) ∙ ap (exec sh o) a.runs ∙ exec_is sh o a.nodes rs a.kids taken;
        safe = safe-++ c (o ∷ []) (state ns rs) a.safe (subst (Safe limit sh (o ∷ [])) (sym a.runs) (g, tt));
        count = refl;
        speaks = ap (λ q. q ∷ []) (sp.says_so ∙ chosen_says W a.nodes (valid_speak W limit a.nodes a.fine) o a.kids (kids_by o (length a.kids) (subst (OpFine o) (sym a.count) f)) (good_below d a.nodes a.kids a.good) ∙ ap (op_says W o) a.speaks);
        said = said_trans W ns a.nodes (put a.nodes x n) a.said sp.said;
        good = (p.stands, p.deep, tt);
        front = front_trans ns a.nodes (put a.nodes x n) a.front p.front;
        fine = p.fine;
        room = omega (arith, p.more, a.room, fit.few);
      }
