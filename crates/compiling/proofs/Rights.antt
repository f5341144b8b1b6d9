-- What a call of alloc_ty comes to, and that what it writes is right. Assumes nothing.
use Rattle.std.proofs.Common.{◌≡◌, ℕ, ◌+◌, ◌-◌, ◌*◌, ◌<◌, ◌≤◌, Bool, true, false, cond, ◌&&◌, ltb, leb, List, [], ◌∷◌, ◌++◌, length, take, sym, refl, ap, ◌∙◌, subst, append_assoc, append-nil, arith}
use Rattle.std.proofs.lemmas.List.{take_at}
use Rattle.std.proofs.lemmas.Bool.{and_parts, and_from, lt-ltb, le-leb, ltb-true, leb-true, le-ltb, lt-leb, and_left, and_right}
use Rattle.custom.specs.Customs.{Custom, Open}
use Rattle.custom.specs.Worlds.{world}
use Rattle.matcher.specs.Nodes.{Node, used, valid, place}
use Rattle.matcher.proofs.Grows.{valid_used}
use Rattle.membership.specs.Rows.{Row, row, Sound}
use Rattle.compiling.specs.Limits.{most_annotations}
use Rattle.compiling.specs.Written.{written}
use Rattle.compiling.specs.Outcomes.{Entered, granted, refused, added, alloc_ty_lem, Right, CompiledTypesHaveTheirMembers}
use Rattle.compiling.specs.Code.{State, state, op_node, exec, execs, code}
use Rattle.compiling.specs.declared.annotation.Annotation.{Annotation}
use Rattle.compiling.specs.declared.tasks.Op.{Op}
use Rattle.compiling.proofs.Fines.{fines_of}
use Rattle.compiling.proofs.Makes.{root_means, root_within}
use Rattle.compiling.proofs.Writtens.{code_writes}

-- ms is ns and more
abbrev More : List Node → List Node → Type 0
More ns ms = (rest : List Node) × (ms ≡ ns ++ rest)

more_here : (ns : List Node) → More ns ns
more_here ns = ([], sym (append-nil ns))

more_trans : (ns ms ls : List Node) → More ns ms → More ms ls → More ns ls
more_trans ns ms ls f g = (f.0 ++ g.0, g.1 ∙ ap (λ (x : List Node). x ++ g.0) f.1 ∙ append_assoc ns f.0 g.0)

put_more : (ns : List Node) (d : Node) (b : Bool) → More ns (cond b ns (ns ++ d ∷ []))
put_more ns d true = more_here ns
put_more ns d false = (d ∷ [], refl)

exec_more : (sh : Bool) (o : Op) (st : State) → More st.nodes (exec sh o st).nodes
unfolding exec
exec_more sh o st = put_more st.nodes (op_node o st) (ltb (place sh st.nodes (op_node o st)) (length st.nodes))

execs_more : (sh : Bool) (c : List Op) (st : State) → More st.nodes (execs sh c st).nodes
execs_more sh [] st = more_here st.nodes
execs_more sh (o ∷ c) st = more_trans st.nodes (exec sh o st).nodes (execs sh c (exec sh o st)).nodes (exec_more sh o st) (execs_more sh c (exec sh o st))

module _ (sh : Bool) (limit : ℕ) (rows : List Row) (w : ℕ → Bool) (t : ℕ) (ns : List Node) (known : List Annotation) where
  -- a call that is granted
  pub record May : Type 0 where
    pub stands : t < length rows
    pub few : length known < most_annotations
    pub room : 2 * (row rows t).heavy ≤ limit - used ns

  pub may_alloc : May → alloc_ty_lem sh limit rows w t ns known ≡ granted (added known t (written sh rows w t ns))
  unfolding alloc_ty_lem
  may_alloc m =
      ap (λ b. cond b (cond (ltb (length known) most_annotations && leb (2 * (row rows t).heavy) (limit - used ns)) (granted (added known t (written sh rows w t ns))) (refused 10)) (refused 1)) (lt-ltb t (length rows) m.stands)
      ∙ ap (λ b. cond b (granted (added known t (written sh rows w t ns))) (refused 10)) (and_from (ltb (length known) most_annotations) (leb (2 * (row rows t).heavy) (limit - used ns)) (lt-ltb (length known) most_annotations m.few) (le-leb (2 * (row rows t).heavy) (limit - used ns) m.room))

  pub no_type : length rows ≤ t → alloc_ty_lem sh limit rows w t ns known ≡ refused 1
  unfolding alloc_ty_lem
  no_type l = ap (λ b. cond b (cond (ltb (length known) most_annotations && leb (2 * (row rows t).heavy) (limit - used ns)) (granted (added known t (written sh rows w t ns))) (refused 10)) (refused 1)) (le-ltb t (length rows) l)

  no_by : t < length rows → (ltb (length known) most_annotations && leb (2 * (row rows t).heavy) (limit - used ns)) ≡ false → alloc_ty_lem sh limit rows w t ns known ≡ refused 10
  unfolding alloc_ty_lem
  no_by l h =
      ap (λ b. cond b (cond (ltb (length known) most_annotations && leb (2 * (row rows t).heavy) (limit - used ns)) (granted (added known t (written sh rows w t ns))) (refused 10)) (refused 1)) (lt-ltb t (length rows) l)
      ∙ ap (λ b. cond b (granted (added known t (written sh rows w t ns))) (refused 10)) h

  pub no_place : t < length rows → most_annotations ≤ length known → alloc_ty_lem sh limit rows w t ns known ≡ refused 10
  no_place l h = no_by l (and_left _ _ (le-ltb (length known) most_annotations h))

  pub no_room : t < length rows → limit - used ns < 2 * (row rows t).heavy → alloc_ty_lem sh limit rows w t ns known ≡ refused 10
  no_room l h = no_by l (and_right _ _ (lt-leb (2 * (row rows t).heavy) (limit - used ns) h))

  granted_by : (e : Entered) (a b : Bool) → ltb t (length rows) ≡ a → (ltb (length known) most_annotations && leb (2 * (row rows t).heavy) (limit - used ns)) ≡ b → cond a (cond b (granted (added known t (written sh rows w t ns))) (refused 10)) (refused 1) ≡ granted e → May × (e ≡ added known t (written sh rows w t ns))
  granted_by e false b p q h = cc
  granted_by e true false p q h = cc
  granted_by e true true p q h =
      let s = and_parts (ltb (length known) most_annotations) (leb (2 * (row rows t).heavy) (limit - used ns)) q in
      (record { stands = ltb-true t (length rows) p; few = ltb-true (length known) most_annotations s.0; room = leb-true (2 * (row rows t).heavy) (limit - used ns) s.1 }, cc)

  pub was_granted : (e : Entered) → alloc_ty_lem sh limit rows w t ns known ≡ granted e → May × (e ≡ added known t (written sh rows w t ns))
  unfolding alloc_ty_lem
  was_granted e h = granted_by e (ltb t (length rows)) (ltb (length known) most_annotations && leb (2 * (row rows t).heavy) (limit - used ns)) refl refl h

-- what is written is right
pub right_by : (c : Custom) (sh : Bool) (limit : ℕ) (rows : List Row) (t : ℕ) (ns : List Node) → Open c → Sound rows → valid limit ns ≡ true → t < length rows → 2 * (row rows t).heavy ≤ limit - used ns → Right c rows t ns (written sh rows c.wild t ns).nodes (written sh rows c.wild t ns).root
right_by c sh limit rows t ns opens sound v l r =
    let f = fines_of rows sound in
    let w = c.wild in
    let room : used ns + 2 * (row rows t).heavy ≤ limit = omega (arith, valid_used limit ns v) in
    let runs = code_writes sh rows c.wild f t l ns in
    let more = execs_more sh (code rows c.wild t) (state ns []) in
    record {
      means = λ cells x. root_means rows c.wild sh limit ns t f l v room (world cells c) opens (written sh rows c.wild t ns).nodes (written sh rows c.wild t ns).root (sym runs) x;
      stand = ap (take (length ns)) (sym (ap (λ (s : State). s.nodes) runs) ∙ more.1) ∙ take_at ns more.0 (length ns) refl;
      within = root_within rows c.wild sh limit ns t f l v room (written sh rows c.wild t ns).nodes (written sh rows c.wild t ns).root (sym runs);
    }

pub right : CompiledTypesHaveTheirMembers
right c sh limit rows t ns known e opens sound v h =
    let g = was_granted sh limit rows c.wild t ns known e h in
    subst (λ (x : Entered). Right c rows t ns x.nodes (written sh rows c.wild t ns).root) (sym g.1) (right_by c sh limit rows t ns opens sound v g.0.stands g.0.room)
