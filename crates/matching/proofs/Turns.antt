-- What one turn of a run keeps. Assumes nothing.
use Rattle.std.proofs.Common.{◌≡◌, ℕ, zero, suc, ◌+◌, ◌-◌, ◌<◌, Bool, true, false, cond, not, List, [], ◌∷◌, ◌++◌, length, get_or, sym, refl, ap, ◌∙◌, subst, arith}
use mathlib.Core.Bool.{beq}
use Rattle.values.specs.Cells.{Cell, Closed, cell_at}
use Rattle.custom.specs.Worlds.{World}
use Rattle.matcher.specs.Nodes.{Node, node_at_lem, valid, deepest}
use Rattle.matcher.specs.Meaning.{accepts}
use Rattle.matcher.specs.declared.kind.Kind.{Kind}
use Rattle.matching.specs.Shapes.{shape, shape_of, settle, kid_by_lem, inside, kid_of, sub_of, none_of, join, holds}
use Rattle.matching.specs.Stacks.{Stands, Place, Sound, Sounds, above, unwind, after, toll, turns, burden, weigh, place_says, costs, left, Ready, Entered, Resumed}
use Rattle.matching.specs.declared.frames.Frame.{Frame}
use Rattle.matching.specs.declared.frames.Question.{Question}
use Rattle.matching.specs.declared.asked.Shape.{Shape}
use Rattle.matching.specs.declared.asked.Shape.TheVariants.{Given, Asks}
use Rattle.matching.specs.declared.asked.Quantifier.{Quantifier}
use Rattle.matching.specs.declared.asked.Quantifier.TheVariants.{Every, Either}
use Rattle.matching.proofs.Valids.{facts, stands}
use Rattle.matching.proofs.Readings.{accepts_by_places}
use Rattle.matching.proofs.Tops.{above_push, unwind_push, load_push, sounds_push, sounds_pop}
use Rattle.matching.proofs.Places.{many, places, depth_of, stands_in, kid_stands, sub_stands}

abbrev pub frame : Question → Quantifier → ℕ → ℕ → Frame
frame q r i j = record { question = q; quantifier = r; places = record { start = i; end = j } }

-- the frame of a question that was just asked
abbrev pub fresh : Question → Quantifier → ℕ → Frame
fresh q r m = frame q r 0 m

-- the frame one place on
abbrev pub onward : Frame → Frame
onward f = frame f.question f.quantifier (f.places.start + 1) f.places.end

-- what is read by the kind that a question holds
pub shape_is : (W : World) (ns : List Node) (n v : ℕ) (k : Kind) → k ≡ (node_at_lem ns n).kind → (s : Shape) → s ≡ shape_of k (node_at_lem ns n) (cell_at W.cells v) W.says → shape W ns n v ≡ s
unfolding shape
shape_is W ns n v k is s h = sym (h ∙ ap (λ x. shape_of x (node_at_lem ns n) (cell_at W.cells v) W.says) is)

module _ (cs : List Cell) (ns : List Node) (n v : ℕ) (k : Kind) (is : k ≡ (node_at_lem ns n).kind) (i : ℕ) where
  pub kid_is : kid_of ns n i ≡ get_or (node_at_lem ns n).kids (kid_by_lem k i) 0
  unfolding kid_of
  kid_is = rw is refl

  pub sub_is : sub_of cs ns n v i ≡ cond (inside k) (get_or (cell_at cs v).parts i 0) v
  unfolding sub_of
  sub_is = rw is refl

  pub place_kid : Place cs ns n v i → kid_by_lem k i < length (node_at_lem ns n).kids
  place_kid p = rw is p.kid

  pub place_part : Place cs ns n v i → inside k ≡ true → i < length (cell_at cs v).parts
  place_part p = rw is p.part

join_whole : (q : Quantifier) (c : Bool) → join q (none_of q) c ≡ c
join_whole Every c = refl
join_whole Either c = refl

join_none : (q : Quantifier) (b : Bool) → join q b (none_of q) ≡ b
join_none Every true = refl
join_none Every false = refl
join_none Either true = refl
join_none Either false = refl

join_stop : (q : Quantifier) (b c : Bool) → not (beq b (none_of q)) ≡ true → join q b c ≡ b
join_stop Every true c decides = cc
join_stop Every false c decides = refl
join_stop Either true c decides = refl
join_stop Either false c decides = cc

join_more : (q : Quantifier) (b c : Bool) → not (beq b (none_of q)) ≡ false → join q b c ≡ c
join_more Every true c goes = refl
join_more Every false c goes = cc
join_more Either true c goes = cc
join_more Either false c goes = refl

holds_more : (q : Quantifier) (p : ℕ → Bool) (i m : ℕ) → 0 < m → holds q p i m ≡ join q (p i) (holds q p (i + 1) (m - 1))
unfolding holds
holds_more q p i zero h = absurd (omega arith)
holds_more q p i (suc m) h = let e : m ≡ suc m - 1 = omega arith in ap (λ x. join q (p i) (holds q p (i + 1) x)) e

turns_more : (g : ℕ → ℕ) (i m : ℕ) → 0 < m → turns g i m ≡ 1 + g i + turns g (i + 1) (m - 1)
unfolding turns
turns_more g i zero h = absurd (omega arith)
turns_more g i (suc m) h = let e : m ≡ suc m - 1 = omega arith in ap (λ x. 1 + g i + turns g (i + 1) x) e

module _ (W : World) (limit : ℕ) (ns : List Node) (ok : valid limit ns ≡ true) (fs : List Frame) (q : Question) (ready : Ready W ns fs q.node q.value.0) where
  here_in : q.node < length ns
  here_in = stands_in ns (above deepest fs) q.node ready.node

  accepts_by : (s : Shape) → shape W ns q.node q.value.0 ≡ s → accepts W ns q.node q.value.0 ≡ settle s (λ i. accepts W ns (kid_of ns q.node i) (sub_of W.cells ns q.node q.value.0 i))
  accepts_by s h = accepts_by_places W limit ns ok q.node q.value.0 here_in ∙ ap (λ x. settle x (λ i. accepts W ns (kid_of ns q.node i) (sub_of W.cells ns q.node q.value.0 i))) h

  weigh_by : (d : ℕ) (s : Shape) → shape W ns q.node q.value.0 ≡ s → weigh W ns (suc d) q.node q.value.0 ≡ burden s (λ i. weigh W ns d (kid_of ns q.node i) (sub_of W.cells ns q.node q.value.0 i))
  unfolding weigh
  weigh_by d s h = ap (λ x. burden x (λ i. weigh W ns d (kid_of ns q.node i) (sub_of W.cells ns q.node q.value.0 i))) h

  pub enter_given : (b : Bool) → shape W ns q.node q.value.0 ≡ Given b → Entered W ns fs q.node q.value.0 fs b
  enter_given b h = record { sounds = ready.sounds; same = ap (unwind W ns fs) (sym (accepts_by (Given b) h)); falls = omega arith }

  module _ (is : q.kind ≡ (node_at_lem ns q.node).kind) (r : Quantifier) (m : ℕ) (asks : shape W ns q.node q.value.0 ≡ Asks r m) where
    whole : left (fresh q r m) ≡ m
    whole = omega arith

    after_fresh : after W ns (fresh q r m) (none_of r) ≡ accepts W ns q.node q.value.0
    unfolding after
    after_fresh = join_whole r _ ∙ ap (holds r (place_says W ns (fresh q r m)) 0) whole ∙ sym (accepts_by (Asks r m) asks)

    toll_fresh : (d : ℕ) → toll W ns d (fresh q r m) ≡ weigh W ns (suc d) q.node q.value.0
    unfolding toll
    toll_fresh d = ap (λ x. 1 + turns (costs W ns d (fresh q r m)) 0 x) whole ∙ sym (weigh_by d (Asks r m) asks)

    pub enter_fresh : Entered W ns fs q.node q.value.0 (fs ++ (fresh q r m ∷ [])) (none_of r)
    enter_fresh =
        let d = depth_of ns (above deepest fs) q.node ready.node in
        let sound : Sound W ns d.0 (fresh q r m) = record {
          value = ready.value;
          node = subst (λ x. Stands ns x q.node) d.1 ready.node;
          kind = is;
          places = λ i less. places W ns q.node q.value.0 (facts W limit ns ok q.node here_in).form i (omega (arith, ap many asks));
        } in
        record {
          sounds = sounds_push W ns deepest fs (fresh q r m) d.0 d.1 ready.sounds sound;
          same = unwind_push W ns fs (fresh q r m) (none_of r) ∙ ap (unwind W ns fs) after_fresh;
          falls = omega (arith, load_push W ns deepest fs (fresh q r m) d.0 d.1, toll_fresh d.0, ap (λ x. weigh W ns x q.node q.value.0) d.1);
        }

module _ (W : World) (ns : List Node) (f : Frame) where
  -- a frame that is told what decides it
  after_stop : (b : Bool) → not (beq b (none_of f.quantifier)) ≡ true → after W ns f b ≡ b
  unfolding after
  after_stop b decides = join_stop f.quantifier b _ decides

  -- a frame with no place left
  after_none : (b : Bool) → left f ≡ 0 → after W ns f b ≡ b
  unfolding after holds
  after_none b none = ap (λ m. join f.quantifier b (holds f.quantifier (place_says W ns f) f.places.start m)) none ∙ join_none f.quantifier b

  toll_some : (d : ℕ) → 0 < toll W ns d f
  unfolding toll
  toll_some d = omega arith

  module _ (more : 0 < left f) where
    one_less : left f - 1 ≡ left (onward f)
    one_less = omega arith

    -- a frame that goes on
    after_more : (b : Bool) → not (beq b (none_of f.quantifier)) ≡ false → after W ns f b ≡ after W ns (onward f) (place_says W ns f f.places.start)
    unfolding after
    after_more b same =
        join_more f.quantifier b _ same
        ∙ holds_more f.quantifier (place_says W ns f) f.places.start (left f) more
        ∙ ap (λ m. join f.quantifier (place_says W ns f f.places.start) (holds f.quantifier (place_says W ns f) (f.places.start + 1) m)) one_less

    toll_more : (d : ℕ) → toll W ns d f ≡ 1 + costs W ns d f f.places.start + toll W ns d (onward f)
    unfolding toll
    toll_more d = omega (arith, turns_more (costs W ns d f) f.places.start (left f) more, ap (turns (costs W ns d f) (f.places.start + 1)) one_less)

module _ (W : World) (ns : List Node) (fs : List Frame) (f : Frame) (b : Bool) (sounds : Sounds W ns deepest (fs ++ (f ∷ []))) where
  finish : after W ns f b ≡ b → Resumed W ns (fs ++ (f ∷ [])) b fs b
  finish done =
      let t = sounds_pop W ns deepest fs f sounds in
      record {
        sounds = t.rest;
        same = sym (unwind_push W ns fs f b ∙ ap (unwind W ns fs) done);
        falls = omega (arith, load_push W ns deepest fs f t.under t.high, toll_some W ns f t.under);
      }

  pub resume_stop : not (beq b (none_of f.quantifier)) ≡ true → Resumed W ns (fs ++ (f ∷ [])) b fs b
  resume_stop decides = finish (after_stop W ns f b decides)

  pub resume_none : left f ≡ 0 → Resumed W ns (fs ++ (f ∷ [])) b fs b
  resume_none none = finish (after_none W ns f b none)

  module _ (more : 0 < left f) where
    pub here : Place W.cells ns f.question.node f.question.value.0 f.places.start
    here = (sounds_pop W ns deepest fs f sounds).sound.places f.places.start (omega arith)

    pushed : Sounds W ns deepest (fs ++ (onward f ∷ []))
    pushed =
        let t = sounds_pop W ns deepest fs f sounds in
        let s = t.sound in
        sounds_push W ns deepest fs (onward f) t.under t.high t.rest (record { value = s.value; node = s.node; kind = s.kind; places = s.places })

    pub ready_next : Closed W.cells → Ready W ns (fs ++ (onward f ∷ [])) (kid_of ns f.question.node f.places.start) (sub_of W.cells ns f.question.node f.question.value.0 f.places.start)
    ready_next closed =
        let t = sounds_pop W ns deepest fs f sounds in
        let s = t.sound in
        let high = above_push deepest fs (onward f) t.under t.high in
        record {
          node = subst (λ x. Stands ns x (kid_of ns f.question.node f.places.start)) (sym high) (kid_stands W.cells ns t.under f.question.node f.question.value.0 f.places.start s.node here);
          value = sub_stands W.cells ns f.question.node f.question.value.0 f.places.start closed s.value here;
          sounds = pushed;
        }

    pub resume_next : not (beq b (none_of f.quantifier)) ≡ false → (gs : List Frame) (r : Bool) → Entered W ns (fs ++ (onward f ∷ [])) (kid_of ns f.question.node f.places.start) (sub_of W.cells ns f.question.node f.question.value.0 f.places.start) gs r → Resumed W ns (fs ++ (f ∷ [])) b gs r
    resume_next same gs r entered =
        let t = sounds_pop W ns deepest fs f sounds in
        let kid = kid_of ns f.question.node f.places.start in
        let sub = sub_of W.cells ns f.question.node f.question.value.0 f.places.start in
        let high = above_push deepest fs (onward f) t.under t.high in
        record {
          sounds = entered.sounds;
          same =
              entered.same
              ∙ unwind_push W ns fs (onward f) (accepts W ns kid sub)
              ∙ ap (unwind W ns fs) (sym (after_more W ns f more b same))
              ∙ sym (unwind_push W ns fs f b);
          falls = omega (arith, entered.falls, ap (λ x. weigh W ns x kid sub) high, load_push W ns deepest fs (onward f) t.under t.high, load_push W ns deepest fs f t.under t.high, toll_more W ns f more t.under);
        }

-- the first node, with no frame
pub ready_first : (W : World) (limit : ℕ) (ns : List Node) (n v : ℕ) → valid limit ns ≡ true → n < length ns → v < length W.cells → Ready W ns [] n v
unfolding above Sounds
ready_first W limit ns n v ok l value = record { node = stands W limit ns ok n l; value = value; sounds = tt }
