use Rattle.std.proofs.Common.{◌≡◌, ℕ, ◌+◌, ◌<◌, List, [], ◌∷◌, ◌++◌, length, rules}
use Rattle.matching.specs.Settings.{world_of}
use Rattle.matching.specs.Shapes.{kid_of, sub_of}
use Rattle.matching.specs.declared.frames.Frame.{Frame}
use Rattle.matching.proofs.Places.{stands_in}
use Rattle.matching.proofs.Tops.{above_length, sounds_pop}
use Rattle.matching.proofs.Turns.{here, frame, onward, ready_next, resume_stop, resume_none, resume_next}
use Rattle.matching.proofs.setting.Setting.resume.Goals as goal

pub returns-then-told-of_none : goal.returns-then-told-of_none
returns-then-told-of_none g c =
    resume_stop _ _ _ c.args.f c.args.told c.requires (rw c.of_none.ensures at c.if-told-of_none.true)

pub returns-in_default : goal.returns-in_default
returns-in_default g c = resume_none _ _ _ c.args.f c.args.told c.requires c.in_default.ensures.steps.1.0

pub place-kid-requires-clause-node : goal.place-kid-requires-clause-node
place-kid-requires-clause-node g c = stands_in _ _ _ (sounds_pop _ _ _ _ _ c.requires).sound.node

pub place-kid-requires-clause-kind : goal.place-kid-requires-clause-kind
place-kid-requires-clause-kind g c = (sounds_pop _ _ _ _ _ c.requires).sound.kind

pub place-kid-requires-clause-value : goal.place-kid-requires-clause-value
place-kid-requires-clause-value g c = (sounds_pop _ _ _ _ _ c.requires).sound.value

pub place-kid-requires-clause-place : goal.place-kid-requires-clause-place
place-kid-requires-clause-place g c =
    let step = c.in-Some.ensures.steps.1 in
    rw step.1 (here _ _ _ c.args.f c.args.told c.requires step.0)

pub push-requires : goal.push-requires
push-requires g c =
    let t = sounds_pop _ _ _ _ _ c.requires in
    let low : length c.args.stack.now.items < 64 = above_length _ _ t.under t.high in
    search rules

moved : (f : Frame) (gs fs : List Frame) (i j : ℕ) → gs ≡ fs ++ (frame f.question f.quantifier i j ∷ []) → i ≡ f.places.start + 1 → j ≡ f.places.end → gs ≡ fs ++ (onward f ∷ [])
moved f gs fs i j is next same = rw (next, same) at is

pub enter-requires : goal.enter-requires
enter-requires g c =
    let f = c.args.f in
    let W = world_of g.H.Heap.cells g.C.TyCustom.custom c.args.self.now in
    let ns = g.S.TypeMatcherAlloc.nodes c.args.self.now.store.now in
    let step = c.in-Some.ensures.steps in
    let pushed : c.push.new.self.items ≡ c.args.stack.now.items ++ (onward f ∷ []) = moved f _ _ _ _ c.push.ensures.items step.1.2 step.0 in
    let kid : c.place-kid.result.0 ≡ kid_of ns f.question.node f.places.start = rw step.1.1 at c.place-kid.ensures.kid in
    let sub : c.place-kid.result.1.0 ≡ sub_of W.cells ns f.question.node f.question.value.0 f.places.start = rw step.1.1 at c.place-kid.ensures.value in
    rw (pushed, kid, sub) (ready_next W ns c.args.stack.now.items f c.args.told c.requires step.1.0 (g.met.H.Heap.closed c.args.self.now.heap.now))

pub returns : goal.returns
returns g c =
    let f = c.args.f in
    let W = world_of g.H.Heap.cells g.C.TyCustom.custom c.args.self.now in
    let ns = g.S.TypeMatcherAlloc.nodes c.args.self.now.store.now in
    let step = c.in-Some.ensures.steps in
    let pushed : c.push.new.self.items ≡ c.args.stack.now.items ++ (onward f ∷ []) = moved f _ _ _ _ c.push.ensures.items step.1.2 step.0 in
    let kid : c.place-kid.result.0 ≡ kid_of ns f.question.node f.places.start = rw step.1.1 at c.place-kid.ensures.kid in
    let sub : c.place-kid.result.1.0 ≡ sub_of W.cells ns f.question.node f.question.value.0 f.places.start = rw step.1.1 at c.place-kid.ensures.value in
    resume_next W ns c.args.stack.now.items f c.args.told c.requires step.1.0 (rw c.of_none.ensures at c.if-told-of_none.false) _ _ (rw (pushed, kid, sub) at c.enter.ensures)
