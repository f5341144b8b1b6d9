use Rattle.std.proofs.Common.{◌≡◌, ◌<◌, true, false, List, [], ◌∷◌, length, refl, sym, ap, ◌∙◌, arith}
use Rattle.std.proofs.lemmas.Bool.Decides.{nat_tests}
use Rattle.custom.specs.Worlds.{world}
use Rattle.matcher.specs.Meaning.{accepts}
use Rattle.matching.specs.Stacks.{unwind}
use Rattle.matching.proofs.Turns.{ready_first}
use Rattle.matching.proofs.running.run.Goals as goal

none_left : {X : Type 0} (xs : List X) → (0 < length xs → false ≡ true) → xs ≡ []
none_left [] h = refl
none_left (x ∷ xs) h = cc (h (omega arith))

pub enter-answer-requires : goal.enter-answer-requires
enter-answer-requires g c =
    let node : c.args.root < length (g.S.TypeMatcherAlloc.nodes c.args.store.now) = omega arith in
    let value : c.args.value.0 < length (g.H.Heap.cells c.args.heap.now) = omega arith in
    rw c.new-stack.ensures (ready_first _ _ _ _ _ (g.met.S.TypeMatcherAlloc.granted c.args.store.now) node value)

pub returns : goal.returns
unfolding unwind
returns g c =
    let W = world (g.H.Heap.cells c.args.heap.now) (g.C.TyCustom.custom c.args.customs.now) in
    let ns = g.S.TypeMatcherAlloc.nodes c.args.store.now in
    let ended : c.loop-f.stack.items ≡ [] = none_left _ c.in_default.ensures.variant.1 in
    let entered = rw c.new-stack.ensures at c.enter-answer.ensures in
    let answer : c.loop-f.answer ≡ accepts W ns c.args.root c.args.value.0 =
    ap (λ fs. unwind W ns fs c.loop-f.answer) (sym ended) ∙ c.loop-f.invariant.1 ∙ entered.same in
    let node : c.args.root < length ns = omega arith in
    let value : c.args.value.0 < length (g.H.Heap.cells c.args.heap.now) = omega arith in
    grind (arith, nat_tests)
