-- What running an annotation's root answers is what a check says. Assumes nothing.
use Rattle.std.proofs.Common.{◌≡◌, ℕ, Bool, true, false, cond, ◌&&◌, ltb, length, Ok, Err, Result, refl, ap, ◌∙◌}
use Rattle.values.specs.declared.refusal.Refusal.{Refusal}
use Rattle.values.specs.declared.refusal.Refusal.TheVariants.{NoNode, NoValue}
use Rattle.custom.specs.Customs.{Custom}
use Rattle.custom.specs.Worlds.{world}
use Rattle.matcher.specs.Meaning.{accepts}
use Rattle.matching.specs.Verdicts.{verdict}
use Rattle.type_compiled.specs.Compiled.{annotation_says}
use Rattle.runs.specs.Acts.{says, refused, check_told}
use Rattle.runs.specs.States.{State, annotation_in, check_says}

told_by : (a b d x : Bool) → a ≡ true → check_told (cond b (cond d (Ok x) (Err NoValue)) (Err NoNode)) ≡ cond (a && b) (cond d (says x) (refused 3)) (refused 2)
told_by true true true x e = refl
told_by true true false x e = refl
told_by true false d x e = refl
told_by false b d x e = cc

found : (b : Bool) (n m : ℕ) → ◌≡◌ {A = Result ℕ Refusal} (Ok n) (cond b (Ok m) (Err NoNode)) → (b ≡ true) × (n ≡ m)
found true n m e = (refl, cc)
found false n m e = cc

pub check_answers : (c : Custom) (shares : Bool) (s : State) (a v root : ℕ) (r : Result Bool Refusal)
    → Ok root ≡ annotation_says s.annotations a (λ x. x.root) → r ≡ verdict (world s.heap.cells c) s.nodes root v → check_told r ≡ check_says c shares s a v
check_answers c shares s a v root r is ran =
    let p = found (ltb a (length s.annotations)) root (annotation_in s a).root is in
    let top = (annotation_in s a).root in
    ap check_told (ran ∙ ap (λ n. verdict (world s.heap.cells c) s.nodes n v) p.1)
    ∙ told_by (ltb a (length s.annotations)) (ltb top (length s.nodes)) (ltb v (length s.heap.cells)) (accepts (world s.heap.cells c) s.nodes top v) p.0
