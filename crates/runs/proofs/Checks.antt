-- What a check says in a set that calls led to from a blank one. Assumes nothing.
use Rattle.std.proofs.Common.{◌≡◌, ℕ, Bool, true, false, cond, ◌&&◌, ltb, List, [], ◌∷◌, length, sym, refl, subst, ap₂}
use Rattle.std.proofs.lemmas.Bool.{lt-ltb, ltb-true}
use Rattle.custom.specs.Customs.{Custom, Open}
use Rattle.membership.specs.Members.{member}
use Rattle.matcher.specs.Meaning.{accepts}
use Rattle.runs.specs.Acts.{Answer, says, refused}
use Rattle.runs.specs.States.{State, annotation_in, world_of, check_says}
use Rattle.runs.specs.Runs.{Step, Run, end, Reaches, Blank}
use Rattle.runs.proofs.Goods.{Good, act_leads, blank_good}

module _ (c : Custom) (shares : Bool) (opens : Open c) where
  good_end : (s : State) (xs : List Step) → Good c s → Run c shares s xs → Good c (end s xs)
  good_end s [] g r = g
  good_end s (x ∷ xs) g r = good_end x.after xs (subst (Good c) (sym r.0.leaves) (act_leads c shares opens s g x.call).good) r.1

  -- 2 for a missing annotation, then 3 for a missing value, else whether the value is a member
  abbrev pub member_says : State → ℕ → ℕ → Answer
  member_says s a v =
      cond (ltb a (length s.annotations))
      (cond (ltb v (length s.heap.cells)) (says (member s.rows (world_of c shares s) (annotation_in s a).ty v)) (refused 3))
      (refused 2)

  abbrev answered : State → ℕ → Bool → Answer
  answered s v b = cond (ltb v (length s.heap.cells)) (says b) (refused 3)

  good_says : (s : State) → Good c s → (a v : ℕ) → check_says c shares s a v ≡ member_says s a v
  good_says s g a v = go (ltb a (length s.annotations)) refl
    where
      go : (b : Bool) → ltb a (length s.annotations) ≡ b
          → cond (b && ltb (annotation_in s a).root (length s.nodes)) (answered s v (accepts (world_of c shares s) s.nodes (annotation_in s a).root v)) (refused 2)
          ≡ cond b (answered s v (member s.rows (world_of c shares s) (annotation_in s a).ty v)) (refused 2)
      go false e = refl
      go true e =
          let n = g.noted a (ltb-true a (length s.annotations) e) in
          ap₂ (λ (p q : Bool). cond p (answered s v q) (refused 2)) (lt-ltb (annotation_in s a).root (length s.nodes) n.rooted) (n.means s.heap.cells v)

  pub reached_says : (b s : State) → Blank b → Reaches c shares b s → (a v : ℕ) → check_says c shares s a v ≡ member_says s a v
  reached_says b s blank r a v = subst (λ (t : State). check_says c shares t a v ≡ member_says t a v) r.ends (good_says (end b r.steps) (good_end b r.steps (blank_good c b blank) r.run) a v)
