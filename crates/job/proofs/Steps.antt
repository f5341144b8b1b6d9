-- A walk over records that looks for those with a tag. Assumes nothing.
use Rattle.std.proofs.Common.{◌≡◌, ℕ, Bool, true, false, cond, eqb, List, [], ◌∷◌, length, Some, None, Option, MatchOption, IfSome, sym, ap, ◌∙◌, subst, arith}
use Rattle.std.proofs.lemmas.Bool.{cond-true, cond-false}
use Rattle.std.specs.Fn.{CalledAt}
use Rattle.std.specs.List.{FoldsTo}
use Rattle.std.specs.Iterator.{FindsItem, YieldsThen, YieldsFirstBy, MakesProgress, item_count}
use denote.Param.Members.{Mut}
use denote.Ref.{Bor}
use Rattle.job_format.specs.Frames.{records}
use Rattle.job_format.proofs.Walks.{records_split, records_none}
use Rattle.job.specs.Walked.{Steps, numbered, numbered_of}
use Rattle.job.specs.declared.records.Record.{Record}
use Rattle.job.specs.declared.records.Records.{Records}

-- a list that gets shorter
pub progress : {S A B : Type 0} (can : S → Type 0) → ((u : S) → can u) → (v : A → B) (rest : S → List B) (s u : S) (r : Option A) → YieldsFirstBy v rest s r u → MakesProgress can (item_count rest) s r u
progress can ok v rest s u None h = record { on = λ _. tt; keeps = tt; rests = λ _. tt }
progress can ok v rest s u (Some x) h = record { on = λ _. (ok u, tt, omega (arith, ap length h)); keeps = ok u; rests = λ _. tt }

module _ (t : ℕ) where
  abbrev left : Records → List (ℕ × List ℕ)
  left w = numbered t w.number (records w.rest.now)

  ahead : (w : Records) (x : Record) (after : Records) → Steps w (Some x) after → left w ≡ cond (eqb x.tag t) ((w.number, x.body.now) ∷ left after) (left after)
  unfolding numbered
  ahead w x after st =
      ap (numbered t w.number) (records_split st.2) ∙ ap (λ n. cond (eqb x.tag t) ((w.number, x.body.now) ∷ numbered t n (records after.rest.now)) (numbered t n (records after.rest.now))) (sym st.1)

  pub step_here : (w : Records) (x : Record) (after : Records) → Steps w (Some x) after → eqb x.tag t ≡ true → left w ≡ numbered_of x ∷ left after
  step_here w x after st h = ahead w x after st ∙ cond-true (eqb x.tag t) _ _ h ∙ ap (λ n. (n, x.body.now) ∷ left after) (sym st.0)

  pub step_other : (w : Records) (x : Record) (after : Records) → Steps w (Some x) after → eqb x.tag t ≡ false → left w ≡ left after
  step_other w x after st h = ahead w x after st ∙ cond-false (eqb x.tag t) _ _ h

  pub step_none : (w after : Records) → Steps w None after → (left w ≡ []) × (left after ≡ [])
  unfolding numbered
  step_none w after st = (ap (numbered t w.number) (records_none w.rest.now st.0), ap (λ s. numbered t after.number (records s)) st.2 ∙ ap (numbered t after.number) (records_none w.rest.now st.0))

  module _ {F : Type 0} (g : Mut F (Bor Record × Unit {0}) Bool) (f : F) (h : (x : Record) (b : Bool) (q : F) → CalledAt g f x b q → (q ≡ f) × (b ≡ eqb x.tag t)) where
    last : (w after : Records) (r : Option Record) → Steps w r after → IfSome r (λ x. (q : F) × CalledAt g f x true q) → MatchOption r ((left w ≡ []) × (left after ≡ [])) (λ x. left w ≡ numbered_of x ∷ left after)
    last w after None st c = step_none w after st
    last w after (Some x) st c = step_here w x after st (sym (h x true c.0 c.1).1)

    by : (xs : List Record) (w after : Records) (r : Option Record) (q : F) → YieldsThen Steps w xs r after → FoldsTo (λ p x q. CalledAt g p x false q) f xs q → IfSome r (λ x. (u : F) × CalledAt g q x true u) → MatchOption r ((left w ≡ []) × (left after ≡ [])) (λ x. left w ≡ numbered_of x ∷ left after)
    by [] w after r q y c e =
        last w after r (subst (λ (u : Records). Steps u r after) (sym y.1) y.2) (subst (λ (p : F). IfSome r (λ x. (u : F) × CalledAt g p x true u)) (sym c) e)
    by (x ∷ xs) w after r q y c e =
        let k = h x false c.0 c.1 in
        let more = by xs y.1.0 after r q (y.0, y.1.2, y.2) (subst (λ (p : F). FoldsTo (λ p x q. CalledAt g p x false q) p xs q) k.0 c.2) e in
        subst (λ (l : List (ℕ × List ℕ)). MatchOption r ((l ≡ []) × (left after ≡ [])) (λ x. l ≡ numbered_of x ∷ left after)) (sym (step_other w x y.1.0 y.1.1 (sym k.1))) more

    pub finds : (w after : Records) (r : Option Record) → FindsItem Steps g w f r after → MatchOption r ((left w ≡ []) × (left after ≡ [])) (λ x. left w ≡ numbered_of x ∷ left after)
    finds w after r d = by d.0 w after r d.1 d.2 d.3 d.4
