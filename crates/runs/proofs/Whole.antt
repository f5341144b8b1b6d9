-- The law by places, of every run from a blank set. Assumes nothing.
use Rattle.std.proofs.Common.{◌≡◌, ℕ, zero, suc, ◌+◌, ◌<◌, ◌≤◌, Bool, true, false, cond, ◌&&◌, ◌||◌, ltb, List, [], ◌∷◌, length, sym, refl, ap, ◌∙◌, subst, ap₂, ⊎_elim, arith}
use Rattle.std.proofs.lemmas.Bool.{and_from, lt-ltb, false_from_ne_true, or_cases}
use Rattle.custom.specs.Customs.{Custom, Open}
use Rattle.custom.specs.Worlds.{World}
use Rattle.membership.specs.Rows.{Row, Grown, granted, refused, Outcome, union2, Keeps, Sound, merges, any_of, is_list, is_dict}
use Rattle.membership.specs.Members.{member}
use Rattle.membership.proofs.Joins.{keeps_row, keeps_length}
use Rattle.membership.proofs.Laws.{growing, unions, union_granted, kept_of}
use Rattle.membership.proofs.Kepts.{Fine, join_fine}
use Rattle.matcher.specs.Meaning.{accepts}
use Rattle.compiling.specs.Outcomes.{annotation}
use Rattle.compiling.specs.declared.annotation.Annotation.{Annotation}
use Rattle.runs.specs.Acts.{Act, union_of, Answer, type_is, says, refused as refused_by}
use Rattle.runs.specs.States.{State, annotation_in, world_of, OutcomeOf, type_answer, rows_after, check_says}
use Rattle.runs.specs.Runs.{Step, Run, state_at, Made}
use Rattle.runs.specs.Throughout.{SaysOf, Checks, Joins, Same, Throughout, EveryRunKeepsTheLaw}
use Rattle.runs.proofs.Fronts.{front_length, front_at}
use Rattle.runs.proofs.Goods.{Good, Onward, onward_here, onward_trans, Leads, act_leads, blank_good}
use Rattle.runs.proofs.Reach.{member_same}
use Rattle.runs.proofs.Unmoved.{unmoved}

module _ (c : Custom) (shares : Bool) (opens : Open c) where
  -- what a check says in a good set
  check_is : (s : State) → Good c s → (a v : ℕ) → a < length s.annotations → v < length s.heap.cells
      → check_says c shares s a v ≡ says (member s.rows (world_of c shares s) (annotation_in s a).ty v)
  check_is s g a v l m =
      let n = g.noted a l in
      let x = annotation_in s a in
      let p : (ltb a (length s.annotations) && ltb x.root (length s.nodes)) ≡ true = and_from _ _ (lt-ltb a (length s.annotations) l) (lt-ltb x.root (length s.nodes) n.rooted) in
      let yes_no : Answer = says (accepts (world_of c shares s) s.nodes x.root v) in
      ap (λ b. cond b (cond (ltb v (length s.heap.cells)) yes_no (refused_by 3)) (refused_by 2)) p
      ∙ ap (λ b. cond b yes_no (refused_by 3)) (lt-ltb v (length s.heap.cells) m)
      ∙ ap says (n.means s.heap.cells v)

  said : (s : State) (a v : ℕ) (b : Bool) → check_says c shares s a v ≡ says b → SaysOf c shares s a v b
  said s a v b e = record { is = record { answered = sym e; leaves = refl }; only = λ o t p. (p.answered ∙ e, p.leaves) }

  checks_hold : (s : State) → Good c s → (a v : ℕ) → a < length s.annotations → v < length s.heap.cells → Checks c shares s a v
  checks_hold s g a v l m = record {
    yes_to_members = λ h. said s a v true (check_is s g a v l m ∙ ap says h);
    no_to_others = λ h. said s a v false (check_is s g a v l m ∙ ap says (false_from_ne_true _ h));
  }

  -- a frozen value's types stay the same
  frozen_same : (s t : State) → Good c s → Good c t → Onward s t → (a v : ℕ) → a < length s.annotations → v < s.heap.frozen → Same c shares s t a v
  frozen_same s t g h o a v l m =
      let x = annotation_in s a in
      let n = g.noted a l in
      let same : annotation_in t a ≡ x = front_at s.annotations t.annotations (annotation 0 0) a o.annotations l in
      let there : a < length t.annotations = omega (arith, front_length s.annotations t.annotations o.annotations) in
      let now : v < length s.heap.cells = omega (arith, g.firm.within) in
      let then : v < length t.heap.cells = omega (arith, h.firm.within, o.heap.frozen) in
      let b : Bool = member s.rows (world_of c shares s) x.ty v in
      let e : member t.rows (world_of c shares t) (annotation_in t a).ty v ≡ member s.rows (world_of c shares s) x.ty v =
      ap (λ (y : Annotation). member t.rows (world_of c shares t) y.ty v) same
      ∙ growing s.rows t.rows g.sound o.rows (world_of c shares t) x.ty v n.named
      ∙ member_same c.says s.heap.frozen s.heap.cells t.heap.cells o.heap.kept g.firm.fixed s.rows x.ty v m in
      (member s.rows (world_of c shares s) x.ty v, said s a v _ (check_is s g a v l now), said t a v _ (check_is t h a v there then ∙ ap says e))

  -- a union, as the rows have it
  record Fit (rows : List Row) (t u n : ℕ) : Type 0 where
    left_in : t < length rows
    right_in : u < length rows
    whole_in : n < length rows
    from_left : (w : World) (v : ℕ) → member rows w t v ≡ true → member rows w n v ≡ true
    from_right : (w : World) (v : ℕ) → member rows w u v ≡ true → member rows w n v ≡ true
    no_other : merges rows t u ≡ false → (w : World) (v : ℕ) → member rows w n v ≡ true → (member rows w t v || member rows w u v) ≡ true

  merges_kept : (rows rows' : List Row) (t u : ℕ) → Keeps rows rows' → t < length rows → u < length rows → merges rows' t u ≡ merges rows t u
  merges_kept rows rows' t u k l m =
      ap₂ (λ (p q : Row). (any_of is_list p.alts && any_of is_list q.alts) || (any_of is_dict p.alts && any_of is_dict q.alts)) (keeps_row rows rows' t k l) (keeps_row rows rows' u k m)

  fit_granted : (rows : List Row) → Sound rows → (t u : ℕ) (g : Grown) → union2 rows t u ≡ granted g → Fit g.rows t u g.number
  fit_granted rows s t u g e =
      let r = union_granted rows t u g e in
      let f : Fine rows g = subst (Fine rows) r.is (join_fine (t + 1) rows t u (kept_of rows s) (omega arith) r.a_stands r.b_stands) in
      let m = unions rows t u g s e in
      let longer = keeps_length rows g.rows f.keeps in
      let same : (w : World) (k v : ℕ) → k < length rows → member g.rows w k v ≡ member rows w k v = λ w k v l. growing rows g.rows s f.keeps w k v l in
      record {
        left_in = omega (arith, longer, r.a_stands);
        right_in = omega (arith, longer, r.b_stands);
        whole_in = f.within;
        from_left = λ w v h. m.left w v (sym (same w t v r.a_stands) ∙ h);
        from_right = λ w v h. m.right w v (sym (same w u v r.b_stands) ∙ h);
        no_other = λ q w v h. ap₂ ◌||◌ (same w t v r.a_stands) (same w u v r.b_stands) ∙ m.no_other (sym (merges_kept rows g.rows t u f.keeps r.a_stands r.b_stands) ∙ q) w v h;
      }

  fit_new : (rows : List Row) → Sound rows → (t u n : ℕ) (o : Outcome) → union2 rows t u ≡ o → type_answer o ≡ type_is n → Fit (rows_after rows o) t u n
  fit_new rows s t u n (refused k) e a = cc
  fit_new rows s t u n (granted g) e a = let q : g.number ≡ n = cc in subst (λ k. Fit g.rows t u k) q (fit_granted rows s t u g e)

  fit_more : (rows rows' : List Row) → Sound rows → Keeps rows rows' → (t u n : ℕ) → Fit rows t u n → Fit rows' t u n
  fit_more rows rows' s k t u n f =
      let longer = keeps_length rows rows' k in
      let same : (w : World) (i v : ℕ) → i < length rows → member rows' w i v ≡ member rows w i v = λ w i v l. growing rows rows' s k w i v l in
      record {
        left_in = omega (arith, longer, f.left_in);
        right_in = omega (arith, longer, f.right_in);
        whole_in = omega (arith, longer, f.whole_in);
        from_left = λ w v h. same w n v f.whole_in ∙ f.from_left w v (sym (same w t v f.left_in) ∙ h);
        from_right = λ w v h. same w n v f.whole_in ∙ f.from_right w v (sym (same w u v f.right_in) ∙ h);
        no_other = λ q w v h. ap₂ ◌||◌ (same w t v f.left_in) (same w u v f.right_in) ∙ f.no_other (sym (merges_kept rows rows' t u k f.left_in f.right_in) ∙ q) w v (sym (same w n v f.whole_in) ∙ h);
      }

  fit_joins : (s : State) (t u n : ℕ) → Fit s.rows t u n → Joins c shares s t u n
  fit_joins s t u n f = record {
    either = λ v. ⊎_elim (f.from_left (world_of c shares s) v) (f.from_right (world_of c shares s) v);
    no_other = λ q v h. or_cases (member s.rows (world_of c shares s) t v) (member s.rows (world_of c shares s) u v) (f.no_other q (world_of c shares s) v h);
  }

  -- the places of a run
  step_leads : (s t : State) (a : Act) (o : Answer) → Good c s → OutcomeOf c shares s a o t → Leads c s t
  step_leads s t a o g p = subst (Leads c s) (sym p.leaves) (act_leads c shares opens s g a)

  good_at : (s : State) (xs : List Step) → Good c s → Run c shares s xs → (i : ℕ) → i ≤ length xs → Good c (state_at s xs i)
  good_at s [] g r i l = g
  good_at s (x ∷ xs) g r zero l = g
  good_at s (x ∷ xs) g r (suc i) l = good_at x.after xs (step_leads s x.after x.call x.outcome g r.0).good r.1 i (omega arith)

  onward_from : (s : State) (xs : List Step) → Good c s → Run c shares s xs → (j : ℕ) → j ≤ length xs → Onward s (state_at s xs j)
  onward_from s [] g r j l = onward_here s
  onward_from s (x ∷ xs) g r zero l = onward_here s
  onward_from s (x ∷ xs) g r (suc j) l =
      let p = step_leads s x.after x.call x.outcome g r.0 in
      onward_trans s x.after (state_at x.after xs j) p.onward (onward_from x.after xs p.good r.1 j (omega arith))

  onward_at : (s : State) (xs : List Step) → Good c s → Run c shares s xs → (i j : ℕ) → i ≤ j → j ≤ length xs → Onward (state_at s xs i) (state_at s xs j)
  onward_at s [] g r i j l m = onward_here s
  onward_at s (x ∷ xs) g r zero j l m = onward_from s (x ∷ xs) g r j m
  onward_at s (x ∷ xs) g r (suc i) zero l m = absurd (omega arith)
  onward_at s (x ∷ xs) g r (suc i) (suc j) l m = onward_at x.after xs (step_leads s x.after x.call x.outcome g r.0).good r.1 i j (omega arith) (omega arith)

  first_of : (s : State) (xs : List Step) → s ≡ state_at s xs 0
  first_of s [] = refl
  first_of s (x ∷ xs) = refl

  refused_at : (s : State) (xs : List Step) → Run c shares s xs → (k n : ℕ) (a : Act) → Made xs k a (refused_by n) → state_at s xs (suc k) ≡ state_at s xs k
  refused_at s [] r k n a m = absurd m
  refused_at s (x ∷ xs) r zero n a m = sym (first_of x.after xs) ∙ r.0.leaves ∙ unmoved c shares s x.call n (sym r.0.answered ∙ m.1)
  refused_at s (x ∷ xs) r (suc k) n a m = refused_at x.after xs r.1 k n a m

  -- right after a granted union
  fit_at : (s : State) (xs : List Step) → Good c s → Run c shares s xs → (k t u n : ℕ) → Made xs k (union_of t u) (type_is n) → Fit (state_at s xs (suc k)).rows t u n
  fit_at s [] g r k t u n m = absurd m
  fit_at s (x ∷ xs) g r zero t u n m =
      let p : OutcomeOf c shares s (union_of t u) (type_is n) x.after = subst (λ o. OutcomeOf c shares s (union_of t u) o x.after) m.1 (subst (λ a. OutcomeOf c shares s a x.outcome x.after) m.0 r.0) in
      let f = fit_new s.rows g.sound t u n (union2 s.rows t u) refl (sym p.answered) in
      subst (λ (q : State). Fit q.rows t u n) (first_of x.after xs) (subst (λ (q : State). Fit q.rows t u n) (sym p.leaves) f)
  fit_at s (x ∷ xs) g r (suc k) t u n m = fit_at x.after xs (step_leads s x.after x.call x.outcome g r.0).good r.1 k t u n m

-- the law, from any good set
pub throughout_good : (c : Custom) (shares : Bool) (s : State) (xs : List Step) → Open c → Good c s → Run c shares s xs → Throughout c shares s xs
throughout_good c shares s xs opens g r =
    record {
      refusals = λ k n a m. refused_at c shares opens s xs r k n a m;
      checks = λ i a v l m n. checks_hold c shares opens (state_at s xs i) (good_at c shares opens s xs g r i l) a v m n;
      unions = λ k i t u n m l h.
          let o = onward_at c shares opens s xs g r (suc k) i l h in
          let q = good_at c shares opens s xs g r (suc k) (omega arith) in
          fit_joins c shares opens (state_at s xs i) t u n (fit_more c shares opens _ _ q.sound o.rows t u n (fit_at c shares opens s xs g r k t u n m));
      frozen = λ i j a v l h m n.
          frozen_same c shares opens (state_at s xs i) (state_at s xs j) (good_at c shares opens s xs g r i (omega arith)) (good_at c shares opens s xs g r j h) (onward_at c shares opens s xs g r i j l h) a v m n;
    }

pub throughout : EveryRunKeepsTheLaw
throughout c shares s xs opens b r = throughout_good c shares s xs opens (blank_good c s b) r
