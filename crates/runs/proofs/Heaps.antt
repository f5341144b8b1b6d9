-- What the calls on a live heap keep. Assumes nothing.
use Rattle.std.proofs.Common.{◌≡◌, ℕ, zero, suc, ◌+◌, ◌<◌, ◌≤◌, Bool, true, false, cond, ◌&&◌, ltb, ◌≢◌, ◌⊎◌, List, [], ◌∷◌, ◌++◌, length, get_or, set, is_ok, Ok, Err, sym, refl, ap, ◌∙◌, subst, inl, inr, arith, length-append, length-set, get_or-set_other, get_or-set_same}
use Rattle.std.proofs.lemmas.List.{get_or_append_left, get_or_push}
use Rattle.std.proofs.lemmas.Bool.{and_parts, cases_eq, ltb-true, ltb-false}
use Rattle.values.specs.Cells.{Cell, cell_at, no_cell, Closed, each, well_formed}
use Rattle.values.specs.Lives.{Live, has_room_lem, new_leaves, added, changed, settable, put_leaves, put, frozen_all}
use Rattle.values.specs.Values.{value}
use Rattle.values.specs.declared.refusal.Refusal.{Refusal}
use Rattle.values.specs.declared.refusal.Refusal.TheVariants.{NoValue, BadForm, Frozen, NoItem, NoRoom}
use Rattle.values.specs.declared.value.Value.{Value}
use Rattle.runs.proofs.Reach.{ClosedBelow}

-- parts stand, and those of frozen cells are frozen
pub record Firm (h : Live) : Type 0 where
  pub closed : Closed h.cells
  pub within : h.frozen ≤ length h.cells
  pub fixed : ClosedBelow h.frozen h.cells

-- what later calls leave as it was
pub record Later (h k : Live) : Type 0 where
  pub frozen : h.frozen ≤ k.frozen
  pub kept : (v : ℕ) → v < h.frozen → cell_at k.cells v ≡ cell_at h.cells v

pub later_here : (h : Live) → Later h h
later_here h = record { frozen = omega arith; kept = λ v l. refl }

pub later_trans : (h k l : Live) → Later h k → Later k l → Later h l
later_trans h k l p q = record { frozen = omega (arith, p.frozen, q.frozen); kept = λ v m. q.kept v (omega (arith, p.frozen)) ∙ p.kept v m }

pub record Goes (h k : Live) : Type 0 where
  pub firm : Firm k
  pub later : Later h k

pub goes_here : (h : Live) → Firm h → Goes h h
goes_here h f = record { firm = f; later = later_here h }

split : (a b : ℕ) → a < suc b → (a < b) ⊎ (a ≡ b)
split a b h = grind arith

-- every part is below n
abbrev Parts : ℕ → List ℕ → Type 0
Parts n ps = (i : ℕ) → i < length ps → get_or ps i 0 < n

parts_at : (n : ℕ) (ps : List ℕ) → each (λ p. ltb p n) ps ≡ true → Parts n ps
unfolding each
parts_at n [] e i h = absurd (omega arith)
parts_at n (p ∷ ps) e zero h = ltb-true p n (and_parts (ltb p n) (each (λ q. ltb q n) ps) e).0
parts_at n (p ∷ ps) e (suc i) h = parts_at n ps (and_parts (ltb p n) (each (λ q. ltb q n) ps) e).1 i (omega arith)

module _ (h : Live) (firm : Firm h) where
  goes_added : (c : Cell) → Parts (length h.cells) c.parts → Goes h (added h c)
  goes_added c ps = record {
    firm = record {
      closed = λ v i l m. go v i (split v (length h.cells) (omega (arith, long))) m;
      within = omega (arith, long, firm.within);
      fixed = λ v i l m.
          let o : cell_at (h.cells ++ (c ∷ [])) v ≡ cell_at h.cells v = old v (omega (arith, firm.within)) in
          rw o (firm.fixed v i l (subst (λ (x : Cell). i < length x.parts) o m));
    };
    later = record { frozen = omega arith; kept = λ v l. old v (omega (arith, firm.within)) };
  }
    where
      long : length (h.cells ++ (c ∷ [])) ≡ length h.cells + 1
      long = length-append h.cells (c ∷ [])

      old : (v : ℕ) → v < length h.cells → cell_at (h.cells ++ (c ∷ [])) v ≡ cell_at h.cells v
      old v l = get_or_append_left h.cells (c ∷ []) no_cell v l

      go : (v i : ℕ) → (v < length h.cells) ⊎ (v ≡ length h.cells) → i < length (cell_at (h.cells ++ (c ∷ [])) v).parts → get_or (cell_at (h.cells ++ (c ∷ [])) v).parts i 0 < length (h.cells ++ (c ∷ []))
      go v i (inl l) m =
          let o : cell_at (h.cells ++ (c ∷ [])) v ≡ cell_at h.cells v = old v l in
          let p : get_or (cell_at h.cells v).parts i 0 < length h.cells = firm.closed v i l (subst (λ (x : Cell). i < length x.parts) o m) in
          rw o (omega (arith, long, p))
      go v i (inr l) m =
          let o : cell_at (h.cells ++ (c ∷ [])) v ≡ c = get_or_push h.cells c no_cell v (sym l) in
          let p : get_or c.parts i 0 < length h.cells = ps i (subst (λ (x : Cell). i < length x.parts) o m) in
          rw o (omega (arith, long, p))

  pub goes_new : (c : Cell) → Goes h (new_leaves h c)
  goes_new c = go (each (λ p. ltb p (length h.cells)) c.parts) (well_formed c) (has_room_lem h (length c.parts)) refl
    where
      go : (a b d : Bool) → each (λ p. ltb p (length h.cells)) c.parts ≡ a
          → Goes h (cond (is_ok {T = Value} {E = Refusal} (cond a (cond b (cond d (Ok (value (length h.cells))) (Err NoRoom)) (Err BadForm)) (Err NoValue))) (added h c) h)
      go true true true e = goes_added c (parts_at (length h.cells) c.parts e)
      go true true false e = goes_here h firm
      go true false d e = goes_here h firm
      go false b d e = goes_here h firm

  goes_put' : (v i x : ℕ) → v < length h.cells → h.frozen ≤ v → x < length h.cells → Goes h (put h v i x)
  goes_put' v j x in' free standing = record {
    firm = record {
      closed = λ w i l m. go w i (cases_eq w v) (omega (arith, long)) m;
      within = omega (arith, long, firm.within);
      fixed = λ w i l m.
          let ne : w ≢ v = omega arith in
          let o : cell_at (put h v j x).cells w ≡ cell_at h.cells w = get_or-set_other h.cells v w (changed (cell_at h.cells v) j x) no_cell ne in
          rw o (firm.fixed w i l (subst (λ (y : Cell). i < length y.parts) o m));
    };
    later = record { frozen = omega arith; kept = λ w l. let ne : w ≢ v = omega arith in get_or-set_other h.cells v w (changed (cell_at h.cells v) j x) no_cell ne };
  }
    where
      c : Cell
      c = changed (cell_at h.cells v) j x

      long : length (set h.cells v (changed (cell_at h.cells v) j x)) ≡ length h.cells
      long = length-set h.cells v (changed (cell_at h.cells v) j x)

      set_below : (i : ℕ) → i < length (cell_at h.cells v).parts → (i ≡ j) ⊎ (i ≢ j) → get_or (set (cell_at h.cells v).parts j x) i 0 < length h.cells
      set_below i l (inl e) = rw e (rw (get_or-set_same (cell_at h.cells v).parts j x 0 (subst (λ k. k < length (cell_at h.cells v).parts) e l)) standing)
      set_below i l (inr ne) = rw (get_or-set_other (cell_at h.cells v).parts j i x 0 ne) (firm.closed v i in' l)

      go : (w i : ℕ) → (w ≡ v) ⊎ (w ≢ v) → w < length h.cells → i < length (cell_at (put h v j x).cells w).parts → get_or (cell_at (put h v j x).cells w).parts i 0 < length (put h v j x).cells
      go w i (inl e) l m =
          let new : cell_at (put h v j x).cells w ≡ changed (cell_at h.cells v) j x = ap (λ k. cell_at (put h v j x).cells k) e ∙ get_or-set_same h.cells v (changed (cell_at h.cells v) j x) no_cell in' in
          let m' : i < length (cell_at h.cells v).parts = omega (arith, subst (λ (y : Cell). i < length y.parts) new m, length-set (cell_at h.cells v).parts j x) in
          let p : get_or (set (cell_at h.cells v).parts j x) i 0 < length h.cells = set_below i m' (cases_eq i j) in
          rw new (omega (arith, long, p))
      go w i (inr ne) l m =
          let o : cell_at (put h v j x).cells w ≡ cell_at h.cells w = get_or-set_other h.cells v w (changed (cell_at h.cells v) j x) no_cell ne in
          let p : get_or (cell_at h.cells w).parts i 0 < length h.cells = firm.closed w i l (subst (λ (y : Cell). i < length y.parts) o m) in
          rw o (omega (arith, long, p))

  pub goes_put : (v i x : ℕ) → Goes h (put_leaves h v i x)
  goes_put v i x = go ((ltb v (length h.cells) && ltb i (length (cell_at h.cells v).parts)) && ltb x (length h.cells)) (ltb v h.frozen) (settable (cell_at h.cells v).ty i) refl refl
    where
      go : (a b d : Bool) → ((ltb v (length h.cells) && ltb i (length (cell_at h.cells v).parts)) && ltb x (length h.cells)) ≡ a → ltb v h.frozen ≡ b
          → Goes h (cond (is_ok {T = Unit} {E = Refusal} (cond a (cond b (Err Frozen) (cond d (Ok tt) (Err NoItem))) (Err NoValue))) (put h v i x) h)
      go true false true e f =
          let p = and_parts (ltb v (length h.cells) && ltb i (length (cell_at h.cells v).parts)) (ltb x (length h.cells)) e in
          let q = and_parts (ltb v (length h.cells)) (ltb i (length (cell_at h.cells v).parts)) p.0 in
          goes_put' v i x (ltb-true v (length h.cells) q.0) (ltb-false v h.frozen f) (ltb-true x (length h.cells) p.1)
      go true false false e f = goes_here h firm
      go true true d e f = goes_here h firm
      go false b d e f = goes_here h firm

  pub goes_freeze : Goes h (frozen_all h)
  goes_freeze = record {
    firm = record { closed = firm.closed; within = omega arith; fixed = firm.closed };
    later = record { frozen = firm.within; kept = λ v l. refl };
  }
