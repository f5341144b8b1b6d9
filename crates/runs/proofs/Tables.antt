-- What the type calls keep. Assumes nothing.
use Rattle.std.proofs.Common.{◌≡◌, ℕ, ◌+◌, Bool, true, false, cond, List, [], ◌∷◌, length, refl, ap, ◌∙◌, subst, arith}
use Rattle.std.proofs.lemmas.Bool.{and_from}
use Rattle.membership.specs.Rows.{Alt, parts, plainly, formed, all_below_lem, Row, Grown, Outcome, granted, refused, judged, verdict, intern, join, single, union2, Kept, Sound, Keeps, start}
use Rattle.membership.proofs.Kepts.{Fine, alone_formed, intern_fine, join_fine, keeps_here}
use Rattle.membership.proofs.Laws.{kept_of, judged_granted, union_granted}
use Rattle.runs.specs.States.{made, rows_after}

pub record Grows (rows rows' : List Row) : Type 0 where
  pub sound : Sound rows'
  pub keeps : Keeps rows rows'

sound_by : (rows : List Row) → Kept rows → verdict rows ≡ 0 → Sound rows
sound_by rows k v = record { standing = k.standing; forms = k.forms; sizes = k.sizes; own_numbers = k.own_numbers; begun = k.begun; limited = v }

grows_fine : (rows : List Row) (g : Grown) → Fine rows g → verdict g.rows ≡ 0 → Grows rows g.rows
grows_fine rows g f v = record { sound = sound_by g.rows f.kept v; keeps = f.keeps }

module _ (rows : List Row) (s : Sound rows) where
  grows_here : Grows rows rows
  grows_here = record { sound = s; keeps = keeps_here rows }

  single_grows : (x : Alt) → plainly x ≡ true → (o : Outcome) → single rows x ≡ o → Grows rows (rows_after rows o)
  single_grows x p (refused n) e = grows_here
  single_grows x p (granted g) e = go (all_below_lem (length rows) (parts x)) refl e
    where
      go : (b : Bool) → all_below_lem (length rows) (parts x) ≡ b → cond b (judged (intern rows (x ∷ []))) (refused 1) ≡ granted g → Grows rows g.rows
      go true l e =
          let j = judged_granted (intern rows (x ∷ [])) g e in
          let f : Fine rows (intern rows (x ∷ [])) = intern_fine {form = formed} rows (x ∷ []) (kept_of rows s) (and_from (all_below_lem (length rows) (parts x)) true l refl) (alone_formed x p) in
          subst (λ (h : Grown). Grows rows h.rows) j.0 (grows_fine rows (intern rows (x ∷ [])) f j.1)
      go false l e = cc

  pub made_grows : (x : Alt) → Grows rows (rows_after rows (made rows x))
  made_grows x = go (plainly x) refl
    where
      go : (b : Bool) → plainly x ≡ b → Grows rows (rows_after rows (cond b (single rows x) (refused 4)))
      go true p = single_grows x p (single rows x) refl
      go false p = grows_here

  pub union_grows : (a b : ℕ) (o : Outcome) → union2 rows a b ≡ o → Grows rows (rows_after rows o)
  union_grows a b (refused n) e = grows_here
  union_grows a b (granted g) e =
      let r = union_granted rows a b g e in
      subst (λ (h : Grown). Grows rows h.rows) r.is (grows_fine rows (join (a + 1) rows a b) (join_fine (a + 1) rows a b (kept_of rows s) (omega arith) r.a_stands r.b_stands) (ap (λ (h : Grown). verdict h.rows) r.is ∙ r.within))

pub start_sound : Sound start
start_sound = record { standing = refl; forms = refl; sizes = refl; own_numbers = refl; begun = refl; limited = refl }
