-- A refused call leaves the set as it was. Assumes nothing.
use Rattle.std.proofs.Common.{◌≡◌, ℕ, Bool, cond, is_ok, Ok, Err, Result, refl}
use Rattle.values.specs.Lives.{Live, new_says, put_says}
use Rattle.values.specs.declared.refusal.Refusal.{Refusal}
use Rattle.custom.specs.Customs.{Custom}
use Rattle.membership.specs.Rows.{Outcome as RowsOutcome, granted, refused as turned_down, union2}
use Rattle.compiling.specs.Outcomes.{Outcome as CompileOutcome, granted as entered_as, refused as not_entered}
use Rattle.runs.specs.Acts.{Act, new_cell, put_part, freeze_all, make_type, union_of, alloc_type, check_value, Answer, value_is, done, refused, told_as}
use Rattle.runs.specs.States.{State, with_heap, with_rows, made, type_answer, rows_after, annotation_answer, after_entry, entry, answer, after}

module _ (s : State) (n : ℕ) where
  heap_stays : {A : Type 0} (grants : A → Answer) (h : Live) (r : Result A Refusal) → ((x : A) → grants x ≡ refused n → ⊥) → told_as grants r ≡ refused n → with_heap s (cond (is_ok r) h s.heap) ≡ s
  heap_stays grants h (Ok x) other e = absurd (other x e)
  heap_stays grants h (Err why) other e = refl

  rows_stay : (o : RowsOutcome) → type_answer o ≡ refused n → with_rows s (rows_after s.rows o) ≡ s
  rows_stay (granted g) e = cc
  rows_stay (turned_down m) e = refl

  entry_stays : (o : CompileOutcome) → annotation_answer o ≡ refused n → after_entry s o ≡ s
  entry_stays (entered_as x) e = cc
  entry_stays (not_entered m) e = refl

pub unmoved : (c : Custom) (shares : Bool) (s : State) (a : Act) (n : ℕ) → answer c shares s a ≡ refused n → after c shares s a ≡ s
unmoved c shares s (new_cell x) n e = heap_stays s n (λ v. value_is v.0) _ (new_says s.heap x) (λ v q. cc) e
unmoved c shares s (put_part v i x) n e = heap_stays s n (λ _. done) _ (put_says s.heap v i x) (λ u q. cc) e
unmoved c shares s freeze_all n e = cc
unmoved c shares s (make_type x) n e = rows_stay s n (made s.rows x) e
unmoved c shares s (union_of a b) n e = rows_stay s n (union2 s.rows a b) e
unmoved c shares s (alloc_type t) n e = entry_stays s n (entry c shares s t) e
unmoved c shares s (check_value a v) n e = refl
