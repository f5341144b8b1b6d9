-- Questions on a heap whose cells are all alike. Assumes nothing.
use Rattle.std.specs.Prelude.{◌≡◌, ℕ, ◌<◌, ◌≤◌, true, false, ◌&&◌, ltb, ◌⊎◌, List, length, replicate, Ok, Err, nat_lt}
use Rattle.std.proofs.Math.Path.{refl}
use Rattle.std.proofs.Common.{sym, ap, ◌∙◌, arith, inl, inr}
use Rattle.std.proofs.lemmas.List.{get_or-replicate, length-replicate}
use Rattle.std.proofs.lemmas.Bool.{lt-ltb, le-ltb, cond-true, cond-false, and_left, and_right, cases_lt}
use Rattle.values.specs.Cells.{Cell, no_cell, cell_at, cell_says, cell_part, Closed, Formed, formed, well_formed}
use Rattle.values.specs.Held.{none_cell}
use Rattle.values.specs.declared.refusal.Refusal.TheVariants.{NoValue}

module _ (n : ℕ) where
  cells : List Cell
  cells = replicate n none_cell

  pub count_is : n ≡ length (replicate n none_cell)
  count_is = sym (length-replicate n none_cell)

  pub cell_is : (v : ℕ) → v < n → cell_at (replicate n none_cell) v ≡ none_cell
  cell_is v h = get_or-replicate n v none_cell no_cell h

  pub says : {X : Type 0} (v : ℕ) (f : Cell → X) (x : X) → v < n → f none_cell ≡ x → Ok x ≡ cell_says (replicate n none_cell) v f
  says v f x h e =
      ap Ok (sym e ∙ ap f (sym (cell_is v h)))
      ∙ sym (cond-true (nat_lt v (length (replicate n none_cell))) _ _ (lt-ltb v _ (omega (arith, count_is))))

  pub says_past : {X : Type 0} (v : ℕ) (f : Cell → X) → n ≤ v → Err NoValue ≡ cell_says (replicate n none_cell) v f
  says_past v f h = sym (cond-false (nat_lt v (length (replicate n none_cell))) _ _ (le-ltb v _ (omega (arith, count_is))))

  pub no_part : (v i : ℕ) → Err NoValue ≡ cell_part (replicate n none_cell) v i
  no_part v i = sym (cond-false (nat_lt v (length (replicate n none_cell)) && nat_lt i (length (cell_at (replicate n none_cell) v).parts)) _ _ (by (cases_lt v n)))
    where
      by : (v < n) ⊎ (n ≤ v) → (nat_lt v (length (replicate n none_cell)) && nat_lt i (length (cell_at (replicate n none_cell) v).parts)) ≡ false
      by (inl h) = and_right _ _ (ap (λ (c : Cell). ltb i (length c.parts)) (cell_is v h) ∙ le-ltb i 0 (omega arith))
      by (inr h) = and_left _ _ (le-ltb v _ (omega (arith, count_is)))

  pub closed : Closed (replicate n none_cell)
  closed v i h k = let e = ap (λ (c : Cell). length c.parts) (cell_is v (omega (arith, count_is))) in absurd (omega (arith, e))

  none_formed : well_formed none_cell ≡ true
  unfolding formed
  none_formed = refl

  pub all_formed : Formed (replicate n none_cell)
  all_formed v h = ap well_formed (cell_is v (omega (arith, count_is))) ∙ none_formed
