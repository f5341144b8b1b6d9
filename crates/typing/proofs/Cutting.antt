-- Rows that grew, judged: kept, or cut back to what stood. Assumes nothing.
use Rattle.std.proofs.Common.{◌≡◌, ℕ, ◌≤◌, true, cond, eqb, ltb, List, length, take, vec_items, vec_len, vec_capacity, Ok, Err, Result, MatchResult, sym, ap, ◌∙◌, subst, ap₂, arith}
use Rattle.std.proofs.lemmas.Bool.{ltb-false, or_parts}
use Rattle.std.proofs.lemmas.List.{length-map}
use Rattle.values.specs.Refusals.{number}
use Rattle.values.specs.declared.refusal.Refusal.{Refusal}
use Rattle.values.specs.declared.refusal.Refusal.TheVariants.{NoType, NoNode, NoValue, BadForm, Frozen, NoItem, TooDeep, TooWide, TooHeavy, NoRoom}
use Rattle.membership.specs.Rows.{Row, all_places, verdict, Grown, judged, granted, refused, Kept, Sound, each}
use Rattle.membership.proofs.Measured.{limits_of}
use Rattle.typing.specs.View.{table, row_of, placed}
use Rattle.typing.specs.Held.{table_of, pool_in}
use Rattle.typing.specs.Growing.{Grew, Cut, Ready}
use Rattle.typing.specs.declared.rows.Row.{Row as CodeRow}
use Rattle.typing.specs.declared.types.Rows.{Rows}
use Rattle.typing.proofs.Stores.{grew_here}
use Rattle.typing.proofs.Joining.{Alls}

pub few_rows : (t : List Row) → Sound t → length t ≤ 1024
few_rows t s = ltb-false 1024 (length t) (or_parts (ltb 1024 (length t)) (ltb 8192 (all_places t)) (limits_of t s.limited).room).0

pub few_places : (t : List Row) → Sound t → all_places t ≤ 8192
few_places t s = ltb-false 8192 (all_places t) (or_parts (ltb 1024 (length t)) (ltb 8192 (all_places t)) (limits_of t s.limited).room).1

pub judged_refused : (g : Grown) (f : Refusal) → number f ≡ verdict g.rows → judged g ≡ refused (number f)
judged_refused g f e = go f e
  where
    at : (k : ℕ) → k ≡ verdict g.rows → judged g ≡ cond (eqb k 0) (granted g) (refused k)
    at k e = ap (λ (z : ℕ). cond (eqb z 0) (granted g) (refused z)) (sym e)

    go : (f : Refusal) → number f ≡ verdict g.rows → judged g ≡ refused (number f)
    go NoType e = at 1 e
    go NoNode e = at 2 e
    go NoValue e = at 3 e
    go BadForm e = at 4 e
    go Frozen e = at 5 e
    go NoItem e = at 6 e
    go TooDeep e = at 7 e
    go TooWide e = at 8 e
    go TooHeavy e = at 9 e
    go NoRoom e = at 10 e

pub judged_fine : (g : Grown) → verdict g.rows ≡ 0 → judged g ≡ granted g
judged_fine g e = ap (λ (z : ℕ). cond (eqb z 0) (granted g) (refused z)) e

-- s grew to s'
module _ (s s' : Rows) (u u' : Alls) (grew : Grew s s') (rows_cap : vec_capacity s'.rows ≡ vec_capacity s.rows) (all_cap : vec_capacity s'.all ≡ vec_capacity s.all) (u_cap : vec_capacity u' ≡ vec_capacity u) (ready : Ready s u) where
  pub ready_on : Kept (table_of s') → verdict (table_of s') ≡ 0 → Ready s' u'
  ready_on k e = record {
    sound = record { standing = k.standing; forms = k.forms; sizes = k.sizes; own_numbers = k.own_numbers; begun = k.begun; limited = e };
    packed = omega (arith, ready.packed, grew.packed);
    for_rows = omega (arith, ready.for_rows, rows_cap);
    for_all = omega (arith, ready.for_all, all_cap);
    for_scratch = omega (arith, ready.for_scratch, u_cap);
  }

  module _ (n m : ℕ) (n_is : n ≡ length (table_of s)) (m_is : m ≡ vec_len s.all) where
    n_rows : n ≡ length (vec_items s.rows)
    n_rows = n_is ∙ length-map (vec_items s.rows) (row_of (pool_in s) (vec_items s.all))

    pub stood_placed : each (placed m) (take n (vec_items s'.rows)) ≡ true
    stood_placed =
        ap₂ (λ (k : ℕ) (z : List CodeRow). each (placed k) z) (m_is ∙ s.all.ok.0) (ap (λ (k : ℕ). take k (vec_items s'.rows)) n_rows ∙ grew.rows_stay) ∙ s.alternatives

    module _ (s'' : Rows) (cut : Cut s' s'' n m) where
      rows_back : vec_items s''.rows ≡ vec_items s.rows
      rows_back = cut.rows_cut ∙ ap (λ (k : ℕ). take k (vec_items s'.rows)) n_rows ∙ grew.rows_stay

      pub all_back : vec_items s''.all ≡ vec_items s.all
      all_back = cut.all_cut ∙ ap (λ (k : ℕ). take k (vec_items s'.all)) (m_is ∙ s.all.ok.0) ∙ grew.all_stay

      pub table_back : table_of s'' ≡ table_of s
      table_back = ap₂ (table (pool_in s'')) all_back rows_back ∙ ap (λ v. table (vec_items v) (vec_items s.all) (vec_items s.rows)) (cut.pool_stays ∙ grew.pool_stays)

      pub ready_back : Ready s'' u'
      ready_back = record {
        sound = subst Sound (sym table_back) ready.sound;
        packed = omega (arith, ready.packed, ap length all_back, ap all_places table_back);
        for_rows = omega (arith, ready.for_rows, rows_cap, cut.same_rows_room);
        for_all = omega (arith, ready.for_all, all_cap, cut.same_all_room);
        for_scratch = omega (arith, ready.for_scratch, u_cap);
      }

      pub grew_back : Grew s s''
      grew_back =
          let h = grew_here s in
          record {
            pool_stays = cut.pool_stays ∙ grew.pool_stays;
            all_stay = ap (take (length (vec_items s.all))) all_back ∙ h.all_stay;
            rows_stay = ap (take (length (vec_items s.rows))) rows_back ∙ h.rows_stay;
            packed = omega (arith, ap length all_back, ap all_places table_back);
          }

    -- what the judgement leaves
    module _ (s'' : Rows) (r : Result (Unit {0}) Refusal) (kept : Kept (table_of s')) (judged_so : MatchResult r (λ _. (s'' ≡ s') × (verdict (table_of s') ≡ 0)) (λ f. Cut s' s'' n m × (number f ≡ verdict (table_of s')))) where
      pub ready_then : Ready s'' u'
      ready_then = go r judged_so
        where
          go : (r : Result (Unit {0}) Refusal) → MatchResult r (λ _. (s'' ≡ s') × (verdict (table_of s') ≡ 0)) (λ f. Cut s' s'' n m × (number f ≡ verdict (table_of s'))) → Ready s'' u'
          go (Ok x) h = subst (λ (z : Rows). Ready z u') (sym h.0) (ready_on kept h.1)
          go (Err f) h = ready_back s'' h.0

      pub grew_then : Grew s s''
      grew_then = go r judged_so
        where
          go : (r : Result (Unit {0}) Refusal) → MatchResult r (λ _. (s'' ≡ s') × (verdict (table_of s') ≡ 0)) (λ f. Cut s' s'' n m × (number f ≡ verdict (table_of s'))) → Grew s s''
          go (Ok x) h = subst (Grew s) (sym h.0) grew
          go (Err f) h = grew_back s'' h.0
