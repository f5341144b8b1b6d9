-- The places of a join's parts are within those of the join. Assumes nothing.
use Rattle.std.proofs.Common.{◌≡◌, ℕ, ◌+◌, ◌<◌, ◌≤◌, List, length, sym, subst, arith}
use Rattle.membership.specs.Rows.{Row, row, Inner, inner, no_inner, Kept, Keeps}
use Rattle.membership.specs.Measures.{cost, costs}
use Rattle.membership.proofs.Costs.{cost_kept, side_costs, some_alternative}
use Rattle.membership.proofs.Stands.{Under, inner_under}
use Rattle.membership.proofs.Kepts.{row_under}
use Rattle.typing.specs.Rooms.{Places, Room, Taken}

module _ (t : List Row) (a b : ℕ) (p q : Inner) (k : Kept t) (al : a < length t) (bl : b < length t) (a0 : a ≡ 0 → ⊥) (b0 : b ≡ 0 → ⊥)
    (p_is : p ≡ inner no_inner (row t a).alts) (q_is : q ≡ inner no_inner (row t b).alts) where
  pub under_p : Under a p
  under_p = subst (Under a) (sym p_is) (inner_under a no_inner (row t a).alts (omega (arith, a0), omega (arith, a0), omega (arith, a0)) (row_under t a k.standing))

  pub under_q : Under b q
  under_q = subst (Under b) (sym q_is) (inner_under b no_inner (row t b).alts (omega (arith, b0), omega (arith, b0), omega (arith, b0)) (row_under t b k.standing))

  left : cost t a ≤ 4096 → costs t p + length (row t a).alts ≤ cost t a
  left h = subst (λ (z : Inner). costs t z + length (row t a).alts ≤ cost t a) (sym p_is) (side_costs t a k al a0 h)

  right : cost t b ≤ 4096 → costs t q + length (row t b).alts ≤ cost t b
  right h = subst (λ (z : Inner). costs t z + length (row t b).alts ≤ cost t b) (sym q_is) (side_costs t b k bl b0 h)

  module _ (s : Places) (room : Room t a b s) where
    pub items_room : Room t p.item q.item s
    items_room =
        let x = left room.light_a in
        let y = right room.light_b in
        record { light_a = omega arith; light_b = omega arith; for_rows = omega arith; for_alternatives = omega arith; for_scratch = omega arith }

    module _ (t₁ : List Row) (s₁ : Places) (kept₁ : Keeps t t₁) (taken₁ : Taken t p.item q.item s s₁) where
      pub keys_room : Room t₁ p.key q.key s₁
      keys_room =
          let x = left room.light_a in
          let y = right room.light_b in
          let c : cost t₁ p.key ≡ cost t p.key = cost_kept t t₁ p.key kept₁ (omega (arith, under_p.1)) in
          let d : cost t₁ q.key ≡ cost t q.key = cost_kept t t₁ q.key kept₁ (omega (arith, under_q.1)) in
          record { light_a = omega arith; light_b = omega arith; for_rows = omega arith; for_alternatives = omega arith; for_scratch = omega arith }

      module _ (t₂ : List Row) (s₂ : Places) (kept₂ : Keeps t t₂) (taken₂ : Taken t₁ p.key q.key s₁ s₂) where
        pub values_room : Room t₂ p.value q.value s₂
        values_room =
            let x = left room.light_a in
            let y = right room.light_b in
            let c : cost t₁ p.key ≡ cost t p.key = cost_kept t t₁ p.key kept₁ (omega (arith, under_p.1)) in
            let d : cost t₁ q.key ≡ cost t q.key = cost_kept t t₁ q.key kept₁ (omega (arith, under_q.1)) in
            let e : cost t₂ p.value ≡ cost t p.value = cost_kept t t₂ p.value kept₂ (omega (arith, under_p.2)) in
            let f : cost t₂ q.value ≡ cost t q.value = cost_kept t t₂ q.value kept₂ (omega (arith, under_q.2)) in
            record { light_a = omega arith; light_b = omega arith; for_rows = omega arith; for_alternatives = omega arith; for_scratch = omega arith }

        -- what is left for the union itself: a row, and its alternatives
        pub record Left (s₃ : Places) : Type 0 where
          pub a_row : s₃.rows < s₃.all_rows
          pub its_alternatives : s₃.alternatives + (length (row t a).alts + length (row t b).alts) ≤ s₃.all_alternatives
          pub its_scratch : length (row t a).alts + length (row t b).alts ≤ s₃.scratch
          pub rows_so_far : s₃.rows + 1 ≤ s.rows + cost t a
          pub alternatives_so_far : s₃.alternatives + (length (row t a).alts + length (row t b).alts) ≤ s.alternatives + (cost t a + cost t b)
          pub same_rows : s₃.all_rows ≡ s.all_rows
          pub same_alternatives : s₃.all_alternatives ≡ s.all_alternatives
          pub same_scratch : s₃.scratch ≡ s.scratch

        pub left_room : (s₃ : Places) → Taken t₂ p.value q.value s₂ s₃ → Left s₃
        left_room s₃ taken₃ =
            let x = left room.light_a in
            let y = right room.light_b in
            let z = some_alternative t a k al a0 in
            let c : cost t₁ p.key ≡ cost t p.key = cost_kept t t₁ p.key kept₁ (omega (arith, under_p.1)) in
            let d : cost t₁ q.key ≡ cost t q.key = cost_kept t t₁ q.key kept₁ (omega (arith, under_q.1)) in
            let e : cost t₂ p.value ≡ cost t p.value = cost_kept t t₂ p.value kept₂ (omega (arith, under_p.2)) in
            let f : cost t₂ q.value ≡ cost t q.value = cost_kept t t₂ q.value kept₂ (omega (arith, under_q.2)) in
            record {
              a_row = omega arith;
              its_alternatives = omega arith;
              its_scratch = omega arith;
              rows_so_far = omega arith;
              alternatives_so_far = omega arith;
              same_rows = omega arith;
              same_alternatives = omega arith;
              same_scratch = omega arith;
            }
