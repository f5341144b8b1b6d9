-- What a join knows, call by call, where its places are reserved. Assumes nothing.
use Rattle.std.proofs.Common.{◌≡◌, ℕ, ◌+◌, ◌<◌, ◌≤◌, true, List, [], length, vec_items, vec_len, vec_capacity, Vec, sym, refl, ap, ◌∙◌, subst, ap₂, arith}
use Rattle.std.proofs.lemmas.List.{length-map}
use Rattle.std.specs.declared.alloc.Global.{Global}
use Rattle.membership.specs.Rows.{Alt, Row, row, Inner, inner, no_inner, put_settled_lem, Grown, grown, intern, Joined, Keeps, Kept, below, each}
use Rattle.membership.proofs.Stands.{Under, put_settled_below, below_up}
use Rattle.membership.proofs.Joins.{keeps_row, keeps_length, keeps_trans, joined_rows}
use Rattle.membership.proofs.Kepts.{row_under, join_fine}
use Rattle.typing.specs.View.{alt, alts, pooled, row_of}
use Rattle.typing.specs.Held.{table_of, pool_in}
use Rattle.typing.specs.Growing.{Grew, held}
use Rattle.typing.specs.Rooms.{Places, Room, Taken}
use Rattle.typing.specs.declared.basic.TyBasic.{TyBasic}
use Rattle.typing.specs.declared.types.Rows.{Rows}
use Rattle.typing.proofs.Stores.{grew_keeps, grew_trans}
use Rattle.typing.proofs.Fitting.{under_p, under_q, items_room, keys_room, values_room, Left, left_room}

abbrev pub Alls : Type 0
Alls = Vec TyBasic Global

pub table_length : (s : Rows) → vec_len s.rows ≡ length (table_of s)
table_length s = s.rows.ok.0 ∙ sym (length-map (vec_items s.rows) (row_of (pool_in s) (vec_items s.all)))

pub joined_kept : (t t' : List Row) (a b n : ℕ) → Kept t → a < length t → b < length t → Joined t t' a b n → Kept t'
joined_kept t t' a b n k l m j = subst (λ (g : Grown). Kept g.rows) (sym (j.grows (a + 1) (omega arith))) (join_fine (a + 1) t a b k (omega arith) l m).kept

-- a join of two types of s, neither of which decides it alone, with the parts p and q
pub record Start (s : Rows) (u : Alls) (a b : ℕ) (p q : Inner) : Type 0 where
  pub kept : Kept (table_of s)
  pub a_within : a < length (table_of s)
  pub b_within : b < length (table_of s)
  pub a_not_any : a ≡ 1 → ⊥
  pub b_not_any : b ≡ 1 → ⊥
  pub other : a ≡ b → ⊥
  pub b_not_never : b ≡ 0 → ⊥
  pub a_not_never : a ≡ 0 → ⊥
  pub room : Room (table_of s) a b (held s u)
  pub p_is : p ≡ inner no_inner (row (table_of s) a).alts
  pub q_is : q ≡ inner no_inner (row (table_of s) b).alts

module _ (s : Rows) (u : Alls) (a b : ℕ) (p q : Inner) (start : Start s u a b p q) where
  abbrev t : List Row
  t = table_of s

  abbrev k : Kept t
  k = start.kept

  abbrev al : a < length t
  al = start.a_within

  abbrev bl : b < length t
  bl = start.b_within

  abbrev a0 : a ≡ 0 → ⊥
  a0 = start.a_not_never

  abbrev b0 : b ≡ 0 → ⊥
  b0 = start.b_not_never

  abbrev room : Room t a b (held s u)
  room = start.room

  abbrev p_is : p ≡ inner no_inner (row t a).alts
  p_is = start.p_is

  abbrev q_is : q ≡ inner no_inner (row t b).alts
  q_is = start.q_is

  pub up : Under a p
  up = under_p t a b p q k al bl a0 b0 p_is q_is

  pub uq : Under b q
  uq = under_q t a b p q k al bl a0 b0 p_is q_is

  pub first_room : Room t p.item q.item (held s u)
  first_room = items_room t a b p q k al bl a0 b0 p_is q_is (held s u) room

  module _ (s₁ : Rows) (u₁ : Alls) (i : ℕ) (grew₁ : Grew s s₁) (items : Joined t (table_of s₁) p.item q.item i) (taken₁ : Taken t p.item q.item (held s u) (held s₁ u₁)) where
    abbrev t₁ : List Row
    t₁ = table_of s₁

    keeps₁ : Keeps t t₁
    keeps₁ = grew_keeps s s₁ grew₁

    pub longer₁ : length t ≤ length t₁
    longer₁ = keeps_length t t₁ keeps₁

    pub kept₁ : Kept t₁
    kept₁ = joined_kept t t₁ p.item q.item i k (omega (arith, up.0)) (omega (arith, uq.0)) items

    pub second_room : Room t₁ p.key q.key (held s₁ u₁)
    second_room = keys_room t a b p q k al bl a0 b0 p_is q_is (held s u) room t₁ (held s₁ u₁) keeps₁ taken₁

    module _ (s₂ : Rows) (u₂ : Alls) (i₂ : ℕ) (grew₂ : Grew s₁ s₂) (keys : Joined t₁ (table_of s₂) p.key q.key i₂) (taken₂ : Taken t₁ p.key q.key (held s₁ u₁) (held s₂ u₂)) where
      abbrev t₂ : List Row
      t₂ = table_of s₂

      keeps₁₂ : Keeps t₁ t₂
      keeps₁₂ = grew_keeps s₁ s₂ grew₂

      pub longer₂ : length t₁ ≤ length t₂
      longer₂ = keeps_length t₁ t₂ keeps₁₂

      pub kept₂ : Kept t₂
      kept₂ = joined_kept t₁ t₂ p.key q.key i₂ kept₁ (omega (arith, up.1, longer₁)) (omega (arith, uq.1, longer₁)) keys

      pub third_room : Room t₂ p.value q.value (held s₂ u₂)
      third_room = values_room t a b p q k al bl a0 b0 p_is q_is (held s u) room t₁ (held s₁ u₁) keeps₁ taken₁ t₂ (held s₂ u₂) (keeps_trans t t₁ t₂ keeps₁ keeps₁₂) taken₂

      module _ (s₃ : Rows) (u₃ : Alls) (i₃ : ℕ) (grew₃ : Grew s₂ s₃) (values : Joined t₂ (table_of s₃) p.value q.value i₃) (taken₃ : Taken t₂ p.value q.value (held s₂ u₂) (held s₃ u₃)) where
        abbrev t₃ : List Row
        t₃ = table_of s₃

        keeps₂₃ : Keeps t₂ t₃
        keeps₂₃ = grew_keeps s₂ s₃ grew₃

        pub grew : Grew s s₃
        grew = grew_trans s s₁ s₃ grew₁ (grew_trans s₁ s₂ s₃ grew₂ grew₃)

        keeps₃ : Keeps t t₃
        keeps₃ = grew_keeps s s₃ grew

        rest : Left t a b p q k al bl a0 b0 p_is q_is (held s u) room t₁ (held s₁ u₁) keeps₁ taken₁ t₂ (held s₂ u₂) (keeps_trans t t₁ t₂ keeps₁ keeps₁₂) taken₂ (held s₃ u₃)
        rest = left_room t a b p q k al bl a0 b0 p_is q_is (held s u) room t₁ (held s₁ u₁) keeps₁ taken₁ t₂ (held s₂ u₂) (keeps_trans t t₁ t₂ keeps₁ keeps₁₂) taken₂ (held s₃ u₃) taken₃

        abbrev j : Inner
        j = record { item = i; key = i₂; value = i₃ }

        -- the sides, read again
        module _ (sl sr : List TyBasic) (l : alts (pool_in s₃) sl ≡ (row t₃ a).alts) (r : alts (pool_in s₃) sr ≡ (row t₃ b).alts) where
          left_is : alts (pool_in s₃) sl ≡ (row t a).alts
          left_is = l ∙ ap (λ (z : Row). z.alts) (keeps_row t t₃ a keeps₃ al)

          right_is : alts (pool_in s₃) sr ≡ (row t b).alts
          right_is = r ∙ ap (λ (z : Row). z.alts) (keeps_row t t₃ b keeps₃ bl)

          left_long : length sl ≡ length (row t a).alts
          left_long = sym (length-map sl (alt (pool_in s₃))) ∙ ap length left_is

          right_long : length sr ≡ length (row t b).alts
          right_long = sym (length-map sr (alt (pool_in s₃))) ∙ ap length right_is

          pub scratch_room : length sl + length sr ≤ vec_capacity u₃
          scratch_room = omega (arith, left_long, right_long, rest.its_scratch)

          module _ (u₄ : Alls) (P : List ℕ) (P_is : P ≡ pool_in s₃) (united : alts P (vec_items u₄) ≡ put_settled_lem j (put_settled_lem j [] (alts P sl)) (alts P sr)) (few : vec_len u₄ ≤ length sl + length sr)
              (n : List TyBasic) (n_is : n ≡ vec_items u₄) where
            new_long : length n ≤ length (row t a).alts + length (row t b).alts
            new_long = omega (arith, ap length n_is, u₄.ok.0, left_long, right_long)

            abbrev zs : List Alt
            zs = put_settled_lem j (put_settled_lem j [] (row t a).alts) (row t b).alts

            new_is : alts (pool_in s₃) n ≡ zs
            new_is =
                ap (alts (pool_in s₃)) n_is ∙ subst (λ (z : List ℕ). alts z (vec_items u₄) ≡ put_settled_lem j (put_settled_lem j [] (alts z sl)) (alts z sr)) P_is united
                ∙ ap₂ (λ (f g : List Alt). put_settled_lem j (put_settled_lem j [] f) g) left_is right_is

            zs_below : below (length t₃) zs ≡ true
            zs_below =
                let m = length t₃ in
                let long = keeps_length t t₃ keeps₃ in
                let v : Under m j = (omega (arith, items.within, keeps_length t₁ t₃ (keeps_trans t₁ t₂ t₃ keeps₁₂ keeps₂₃)), omega (arith, keys.within, keeps_length t₂ t₃ keeps₂₃), values.within) in
                let f = below_up a m (row t a).alts (omega (arith, long)) (row_under t a k.standing) in
                let g = below_up b m (row t b).alts (omega (arith, long)) (row_under t b k.standing) in
                put_settled_below m j (put_settled_lem j [] (row t a).alts) (row t b).alts v (put_settled_below m j [] (row t a).alts v refl f) g

            pub new_pooled : each (pooled (length P)) (vec_items u₄) ≡ true → each (pooled (length (pool_in s₃))) n ≡ true
            new_pooled h = ap₂ (λ (y : List ℕ) (z : List TyBasic). each (pooled (length y)) z) (sym P_is) n_is ∙ h

            pub row_room : vec_len s₃.rows < vec_capacity s₃.rows
            row_room = rest.a_row

            pub new_room : vec_len s₃.all + length n ≤ vec_capacity s₃.all
            new_room = omega (arith, new_long, rest.its_alternatives)

            module _ (s₄ : Rows) (u₅ : Alls) (o : ℕ) (made : grown (table_of s₄) o ≡ intern t₃ (alts (pool_in s₃) n))
                (rows-few : vec_len s₄.rows ≤ vec_len s₃.rows + 1) (rows-cap : vec_capacity s₄.rows ≡ vec_capacity s₃.rows) (all-few : vec_len s₄.all ≤ vec_len s₃.all + length n) (all-cap : vec_capacity s₄.all ≡ vec_capacity s₃.all) (u-cap : vec_capacity u₅ ≡ vec_capacity u₃) where
              pub all_taken : Taken t a b (held s u) (held s₄ u₅)
              all_taken = record {
                rows_taken = omega (arith, rows-few, rest.rows_so_far);
                alternatives_taken = omega (arith, all-few, new_long, rest.alternatives_so_far);
                same_rows = rows-cap ∙ rest.same_rows;
                same_alternatives = all-cap ∙ rest.same_alternatives;
                same_scratch = u-cap ∙ rest.same_scratch;
              }

              pub all_joined : Joined t (table_of s₄) a b o
              all_joined =
                  joined_rows t t₁ t₂ t₃ (table_of s₄) a b o (row t a).alts (row t b).alts j refl refl start.a_not_any start.b_not_any start.other b0 a0
                  (subst (Under a) p_is up)
                  (subst (λ (z : Inner). Joined t t₁ z.item (inner no_inner (row t b).alts).item i) p_is (subst (λ (z : Inner). Joined t t₁ p.item z.item i) q_is items))
                  (subst (λ (z : Inner). Joined t₁ t₂ z.key (inner no_inner (row t b).alts).key i₂) p_is (subst (λ (z : Inner). Joined t₁ t₂ p.key z.key i₂) q_is keys))
                  (subst (λ (z : Inner). Joined t₂ t₃ z.value (inner no_inner (row t b).alts).value i₃) p_is (subst (λ (z : Inner). Joined t₂ t₃ p.value z.value i₃) q_is values))
                  zs_below (made ∙ ap (intern t₃) new_is)

pub taken_here : (t : List Row) (a b : ℕ) (p : Places) → Taken t a b p p
taken_here t a b p = record { rows_taken = omega arith; alternatives_taken = omega arith; same_rows = refl; same_alternatives = refl; same_scratch = refl }
