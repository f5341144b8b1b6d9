-- Two types joined, on tables as lists. Assumes nothing.
use Rattle.std.proofs.Common.{◌≡◌, ℕ, zero, suc, ◌<◌, ◌≤◌, true, ◌⊎◌, List, [], length, get_or, take, sym, refl, ap, ◌∙◌, subst, inl, inr, arith, eq-eqb, ne_eqb}
use Rattle.std.proofs.lemmas.List.{take-take, length-take, get_or-take}
use Rattle.membership.specs.Rows.{Alt, Row, row, never, Inner, inner, no_inner, put_settled_lem, below, stands, Grown, grown, intern, join, join_rows_lem, Joins, Joined, Keeps}
use Rattle.membership.proofs.Stands.{Under, intern_stands}

pub keeps_length : (t u : List Row) → Keeps t u → length t ≤ length u
keeps_length t u k = omega (arith, ap length k, length-take (length t) u)

pub keeps_trans : (t u v : List Row) → Keeps t u → Keeps u v → Keeps t v
keeps_trans t u v k l =
    sym (take-take (length t) (length u) v (keeps_length t u k)) ∙ ap (take (length t)) l ∙ k

pub keeps_row : (t u : List Row) (a : ℕ) → Keeps t u → a < length t → row u a ≡ row t a
keeps_row t u a k l = sym (get_or-take (length t) u a never l) ∙ ap (λ (z : List Row). get_or z a never) k

-- the three joins, one after the other
pub after_joins : (f : Joins) (t t₁ t₂ t₃ : List Row) (xs ys : List Alt) (j : Inner)
    → f t (inner no_inner xs).item (inner no_inner ys).item ≡ grown t₁ j.item
    → f t₁ (inner no_inner xs).key (inner no_inner ys).key ≡ grown t₂ j.key
    → f t₂ (inner no_inner xs).value (inner no_inner ys).value ≡ grown t₃ j.value
    → join_rows_lem f t xs ys ≡ intern t₃ (put_settled_lem j (put_settled_lem j [] xs) ys)
after_joins f t t₁ t₂ t₃ xs ys j p q r = rw (p, q, r) refl

pub slow : (m : ℕ) (t : List Row) (a b : ℕ) → (a ≡ 1 → ⊥) → (b ≡ 1 → ⊥) → (a ≡ b → ⊥) → (b ≡ 0 → ⊥) → (a ≡ 0 → ⊥) → join (suc m) t a b ≡ join_rows_lem (join m) t (row t a).alts (row t b).alts
slow m t a b p q r s u = rw (ne_eqb a 1 p, ne_eqb b 1 q, ne_eqb a b r, ne_eqb b 0 s, ne_eqb a 0 u) refl

pub joined_any : (t : List Row) (a b : ℕ) → a < length t → b < length t → stands 0 t ≡ true → (a ≡ 1) ⊎ ((a ≡ 1 → ⊥) × (b ≡ 1)) → Joined t t a b 1
joined_any t a b l m s w = record { grows = go w; within = omega (arith, w); standing = s }
  where
    go : (a ≡ 1) ⊎ ((a ≡ 1 → ⊥) × (b ≡ 1)) → (f : ℕ) → a < f → grown t 1 ≡ join f t a b
    go w zero h = absurd (omega arith)
    go (inl p) (suc f) h = rw (eq-eqb a 1 p) refl
    go (inr p) (suc f) h = rw (ne_eqb a 1 p.0, eq-eqb b 1 p.1) refl

pub joined_first : (t : List Row) (a b : ℕ) → a < length t → stands 0 t ≡ true → (a ≡ 1 → ⊥) → (b ≡ 1 → ⊥) → (a ≡ b) ⊎ ((a ≡ b → ⊥) × (b ≡ 0)) → Joined t t a b a
joined_first t a b l s p q w = record { grows = go w; within = l; standing = s }
  where
    go : (a ≡ b) ⊎ ((a ≡ b → ⊥) × (b ≡ 0)) → (f : ℕ) → a < f → grown t a ≡ join f t a b
    go w zero h = absurd (omega arith)
    go (inl e) (suc f) h = rw (ne_eqb a 1 p, ne_eqb b 1 q, eq-eqb a b e) refl
    go (inr e) (suc f) h = rw (ne_eqb a 1 p, ne_eqb b 1 q, ne_eqb a b e.0, eq-eqb b 0 e.1) refl

pub joined_second : (t : List Row) (a b : ℕ) → b < length t → stands 0 t ≡ true → (a ≡ 1 → ⊥) → (b ≡ 1 → ⊥) → (a ≡ b → ⊥) → (b ≡ 0 → ⊥) → a ≡ 0 → Joined t t a b b
joined_second t a b l s p q r u e = record { grows = go; within = l; standing = s }
  where
    go : (f : ℕ) → a < f → grown t b ≡ join f t a b
    go zero h = absurd (omega arith)
    go (suc f) h = rw (ne_eqb a 1 p, ne_eqb b 1 q, ne_eqb a b r, ne_eqb b 0 u, eq-eqb a 0 e) refl

module _ (t t₁ t₂ t₃ t₄ : List Row) (a b n : ℕ) (xs ys : List Alt) (j : Inner)
    (xs-is : (row t a).alts ≡ xs) (ys-is : (row t b).alts ≡ ys)
    (a1 : a ≡ 1 → ⊥) (b1 : b ≡ 1 → ⊥) (ab : a ≡ b → ⊥) (b0 : b ≡ 0 → ⊥) (a0 : a ≡ 0 → ⊥)
    (under : Under a (inner no_inner xs))
    (items : Joined t t₁ (inner no_inner xs).item (inner no_inner ys).item j.item)
    (keys : Joined t₁ t₂ (inner no_inner xs).key (inner no_inner ys).key j.key)
    (values : Joined t₂ t₃ (inner no_inner xs).value (inner no_inner ys).value j.value) where
  grows_at : (f : ℕ) → a < f → intern t₃ (put_settled_lem j (put_settled_lem j [] xs) ys) ≡ join f t a b
  grows_at zero h = absurd (omega arith)
  grows_at (suc m) h =
      sym (after_joins (join m) t t₁ t₂ t₃ xs ys j (sym (items.grows m (omega (arith, under.0)))) (sym (keys.grows m (omega (arith, under.1)))) (sym (values.grows m (omega (arith, under.2)))))
      ∙ ap (λ (z : List Alt). join_rows_lem (join m) t z ys) (sym xs-is)
      ∙ ap (λ (z : List Alt). join_rows_lem (join m) t (row t a).alts z) (sym ys-is)
      ∙ sym (slow m t a b a1 b1 ab b0 a0)

  pub joined_rows : below (length t₃) (put_settled_lem j (put_settled_lem j [] xs) ys) ≡ true → grown t₄ n ≡ intern t₃ (put_settled_lem j (put_settled_lem j [] xs) ys) → Joined t t₄ a b n
  joined_rows b e =
      let s = intern_stands t₃ (put_settled_lem j (put_settled_lem j [] xs) ys) values.standing b in
      record {
        grows = λ f h. e ∙ grows_at f h;
        within = subst (λ (g : Grown). g.number < length g.rows) (sym e) s.1;
        standing = subst (λ (g : Grown). stands 0 g.rows ≡ true) (sym e) s.0;
      }
