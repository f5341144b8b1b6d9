-- A text has at most one fault, and none if it is accepted. Assumes nothing.
use Rattle.std.proofs.Common.{◌≡◌, ℕ, ◌⊎◌, List, [], ◌∷◌, ◌++◌, length, sym, refl, ap, ◌∙◌, subst, inl, inr, ⊎_elim, append-nil, arith}
use Rattle.grammar.specs.Items.{Item, Placed, at, items}
use Rattle.grammar.specs.Grammar.{Valid, Viable, seen, Wrong, Early, OneFault, Faultless}

head_is : {A : Type 0} (x y : A) (a b : List A) → x ∷ a ≡ y ∷ b → x ≡ y
head_is x y a b e = cc

tail_is : {A : Type 0} (x y : A) (a b : List A) → x ∷ a ≡ y ∷ b → a ≡ b
tail_is x y a b e = cc

-- two places in one list: the same, or one before the other
abbrev Places : List Placed → Placed → List Placed → Placed → Type 0
Places b x c y = (x ≡ y) ⊎ (((m : List Placed) × (c ≡ b ++ x ∷ m)) ⊎ ((m : List Placed) × (b ≡ c ++ y ∷ m)))

further : (z z' : Placed) (b c : List Placed) (x y : Placed) → z ≡ z' → Places b x c y → Places (z ∷ b) x (z' ∷ c) y
further z z' b c x y e (inl h) = inl h
further z z' b c x y e (inr (inl h)) = inr (inl (h.0, λ i. sym e i ∷ h.1 i))
further z z' b c x y e (inr (inr h)) = inr (inr (h.0, λ i. e i ∷ h.1 i))

places : (b a c d : List Placed) (x y : Placed) → b ++ x ∷ a ≡ c ++ y ∷ d → Places b x c y
places [] a [] d x y e = inl (head_is x y a d e)
places [] a (z ∷ c) d x y e = inr (inl (c, ap (λ h. h ∷ c) (sym (head_is x z a (c ++ y ∷ d) e))))
places (z ∷ b) a [] d x y e = inr (inr (b, ap (λ h. h ∷ b) (head_is z y (b ++ x ∷ a) d e)))
places (z ∷ b) a (z' ∷ c) d x y e = further z z' b c x y (head_is z z' (b ++ x ∷ a) (c ++ y ∷ d) e) (places b a c d x y (tail_is z z' (b ++ x ∷ a) (c ++ y ∷ d) e))

regroup : (b c : List Placed) (p : ℕ) (i : Item) (r : List Item) → seen (b ++ at p i ∷ c) ++ r ≡ (seen b ++ i ∷ []) ++ (seen c ++ r)
regroup [] c p i r = refl
regroup (at q j ∷ b) c p i r = ap (λ l. j ∷ l) (regroup b c p i r)

-- what holds of a list holds of a front of it
shorter : (l b c : List Placed) (p : ℕ) (i : Item) → l ≡ b ++ at p i ∷ c → Viable (seen l) → Viable (seen b ++ i ∷ [])
shorter l b c p i e v = (seen c ++ v.0, subst Valid (ap (λ l. seen l ++ v.0) e ∙ regroup b c p i v.0) v.1)

place_of : (p q : ℕ) (i j : Item) → at p i ≡ at q j → p ≡ q
place_of p q i j e = cc

wrong_once : (is : List Placed) (p q : ℕ) → Wrong is p → Wrong is q → p ≡ q
wrong_once is p q (g) (h) = ⊎_elim (place_of p q g.2 h.2) (⊎_elim (λ m. absurd (g.5 (shorter h.0 g.0 m.0 p g.2 m.1 h.4))) (λ m. absurd (h.5 (shorter g.0 h.0 m.0 q h.2 m.1 g.4)))) (places g.0 g.1 h.0 h.1 (at p g.2) (at q h.2) (sym g.3 ∙ h.3))

not_both : (is : List Placed) (p : ℕ) → Wrong is p → Viable (seen is) → ⊥
not_both is p g v = g.5 (shorter is g.0 g.1 p g.2 g.3 v)

pub once : OneFault
once s p q (inl g) (inl h) = g.1 ∙ sym h.1
once s p q (inl g) (inr h) = absurd (omega (arith, g.0, h.0))
once s p q (inr g) (inl h) = absurd (omega (arith, g.0, h.0))
once s p q (inr g) (inr h) = go g.1 h.1
  where
    go : Wrong (items 0 s) p ⊎ ((p ≡ length s) × Early (items 0 s)) → Wrong (items 0 s) q ⊎ ((q ≡ length s) × Early (items 0 s)) → p ≡ q
    go (inl a) (inl b) = wrong_once (items 0 s) p q a b
    go (inl a) (inr b) = absurd (not_both (items 0 s) p a b.1.0)
    go (inr a) (inl b) = absurd (not_both (items 0 s) q b a.1.0)
    go (inr a) (inr b) = a.0 ∙ sym b.0

pub never : Faultless
never s p a (inl g) = omega (arith, a.0, g.0)
never s p a (inr g) = ⊎_elim (λ w. not_both (items 0 s) p w ([], subst Valid (sym (append-nil (seen (items 0 s)))) a.1)) (λ e. e.1.1 a.1) g.1
