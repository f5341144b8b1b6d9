-- The steps of the text reader. Assumes nothing.
use Rattle.std.proofs.Common.{◌≡◌, ℕ, List, ◌∷◌, Some, Ok, Err, Option, Result, sym, ap, ◌∙◌, subst, arith}
use Rattle.membership.specs.Rows.{Row}
use Rattle.grammar.specs.declared.tokens.Token.{Token}
use Rattle.grammar.specs.declared.tokens.Token.TheVariants.{Bar}
use Rattle.grammar.specs.Items.{Item, bar, from, calm}
use Rattle.grammar.specs.Grammar.{last, join, Alt, text, alt, seen}
use Rattle.grammar.specs.Lexed.{Ahead, NextBy}
use Rattle.grammar.proofs.Theory.{alt_head, calm_still}
use Rattle.annotation.specs.declared.fault.Placed.{Placed}
use Rattle.annotation.specs.declared.fault.TextFault.{TextFault}
use Rattle.annotation.specs.declared.fault.TextFault.TheVariants.{Call}
use Rattle.annotation.specs.declared.builders.Built.{Built}
use Rattle.annotation.specs.Evaluated.{state, first, made, on_made, joined, text_comes, alt_comes, starts_of}
use Rattle.annotation.specs.Building.{at_byte, PlacedAs, Says, TextBuilt, AltBuilt}
use Rattle.annotation.proofs.Fronts.{ahead_rest, token_is, bar_token, first_is, past_mark, fails_on}

-- the alternative is refused
pub text_breaks : (s : List ℕ) (i : ℕ) (b : Option ℕ) (t t₁ : List Row) (f : TextFault) → AltBuilt s i t t₁ (Err f) → TextBuilt s i b t t₁ (Err f)
text_breaks s i b t t₁ f h (last y) is c q = fails_on t₁ (alt_comes y (at_byte s t i)) (joined b (first (at_byte s t i))) f (h y is (calm_still is c) q)
text_breaks s i b t t₁ f h (join y z) is c q = fails_on t₁ (on_made (alt_comes y (at_byte s t i)) (joined b (first (at_byte s t i)))) (λ σ n. text_comes z (Some n) σ) f (fails_on t₁ (alt_comes y (at_byte s t i)) (joined b (first (at_byte s t i))) f (h y (bar ∷ text z is) tt q))

module _ (s : List ℕ) (i : ℕ) (b : Option ℕ) (t t₁ : List Row) (a : Built) (built : AltBuilt s i t t₁ (Ok a)) (tok : Token) (p e : ℕ) (next : NextBy tok s i p e) where
  -- what the alternative comes to, joined to those before it
  one_more : (y : Alt) (is : List Item) → seen (from s i) ≡ alt y is → alt_comes y (at_byte s t i) ≡ made (at_byte s t₁ a.end) a.ty → on_made (alt_comes y (at_byte s t i)) (joined b (first (at_byte s t i))) ≡ joined b p (at_byte s t₁ a.end) a.ty
  one_more y is q v =
      let h = alt_head y is in
      ap (λ v. on_made v (joined b (first (at_byte s t i)))) v ∙ ap (λ p. joined b p (at_byte s t₁ a.end) a.ty) (first_is tok s i p e t next h.0 h.1 (q ∙ h.2))

  -- the join is refused
  pub join_breaks : (t₂ : List Row) (f : Placed) → PlacedAs (λ ps. joined b p (state t₁ ps) a.ty) t₂ (Err f) → TextBuilt s i b t t₂ (Err (Call f))
  join_breaks t₂ f h (last y) is c q = one_more y is q (built y is (calm_still is c) q).1 ∙ h (starts_of (from s a.end))
  join_breaks t₂ f h (join y z) is c q = ap (λ v. on_made v (λ σ n. text_comes z (Some n) σ)) (one_more y (bar ∷ text z is) q (built y (bar ∷ text z is) tt q).1 ∙ h (starts_of (from s a.end)))

  module _ (t₂ : List Row) (n : ℕ) (joins : PlacedAs (λ ps. joined b p (state t₁ ps) a.ty) t₂ (Ok n)) where
    -- no bar follows
    pub text_ends : (mark : Token) (ms me : ℕ) → NextBy mark s a.end ms me → (mark ≡ Bar → ⊥) → TextBuilt s i b t t₂ (Ok (record { ty = n; end = a.end }))
    text_ends mark ms me m ne (last y) is c q = let h = built y is (calm_still is c) q in (h.0, one_more y is q h.1 ∙ joins (starts_of (from s a.end)))
    text_ends mark ms me m ne (join y z) is c q = absurd (ne (bar_token mark (token_is mark s a.end ms me m bar (text z is) (built y (bar ∷ text z is) tt q).0).0))

    -- a bar follows, and another text
    pub text_goes : (ms me : ℕ) → Ahead s a.end bar ms me → (t₃ : List Row) (r : Result Built TextFault) → TextBuilt s me (Some n) t₂ t₃ r → TextBuilt s i b t t₃ r
    text_goes ms me m t₃ r h (last y) is c q =
        let l = (built y is (calm_still is c) q).0 in
        absurd (subst calm (sym l ∙ ap seen m.items_are) c)
    text_goes ms me m t₃ r h (join y z) is c q =
        let v = built y (bar ∷ text z is) tt q in
        let l = (ahead_rest s a.end bar ms me m bar (text z is) v.0).1 in
        let same : text_comes (join y z) b (at_byte s t i) ≡ text_comes z (Some n) (at_byte s t₂ me) = ap (λ v. on_made v (λ σ n. text_comes z (Some n) σ)) (one_more y (bar ∷ text z is) q v.1 ∙ joins (starts_of (from s a.end))) ∙ ap (text_comes z (Some n)) (past_mark s a.end bar ms me t₂ (λ z. omega arith) m) in
        subst (λ v. Says s is t₃ v r) (sym same) (h z is c l)
