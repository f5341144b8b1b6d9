-- The steps of the alternative's reader. Assumes nothing.
use Rattle.std.proofs.Common.{◌≡◌, ℕ, ◌⊎◌, List, [], ◌∷◌, ◌++◌, length, take, drop, Some, None, Ok, Err, sym, refl, ap, ◌∙◌, subst, inl, inr, ⊎_elim, arith, Bor}
use lib.Seq.{take-append_seam, drop-append_seam}
use Rattle.membership.specs.Rows.{Row}
use Rattle.grammar.specs.declared.words.Word.{Word}
use Rattle.grammar.specs.declared.tokens.Token.{Token}
use Rattle.grammar.specs.declared.tokens.Token.TheVariants.{Name as Named, Bar, Open, Close, Comma, End}
use Rattle.grammar.specs.Items.{Item, word, bar, left, right, comma, from, still}
use Rattle.grammar.specs.Names.{Means}
use Rattle.grammar.specs.Grammar.{Name, Text, Alt, alone, one, two, none, some, run, More, end, also, text, alt, more, seen}
use Rattle.grammar.specs.Lexed.{Ahead, NextBy}
use Rattle.grammar.specs.Machine.{known}
use Rattle.grammar.proofs.Names.{means_known}
use Rattle.grammar.proofs.Theory.{alt_head}
use Rattle.annotation.specs.declared.calls.Form.{Form}
use Rattle.annotation.specs.declared.calls.Form.TheVariants.{Fixed, Open as Opened}
use Rattle.annotation.specs.declared.fault.Placed.{Placed}
use Rattle.annotation.specs.declared.fault.TextFault.{TextFault}
use Rattle.annotation.specs.declared.fault.TextFault.TheVariants.{Outside, Call}
use Rattle.annotation.specs.declared.builders.Closed.{Closed}
use Rattle.annotation.specs.Evaluated.{State, state, first, past, Came, on_made, calls, word_in, text_comes, alt_comes, more_come, starts_of}
use Rattle.annotation.specs.Building.{at_byte, Args, shut, dots, final, further, args, args_come, PlacedAs, AltBuilt, ArgsBuilt}
use Rattle.annotation.proofs.Fronts.{apart, ahead_rest, token_is, Stands, left_token, word_of_is, past_word, past_mark, fails_as}

-- a text and further ones as arguments
abbrev args_of : Text → More → Args
args_of t end = final t
args_of t (also u m) = further t (args_of u m)

args_more : (t : Text) (m : More) (is : List Item) → text t (more m (right ∷ is)) ≡ args (args_of t m) is
args_more t end is = refl
args_more t (also u m) is = ap (λ q. text t (comma ∷ q)) (args_more u m is)

args_of_come : (t : Text) (m : More) (k : List ℕ → Form → State → Came) (σ : State) → on_made (text_comes t None σ) (λ σ' n. more_come m (λ ns. k (n ∷ ns) Fixed) σ') ≡ args_come (args_of t m) k σ
args_of_come t end k σ = refl
args_of_come t (also u m) k σ = λ i. on_made (text_comes t None σ) (λ σ' n. args_of_come u m (λ ns. k (n ∷ ns)) σ' i)

-- an alternative is a name alone, or a name with arguments
abbrev Alone : Alt → Type 0
Alone y = (w : List ℕ) × (n : Name w) × (y ≡ alone w n)

pub record Bracketed (y : Alt) : Type 0 where
  pub spelled : List ℕ
  pub named : Word
  pub means : Means spelled named
  pub inside : Args
  pub written : (is : List Item) → alt y is ≡ word spelled ∷ left ∷ args inside is
  pub comes_to : (σ : State) → alt_comes y σ ≡ args_come inside (calls named (first σ)) (past σ)

view : (y : Alt) → Alone y ⊎ Bracketed y
view (alone w n) = inl (w, n, refl)
view (one w c t) = inr (record { spelled = w; named = c.0; means = c.1; inside = final t; written = λ is. refl; comes_to = λ σ. refl })
view (two w c t u) = inr (record { spelled = w; named = c.0; means = c.1; inside = further t (final u); written = λ is. refl; comes_to = λ σ. refl })
view (none w c) = inr (record { spelled = w; named = c.0; means = c.1; inside = shut; written = λ is. refl; comes_to = λ σ. refl })
view (some w c t m) = inr (record { spelled = w; named = c.0; means = c.1; inside = args_of t m; written = λ is. ap (λ q. word w ∷ left ∷ q) (args_more t m is); comes_to = λ σ. args_of_come t m (calls c.0 (first σ)) (past σ) })
view (run w d c e t) = inr (record { spelled = w; named = c.0; means = c.1; inside = further t (dots d e); written = λ is. refl; comes_to = λ σ. refl })

known_alone : (w : List ℕ) (n : Name w) → known w ≡ Some (word_in w n)
known_alone w (inl c) = means_known w c.0 c.1
known_alone w (inr (inl c)) = means_known w c.0 c.1
known_alone w (inr (inr (inl c))) = means_known w c.0 c.1
known_alone w (inr (inr (inr c))) = means_known w c.0 c.1

same_word : (w v : List ℕ) (x y : Word) → word w ≡ word v → known w ≡ Some x → known v ≡ Some y → y ≡ x
same_word w v x y e p q = let z : Some y ≡ Some x = sym q ∙ sym (ap known (word_of_is w v e)) ∙ p in cc

-- no name stands here
pub unnamed : (tok : Token) (s : List ℕ) (i p e : ℕ) (t : List Row) → NextBy tok s i p e → ((v : Bor (List ℕ)) → tok ≡ Named v → ⊥) → AltBuilt s i t t (Err (Outside (record { byte = p })))
unnamed tok s i p e t next no_name y is c q = let h = alt_head y is in go tok no_name (token_is tok s i p e next (word h.0) h.1 (q ∙ h.2)).0
  where
    go : (tok : Token) → ((v : Bor (List ℕ)) → tok ≡ Named v → ⊥) → Stands tok (word (alt_head y is).0) → ⊥
    go (Named v) f z = f v refl
    go Bar f z = apart bar (word (alt_head y is).0) [] [] (λ z. omega arith) (ap (λ x. x ∷ []) z)
    go Open f z = apart left (word (alt_head y is).0) [] [] (λ z. omega arith) (ap (λ x. x ∷ []) z)
    go Close f z = apart right (word (alt_head y is).0) [] [] (λ z. omega arith) (ap (λ x. x ∷ []) z)
    go Comma f z = apart comma (word (alt_head y is).0) [] [] (λ z. omega arith) (ap (λ x. x ∷ []) z)
    go End f z = z

none_some : (x : Word) → None ≡ Some x → ⊥
none_some x e = let z : ◌≡◌ {A = ℕ} 0 1 = cc in omega arith

module _ (s : List ℕ) (i : ℕ) (t : List Row) (w : List ℕ) (p e : ℕ) (name : Ahead s i (word w) p e) where
  -- the word is no name
  pub unknown : known w ≡ None → AltBuilt s i t t (Err (Outside (record { byte = p })))
  unknown u y is c q =
      let h = alt_head y is in
      let same = (ahead_rest s i (word w) p e name (word h.0) h.1 (q ∙ h.2)).0 in
      none_some (word_in h.0 h.3) (sym u ∙ ap known (word_of_is w h.0 same) ∙ known_alone h.0 h.3)

  module _ (x : Word) (is_Known : known w ≡ Some x) where
    -- no bracket follows
    bare_comes : (mark : Token) (ms me : ℕ) → NextBy mark s e ms me → (mark ≡ Open → ⊥) → (y : Alt) (is : List Item) → seen (from s i) ≡ alt y is → (seen (from s e) ≡ is) × (alt_comes y (at_byte s t i) ≡ calls x p [] Opened (at_byte s t e))
    bare_comes mark ms me m ne y is q = ⊎_elim lone (λ b. absurd (ne (left_token mark (token_is mark s e ms me m left (args b.inside is) (ahead_rest s i (word w) p e name (word b.spelled) (left ∷ args b.inside is) (q ∙ b.written is)).1).0))) (view y)
      where
        lone : Alone y → (seen (from s e) ≡ is) × (alt_comes y (at_byte s t i) ≡ calls x p [] Opened (at_byte s t e))
        lone a =
            let r = ahead_rest s i (word w) p e name (word a.0) is (q ∙ ap (λ y. alt y is) a.2) in
            let same = same_word w a.0 x (word_in a.0 a.1) r.0 is_Known (known_alone a.0 a.1) in
            let b = past_word s i w p e t name in
            (r.1, ap (λ y. alt_comes y (at_byte s t i)) a.2 ∙ (λ j. calls (same j) (b.0 j) [] Opened (b.1 j)))

    pub bare_ends : (mark : Token) (ms me : ℕ) → NextBy mark s e ms me → (mark ≡ Open → ⊥) → (t₁ : List Row) (n : ℕ) → PlacedAs (λ ps. calls x p [] Opened (state t ps)) t₁ (Ok n) → AltBuilt s i t t₁ (Ok (record { ty = n; end = e }))
    bare_ends mark ms me m ne t₁ n came y is c q = let h = bare_comes mark ms me m ne y is q in (h.0, h.1 ∙ came (starts_of (from s e)))

    pub bare_breaks : (mark : Token) (ms me : ℕ) → NextBy mark s e ms me → (mark ≡ Open → ⊥) → (t₁ : List Row) (f : Placed) → PlacedAs (λ ps. calls x p [] Opened (state t ps)) t₁ (Err f) → AltBuilt s i t t₁ (Err (Call f))
    bare_breaks mark ms me m ne t₁ f came y is c q = (bare_comes mark ms me m ne y is q).1 ∙ came (starts_of (from s e))

    -- a bracket follows
    module _ (ms me : ℕ) (mark : Ahead s e left ms me) where
      pub record Inside (y : Alt) (is : List Item) : Type 0 where
        pub between : Args
        pub ahead : seen (from s me) ≡ args between is
        pub comes_to : alt_comes y (at_byte s t i) ≡ args_come between (calls x p) (at_byte s t me)

      within : (y : Alt) (is : List Item) → still is → seen (from s i) ≡ alt y is → Inside y is
      within y is c q = ⊎_elim lone held (view y)
        where
          lone : Alone y → Inside y is
          lone a =
              let r = ahead_rest s i (word w) p e name (word a.0) is (q ∙ ap (λ y. alt y is) a.2) in
              absurd (subst still (sym r.1 ∙ ap seen mark.items_are) c)

          held : Bracketed y → Inside y is
          held b =
              let r = ahead_rest s i (word w) p e name (word b.spelled) (left ∷ args b.inside is) (q ∙ b.written is) in
              let r' = ahead_rest s e left ms me mark left (args b.inside is) r.1 in
              let same = same_word w b.spelled x b.named r.0 is_Known (means_known b.spelled b.named b.means) in
              let a = past_word s i w p e t name in
              let on = a.1 ∙ past_mark s e left ms me t (λ z. omega arith) mark in
              record { between = b.inside; ahead = r'.1; comes_to = b.comes_to (at_byte s t i) ∙ (λ j. args_come b.inside (calls (same j) (a.0 j)) (on j)) }

      pub args_break : (t₁ : List Row) (es es' : List ℕ) (f : TextFault) → ArgsBuilt s me t t₁ es es' (Err f) → AltBuilt s i t t₁ (Err f)
      args_break t₁ es es' f built y is c q =
          let h = within y is c q in
          fails_as t₁ (alt_comes y (at_byte s t i)) (args_come h.between (calls x p) (at_byte s t me)) f h.comes_to (built h.between is h.ahead (calls x p))

      module _ (t₁ : List Row) (es es' : List ℕ) (cl : Closed) (built : ArgsBuilt s me t t₁ es es' (Ok cl)) (ns : List ℕ) (are : ns ≡ built.0) where
        called_with : (y : Alt) (is : List Item) → still is → seen (from s i) ≡ alt y is → (seen (from s cl.end) ≡ is) × (alt_comes y (at_byte s t i) ≡ calls x p ns cl.form (at_byte s t₁ cl.end))
        called_with y is c q =
            let h = within y is c q in
            let g = built.2 h.between is h.ahead in
            (g.0, h.comes_to ∙ g.1 (calls x p) ∙ ap (λ ns. calls x p ns cl.form (at_byte s t₁ cl.end)) (sym are))

        pub call_breaks : (t₂ : List Row) (f : Placed) → PlacedAs (λ ps. calls x p ns cl.form (state t₁ ps)) t₂ (Err f) → AltBuilt s i t t₂ (Err (Call f))
        call_breaks t₂ f came y is c q = (called_with y is c q).1 ∙ came (starts_of (from s cl.end))

        pub call_ends : (t₂ : List Row) (n : ℕ) → PlacedAs (λ ps. calls x p ns cl.form (state t₁ ps)) t₂ (Ok n) → AltBuilt s i t t₂ (Ok (record { ty = n; end = cl.end }))
        call_ends t₂ n came y is c q = let h = called_with y is c q in (h.0, h.1 ∙ came (starts_of (from s cl.end)))

-- what was put behind the elements is what stands from their old end on
pub added : (es es' ns : List ℕ) (base : ℕ) → base ≡ length es → es' ≡ es ++ ns → (drop base es' ≡ ns) × (take base es' ≡ es)
added es es' ns base e q = ((λ j. drop (e j) (q j)) ∙ drop-append_seam es ns, (λ j. take (e j) (q j)) ∙ take-append_seam es ns)
