-- The steps of the arguments' reader. Assumes nothing.
use Rattle.std.proofs.Common.{◌≡◌, ℕ, List, [], ◌∷◌, ◌++◌, Some, None, Ok, Err, Result, Bor, sym, ap, ◌∙◌, subst, inl, inr, append_assoc, append-nil, arith}
use Rattle.membership.specs.Rows.{Row}
use Rattle.grammar.specs.declared.fault.Fault.{Fault}
use Rattle.grammar.specs.declared.words.Class.TheVariants.{Bare, One, Two, Many, Dots}
use Rattle.grammar.specs.declared.tokens.Token.{Token}
use Rattle.grammar.specs.declared.tokens.Token.TheVariants.{Name as Named, Bar, Open, Close, Comma, End}
use Rattle.grammar.specs.Items.{Item, word, bar, left, right, comma, from}
use Rattle.grammar.specs.Names.{Called}
use Rattle.grammar.specs.Machine.{class}
use Rattle.grammar.specs.Grammar.{Name, seen}
use Rattle.grammar.specs.Lexed.{Ahead, NextBy}
use Rattle.grammar.specs.declared.stages.Entry.TheVariants.{Shut, Dotted, Plain}
use Rattle.grammar.specs.Steps.{entry_by, entry}
use Rattle.grammar.proofs.Names.{called}
use Rattle.grammar.proofs.Entries.{shut_is, dotted_is}
use Rattle.grammar.proofs.Theory.{text_head}
use Rattle.annotation.specs.declared.calls.Form.{Form}
use Rattle.annotation.specs.declared.calls.Form.TheVariants.{Fixed, Open as Opened}
use Rattle.annotation.specs.declared.fault.TextFault.{TextFault}
use Rattle.annotation.specs.declared.fault.TextFault.TheVariants.{Outside}
use Rattle.annotation.specs.declared.builders.Built.{Built}
use Rattle.annotation.specs.declared.builders.Closed.{Closed}
use Rattle.annotation.specs.Evaluated.{State, Came, on_made, text_comes}
use Rattle.annotation.specs.Building.{at_byte, Args, shut, dots, final, further, args, args_come, Fails, TextBuilt, ArgsBuilt}
use Rattle.annotation.proofs.Fronts.{apart, ahead_rest, token_is, Stands, right_token, comma_token, word_of_is, past_word, past_mark, fails_on, fails_as}

-- the dots are no name
undotted : (w : List ℕ) → Name w → class w ≡ Some Dots → ⊥
undotted w (inl c) e = let z = sym (called w Bare c) ∙ e in cc
undotted w (inr (inl c)) e = let z = sym (called w One c) ∙ e in cc
undotted w (inr (inr (inl c))) e = let z = sym (called w Two c) ∙ e in cc
undotted w (inr (inr (inr c))) e = let z = sym (called w Many c) ∙ e in cc

-- the closing bracket at once
pub args_shut : (tok : Token) (s : List ℕ) (i p e : ℕ) (t : List Row) (es : List ℕ) → NextBy tok s i p e → Shut ≡ entry tok → ArgsBuilt s i t t es es (Ok (record { form = Fixed; end = e }))
args_shut tok s i p e t es next q = ([], sym (append-nil es), go)
  where
    here : Ahead s i right p e
    here = subst (λ t. NextBy t s i p e) (shut_is tok q) next

    wordless : (w : List ℕ) (js : List Item) → seen (from s i) ≡ word w ∷ js → ⊥
    wordless w js l = apart right (word w) (seen (from s e)) js (λ z. omega arith) (sym (ap seen here.items_are) ∙ l)

    go : (z : Args) (is : List Item) → seen (from s i) ≡ args z is → (seen (from s e) ≡ is) × ((k : List ℕ → Form → State → Came) → args_come z k (at_byte s t i) ≡ k [] Fixed (at_byte s t e))
    go shut is l = ((ahead_rest s i right p e here right is l).1, λ k. ap (k [] Fixed) (past_mark s i right p e t (λ z. omega arith) here))
    go (dots d c) is l = absurd (wordless d (right ∷ is) l)
    go (final x) is l = let h = text_head x (right ∷ is) in absurd (wordless h.0 h.1 (l ∙ h.2))
    go (further x z) is l = let h = text_head x (comma ∷ args z is) in absurd (wordless h.0 h.1 (l ∙ h.2))

-- the dots, and the closing bracket or what stands in its place
module _ (tok : Token) (s : List ℕ) (i p e : ℕ) (t : List Row) (es : List ℕ) (next : NextBy tok s i p e) (q : Dotted ≡ entry tok) where
  word_here : (w : Bor (List ℕ)) × (tok ≡ Named w) × (class w.now ≡ Some Dots)
  word_here = dotted_is tok q

  w : List ℕ
  w = word_here.0.now

  here : Ahead s i (word w) p e
  unfolding w word_here
  here = subst (λ t. NextBy t s i p e) word_here.1 next

  markless : (js : List Item) → seen (from s i) ≡ right ∷ js → ⊥
  markless js l = apart (word w) right (seen (from s e)) js (λ z. omega arith) (sym (ap seen here.items_are) ∙ l)

  nameless : (v : List ℕ) (js : List Item) → Name v → seen (from s i) ≡ word v ∷ js → ⊥
  unfolding w word_here
  nameless v js n l = undotted v n (sym (ap class (word_of_is w v (ahead_rest s i (word w) p e here (word v) js l).0)) ∙ word_here.2)

  pub dots_end : (f : ℕ) → (m : ℕ) × Ahead s e right m f → ArgsBuilt s i t t es es (Ok (record { form = Opened; end = f }))
  dots_end f c = ([], sym (append-nil es), go)
    where
      go : (z : Args) (is : List Item) → seen (from s i) ≡ args z is → (seen (from s f) ≡ is) × ((k : List ℕ → Form → State → Came) → args_come z k (at_byte s t i) ≡ k [] Opened (at_byte s t f))
      go shut is l = absurd (markless is l)
      go (dots d m) is l =
          let on = (past_word s i w p e t here).1 ∙ past_mark s e right c.0 f t (λ z. omega arith) c.1 in
          ((ahead_rest s e right c.0 f c.1 right is (ahead_rest s i (word w) p e here (word d) (right ∷ is) l).1).1, λ k. ap (k [] Opened) on)
      go (final x) is l = let h = text_head x (right ∷ is) in absurd (nameless h.0 h.1 h.3 (l ∙ h.2))
      go (further x z) is l = let h = text_head x (comma ∷ args z is) in absurd (nameless h.0 h.1 h.3 (l ∙ h.2))

  pub dots_break : (f : Fault) → (m : Token) × (me : ℕ) × NextBy m s e f.byte me × (m ≡ Close → ⊥) → ArgsBuilt s i t t es es (Err (Outside f))
  dots_break f c z is l k = go z is l
    where
      go : (z : Args) (is : List Item) → seen (from s i) ≡ args z is → ⊥
      go shut is l = markless is l
      go (dots d m) is l = c.3 (right_token c.0 (token_is c.0 s e f.byte c.1 c.2 right is (ahead_rest s i (word w) p e here (word d) (right ∷ is) l).1).0)
      go (final x) is l = let h = text_head x (right ∷ is) in nameless h.0 h.1 h.3 (l ∙ h.2)
      go (further x z) is l = let h = text_head x (comma ∷ args z is) in nameless h.0 h.1 h.3 (l ∙ h.2)

module _ (tok : Token) (s : List ℕ) (i p e : ℕ) (next : NextBy tok s i p e) (plain : Plain ≡ entry tok) (t : List Row) where
  no_mark_there : (js : List Item) → seen (from s i) ≡ right ∷ js → ⊥
  no_mark_there js l = let z = plain ∙ ap entry (right_token tok (token_is tok s i p e next right js l).0) in cc

  no_dots : (d : List ℕ) (js : List Item) → Called d Dots → seen (from s i) ≡ word d ∷ js → ⊥
  no_dots d js c l = go tok plain (token_is tok s i p e next (word d) js l).0
    where
      go : (tok : Token) → Plain ≡ entry tok → Stands tok (word d) → ⊥
      go (Named v) q z = let e = q ∙ ap (λ w. entry_by (class w)) (word_of_is v.now d z) ∙ ap entry_by (called d Dots c) in cc
      go Bar q z = apart bar (word d) [] [] (λ z. omega arith) (ap (λ x. x ∷ []) z)
      go Open q z = apart left (word d) [] [] (λ z. omega arith) (ap (λ x. x ∷ []) z)
      go Close q z = apart right (word d) [] [] (λ z. omega arith) (ap (λ x. x ∷ []) z)
      go Comma q z = apart comma (word d) [] [] (λ z. omega arith) (ap (λ x. x ∷ []) z)
      go End q z = z

  -- the argument's text is refused
  pub text_fails : (t₁ : List Row) (es es' : List ℕ) (f : TextFault) → TextBuilt s i None t t₁ (Err f) → ArgsBuilt s i t t₁ es es' (Err f)
  text_fails t₁ es es' f built shut is l k = absurd (no_mark_there is l)
  text_fails t₁ es es' f built (dots d c) is l k = absurd (no_dots d (right ∷ is) c l)
  text_fails t₁ es es' f built (final x) is l k = fails_on t₁ (text_comes x None (at_byte s t i)) (λ σ n. k (n ∷ []) Fixed σ) f (built x (right ∷ is) tt l)
  text_fails t₁ es es' f built (further x z) is l k = fails_on t₁ (text_comes x None (at_byte s t i)) (λ σ n. args_come z (λ ns. k (n ∷ ns)) σ) f (built x (comma ∷ args z is) tt l)

  module _ (t₁ : List Row) (a : Built) (built : TextBuilt s i None t t₁ (Ok a)) (es es₂ : List ℕ) (pushed : es₂ ≡ es ++ a.ty ∷ []) where
    -- the closing bracket
    pub args_close : (ms me : ℕ) → Ahead s a.end right ms me → ArgsBuilt s i t t₁ es es₂ (Ok (record { form = Fixed; end = me }))
    args_close ms me m = (a.ty ∷ [], pushed, go)
      where
        go : (z : Args) (is : List Item) → seen (from s i) ≡ args z is → (seen (from s me) ≡ is) × ((k : List ℕ → Form → State → Came) → args_come z k (at_byte s t i) ≡ k (a.ty ∷ []) Fixed (at_byte s t₁ me))
        go shut is l = absurd (no_mark_there is l)
        go (dots d c) is l = absurd (no_dots d (right ∷ is) c l)
        go (final x) is l =
            let h = built x (right ∷ is) tt l in
            ((ahead_rest s a.end right ms me m right is h.0).1, λ k. ap (λ v. on_made v (λ σ n. k (n ∷ []) Fixed σ)) h.1 ∙ ap (k (a.ty ∷ []) Fixed) (past_mark s a.end right ms me t₁ (λ z. omega arith) m))
        go (further x z) is l =
            let h = built x (comma ∷ args z is) tt l in
            absurd (apart right comma (seen (from s me)) (args z is) (λ z. omega arith) (sym (ap seen m.items_are) ∙ h.0))

    -- a comma, and further arguments
    pub args_comma : (ms me : ℕ) → Ahead s a.end comma ms me → (t₂ : List Row) (es₃ : List ℕ) (r : Result Closed TextFault) → ArgsBuilt s me t₁ t₂ es₂ es₃ r → ArgsBuilt s i t t₂ es es₃ r
    args_comma ms me m t₂ es₃ (Ok b) rec = (a.ty ∷ rec.0, rec.1 ∙ ap (λ l. l ++ rec.0) pushed ∙ append_assoc es (a.ty ∷ []) rec.0, go)
      where
        go : (z : Args) (is : List Item) → seen (from s i) ≡ args z is → (seen (from s b.end) ≡ is) × ((k : List ℕ → Form → State → Came) → args_come z k (at_byte s t i) ≡ k (a.ty ∷ rec.0) b.form (at_byte s t₂ b.end))
        go shut is l = absurd (no_mark_there is l)
        go (dots d c) is l = absurd (no_dots d (right ∷ is) c l)
        go (final x) is l =
            let h = built x (right ∷ is) tt l in
            absurd (apart comma right (seen (from s me)) is (λ z. omega arith) (sym (ap seen m.items_are) ∙ h.0))
        go (further x z) is l =
            let h = built x (comma ∷ args z is) tt l in
            let g = rec.2 z is (ahead_rest s a.end comma ms me m comma (args z is) h.0).1 in
            (g.0, λ k. ap (λ v. on_made v (λ σ n. args_come z (λ ns. k (n ∷ ns)) σ)) h.1 ∙ ap (args_come z (λ ns. k (a.ty ∷ ns))) (past_mark s a.end comma ms me t₁ (λ z. omega arith) m) ∙ g.1 (λ ns. k (a.ty ∷ ns)))
    args_comma ms me m t₂ es₃ (Err f) rec = go
      where
        go : (z : Args) (is : List Item) → seen (from s i) ≡ args z is → (k : List ℕ → Form → State → Came) → Fails t₂ (args_come z k (at_byte s t i)) f
        go shut is l k = absurd (no_mark_there is l)
        go (dots d c) is l k = absurd (no_dots d (right ∷ is) c l)
        go (final x) is l k =
            let h = built x (right ∷ is) tt l in
            absurd (apart comma right (seen (from s me)) is (λ z. omega arith) (sym (ap seen m.items_are) ∙ h.0))
        go (further x z) is l k =
            let h = built x (comma ∷ args z is) tt l in
            fails_as t₂ (args_come (further x z) k (at_byte s t i)) (args_come z (λ ns. k (a.ty ∷ ns)) (at_byte s t₁ me)) f
            (ap (λ v. on_made v (λ σ n. args_come z (λ ns. k (n ∷ ns)) σ)) h.1 ∙ ap (args_come z (λ ns. k (a.ty ∷ ns))) (past_mark s a.end comma ms me t₁ (λ z. omega arith) m))
            (rec z is (ahead_rest s a.end comma ms me m comma (args z is) h.0).1 (λ ns. k (a.ty ∷ ns)))

    -- anything else
    pub args_other : (mark : Token) (ms me : ℕ) → NextBy mark s a.end ms me → (mark ≡ Close → ⊥) → (mark ≡ Comma → ⊥) → ArgsBuilt s i t t₁ es es₂ (Err (Outside (record { byte = ms })))
    args_other mark ms me m n₁ n₂ shut is l k = no_mark_there is l
    args_other mark ms me m n₁ n₂ (dots d c) is l k = no_dots d (right ∷ is) c l
    args_other mark ms me m n₁ n₂ (final x) is l k = n₁ (right_token mark (token_is mark s a.end ms me m right is (built x (right ∷ is) tt l).0).0)
    args_other mark ms me m n₁ n₂ (further x z) is l k = n₂ (comma_token mark (token_is mark s a.end ms me m comma (args z is) (built x (comma ∷ args z is) tt l).0).0)
