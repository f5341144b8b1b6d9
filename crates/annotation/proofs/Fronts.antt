-- What a token says of the items ahead. Assumes nothing.
use Rattle.std.proofs.Common.{◌≡◌, ℕ, List, [], ◌∷◌, get_or, sym, refl, ap, ◌∙◌, subst, arith}
use Rattle.membership.specs.Rows.{Row}
use Rattle.grammar.specs.declared.tokens.Token.{Token}
use Rattle.grammar.specs.declared.tokens.Token.TheVariants.{Name, Bar, Open, Close, Comma, End}
use Rattle.grammar.specs.Items.{Item, word, bar, left, right, comma, from}
use Rattle.grammar.specs.Grammar.{seen}
use Rattle.grammar.specs.Lexed.{Ahead, NextBy}
use Rattle.annotation.specs.declared.fault.TextFault.{TextFault}
use Rattle.annotation.specs.declared.fault.TextFault.TheVariants.{Outside, Call}
use Rattle.annotation.specs.Evaluated.{State, state, first, past, Came, on_made, starts_of}
use Rattle.annotation.specs.Building.{at_byte, Fails}

pub head_is : {A : Type 0} (x y : A) (a b : List A) → x ∷ a ≡ y ∷ b → x ≡ y
head_is x y a b e = cc

pub tail_is : {A : Type 0} (x y : A) (a b : List A) → x ∷ a ≡ y ∷ b → a ≡ b
tail_is x y a b e = cc

pub word_of_is : (w v : List ℕ) → word w ≡ word v → w ≡ v
word_of_is w v e = cc

-- the items differ at the front
abbrev rank : Item → ℕ
rank (word w) = 0
rank bar = 1
rank left = 2
rank right = 3
rank comma = 4

pub apart : (i j : Item) (is js : List Item) → (rank i ≡ rank j → ⊥) → i ∷ is ≡ j ∷ js → ⊥
apart i j is js ne e = ne (ap rank (head_is i j is js e))

abbrev count : List Item → ℕ
count [] = 0
count (i ∷ is) = 1

pub none_ahead : (j : Item) (js : List Item) → [] ≡ j ∷ js → ⊥
none_ahead j js e = let z = ap count e in omega arith

-- one item ahead
pub ahead_seen : (s : List ℕ) (i : ℕ) (x : Item) (p e : ℕ) → Ahead s i x p e → seen (from s i) ≡ x ∷ seen (from s e)
ahead_seen s i x p e h = ap seen h.items_are

pub ahead_rest : (s : List ℕ) (i : ℕ) (x : Item) (p e : ℕ) → Ahead s i x p e → (j : Item) (js : List Item) → seen (from s i) ≡ j ∷ js → (x ≡ j) × (seen (from s e) ≡ js)
ahead_rest s i x p e h j js q =
    let both = sym (ahead_seen s i x p e h) ∙ q in
    (head_is x j (seen (from s e)) js both, tail_is x j (seen (from s e)) js both)

-- a mark starts no word
pub mark_starts : (s : List ℕ) (i : ℕ) (m : Item) (p e : ℕ) → (rank m ≡ 0 → ⊥) → Ahead s i m p e → starts_of (from s i) ≡ starts_of (from s e)
mark_starts s i (word w) p e ne h = absurd (ne refl)
mark_starts s i bar p e ne h = ap starts_of h.items_are
mark_starts s i left p e ne h = ap starts_of h.items_are
mark_starts s i right p e ne h = ap starts_of h.items_are
mark_starts s i comma p e ne h = ap starts_of h.items_are

pub word_starts : (s : List ℕ) (i : ℕ) (w : List ℕ) (p e : ℕ) → Ahead s i (word w) p e → starts_of (from s i) ≡ p ∷ starts_of (from s e)
word_starts s i w p e h = ap starts_of h.items_are

-- the token that stands before an item
abbrev pub Stands : Token → Item → Type 0
Stands (Name w) i = word w.now ≡ i
Stands Bar i = bar ≡ i
Stands Open i = left ≡ i
Stands Close i = right ≡ i
Stands Comma i = comma ≡ i
Stands End i = ⊥

pub token_is : (tok : Token) (s : List ℕ) (i p e : ℕ) → NextBy tok s i p e → (j : Item) (js : List Item) → seen (from s i) ≡ j ∷ js → Stands tok j × (seen (from s e) ≡ js)
token_is (Name w) s i p e h j js q = ahead_rest s i (word w.now) p e h j js q
token_is Bar s i p e h j js q = ahead_rest s i bar p e h j js q
token_is Open s i p e h j js q = ahead_rest s i left p e h j js q
token_is Close s i p e h j js q = ahead_rest s i right p e h j js q
token_is Comma s i p e h j js q = ahead_rest s i comma p e h j js q
token_is End s i p e h j js q = absurd (none_ahead j js (sym (ap seen h.items_are) ∙ q))

differ : (i j : Item) → (rank i ≡ rank j → ⊥) → i ≡ j → ⊥
differ i j ne e = ne (ap rank e)

-- which token stands before a mark
pub bar_token : (tok : Token) → Stands tok bar → tok ≡ Bar
bar_token (Name w) h = absurd (differ (word w.now) bar (λ z. omega arith) h)
bar_token Bar h = refl
bar_token Open h = absurd (differ left bar (λ z. omega arith) h)
bar_token Close h = absurd (differ right bar (λ z. omega arith) h)
bar_token Comma h = absurd (differ comma bar (λ z. omega arith) h)
bar_token End h = absurd h

pub left_token : (tok : Token) → Stands tok left → tok ≡ Open
left_token (Name w) h = absurd (differ (word w.now) left (λ z. omega arith) h)
left_token Bar h = absurd (differ bar left (λ z. omega arith) h)
left_token Open h = refl
left_token Close h = absurd (differ right left (λ z. omega arith) h)
left_token Comma h = absurd (differ comma left (λ z. omega arith) h)
left_token End h = absurd h

pub right_token : (tok : Token) → Stands tok right → tok ≡ Close
right_token (Name w) h = absurd (differ (word w.now) right (λ z. omega arith) h)
right_token Bar h = absurd (differ bar right (λ z. omega arith) h)
right_token Open h = absurd (differ left right (λ z. omega arith) h)
right_token Close h = refl
right_token Comma h = absurd (differ comma right (λ z. omega arith) h)
right_token End h = absurd h

pub comma_token : (tok : Token) → Stands tok comma → tok ≡ Comma
comma_token (Name w) h = absurd (differ (word w.now) comma (λ z. omega arith) h)
comma_token Bar h = absurd (differ bar comma (λ z. omega arith) h)
comma_token Open h = absurd (differ left comma (λ z. omega arith) h)
comma_token Close h = absurd (differ right comma (λ z. omega arith) h)
comma_token Comma h = refl
comma_token End h = absurd h

-- a word stands at the byte where its token starts
pub first_is : (tok : Token) (s : List ℕ) (i p e : ℕ) (t : List Row) → NextBy tok s i p e → (w : List ℕ) (js : List Item) → seen (from s i) ≡ word w ∷ js → first (at_byte s t i) ≡ p
first_is (Name v) s i p e t h w js q = ap (λ l. get_or l 0 0) (word_starts s i v.now p e h)
first_is Bar s i p e t h w js q = absurd (differ bar (word w) (λ z. omega arith) (token_is Bar s i p e h (word w) js q).0)
first_is Open s i p e t h w js q = absurd (differ left (word w) (λ z. omega arith) (token_is Open s i p e h (word w) js q).0)
first_is Close s i p e t h w js q = absurd (differ right (word w) (λ z. omega arith) (token_is Close s i p e h (word w) js q).0)
first_is Comma s i p e t h w js q = absurd (differ comma (word w) (λ z. omega arith) (token_is Comma s i p e h (word w) js q).0)
first_is End s i p e t h w js q = absurd (token_is End s i p e h (word w) js q).0

-- past a word
pub past_word : (s : List ℕ) (i : ℕ) (w : List ℕ) (p e : ℕ) (t : List Row) → Ahead s i (word w) p e → (first (at_byte s t i) ≡ p) × (past (at_byte s t i) ≡ at_byte s t e)
past_word s i w p e t h = (ap (λ l. first (state t l)) (word_starts s i w p e h), ap (λ l. past (state t l)) (word_starts s i w p e h))

pub past_mark : (s : List ℕ) (i : ℕ) (m : Item) (p e : ℕ) (t : List Row) → (rank m ≡ 0 → ⊥) → Ahead s i m p e → at_byte s t i ≡ at_byte s t e
past_mark s i m p e t ne h = ap (state t) (mark_starts s i m p e ne h)

-- a refused call stays refused
pub fails_on : (t : List Row) (v : Came) (g : State → ℕ → Came) (f : TextFault) → Fails t v f → Fails t (on_made v g) f
fails_on t v g (Outside p) h = h
fails_on t v g (Call c) h = ap (λ v. on_made v g) h

pub fails_as : (t : List Row) (v u : Came) (f : TextFault) → v ≡ u → Fails t u f → Fails t v f
fails_as t v u f e h = subst (λ v. Fails t v f) (sym e) h
