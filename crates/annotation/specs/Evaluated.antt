-- What a valid text means: the type calls of its tree, in their order. Assumes nothing.
use Rattle.std.specs.Prelude.{◌≡◌, ℕ, List, [], ◌∷◌, drop, Some, None, Ok, Err, Option, Result, slice_index}
use Rattle.std.proofs.Common.{inl, inr}
use Rattle.values.specs.Refusals.{number}
use Rattle.membership.specs.Rows.{Row, Outcome, granted, refused, union2}
use Rattle.grammar.specs.declared.words.Word.{Word}
use Rattle.grammar.specs.Items.{Placed, at, word, bar, left, right, comma, items}
use Rattle.grammar.specs.Grammar.{Name, Text, last, join, Alt, alone, one, two, none, some, run, More, end, also, text, seen, Accepted, FaultAt}
use Rattle.annotation.specs.declared.calls.Form.{Form}
use Rattle.annotation.specs.declared.calls.Form.TheVariants.{Fixed, Open}
use Rattle.annotation.specs.declared.fault.TextFault.{TextFault}
use Rattle.annotation.specs.declared.fault.TextFault.TheVariants.{Outside, Call}
use Rattle.annotation.specs.Calls.{called}

-- the table of types, and the bytes where the words to come start
pub record State : Type 0 where
  pub rows : List Row
  pub starts : List ℕ

abbrev pub state : List Row → List ℕ → State
state t ps = record { rows = t; starts = ps }

-- the byte of the next word, and the state past that word
abbrev pub first : State → ℕ
first σ = slice_index σ.starts 0

abbrev pub past : State → State
past σ = state σ.rows (drop 1 σ.starts)

-- what a part of a text comes to: the number of its type, or the table at a refused call, the reason's number and the byte
pub data Came : Type 0 where
  made : State → ℕ → Came
  turned : List Row → ℕ → ℕ → Came

abbrev pub on_made : Came → (State → ℕ → Came) → Came
on_made (made σ n) f = f σ n
on_made (turned t why p) f = turned t why p

-- a type call of the alternative at the byte p
abbrev pub placed : ℕ → State → Outcome → Came
placed p σ (granted g) = made (state g.rows σ.starts) g.number
placed p σ (refused why) = turned σ.rows why p

abbrev pub calls : Word → ℕ → List ℕ → Form → State → Came
calls x p ns f σ = placed p σ (called x f ns σ.rows)

-- an alternative's type is joined to those before it; the first is joined to nothing
abbrev pub joined : Option ℕ → ℕ → State → ℕ → Came
joined None p σ n = made σ n
joined (Some m) p σ n = placed p σ (union2 σ.rows m n)

-- the word of a name that stands alone
abbrev pub word_in : (w : List ℕ) → Name w → Word
word_in w (inl c) = c.0
word_in w (inr (inl c)) = c.0
word_in w (inr (inr (inl c))) = c.0
word_in w (inr (inr (inr c))) = c.0

abbrev mutual
  -- a text, after the alternatives that came to the type b
  pub text_comes : Text → Option ℕ → State → Came
  text_comes (last a) b σ = on_made (alt_comes a σ) (joined b (first σ))
  text_comes (join a t) b σ = on_made (on_made (alt_comes a σ) (joined b (first σ))) (λ σ' n. text_comes t (Some n) σ')

  -- an alternative: its arguments, then its own call
  pub alt_comes : Alt → State → Came
  alt_comes (alone w n) σ = calls (word_in w n) (first σ) [] Open (past σ)
  alt_comes (one w c t) σ = on_made (text_comes t None (past σ)) (λ σ' n. calls c.0 (first σ) (n ∷ []) Fixed σ')
  alt_comes (two w c t u) σ = on_made (text_comes t None (past σ)) (λ σ' m. on_made (text_comes u None σ') (λ σ'' n. calls c.0 (first σ) (m ∷ n ∷ []) Fixed σ''))
  alt_comes (none w c) σ = calls c.0 (first σ) [] Fixed (past σ)
  alt_comes (some w c t m) σ = on_made (text_comes t None (past σ)) (λ σ' n. more_come m (λ ns. calls c.0 (first σ) (n ∷ ns) Fixed) σ')
  alt_comes (run w d c e t) σ = on_made (text_comes t None (past σ)) (λ σ' n. calls c.0 (first σ) (n ∷ []) Open (past σ'))

  -- further arguments, and then k with their types
  pub more_come : More → (List ℕ → State → Came) → State → Came
  more_come end k σ = k [] σ
  more_come (also t m) k σ = on_made (text_comes t None σ) (λ σ' n. more_come m (λ ns. k (n ∷ ns)) σ')

-- the bytes where the words start
abbrev pub starts_of : List Placed → List ℕ
starts_of [] = []
starts_of (at p (word w) ∷ is) = p ∷ starts_of is
starts_of (at p bar ∷ is) = starts_of is
starts_of (at p left ∷ is) = starts_of is
starts_of (at p right ∷ is) = starts_of is
starts_of (at p comma ∷ is) = starts_of is

-- what the text s with the tree x comes to on the table t
abbrev pub comes : List ℕ → List Row → Text → Came
comes s t x = text_comes x None (state t (starts_of (items 0 s)))

-- every tree of the text s comes to v on the table t
abbrev pub MeansOn : List ℕ → List Row → Came → Type 0
MeansOn s t v = Accepted s × ((x : Text) → text x [] ≡ seen (items 0 s) → comes s t x ≡ v)

-- what the reader answers, and the table t' that it leaves: of a text outside the grammar the byte of the fault
abbrev pub ReadAs : List ℕ → List Row → List Row → Result ℕ TextFault → Type 0
ReadAs s t t' (Ok n) = MeansOn s t (made (state t' []) n)
ReadAs s t t' (Err (Outside f)) = FaultAt s f.byte × (t' ≡ t)
ReadAs s t t' (Err (Call c)) = MeansOn s t (turned t' (number c.why) c.byte)
