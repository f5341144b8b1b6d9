-- What the readers of the second pass answer, for every tree of the items ahead. Assumes nothing.
use Rattle.std.specs.Prelude.{◌≡◌, ℕ, ◌<◌, ◌≤◌, List, [], ◌∷◌, ◌++◌, length, None, Ok, Err, Option, Result, vec_len}
use Rattle.values.specs.Refusals.{number}
use Rattle.membership.specs.Rows.{Row}
use Rattle.grammar.specs.declared.words.Class.TheVariants.{Dots}
use Rattle.grammar.specs.Names.{Called}
use Rattle.grammar.specs.Items.{Item, word, right, comma, from, calm, still}
use Rattle.grammar.specs.Grammar.{Text, Alt, text, alt, seen}
use Rattle.annotation.specs.declared.calls.Form.{Form}
use Rattle.annotation.specs.declared.calls.Form.TheVariants.{Fixed, Open as Opened}
use Rattle.annotation.specs.declared.fault.Placed.{Placed}
use Rattle.annotation.specs.declared.fault.TextFault.{TextFault}
use Rattle.annotation.specs.declared.fault.TextFault.TheVariants.{Outside, Call}
use Rattle.annotation.specs.declared.builder.Builder.{Builder}
use Rattle.annotation.specs.declared.builders.Built.{Built}
use Rattle.annotation.specs.declared.builders.Closed.{Closed}
use Rattle.annotation.specs.Evaluated.{State, state, past, Came, made, turned, on_made, text_comes, alt_comes, starts_of}

-- the state at the byte i of the text s
abbrev pub at_byte : List ℕ → List Row → ℕ → State
at_byte s t i = state t (starts_of (from s i))

-- arguments up to the closing bracket
pub data Args : Type 0 where
  shut : Args
  dots : (d : List ℕ) → Called d Dots → Args
  final : Text → Args
  further : Text → Args → Args

-- how they are written, in front of the items r
abbrev pub args : Args → List Item → List Item
args shut r = right ∷ r
args (dots d e) r = word d ∷ right ∷ r
args (final t) r = text t (right ∷ r)
args (further t z) r = text t (comma ∷ args z r)

-- what they come to, and then k with their types
abbrev pub args_come : Args → (List ℕ → Form → State → Came) → State → Came
args_come shut k σ = k [] Fixed σ
args_come (dots d e) k σ = k [] Opened (past σ)
args_come (final t) k σ = on_made (text_comes t None σ) (λ σ' n. k (n ∷ []) Fixed σ')
args_come (further t z) k σ = on_made (text_comes t None σ) (λ σ' n. args_come z (λ ns. k (n ∷ ns)) σ')

-- a fault is that of the refused call
abbrev pub Fails : List Row → Came → TextFault → Type 0
Fails t' v (Outside f) = ⊥
Fails t' v (Call c) = v ≡ turned t' (number c.why) c.byte

-- a type call comes to the same with any words to come
abbrev pub PlacedAs : (List ℕ → Came) → List Row → Result ℕ Placed → Type 0
PlacedAs f t' (Ok n) = (ps : List ℕ) → f ps ≡ made (state t' ps) n
PlacedAs f t' (Err e) = (ps : List ℕ) → f ps ≡ turned t' (number e.why) e.byte

-- a reader comes to v and leaves the items is ahead
abbrev pub Says : List ℕ → List Item → List Row → Came → Result Built TextFault → Type 0
Says s is t' v (Ok b) = (seen (from s b.end) ≡ is) × (v ≡ made (at_byte s t' b.end) b.ty)
Says s is t' v (Err f) = Fails t' v f

abbrev pub TextBuilt : List ℕ → ℕ → Option ℕ → List Row → List Row → Result Built TextFault → Type 0
TextBuilt s i b t t' r = (x : Text) (is : List Item) → calm is → seen (from s i) ≡ text x is → Says s is t' (text_comes x b (at_byte s t i)) r

abbrev pub AltBuilt : List ℕ → ℕ → List Row → List Row → Result Built TextFault → Type 0
AltBuilt s i t t' r = (y : Alt) (is : List Item) → still is → seen (from s i) ≡ alt y is → Says s is t' (alt_comes y (at_byte s t i)) r

-- the arguments' types are put behind those that es has
abbrev pub ArgsBuilt : List ℕ → ℕ → List Row → List Row → List ℕ → List ℕ → Result Closed TextFault → Type 0
ArgsBuilt s i t t' es es' (Ok b) = (ns : List ℕ) × (es' ≡ es ++ ns) × ((z : Args) (is : List Item) → seen (from s i) ≡ args z is → (seen (from s b.end) ≡ is) × ((k : List ℕ → Form → State → Came) → args_come z k (at_byte s t i) ≡ k ns b.form (at_byte s t' b.end)))
ArgsBuilt s i t t' es es' (Err f) = (z : Args) (is : List Item) → seen (from s i) ≡ args z is → (k : List ℕ → Form → State → Came) → Fails t' (args_come z k (at_byte s t i)) f

-- a reader may begin at the byte i: fewer arguments wait than bytes went by
abbrev pub Ready : Builder → ℕ → Type 0
Ready b i = (i ≤ length b.text.now) × (vec_len b.elements.now ≤ i)

-- the text and both tables are still those
abbrev pub SameBuilder : Builder → Builder → Type 0
SameBuilder b c = (c.text ≡ b.text) × (c.types.ghost_name ≡ b.types.ghost_name) × (c.elements.ghost_name ≡ b.elements.ghost_name)

-- how far a reader goes
abbrev pub Forth : List ℕ → ℕ → Result Built TextFault → Type 0
Forth s i (Ok b) = (i < b.end) × (b.end ≤ length s)
Forth s i (Err f) = Unit {0}

abbrev pub ForthClosed : List ℕ → ℕ → Result Closed TextFault → Type 0
ForthClosed s i (Ok b) = (i < b.end) × (b.end ≤ length s)
ForthClosed s i (Err f) = Unit {0}
