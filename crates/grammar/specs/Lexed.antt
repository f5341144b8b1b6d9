-- What the lexer answers. Assumes nothing.
use Rattle.std.specs.Prelude.{◌≡◌, ◌≢◌, ℕ, ◌<◌, ◌≤◌, List, [], ◌∷◌, length, slice_index, Result, MatchResult}
use Rattle.grammar.specs.declared.fault.Fault.{Fault}
use Rattle.grammar.specs.declared.tokens.Token.{Token}
use Rattle.grammar.specs.declared.tokens.Token.TheVariants.{Name, Bar, Open, Close, Comma, End}
use Rattle.grammar.specs.declared.tokens.Lexed.{Lexed}
use Rattle.grammar.specs.Items.{Item, word, bar, left, right, comma, at, from}

-- the first byte from i on that is no space is at start
pub record Starts (s : List ℕ) (i start : ℕ) : Type 0 where
  pub on : i ≤ start
  pub within : start < length s
  pub same_items : from s i ≡ from s start
  pub no_space : slice_index s start ≢ 32

-- the items from i on begin with x, at start, and go on at end
pub record Ahead (s : List ℕ) (i : ℕ) (x : Item) (start end : ℕ) : Type 0 where
  pub forth : i < end
  pub within : end ≤ length s
  pub items_are : from s i ≡ at start x ∷ from s end

pub record Over (s : List ℕ) (i start : ℕ) : Type 0 where
  pub start_is : start ≡ length s
  pub items_are : from s i ≡ []

abbrev pub NextBy : Token → List ℕ → ℕ → ℕ → ℕ → Type 0
NextBy (Name w) s i start end = Ahead s i (word w.now) start end
NextBy Bar s i start end = Ahead s i bar start end
NextBy Open s i start end = Ahead s i left start end
NextBy Close s i start end = Ahead s i right start end
NextBy Comma s i start end = Ahead s i comma start end
NextBy End s i start end = Over s i start

abbrev pub Next : List ℕ → ℕ → Lexed → Type 0
Next s i r = NextBy r.token s i r.start r.end

-- the closing bracket comes next, or something else does at the fault
abbrev pub Shuts : List ℕ → ℕ → Result ℕ Fault → Type 0
Shuts s i r = MatchResult r (λ e. (p : ℕ) × Ahead s i right p e) (λ f. (t : Token) × (e : ℕ) × NextBy t s i f.byte e × (t ≢ Close))
