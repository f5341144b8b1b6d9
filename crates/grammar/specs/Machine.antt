-- What the inner readers do, as a stack of what is still to come. Assumes nothing.
use Rattle.std.specs.Prelude.{◌≡◌, ℕ, ◌+◌, ◌-◌, ◌*◌, ◌<◌, ◌≤◌, Bool, true, false, cond, not, ◌&&◌, List, [], ◌∷◌, length, take, drop, Some, None, codes, Option, Result, MatchResult, ◌==◌, nat_le, slice_index}
use Rattle.grammar.specs.declared.fault.Fault.{Fault}
use Rattle.grammar.specs.declared.words.Class.{Class}
use Rattle.grammar.specs.declared.words.Class.TheVariants.{Bare, One, Two, Many, Dots}
use Rattle.grammar.specs.declared.stages.Stage.{Stage}
use Rattle.grammar.specs.declared.stages.Stage.TheVariants.{Only, Key, Value, First, Second, Later}
use Rattle.grammar.specs.Items.{Item, word, bar, left, right, comma, Placed, at, from}
use Rattle.grammar.specs.declared.words.Word.{Word}
use Rattle.grammar.specs.declared.words.Word.TheVariants.{Host, Custom}
use Rattle.grammar.specs.Names.{Row, row, table, takes}
use Rattle.std.specs.Str.{bytes_eq, all_ascii_digits}

-- the word that bytes are and its class, as the reader finds them
abbrev pub read_on : ℕ → List ℕ → ℕ
read_on n [] = n
read_on n (c ∷ cs) = read_on (10 * n + (c - 48)) cs

abbrev pub zero_first_lem : List ℕ → Bool
zero_first_lem ds = slice_index ds 0 == 48 && not (length ds == 1)

unfoldable pub is_number : List ℕ → Bool
is_number ds = nat_le 1 (length ds) && (nat_le (length ds) 5 && (not (zero_first_lem ds) && (all_ascii_digits ds && nat_le (read_on 0 ds) 65535)))

abbrev pub number : List ℕ → Option ℕ
number ds = cond (is_number ds) (Some (read_on 0 ds)) None

abbrev pub with_number : (ℕ → Word) → Option ℕ → Option Word
with_number f (Some n) = Some (f n)
with_number f None = None

abbrev pub numbered : List ℕ → Option Word
numbered w = cond (bytes_eq (take 5 w) (codes "host.")) (with_number Host (number (drop 5 w))) (cond (bytes_eq (take 7 w) (codes "custom.")) (with_number Custom (number (drop 7 w))) None)

abbrev pub look_up : List ℕ → List Row → Option Word → Option Word
look_up w [] d = d
look_up w (row v x ∷ rs) d = cond (bytes_eq w v) (Some x) (look_up w rs d)

-- the word that the bytes w are
unfoldable pub known : List ℕ → Option Word
known w = look_up w table (numbered w)

abbrev pub class_by : Option Word → Option Class
class_by (Some x) = Some (takes x)
class_by None = None

unfoldable pub class : List ℕ → Option Class
class w = class_by (known w)

pub data Sym : Type 0 where
  txt : Sym
  bars : Sym
  opens : Stage → Sym
  arg : Stage → Sym
  rest : Stage → Sym
  shut : Sym

abbrev pub Stack : Type 0
Stack = List Sym

abbrev pub after : Stage → Stage
after Only = Later
after Key = Value
after Value = Later
after First = Second
after Second = Later
after Later = Later

abbrev pub may_close : Stage → Bool
may_close Only = true
may_close Key = false
may_close Value = true
may_close First = true
may_close Second = true
may_close Later = true

abbrev pub may_comma : Stage → Bool
may_comma Only = false
may_comma Key = true
may_comma Value = false
may_comma First = true
may_comma Second = true
may_comma Later = true

-- what follows a name of each class
abbrev pub named : Option Class → Stack → Option Stack
named (Some Bare) k = Some (bars ∷ k)
named (Some One) k = Some (opens Only ∷ bars ∷ k)
named (Some Two) k = Some (opens Key ∷ bars ∷ k)
named (Some Many) k = Some (opens First ∷ bars ∷ k)
named (Some Dots) k = None
named None k = None

abbrev pub begins : Item → Stack → Option Stack
begins (word w) k = named (class w) k
begins bar k = None
begins left k = None
begins right k = None
begins comma k = None

abbrev pub dotted : Option Class → Option Stack → Option Stack → Option Stack
dotted (Some Bare) a b = b
dotted (Some One) a b = b
dotted (Some Two) a b = b
dotted (Some Many) a b = b
dotted (Some Dots) a b = a
dotted None a b = b

-- an argument: `]` at once, `...`, or a text
abbrev pub argues : Stage → Item → Stack → Option Stack
argues First (word w) k = named (class w) (rest First ∷ k)
argues First bar k = None
argues First left k = None
argues First right k = Some k
argues First comma k = None
argues Second (word w) k = dotted (class w) (Some (shut ∷ k)) (named (class w) (rest Second ∷ k))
argues Second bar k = None
argues Second left k = None
argues Second right k = None
argues Second comma k = None
argues Only i k = begins i (rest Only ∷ k)
argues Key i k = begins i (rest Key ∷ k)
argues Value i k = begins i (rest Value ∷ k)
argues Later i k = begins i (rest Later ∷ k)

abbrev pub goes : Stage → Item → Stack → Option Stack
goes st (word w) k = None
goes st bar k = None
goes st left k = None
goes st right k = cond (may_close st) (Some k) None
goes st comma k = cond (may_comma st) (Some (arg (after st) ∷ k)) None

abbrev pub closes : Item → Stack → Option Stack
closes (word w) k = None
closes bar k = None
closes left k = None
closes right k = Some k
closes comma k = None

abbrev pub barred : Item → Stack → Option Stack → Option Stack
barred (word w) k o = o
barred bar k o = Some (txt ∷ k)
barred left k o = o
barred right k o = o
barred comma k o = o

abbrev pub opened : Item → Stack → Option Stack → Option Stack
opened (word w) k o = o
opened bar k o = o
opened left k o = Some k
opened right k o = o
opened comma k o = o

abbrev pub feed : Stack → Item → Option Stack
feed [] i = None
feed (txt ∷ k) i = begins i k
feed (bars ∷ k) i = barred i k (feed k i)
feed (opens st ∷ k) i = opened i (arg st ∷ k) (feed k i)
feed (arg st ∷ k) i = argues st i k
feed (rest st ∷ k) i = goes st i k
feed (shut ∷ k) i = closes i k

abbrev pub ends : Stack → Bool
ends [] = true
ends (txt ∷ k) = false
ends (bars ∷ k) = ends k
ends (opens st ∷ k) = ends k
ends (arg st ∷ k) = false
ends (rest st ∷ k) = false
ends (shut ∷ k) = false

abbrev pub or_else : ℕ → (Stack → Option ℕ) → Option Stack → Option ℕ
or_else p f (Some k) = f k
or_else p f None = Some p

-- where the items go wrong, if they do; n is the text's length
abbrev pub fault : ℕ → List Placed → Stack → Option ℕ
fault n [] k = cond (ends k) None (Some n)
fault n (at p i ∷ is) k = or_else p (fault n is) (feed k i)

-- what a reader of X answers
pub record Reads (s : List ℕ) (i : ℕ) (X : Sym) (e : ℕ) : Type 0 where
  pub on : i < e
  pub within : e ≤ length s
  pub same_fault : (k : List Sym) → fault (length s) (from s i) (X ∷ k) ≡ fault (length s) (from s e) k

abbrev pub Fails : List ℕ → ℕ → Sym → ℕ → Type 0
Fails s i X p = (k : List Sym) → fault (length s) (from s i) (X ∷ k) ≡ Some p

abbrev pub Reader : List ℕ → ℕ → Sym → Result ℕ Fault → Type 0
Reader s i X r = MatchResult r (Reads s i X) (λ f. Fails s i X f.byte)

-- an alternative leaves the bars that may follow it
pub record AltReads (s : List ℕ) (i e : ℕ) : Type 0 where
  pub on : i < e
  pub within : e ≤ length s
  pub same_fault : (k : List Sym) → fault (length s) (from s i) (txt ∷ k) ≡ fault (length s) (from s e) (bars ∷ k)

abbrev pub AltReader : List ℕ → ℕ → Result ℕ Fault → Type 0
AltReader s i r = MatchResult r (AltReads s i) (λ f. Fails s i txt f.byte)
