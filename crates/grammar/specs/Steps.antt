-- How an argument begins, and what that means to the machine. Assumes nothing.
use Rattle.std.specs.Prelude.{◌≡◌, ℕ, cond, List, ◌∷◌, Some, None, Option}
use Rattle.grammar.specs.declared.words.Class.{Class}
use Rattle.grammar.specs.declared.words.Class.TheVariants.{Bare, One, Two, Many, Dots}
use Rattle.grammar.specs.declared.tokens.Token.{Token}
use Rattle.grammar.specs.declared.tokens.Token.TheVariants.{Name, Bar, Open, Close, Comma, End}
use Rattle.grammar.specs.declared.stages.Stage.{Stage}
use Rattle.grammar.specs.declared.stages.Entry.{Entry}
use Rattle.grammar.specs.declared.stages.Entry.TheVariants.{Shut, Dotted, Plain}
use Rattle.grammar.specs.Items.{word, bar, left, right, comma, Placed}
use Rattle.grammar.specs.Machine.{class, txt, arg, rest, shut, Stack, feed, ends, fault, or_else}

-- how an argument begins
abbrev pub entry_by : Option Class → Entry
entry_by (Some Bare) = Plain
entry_by (Some One) = Plain
entry_by (Some Two) = Plain
entry_by (Some Many) = Plain
entry_by (Some Dots) = Dotted
entry_by None = Plain

abbrev pub entry : Token → Entry
entry (Name w) = entry_by (class w.now)
entry Bar = Plain
entry Open = Plain
entry Close = Shut
entry Comma = Plain
entry End = Plain

-- the fault from a token on: it starts at p, the items is follow it, and n is the text's length
abbrev pub onward : Token → ℕ → ℕ → List Placed → Stack → Option ℕ
onward (Name w) p n is k = or_else p (fault n is) (feed k (word w.now))
onward Bar p n is k = or_else p (fault n is) (feed k bar)
onward Open p n is k = or_else p (fault n is) (feed k left)
onward Close p n is k = or_else p (fault n is) (feed k right)
onward Comma p n is k = or_else p (fault n is) (feed k comma)
onward End p n is k = cond (ends k) None (Some p)

abbrev pub Real : Token → Type 0
Real (Name w) = Unit {0}
Real Bar = Unit {0}
Real Open = Unit {0}
Real Close = Unit {0}
Real Comma = Unit {0}
Real End = ⊥

abbrev pub Same : Token → Stack → (ℕ → ℕ → List Placed → Option ℕ) → Type 0
Same token k f = (p n : ℕ) (is : List Placed) → onward token p n is k ≡ f p n is

abbrev pub Enters : Entry → Stage → Token → Type 0
Enters Shut st token = Real token × ((k : Stack) → Same token (arg st ∷ k) (λ p n is. fault n is k))
Enters Dotted st token = Real token × ((k : Stack) → Same token (arg st ∷ k) (λ p n is. fault n is (shut ∷ k)))
Enters Plain st token = (k : Stack) → Same token (arg st ∷ k) (λ p n is. onward token p n is (txt ∷ rest st ∷ k))
