-- What each way to begin an argument says of its first token. Assumes nothing.
use Rattle.std.proofs.Common.{◌≡◌, ℕ, List, Some, None, Option, Bor, refl}
use Rattle.grammar.specs.declared.words.Class.{Class}
use Rattle.grammar.specs.declared.words.Class.TheVariants.{Bare, One, Two, Many, Dots}
use Rattle.grammar.specs.declared.tokens.Token.{Token}
use Rattle.grammar.specs.declared.tokens.Token.TheVariants.{Name, Bar, Open, Close, Comma, End}
use Rattle.grammar.specs.declared.stages.Entry.TheVariants.{Shut, Dotted}
use Rattle.grammar.specs.Machine.{class}
use Rattle.grammar.specs.Steps.{entry_by, entry}

not_shut : (c : Option Class) → Shut ≡ entry_by c → ⊥
not_shut (Some Bare) e = cc
not_shut (Some One) e = cc
not_shut (Some Two) e = cc
not_shut (Some Many) e = cc
not_shut (Some Dots) e = cc
not_shut None e = cc

dots_class : (c : Option Class) → Dotted ≡ entry_by c → c ≡ Some Dots
dots_class (Some Bare) e = cc
dots_class (Some One) e = cc
dots_class (Some Two) e = cc
dots_class (Some Many) e = cc
dots_class (Some Dots) e = refl
dots_class None e = cc

pub shut_is : (t : Token) → Shut ≡ entry t → t ≡ Close
shut_is (Name w) e = absurd (not_shut (class w.now) e)
shut_is Bar e = cc
shut_is Open e = cc
shut_is Close e = refl
shut_is Comma e = cc
shut_is End e = cc

pub dotted_is : (t : Token) → Dotted ≡ entry t → (w : Bor (List ℕ)) × (t ≡ Name w) × (class w.now ≡ Some Dots)
dotted_is (Name w) e = (w, refl, dots_class (class w.now) e)
dotted_is Bar e = cc
dotted_is Open e = cc
dotted_is Close e = cc
dotted_is Comma e = cc
dotted_is End e = cc
