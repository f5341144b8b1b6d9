-- The grammar of an annotation: trees, and how each is written. Assumes nothing.
use Rattle.std.specs.Prelude.{◌≡◌, ℕ, ◌<◌, ◌≤◌, ◌⊎◌, List, [], ◌∷◌, ◌++◌, map, length}
use Rattle.grammar.specs.declared.words.Class.TheVariants.{Bare, One, Two, Many, Dots}
use Rattle.grammar.specs.Items.{Item, word, bar, left, right, comma, Placed, at, item, items}
use Rattle.grammar.specs.Names.{Called}

-- a name that may stand alone: every name may
abbrev pub Name : List ℕ → Type 0
Name w = Called w Bare ⊎ (Called w One ⊎ (Called w Two ⊎ Called w Many))

mutual
  -- a text is alternatives
  pub data Text : Type 0 where
    last : Alt → Text
    join : Alt → Text → Text

  -- an alternative is a name, with or without arguments
  pub data Alt : Type 0 where
    alone : (w : List ℕ) → Name w → Alt
    one : (w : List ℕ) → Called w One → Text → Alt
    two : (w : List ℕ) → Called w Two → Text → Text → Alt
    none : (w : List ℕ) → Called w Many → Alt
    some : (w : List ℕ) → Called w Many → Text → More → Alt
    run : (w d : List ℕ) → Called w Many → Called d Dots → Text → Alt

  -- further arguments
  pub data More : Type 0 where
    end : More
    also : Text → More → More

-- how each is written, in front of the items r
abbrev mutual
  pub text : Text → List Item → List Item
  text (last a) r = alt a r
  text (join a t) r = alt a (bar ∷ text t r)

  pub alt : Alt → List Item → List Item
  alt (alone w n) r = word w ∷ r
  alt (one w c t) r = word w ∷ left ∷ text t (right ∷ r)
  alt (two w c t u) r = word w ∷ left ∷ text t (comma ∷ text u (right ∷ r))
  alt (none w c) r = word w ∷ left ∷ right ∷ r
  alt (some w c t m) r = word w ∷ left ∷ text t (more m (right ∷ r))
  alt (run w d c e t) r = word w ∷ left ∷ text t (comma ∷ word d ∷ right ∷ r)

  pub more : More → List Item → List Item
  more end r = r
  more (also t m) r = comma ∷ text t (more m r)

-- the items of a valid text, and the fronts of such
abbrev pub Valid : List Item → Type 0
Valid is = (t : Text) × (text t [] ≡ is)

abbrev pub Viable : List Item → Type 0
Viable is = (rest : List Item) × Valid (is ++ rest)

abbrev pub seen : List Placed → List Item
seen = map item

-- the most bytes of a text
abbrev pub longest : ℕ
longest = 4096

-- the reader takes just the valid texts that are not too long
abbrev pub Accepted : List ℕ → Type 0
Accepted s = (length s ≤ longest) × Valid (seen (items 0 s))

-- p is where the first item starts that no valid text has there
abbrev pub Wrong : List Placed → ℕ → Type 0
Wrong is p = (before after : List Placed) × (i : Item) × (is ≡ before ++ at p i ∷ after) × Viable (seen before) × (Viable (seen before ++ i ∷ []) → ⊥)

-- the text ends early
abbrev pub Early : List Placed → Type 0
Early is = Viable (seen is) × (Valid (seen is) → ⊥)

abbrev pub FaultAt : List ℕ → ℕ → Type 0
FaultAt s p = ((longest < length s) × (p ≡ longest)) ⊎ ((length s ≤ longest) × (Wrong (items 0 s) p ⊎ ((p ≡ length s) × Early (items 0 s))))

-- a text has at most one fault, at one byte; and none if it is accepted
abbrev pub OneFault : Type 0
OneFault = (s : List ℕ) (p q : ℕ) → FaultAt s p → FaultAt s q → p ≡ q

abbrev pub Faultless : Type 0
Faultless = (s : List ℕ) (p : ℕ) → Accepted s → FaultAt s p → ⊥
