-- The law of every run, by its places. Assumes nothing.
use Rattle.std.specs.Prelude.{◌≡◌, ℕ, suc, ◌<◌, ◌≤◌, Bool, true, false, ◌⊎◌, List, ◌++◌, map, length}
use Rattle.custom.specs.Customs.{Custom, Open}
use Rattle.membership.specs.Rows.{merges}
use Rattle.membership.specs.Members.{member}
use Rattle.runs.specs.Acts.{Act, union_of, check_value, Answer, type_is, says, refused}
use Rattle.runs.specs.States.{State, annotation_in, world_of, OutcomeOf}
use Rattle.runs.specs.Runs.{Step, Run, end, state_at, Made, Blank}

module _ (c : Custom) (shares : Bool) where
  -- the type t has the value v, as its cells are in s
  abbrev pub Has : State → ℕ → ℕ → Type 0
  Has s t v = member s.rows (world_of c shares s) t v ≡ true

  -- a check of the value v by the annotation a says b in s, and nothing else
  pub record SaysOf (s : State) (a v : ℕ) (b : Bool) : Type 0 where
    pub is : OutcomeOf c shares s (check_value a v) (says b) s
    pub only : (o : Answer) (t : State) → OutcomeOf c shares s (check_value a v) o t → (o ≡ says b) × (t ≡ s)

  -- (a) a check says yes to each member of the annotation's type, and no to each other value
  pub record Checks (s : State) (a v : ℕ) : Type 0 where
    pub yes_to_members : Has s (annotation_in s a).ty v → SaysOf s a v true
    pub no_to_others : (Has s (annotation_in s a).ty v → ⊥) → SaysOf s a v false

  -- (b) the union n of the types t and u has the members of both, and no others unless both hold a list or both a dict
  pub record Joins (s : State) (t u n : ℕ) : Type 0 where
    pub either : (v : ℕ) → Has s t v ⊎ Has s u v → Has s n v
    pub no_other : merges s.rows t u ≡ false → (v : ℕ) → Has s n v → Has s t v ⊎ Has s u v

  -- (c) the value v gets from the annotation a the same yes or no in s and in t
  abbrev pub Same : State → State → ℕ → ℕ → Type 0
  Same s t a v = (b : Bool) × SaysOf s a v b × SaysOf t a v b

  -- a value stands, an annotation is compiled, a value is frozen
  abbrev pub Stands : State → ℕ → Type 0
  Stands s v = v < length s.heap.cells

  abbrev pub Compiled : State → ℕ → Type 0
  Compiled s a = a < length s.annotations

  abbrev pub Frozen : State → ℕ → Type 0
  Frozen s v = v < s.heap.frozen

  -- a refused call leaves the set as it was; then (a), (b) and (c), at every place of the run
  pub record Throughout (s : State) (xs : List Step) : Type 0 where
    pub refusals : (k n : ℕ) (a : Act) → Made xs k a (refused n) → state_at s xs (suc k) ≡ state_at s xs k
    pub checks : (i a v : ℕ) → i ≤ length xs → Compiled (state_at s xs i) a → Stands (state_at s xs i) v → Checks (state_at s xs i) a v
    pub unions : (k i t u n : ℕ) → Made xs k (union_of t u) (type_is n) → k < i → i ≤ length xs → Joins (state_at s xs i) t u n
    pub frozen : (i j a v : ℕ) → i ≤ j → j ≤ length xs → Compiled (state_at s xs i) a → Frozen (state_at s xs i) v → Same (state_at s xs i) (state_at s xs j) a v

-- From a blank set, under a custom whose wildcards say yes to all
abbrev pub EveryRunKeepsTheLaw : Type 0
EveryRunKeepsTheLaw = (c : Custom) (shares : Bool) (s : State) (xs : List Step) → Open c → Blank s → Run c shares s xs → Throughout c shares s xs

-- What performing calls comes to: each has its outcome in turn, and they lead from s to t.
-- The law holds throughout any earlier run from a blank set that led to s, followed by these calls.
pub record Ran (c : Custom) (shares : Bool) (s : State) (calls : List Act) (answers : List Answer) (t : State) : Type 0 where
  pub steps : List Step
  pub called : map (λ x. x.call) steps ≡ calls
  pub answered : map (λ x. x.outcome) steps ≡ answers
  pub run : Run c shares s steps
  pub ends : end s steps ≡ t
  pub lawful : (b : State) (earlier : List Step) → Blank b → Run c shares b earlier → end b earlier ≡ s → Throughout c shares b (earlier ++ steps)
