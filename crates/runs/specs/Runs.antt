-- Calls made in turn on a working set. Assumes nothing.
use Rattle.std.specs.Prelude.{◌≡◌, ℕ, zero, suc, Bool, List, [], ◌∷◌}
use Rattle.values.specs.Cells.{Closed}
use Rattle.values.specs.Lives.{blank_over}
use Rattle.custom.specs.Customs.{Custom}
use Rattle.membership.specs.Rows.{start}
use Rattle.runs.specs.Acts.{Act, Answer}
use Rattle.runs.specs.States.{State, OutcomeOf}

-- a call made, with its outcome and the set after it
pub record Step : Type 0 where
  pub call : Act
  pub outcome : Answer
  pub after : State

-- each call has its outcome in the set that the one before it left
abbrev pub Run : Custom → Bool → State → List Step → Type 0
Run c shares s [] = Unit {0}
Run c shares s (x ∷ xs) = OutcomeOf c shares s x.call x.outcome x.after × Run c shares x.after xs

-- the set after the last call
abbrev pub end : State → List Step → State
end s [] = s
end s (x ∷ xs) = end x.after xs

-- some calls lead from the set s to the set t
pub record Reaches (c : Custom) (shares : Bool) (s t : State) : Type 0 where
  pub steps : List Step
  pub run : Run c shares s steps
  pub ends : end s steps ≡ t

-- the set at the place i: 0 is before the first call, and i + 1 after the call i
abbrev pub state_at : State → List Step → ℕ → State
state_at s [] i = s
state_at s (x ∷ xs) zero = s
state_at s (x ∷ xs) (suc i) = state_at x.after xs i

-- the call k, from 0, was this one, with this outcome
abbrev pub Made : List Step → ℕ → Act → Answer → Type 0
Made [] k a o = ⊥
Made (x ∷ xs) zero a o = (x.call ≡ a) × (x.outcome ≡ o)
Made (x ∷ xs) (suc k) a o = Made xs k a o

-- no own cells over a heap, the types never and any, no nodes, nothing compiled
pub record Blank (s : State) : Type 0 where
  pub heap : s.heap ≡ blank_over s.heap.cells
  pub closed : Closed s.heap.cells
  pub rows : s.rows ≡ start
  pub nodes : s.nodes ≡ []
  pub annotations : s.annotations ≡ []
