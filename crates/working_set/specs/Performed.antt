-- What performing a list of calls comes to. Assumes nothing.
use Rattle.std.specs.Prelude.{◌≡◌, ℕ, ◌+◌, ◌<◌, ◌≤◌, List, ◌++◌, map, length, Ok, Err, Result}
use Rattle.values.specs.declared.refusal.Refusal.{Refusal}
use Rattle.values.specs.declared.heap.Heap.{Ghosts as Heap}
use Rattle.custom.specs.declared.ty_custom.TyCustom.{Ghosts as TyCustom}
use Rattle.matcher.specs.declared.alloc.TypeMatcherAlloc.{Ghosts as TypeMatcherAlloc}
use Rattle.runs.specs.Throughout.{Ran}
use Rattle.working_set.specs.Words.{act, told}
use Rattle.working_set.specs.Sets.{state_of}
use Rattle.working_set.specs.declared.calls.Call.{Call}
use Rattle.working_set.specs.declared.outcomes.Granted.{Granted}
use Rattle.working_set.specs.declared.outcomes.OutcomesFull.{OutcomesFull}
use Rattle.working_set.specs.declared.set.WorkingSet.{WorkingSet}

-- the outcomes in a vector, and how many it has places for
pub record Places : Type 0 where
  pub items : List (Result Granted Refusal)
  pub capacity : ℕ

abbrev pub places : List (Result Granted Refusal) → ℕ → Places
places items capacity = record { items = items; capacity = capacity }

module _ {H S C : Type 0} (h : Heap H) (s : TypeMatcherAlloc S) (c : TyCustom C) where
  -- every call was made once, in turn, and its outcome added to those before; the law holds throughout
  pub record MadeAll (calls : List Call) (w w' : WorkingSet H S C) (before after : Places) : Type 0 where
    pub room : length before.items + length calls ≤ before.capacity
    pub outcomes : List (Result Granted Refusal)
    pub written : after ≡ places (before.items ++ outcomes) before.capacity
    pub ran : Ran (c.custom w.customs) s.sharing (state_of h.cells s.nodes s.limit w) (map act calls) (map told outcomes) (state_of h.cells s.nodes s.limit w')
    pub customs : w'.customs ≡ w.customs
    pub below : w'.live.below ≡ w.live.below

  -- there are too few places for the outcomes, and nothing changed
  pub record MadeNone (calls : List Call) (w w' : WorkingSet H S C) (before after : Places) : Type 0 where
    pub full : before.capacity < length before.items + length calls
    pub written : after ≡ before
    pub set : w' ≡ w

  abbrev pub Performed : List Call → WorkingSet H S C → WorkingSet H S C → Places → Places → Result Unit OutcomesFull → Type 0
  Performed calls w w' before after (Ok u) = MadeAll calls w w' before after
  Performed calls w w' before after (Err e) = MadeNone calls w w' before after
