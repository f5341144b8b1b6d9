-- What a working set means, and the effect of a call on it. Assumes nothing.
use Rattle.std.specs.Prelude.{◌≡◌, ℕ, List, []}
use Rattle.values.specs.Cells.{Cell}
use Rattle.values.specs.Held.{live_of}
use Rattle.values.specs.declared.live.LiveHeap.{LiveHeap}
use Rattle.values.specs.declared.heap.Heap.{Ghosts as Heap}
use Rattle.custom.specs.declared.ty_custom.TyCustom.{Ghosts as TyCustom}
use Rattle.matcher.specs.Nodes.{Node}
use Rattle.matcher.specs.declared.alloc.TypeMatcherAlloc.{Ghosts as TypeMatcherAlloc}
use Rattle.typing.specs.Held.{rows_of}
use Rattle.typing.specs.declared.types.Types.{Types}
use Rattle.type_compiled.specs.Compiled.{annotations_of}
use Rattle.type_compiled.specs.declared.annotations.Annotations.{Annotations}
use Rattle.runs.specs.Acts.{Act, Answer}
use Rattle.runs.specs.States.{State, OutcomeOf}
use Rattle.runs.specs.Runs.{Blank}
use Rattle.working_set.specs.declared.set.WorkingSet.{WorkingSet}

abbrev pub state_of : {H S C : Type 0} → (H → List Cell) → (S → List Node) → (S → ℕ) → WorkingSet H S C → State
state_of cells nodes limit w = record {
  heap = live_of cells w.live;
  rows = rows_of w.types;
  nodes = nodes w.store;
  limit = limit w.store;
  annotations = annotations_of w.annotations;
}

abbrev pub working_set_of : {H S C : Type 0} → LiveHeap H → Types → S → Annotations → C → WorkingSet H S C
working_set_of live types store annotations customs = record { live = live; types = types; store = store; annotations = annotations; customs = customs }

-- a call has its outcome, by what the heap, the store and the custom mean; the custom and the heap below stay as they were
pub record Effect {H S C : Type 0} (h : Heap H) (s : TypeMatcherAlloc S) (c : TyCustom C) (w : WorkingSet H S C) (call : Act) (o : Answer) (w' : WorkingSet H S C) : Type 0 where
  pub outcome : OutcomeOf (c.custom w.customs) s.sharing (state_of h.cells s.nodes s.limit w) call o (state_of h.cells s.nodes s.limit w')
  pub customs : w'.customs ≡ w.customs
  pub below : w'.live.below ≡ w.live.below

-- a set that was made over a heap, a store and a custom: it has their cells, nodes and limit, and is blank where the store is
pub record Begun {H S C : Type 0} (h : Heap H) (s : TypeMatcherAlloc S) (below : H) (store : S) (customs : C) (w : WorkingSet H S C) : Type 0 where
  pub blank : s.nodes store ≡ [] → Blank (state_of h.cells s.nodes s.limit w)
  pub cells_are : (state_of h.cells s.nodes s.limit w).heap.cells ≡ h.cells below
  pub store_is : w.store ≡ store
  pub customs_are : w.customs ≡ customs
  pub below_is : w.live.below ≡ below
