-- A set that was made is blank. Assumes nothing.
use Rattle.std.proofs.Common.{◌≡◌, [], sym, refl, ap, ◌∙◌, subst}
use Rattle.values.specs.Cells.{Closed}
use Rattle.values.specs.Lives.{Live, blank_over}
use Rattle.values.specs.Held.{live_of}
use Rattle.values.specs.declared.live.LiveHeap.{LiveHeap}
use Rattle.values.specs.declared.heap.Heap.{Ghosts as Heap}
use Rattle.matcher.specs.declared.alloc.TypeMatcherAlloc.{Ghosts as TypeMatcherAlloc}
use Rattle.membership.specs.Rows.{start}
use Rattle.typing.specs.Held.{rows_of}
use Rattle.typing.specs.declared.types.Types.{Types}
use Rattle.type_compiled.specs.Compiled.{annotations_of}
use Rattle.type_compiled.specs.declared.annotations.Annotations.{Annotations}
use Rattle.working_set.specs.Sets.{working_set_of, Begun}

pub begun : {H S C : Type 0} (h : Heap H) (s : TypeMatcherAlloc S) (below : H) (store : S) (customs : C) (live : LiveHeap H) (types : Types) (annotations : Annotations)
    → Closed (h.cells below) → live_of h.cells live ≡ blank_over (h.cells below) → live.below ≡ below → rows_of types ≡ start → annotations_of annotations ≡ []
    → Begun h s below store customs (working_set_of live types store annotations customs)
begun h s below store customs live types annotations closed is under rows none =
    let same : (live_of h.cells live).cells ≡ h.cells below = ap (λ (l : Live). l.cells) is in
    record {
      blank = λ empty. record { heap = is ∙ ap blank_over (sym same); closed = subst Closed (sym same) closed; rows = rows; nodes = empty; annotations = none };
      cells_are = same;
      store_is = refl;
      customs_are = refl;
      below_is = under;
    }
