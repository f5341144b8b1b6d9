-- What alloc_ty and the questions on annotations answer. Assumes nothing.
use Rattle.std.specs.Prelude.{◌≡◌, ℕ, cond, List, length, Ok, Err, vec_items, Result, nat_lt, slice_index_or}
use Rattle.values.specs.Refusals.{number}
use Rattle.values.specs.declared.refusal.Refusal.{Refusal}
use Rattle.values.specs.declared.refusal.Refusal.TheVariants.{NoNode}
use Rattle.custom.specs.Customs.{Custom}
use Rattle.matcher.specs.Nodes.{Node}
use Rattle.membership.specs.Rows.{Row}
use Rattle.compiling.specs.Outcomes.{Outcome, granted, refused, entered, annotation, Means}
use Rattle.compiling.specs.declared.annotation.Annotation.{Annotation}
use Rattle.type_compiled.specs.declared.annotations.Annotations.{Annotations}
use Rattle.type_compiled.specs.declared.annotations.TypeCompiled.{TypeCompiled}

-- what compiled annotations mean: the list of them
abbrev pub annotations_of : Annotations → List Annotation
annotations_of s = vec_items s.list

abbrev pub no_annotation : Annotation
no_annotation = annotation 0 0

abbrev pub annotation_at : List Annotation → ℕ → Annotation
annotation_at known n = slice_index_or known n no_annotation

-- an answer read off the annotation n, or refusal 2
abbrev pub annotation_says : {X : Type 0} → List Annotation → ℕ → (Annotation → X) → Result X Refusal
annotation_says known n f = cond (nat_lt n (length known)) (Ok (f (annotation_at known n))) (Err NoNode)

-- the call's outcome is what it answers, and what it leaves of nodes and annotations: a refused call changes neither
abbrev pub Compiled : Outcome → List Node → List Annotation → Result TypeCompiled Refusal → List Node → List Annotation → Type 0
Compiled o ns known (Ok a) ns' known' = o ≡ granted (entered ns' known' a.0)
Compiled o ns known (Err f) ns' known' = (o ≡ refused (number f)) × (ns' ≡ ns) × (known' ≡ known)

-- the annotation that was answered is for the type t, and accepts just its members, in every heap
abbrev pub Meant : Custom → List Row → ℕ → List Node → List Annotation → Result TypeCompiled Refusal → Type 0
Meant c rows t ns' known' (Ok a) = ((annotation_at known' a.0).ty ≡ t) × Means c rows ns' (annotation_at known' a.0)
Meant c rows t ns' known' (Err f) = Unit {0}
