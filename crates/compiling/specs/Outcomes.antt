-- What alloc_ty comes to, and what a compiled annotation means. Assumes nothing.
use Rattle.std.specs.Prelude.{◌≡◌, ℕ, ◌-◌, ◌*◌, ◌<◌, Bool, true, cond, ◌&&◌, List, [], ◌∷◌, ◌++◌, length, take, nat_le, nat_lt}
use Rattle.values.specs.Cells.{Cell}
use Rattle.custom.specs.Customs.{Custom, Open}
use Rattle.custom.specs.Worlds.{world}
use Rattle.matcher.specs.Nodes.{Node, used, valid}
use Rattle.matcher.specs.Meaning.{accepts}
use Rattle.membership.specs.Rows.{Row, row, Sound}
use Rattle.membership.specs.Members.{member}
use Rattle.compiling.specs.Limits.{most_annotations}
use Rattle.compiling.specs.Written.{Written, written}
use Rattle.compiling.specs.declared.annotation.Annotation.{Annotation}

abbrev pub annotation : ℕ → ℕ → Annotation
annotation t n = record { ty = t; root = n }

-- the nodes and the annotations after a granted call, and the number of the new annotation
pub record Entered : Type 0 where
  pub nodes : List Node
  pub list : List Annotation
  pub number : ℕ

abbrev pub entered : List Node → List Annotation → ℕ → Entered
entered ns known n = record { nodes = ns; list = known; number = n }

-- a call is granted, or refused by the number of its first reason
pub data Outcome : Type 0 where
  granted : Entered → Outcome
  refused : ℕ → Outcome

-- the type t's nodes are written, and the annotation is added last
abbrev pub added : List Annotation → ℕ → Written → Entered
added known t x = entered x.nodes (known ++ annotation t x.root ∷ []) (length known)

-- the type t compiled into a store with the nodes ns and a limit of places, beside the annotations that stand:
-- 1 where there is no such type, 10 for one annotation too many or fewer free places than twice the weight
unfoldable pub alloc_ty_lem : Bool → ℕ → List Row → (ℕ → Bool) → ℕ → List Node → List Annotation → Outcome
alloc_ty_lem shares limit rows w t ns known =
    cond (nat_lt t (length rows))
    (cond (nat_lt (length known) most_annotations && nat_le (2 * (row rows t).heavy) (limit - used ns))
    (granted (added known t (written shares rows w t ns)))
    (refused 10))
    (refused 1)

-- among the nodes ns, the annotation accepts just the members of its type, in every heap
abbrev pub Means : Custom → List Row → List Node → Annotation → Type 0
Means c rows ns a = (cells : List Cell) (v : ℕ) → accepts (world cells c) ns a.root v ≡ member rows (world cells c) a.ty v

-- what a granted call leaves: the new annotation means its type, the nodes that stood stand
pub record Right (c : Custom) (rows : List Row) (t : ℕ) (ns ns' : List Node) (root : ℕ) : Type 0 where
  pub means : Means c rows ns' (annotation t root)
  pub stand : take (length ns) ns' ≡ ns
  pub within : root < length ns'

abbrev pub CompiledTypesHaveTheirMembers : Type 0
CompiledTypesHaveTheirMembers =
    (c : Custom) (shares : Bool) (limit : ℕ) (rows : List Row) (t : ℕ) (ns : List Node) (known : List Annotation) (e : Entered) →
    Open c → Sound rows → valid limit ns ≡ true → alloc_ty_lem shares limit rows c.wild t ns known ≡ granted e →
    Right c rows t ns e.nodes (written shares rows c.wild t ns).root
