-- What the frames of a run stand for. Assumes nothing.
use Rattle.std.specs.Prelude.{◌≡◌, ℕ, zero, suc, ◌+◌, ◌-◌, ◌<◌, ◌≤◌, Bool, true, List, [], ◌∷◌, length, slice_index}
use Rattle.values.specs.Cells.{Cell, cell_at}
use Rattle.custom.specs.Worlds.{World}
use Rattle.matcher.specs.Nodes.{Node, node_at_lem, deepest}
use Rattle.matcher.specs.Meaning.{accepts}
use Rattle.matching.specs.Shapes.{shape, kid_of, sub_of, kid_by_lem, inside, join, holds}
use Rattle.matching.specs.declared.asked.Shape.{Shape}
use Rattle.matching.specs.declared.asked.Shape.TheVariants.{Given, Asks}
use Rattle.matching.specs.declared.frames.Frame.{Frame}

-- n is a node, and at most d deep
unfoldable pub Stands : List Node → ℕ → ℕ → Type 0
Stands ns zero n = ⊥
Stands ns (suc d) n = (n < length ns) × ((i : ℕ) → i < length (node_at_lem ns n).kids → Stands ns d (slice_index (node_at_lem ns n).kids i))

-- a bound on the turns that so many places from i on take
unfoldable pub turns : (ℕ → ℕ) → ℕ → ℕ → ℕ
turns g i zero = 0
turns g i (suc m) = 1 + g i + turns g (i + 1) m

abbrev pub burden : Shape → (ℕ → ℕ) → ℕ
burden (Given b) g = 0
burden (Asks q m) g = 1 + turns g 0 m

-- a bound on the turns that a node, at most d deep, takes
unfoldable pub weigh : World → List Node → ℕ → ℕ → ℕ → ℕ
weigh W ns zero n v = 0
weigh W ns (suc d) n v = burden (shape W ns n v) (λ i. weigh W ns d (kid_of ns n i) (sub_of W.cells ns n v i))

-- the place i of a node has a kid and a value
pub record Place (cs : List Cell) (ns : List Node) (n v i : ℕ) : Type 0 where
  pub kid : kid_by_lem (node_at_lem ns n).kind i < length (node_at_lem ns n).kids
  pub part : inside (node_at_lem ns n).kind ≡ true → i < length (cell_at cs v).parts

-- what the places of a frame say, and their bounds, where its kids are at most d deep
abbrev pub place_says : World → List Node → Frame → ℕ → Bool
place_says W ns f i = accepts W ns (kid_of ns f.question.node i) (sub_of W.cells ns f.question.node f.question.value.0 i)

abbrev pub costs : World → List Node → ℕ → Frame → ℕ → ℕ
costs W ns d f i = weigh W ns d (kid_of ns f.question.node i) (sub_of W.cells ns f.question.node f.question.value.0 i)

-- how many places a frame still has to ask
abbrev pub left : Frame → ℕ
left f = f.places.end - f.places.start

pub record Sound (W : World) (ns : List Node) (d : ℕ) (f : Frame) : Type 0 where
  pub value : f.question.value.0 < length W.cells
  pub node : Stands ns (suc d) f.question.node
  pub kind : f.question.kind ≡ (node_at_lem ns f.question.node).kind
  pub places : (i : ℕ) → i < f.places.end → Place W.cells ns f.question.node f.question.value.0 i

-- what a frame says once the place before the next said b
unfoldable pub after : World → List Node → Frame → Bool → Bool
after W ns f b = join f.quantifier b (holds f.quantifier (place_says W ns f) f.places.start (left f))

unfoldable pub toll : World → List Node → ℕ → Frame → ℕ
toll W ns d f = 1 + turns (costs W ns d f) f.places.start (left f)

-- the depth that is left above the frames
unfoldable pub above : ℕ → List Frame → ℕ
above d [] = d
above zero (f ∷ fs) = 0
above (suc d) (f ∷ fs) = above d fs

unfoldable pub Sounds : World → List Node → ℕ → List Frame → Type 0
Sounds W ns d [] = Unit {0}
Sounds W ns zero (f ∷ fs) = ⊥
Sounds W ns (suc d) (f ∷ fs) = Sound W ns d f × Sounds W ns d fs

-- what the frames say in the end if the innermost is told b
unfoldable pub unwind : World → List Node → List Frame → Bool → Bool
unwind W ns [] b = b
unwind W ns (f ∷ fs) b = after W ns f (unwind W ns fs b)

unfoldable pub load : World → List Node → ℕ → List Frame → ℕ
load W ns d [] = 0
load W ns zero (f ∷ fs) = 0
load W ns (suc d) (f ∷ fs) = toll W ns d f + load W ns d fs

-- a node may be entered above the frames fs
pub record Ready (W : World) (ns : List Node) (fs : List Frame) (n v : ℕ) : Type 0 where
  pub node : Stands ns (above deepest fs) n
  pub value : v < length W.cells
  pub sounds : Sounds W ns deepest fs

-- it was entered, which left the frames gs and the answer b to tell them
pub record Entered (W : World) (ns : List Node) (fs : List Frame) (n v : ℕ) (gs : List Frame) (b : Bool) : Type 0 where
  pub sounds : Sounds W ns deepest gs
  pub same : unwind W ns gs b ≡ unwind W ns fs (accepts W ns n v)
  pub falls : load W ns deepest gs ≤ load W ns deepest fs + weigh W ns (above deepest fs) n v

-- from the frames fs, told a, to the frames gs, told b
pub record Resumed (W : World) (ns : List Node) (fs : List Frame) (a : Bool) (gs : List Frame) (b : Bool) : Type 0 where
  pub sounds : Sounds W ns deepest gs
  pub same : unwind W ns gs b ≡ unwind W ns fs a
  pub falls : load W ns deepest gs < load W ns deepest fs
