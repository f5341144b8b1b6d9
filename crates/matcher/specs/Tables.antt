-- The rows of a table, and the nodes that they mean. Assumes nothing.
use Rattle.std.specs.Prelude.{◌≡◌, ℕ, ◌+◌, Bool, true, cond, ◌&&◌, List, [], ◌∷◌, map, length, get_or, take, drop, Ok, Err, Result, nat_le, nat_lt, slice_index, slice_index_or}
use Rattle.matcher.specs.Nodes.{Node, node, depths}
use Rattle.matcher.specs.declared.kind.Kind.TheVariants.{IsNever}
use Rattle.values.specs.declared.refusal.Refusal.{Refusal}
use Rattle.values.specs.declared.refusal.Refusal.TheVariants.{NoNode}
use Rattle.matcher.specs.declared.rows.Row.{Row}

abbrev pub no_row : Row
no_row = record { kind = IsNever; number = 0; depth = 0; first = 0; count = 0 }

abbrev pub kids_of : List ℕ → Row → List ℕ
kids_of pool r = take r.count (drop r.first pool)

abbrev pub node_of : List ℕ → Row → Node
node_of pool r = node r.kind r.number (kids_of pool r)

unfoldable pub nodes_of : List Row → List ℕ → List Node
nodes_of rs pool = map (node_of pool) rs

-- every row's kids stand in the pool
abbrev pub spans : ℕ → List Row → Bool
spans n [] = true
spans n (r ∷ rs) = nat_le (r.first + r.count) n && spans n rs

-- the rows hold the depths of their nodes
abbrev pub Deep : List Row → List Node → Type 0
Deep rs ns = (n : ℕ) → (get_or rs n no_row).depth ≡ slice_index (depths ns) n

abbrev pub row_says : {X : Type 0} → List Row → ℕ → (Row → X) → Result X Refusal
row_says rs n f = cond (nat_lt n (length rs)) (Ok (f (slice_index_or rs n no_row))) (Err NoNode)
