-- What the nodes, tables and stores of the code mean. Assumes nothing.
use Rattle.std.specs.Prelude.{ℕ, List, vec_items}
use Rattle.matcher.specs.Nodes.{Node, node}
use Rattle.matcher.specs.Tables.{nodes_of}
use Rattle.matcher.specs.declared.node.Node.{Node as Asked}
use Rattle.matcher.specs.declared.rows.Table.{Table}
use Rattle.matcher.specs.declared.stores.Store.{Store}

-- the node that a node of the code means
abbrev pub meant : Asked → Node
meant d = node d.kind d.number d.kids.now

abbrev pub nodes_in : Table → List Node
nodes_in t = nodes_of (vec_items t.rows) (vec_items t.pool)

-- the same of a store, whether it shares or not
abbrev pub store_nodes : {shares : ℕ} → Store shares → List Node
store_nodes s = nodes_in s.table

abbrev pub store_limit : {shares : ℕ} → Store shares → ℕ
store_limit s = s.table.limit

abbrev pub plain_nodes : Store 0 → List Node
plain_nodes s = store_nodes s

abbrev pub plain_limit : Store 0 → ℕ
plain_limit s = store_limit s

abbrev pub sharing_nodes : Store 1 → List Node
sharing_nodes s = store_nodes s

abbrev pub sharing_limit : Store 1 → ℕ
sharing_limit s = store_limit s
