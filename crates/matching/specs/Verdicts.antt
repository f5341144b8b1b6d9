-- What a run answers. Assumes nothing.
use Rattle.std.specs.Prelude.{ℕ, Bool, cond, List, length, Ok, Err, Result, nat_lt}
use Rattle.values.specs.declared.refusal.Refusal.{Refusal}
use Rattle.values.specs.declared.refusal.Refusal.TheVariants.{NoNode, NoValue}
use Rattle.custom.specs.Worlds.{World}
use Rattle.matcher.specs.Nodes.{Node}
use Rattle.matcher.specs.Meaning.{accepts}

-- refusal 2 for a missing node, then 3 for a missing value, else whether the node n accepts the value v
abbrev pub verdict : World → List Node → ℕ → ℕ → Result Bool Refusal
verdict W ns n v = cond (nat_lt n (length ns)) (cond (nat_lt v (length W.cells)) (Ok (accepts W ns n v)) (Err NoValue)) (Err NoNode)
