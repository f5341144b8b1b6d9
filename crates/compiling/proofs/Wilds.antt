-- The answer of a store that can write. Assumes nothing.
use Rattle.std.proofs.Common.{◌≡◌, ℕ, Bool, cond, ltb, List, length, Ok, Err, Result, ap, ◌∙◌}
use Rattle.std.proofs.lemmas.Bool.{or_right}
use Rattle.values.specs.declared.refusal.Refusal.{Refusal}
use Rattle.values.specs.declared.refusal.Refusal.TheVariants.{NoRoom}
use Rattle.matcher.specs.Nodes.{Node, allocated, settled, place, roomy}
use Rattle.compiling.specs.Code.{Can}

pub can_alloc : (sh : Bool) (limit : ℕ) (ns : List Node) (d : Node) → Can limit ns d → allocated sh limit ns d ≡ Ok (place sh ns d)
unfolding allocated
can_alloc sh limit ns d c =
    ap (settled sh limit ns d) c.fine ∙ ap (λ b. cond b (Ok (place sh ns d)) (Err NoRoom)) (or_right (ltb (place sh ns d) (length ns)) (roomy limit ns d) c.room)

pub sure : (sh : Bool) (limit : ℕ) (ns : List Node) (d e : Node) (r : Result ℕ Refusal) → Can limit ns d → e ≡ d → r ≡ allocated sh limit ns e → r ≡ Ok (place sh ns d)
sure sh limit ns d e r c is h = h ∙ ap (allocated sh limit ns) is ∙ can_alloc sh limit ns d c
