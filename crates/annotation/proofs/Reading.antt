-- What the second pass makes of a whole text. Assumes nothing.
use Rattle.std.proofs.Common.{◌≡◌, ℕ, List, [], ◌∷◌, None, Ok, Err, sym, refl, ap, ◌∙◌}
use Rattle.values.specs.Refusals.{number}
use Rattle.membership.specs.Rows.{Row}
use Rattle.grammar.specs.Items.{Placed, at, from}
use Rattle.grammar.specs.Grammar.{seen, Accepted}
use Rattle.annotation.specs.declared.fault.TextFault.{TextFault}
use Rattle.annotation.specs.declared.fault.TextFault.TheVariants.{Outside, Call}
use Rattle.annotation.specs.declared.builders.Built.{Built}
use Rattle.annotation.specs.Evaluated.{state, made, turned, starts_of, ReadAs}
use Rattle.annotation.specs.Building.{TextBuilt}
use Rattle.annotation.proofs.Fronts.{none_ahead}

over : (l : List Placed) → seen l ≡ [] → starts_of l ≡ []
over [] e = refl
over (at p i ∷ l) e = absurd (none_ahead i (seen l) (sym e))

module _ (s : List ℕ) (t t' : List Row) (accepted : Accepted s) where
  module _ (t'' : List Row) (e : t'' ≡ t') where
    pub read_whole : (b : Built) → TextBuilt s 0 None t t' (Ok b) → ReadAs s t t'' (Ok b.ty)
    read_whole b h = (accepted, λ x q. let r = h x [] tt (sym q) in r.1 ∙ (λ i. made (state (sym e i) (over (from s b.end) r.0 i)) b.ty))

    pub read_refused : (f : TextFault) → TextBuilt s 0 None t t' (Err f) → ReadAs s t t'' (Err f)
    read_refused (Outside p) h = absurd (h accepted.1.0 [] tt (sym accepted.1.1))
    read_refused (Call c) h = (accepted, λ x q. h x [] tt (sym q) ∙ ap (λ t. turned t (number c.why) c.byte) (sym e))
