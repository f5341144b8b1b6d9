use Rattle.std.proofs.Common.{ltb, sym, ◌∙◌, rules, tests}
use Rattle.std.proofs.lemmas.Iterator.{YieldsList-from_slice}
use Rattle.std.proofs.lemmas.Iterator.Search.{all_from_yields_List}
use Rattle.job.specs.Held.{wide_of}
use Rattle.job.proofs.Parts.{each_of_all}
use Rattle.job.proofs.cell_body.CellBody.has_parts_below.Goals as goal

pub returns : goal.returns
returns c =
    all_from_yields_List (λ p. ltb (wide_of p) c.args.cells) _ _ _ c.all.ensures.ran (YieldsList-from_slice c.args.self.parts.now (cc)) (λ x b q k. search (rules, tests))
    ∙ sym (each_of_all (λ n. ltb n c.args.cells) wide_of c.args.self.parts.now)
