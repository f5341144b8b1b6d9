use Rattle.std.proofs.Common.{◌<◌, length, ◌∙◌, arith}
use Rattle.membership.specs.Rows.{Row}
use Rattle.membership.specs.Measures.{weight}
use Rattle.membership.proofs.Measured.{true_sizes}
use Rattle.typing.specs.Held.{rows_of}
use Rattle.typing.proofs.Reading.{sound_of, says_there}
use Rattle.typing.proofs.types.Types.weight.Goals as goal

pub returns-then-t-count-clause-measured : goal.returns-then-t-count-clause-measured
returns-then-t-count-clause-measured c =
    let s = c.args.self.now in
    let t = c.args.t in
    let l : t < length (rows_of s) = omega (arith, c.count.ensures, c.if-t-count.true) in
    says_there (rows_of s) t (λ (w : Row). weight (rows_of s) t) c.row.result.weight l (c.row.ensures.weight ∙ (true_sizes (rows_of s) t (sound_of s) l).heavy)
