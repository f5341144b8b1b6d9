use Rattle.std.proofs.Common.{◌≡◌, ◌+◌, ◌-◌, length, take, drop, refl, ap, ◌∙◌, arith, length-drop, le-leb}
use Rattle.std.proofs.lemmas.List.{take_all}
use Rattle.std.proofs.lemmas.Bool.{and_from}
use Rattle.job_format.specs.Frames.{long}
use Rattle.job.proofs.frames.split.Goals as goal

pub returns : goal.returns
returns c =
    let s = c.args.s.now in
    let n : c.from_be_bytes-len.result ≡ long s = omega (arith, c.from_be_bytes-len.ensures) in
    let all = take_all (length s - 3) (drop 3 s) (omega (arith, length-drop 3 s)) in
    let same = ap length all in
    let cut = c.in_ok-body.ensures.cases in
    record {
      whole = and_from _ _ (le-leb 3 (length s) (omega arith)) (le-leb (3 + long s) (length s) (omega (arith, same, n, cut.0, length-drop 3 s)));
      tag_is = refl;
      body_is = cut.1 ∙ (λ i. take (n i) (all i));
      rest_is = cut.2 ∙ (λ i. drop (n i) (all i));
    }
