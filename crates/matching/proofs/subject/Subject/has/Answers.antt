use Rattle.std.proofs.Common.{◌≡◌, ℕ, zero, suc, ◌/◌, ◌%◌, ◌*◌, ◌^◌, ◌<◌, not, eqb, bit_and, arith, rules}
use Rattle.std.proofs.lemmas.Nat.{pow_pos}
use Rattle.std.proofs.lemmas.Nat.Bits.{and_pow}
use Rattle.std.proofs.lemmas.Bool.Decides.{nat_tests}
use Rattle.matching.proofs.subject.Subject.has.Goals as goal

one_or_none : (x p : ℕ) → x < 2 → 0 < p → not (eqb (x * p) 0) ≡ eqb x 1
one_or_none zero p l h = grind (arith, nat_tests)
one_or_none (suc zero) p l h = grind (arith, nat_tests)
one_or_none (suc (suc x)) p l h = absurd (omega arith)

bit : (f k : ℕ) → not (eqb (bit_and f (2 ^ k)) 0) ≡ eqb (f / 2 ^ k % 2) 1
bit f k = rw and_pow (one_or_none (f / 2 ^ k % 2) (2 ^ k) (omega arith) (pow_pos k))

pub returns : goal.returns
returns g c =
    let b = bit c.head.result.flags c.requires.0 in
    let e = c.requires.1 in
    rw e (search rules)
