-- Laws of pairs of customs. Assumes nothing.
use Rattle.std.specs.Prelude.{◌≡◌, ℕ, ◌+◌, ◌-◌, ◌<◌, ◌≤◌, min, Bool, false, cond, ◌&&◌, ◌⊎◌, nat_lt}
use Rattle.std.proofs.Common.{inl, inr, arith}
use Rattle.std.proofs.lemmas.Bool.{cases_lt, le-ltb, lt-ltb}
use Rattle.custom.specs.Customs.{Custom, Ends, paired, most}

-- what both say from their counts on, the pair says from its count on
no_more : (i j n : ℕ) (x y : Bool) → min (i + j) most ≤ n → (j ≤ n - i → y ≡ false) → (nat_lt n most && cond (nat_lt n i) x y) ≡ false
no_more i j n x y h e = by (cases_lt n most)
  where
    by : (n < most) ⊎ (most ≤ n) → (nat_lt n most && cond (nat_lt n i) x y) ≡ false
    by (inl lt) = let ge : i + j ≤ n = omega arith in λ k. (lt-ltb n most lt k && cond (le-ltb n i (omega arith) k) x (e (omega arith) k))
    by (inr ge) = λ k. (le-ltb n most ge k && cond (nat_lt n i) x y)

pub pair_ends : (a b : Custom) → Ends b → Ends (paired a b)
pair_ends a b e n h = (no_more a.count b.count n (a.wild n) (b.wild (n - a.count)) h (λ q. (e (n - a.count) q).0), λ t f m. no_more a.count b.count n (a.says n t f m) (b.says (n - a.count) t f m) h (λ q. (e (n - a.count) q).1 t f m))
