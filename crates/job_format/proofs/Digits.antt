-- Numbers and their bytes. Assumes nothing.
use Rattle.std.proofs.Common.{◌≡◌, ℕ, suc, ◌+◌, ◌*◌, ◌/◌, ◌%◌, ◌<◌, List, [], ◌∷◌, ◌++◌, length, refl, ap, ◌∙◌, ap₂, arith, w64, to_z}
use Rattle.std.proofs.lemmas.Int.{of_z-to_z}
use Rattle.job_format.specs.Frames.{wide, two}
use Rattle.job_format.specs.Bodies.{pairs}
use Rattle.job_format.specs.Encoding.{bytes, eight, twos, Bytes}

pub two_back : (n : ℕ) → wide (n / 256) (n % 256) ≡ n
two_back n = omega arith

step_high : (a b : ℕ) → b < 256 → (a * 256 + b) / 256 ≡ a
step_high a b h = omega arith

step_low : (a b : ℕ) → b < 256 → (a * 256 + b) % 256 ≡ b
step_low a b h = omega arith

pub two_wide : (a b : ℕ) → b < 256 → two (wide a b) ≡ a ∷ (b ∷ [])
two_wide a b h = λ i. step_high a b h i ∷ (step_low a b h i ∷ [])

-- eight bytes as a number
abbrev pub sum8 : ℕ → ℕ → ℕ → ℕ → ℕ → ℕ → ℕ → ℕ → ℕ
sum8 a b c d e f g h = a * 72057594037927936 + b * 281474976710656 + c * 1099511627776 + d * 4294967296 + e * 16777216 + f * 65536 + g * 256 + h

bytes_step : (k a b : ℕ) → b < 256 → bytes (suc k) (a * 256 + b) ≡ bytes k a ++ (b ∷ [])
bytes_step k a b h = λ i. bytes k (step_high a b h i) ++ (step_low a b h i ∷ [])

bytes_eight : (a b c d e f g h : ℕ) → a < 256 → b < 256 → c < 256 → d < 256 → e < 256 → f < 256 → g < 256 → h < 256
    → bytes 8 (sum8 a b c d e f g h) ≡ a ∷ (b ∷ (c ∷ (d ∷ (e ∷ (f ∷ (g ∷ (h ∷ [])))))))
bytes_eight a b c d e f g h pa pb pc pd pe pf pg ph =
    let n1 = a in
    let n2 = n1 * 256 + b in
    let n3 = n2 * 256 + c in
    let n4 = n3 * 256 + d in
    let n5 = n4 * 256 + e in
    let n6 = n5 * 256 + f in
    let n7 = n6 * 256 + g in
    let whole : sum8 a b c d e f g h ≡ n7 * 256 + h = omega arith in
    let one : bytes 1 a ≡ a ∷ [] = (let q : a % 256 ≡ a = omega arith in ap (λ x. x ∷ []) q) in
    ap (bytes 8) whole
    ∙ bytes_step 7 n7 h ph
    ∙ ap (λ xs. xs ++ (h ∷ [])) (bytes_step 6 n6 g pg
    ∙ ap (λ xs. xs ++ (g ∷ [])) (bytes_step 5 n5 f pf
    ∙ ap (λ xs. xs ++ (f ∷ [])) (bytes_step 4 n4 e pe
    ∙ ap (λ xs. xs ++ (e ∷ [])) (bytes_step 3 n3 d pd
    ∙ ap (λ xs. xs ++ (d ∷ [])) (bytes_step 2 n2 c pc
    ∙ ap (λ xs. xs ++ (c ∷ [])) (bytes_step 1 n1 b pb
    ∙ ap (λ xs. xs ++ (b ∷ [])) one))))))

-- the bytes of a signed number, and back
pub eight_of : (a b c d e f g h : ℕ) → a < 256 → b < 256 → c < 256 → d < 256 → e < 256 → f < 256 → g < 256 → h < 256
    → eight (to_z w64 (sum8 a b c d e f g h)) ≡ a ∷ (b ∷ (c ∷ (d ∷ (e ∷ (f ∷ (g ∷ (h ∷ [])))))))
eight_of a b c d e f g h pa pb pc pd pe pf pg ph =
    let low : sum8 a b c d e f g h < 18446744073709551616 = omega arith in
    ap (bytes 8) (of_z-to_z w64 (sum8 a b c d e f g h) low) ∙ bytes_eight a b c d e f g h pa pb pc pd pe pf pg ph

pub sum_bytes : (n : ℕ) → n < 18446744073709551616
    → sum8 (n / 256 / 256 / 256 / 256 / 256 / 256 / 256 % 256) (n / 256 / 256 / 256 / 256 / 256 / 256 % 256) (n / 256 / 256 / 256 / 256 / 256 % 256) (n / 256 / 256 / 256 / 256 % 256) (n / 256 / 256 / 256 % 256) (n / 256 / 256 % 256) (n / 256 % 256) (n % 256) ≡ n
sum_bytes n h = omega arith

pub pairs_twos : (ps : List ℕ) → pairs (twos ps) ≡ ps
unfolding pairs
pairs_twos [] = refl
pairs_twos (p ∷ ps) = ap₂ ◌∷◌ (two_back p) (pairs_twos ps)

pub twos_pairs : (xs : List ℕ) → Bytes xs → length xs % 2 ≡ 0 → twos (pairs xs) ≡ xs
unfolding pairs
twos_pairs [] b h = refl
twos_pairs (x ∷ []) b h = absurd (omega arith)
twos_pairs (x ∷ (y ∷ xs)) b h = ap₂ ◌++◌ (two_wide x y (b 1 (omega arith))) (twos_pairs xs (λ i l. b (suc (suc i)) (omega arith)) (omega arith))
