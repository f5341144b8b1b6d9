-- What a record says, written and read again. Assumes nothing.
use Rattle.std.proofs.Common.{◌≡◌, ℕ, ◌+◌, ◌-◌, ◌/◌, ◌%◌, ◌<◌, ◌≤◌, true, cond, eqb, leb, ◌⊎◌, List, [], ◌∷◌, ◌++◌, length, get_or, take, drop, ℤ, sym, refl, ap, ◌∙◌, subst, ap₂, length-drop, take-append-drop, inl, inr, arith, w64, SFits, to_z, of_z}
use mir.ValLaws.{of_z_fits, to_z-Fits}
use Rattle.std.proofs.lemmas.Int.{to_z-of_z}
use Rattle.std.proofs.lemmas.List.{take_all, drop_more, drop-drop, get_or-drop}
use Rattle.std.proofs.lemmas.Bool.{eqb-true, leb-true, and_parts}
use Rattle.std.proofs.lemmas.Bool.Decides.{nat_tests}
use Rattle.values.specs.Cells.{Cell}
use Rattle.job_format.specs.Frames.{Raw, two, wide}
use Rattle.job_format.specs.Bodies.{signed_at, cell_in, shaped}
use Rattle.job_format.specs.Contents.{mark_in, range_in, query_in_lem}
use Rattle.job_format.specs.Encoding.{Entry, eight, cell_e, mark_e, range_e, text_e, query_e, written, Signed, Bytes}
use Rattle.job_format.proofs.Digits.{two_back, two_wide, eight_of, sum8, sum_bytes, pairs_twos, twos_pairs}

abbrev pub entry_of : Raw → Entry
entry_of r =
    cond (eqb r.tag 1) (cell_e (cell_in r.body))
    (cond (eqb r.tag 2) (mark_e (wide (get_or r.body 0 0) (get_or r.body 1 0)) (signed_at 2 r.body))
    (cond (eqb r.tag 3) (range_e (signed_at 0 r.body) (signed_at 8 r.body))
    (cond (eqb r.tag 4) (text_e r.body)
    (query_e (wide (get_or r.body 0 0) (get_or r.body 1 0)) (wide (get_or r.body 2 0) (get_or r.body 3 0))))))

front_two : (xs : List ℕ) → Bytes xs → 2 ≤ length xs → two (wide (get_or xs 0 0) (get_or xs 1 0)) ≡ take 2 xs
front_two [] b l = absurd (omega arith)
front_two (x ∷ []) b l = absurd (omega arith)
front_two (x ∷ (y ∷ xs)) b l = two_wide x y (b 1 (omega arith))

front_eight : (xs : List ℕ) → Bytes xs → 8 ≤ length xs → eight (signed_at 0 xs) ≡ take 8 xs
front_eight [] b l = absurd (omega arith)
front_eight (x0 ∷ []) b l = absurd (omega arith)
front_eight (x0 ∷ (x1 ∷ [])) b l = absurd (omega arith)
front_eight (x0 ∷ (x1 ∷ (x2 ∷ []))) b l = absurd (omega arith)
front_eight (x0 ∷ (x1 ∷ (x2 ∷ (x3 ∷ [])))) b l = absurd (omega arith)
front_eight (x0 ∷ (x1 ∷ (x2 ∷ (x3 ∷ (x4 ∷ []))))) b l = absurd (omega arith)
front_eight (x0 ∷ (x1 ∷ (x2 ∷ (x3 ∷ (x4 ∷ (x5 ∷ [])))))) b l = absurd (omega arith)
front_eight (x0 ∷ (x1 ∷ (x2 ∷ (x3 ∷ (x4 ∷ (x5 ∷ (x6 ∷ []))))))) b l = absurd (omega arith)
front_eight (x0 ∷ (x1 ∷ (x2 ∷ (x3 ∷ (x4 ∷ (x5 ∷ (x6 ∷ (x7 ∷ xs)))))))) b l =
    eight_of x0 x1 x2 x3 x4 x5 x6 x7 (b 0 (omega arith)) (b 1 (omega arith)) (b 2 (omega arith)) (b 3 (omega arith)) (b 4 (omega arith)) (b 5 (omega arith)) (b 6 (omega arith)) (b 7 (omega arith))

-- numbers from the place i on, written again
module _ (i : ℕ) (xs : List ℕ) (b : Bytes xs) where
  behind : Bytes (drop i xs)
  behind k h = subst (λ (n : ℕ). n < 256) (sym (get_or-drop i xs k 0)) (b (i + k) (omega (arith, length-drop i xs)))

  later : (k : ℕ) → get_or xs (i + k) 0 ≡ get_or (drop i xs) k 0
  later k = sym (get_or-drop i xs k 0)

  here : get_or xs i 0 ≡ get_or (drop i xs) 0 0
  here = let e : i ≡ i + 0 = omega arith in ap (λ n. get_or xs n 0) e ∙ later 0

  two_again : i + 2 ≤ length xs → two (wide (get_or xs i 0) (get_or xs (i + 1) 0)) ≡ take 2 (drop i xs)
  two_again l = (λ j. two (wide (here j) (later 1 j))) ∙ front_two (drop i xs) behind (omega (arith, length-drop i xs))

  eight_again : i + 8 ≤ length xs → eight (signed_at i xs) ≡ take 8 (drop i xs)
  eight_again l = (λ j. eight (to_z w64 (sum8 (here j) (later 1 j) (later 2 j) (later 3 j) (later 4 j) (later 5 j) (later 6 j) (later 7 j)))) ∙ front_eight (drop i xs) behind (omega (arith, length-drop i xs))

cell_again : (xs : List ℕ) → Bytes xs → 11 ≤ length xs → (length xs - 11) % 2 ≡ 0 → (written (cell_e (cell_in xs))).body ≡ xs
cell_again xs b l e =
    let parts = twos_pairs (drop 11 xs) (behind 11 xs b) (omega (arith, length-drop 11 xs)) in
    let mark = ap₂ ◌++◌ (eight_again 3 xs b (omega arith)) (parts ∙ sym (drop-drop 8 3 xs)) ∙ take-append-drop 8 (drop 3 xs) in
    ap₂ ◌++◌ (two_again 0 xs b (omega arith)) (ap (λ (ys : List ℕ). get_or xs 2 0 ∷ ys) mark ∙ sym (drop_more xs 2 0 (omega arith))) ∙ take-append-drop 2 xs

mark_again : (xs : List ℕ) → Bytes xs → length xs ≡ 10 → (written (mark_e (wide (get_or xs 0 0) (get_or xs 1 0)) (signed_at 2 xs))).body ≡ xs
mark_again xs b l = ap₂ ◌++◌ (two_again 0 xs b (omega arith)) (eight_again 2 xs b (omega arith) ∙ take_all 8 (drop 2 xs) (omega (arith, length-drop 2 xs))) ∙ take-append-drop 2 xs

range_again : (xs : List ℕ) → Bytes xs → length xs ≡ 16 → (written (range_e (signed_at 0 xs) (signed_at 8 xs))).body ≡ xs
range_again xs b l = ap₂ ◌++◌ (eight_again 0 xs b (omega arith)) (eight_again 8 xs b (omega arith) ∙ take_all 8 (drop 8 xs) (omega (arith, length-drop 8 xs))) ∙ take-append-drop 8 xs

query_again : (xs : List ℕ) → Bytes xs → length xs ≡ 4 → (written (query_e (wide (get_or xs 0 0) (get_or xs 1 0)) (wide (get_or xs 2 0) (get_or xs 3 0)))).body ≡ xs
query_again xs b l = ap₂ ◌++◌ (two_again 0 xs b (omega arith)) (two_again 2 xs b (omega arith) ∙ take_all 2 (drop 2 xs) (omega (arith, length-drop 2 xs))) ∙ take-append-drop 2 xs

pub known : (t n : ℕ) → shaped t n ≡ true → (t ≡ 1) ⊎ ((t ≡ 2) ⊎ ((t ≡ 3) ⊎ ((t ≡ 4) ⊎ (t ≡ 5))))
known t n h = grind (arith, nat_tests)

-- a record of known length is what its entry writes
pub written_again : (r : Raw) → Bytes r.body → shaped r.tag (length r.body) ≡ true → written (entry_of r) ≡ r
written_again r b h = by (known r.tag (length r.body) h)
  where
    raw : ℕ → Raw
    raw t = record { tag = t; body = r.body }

    at_tag : (t : ℕ) → r.tag ≡ t → written (entry_of (record { tag = t; body = r.body })) ≡ record { tag = t; body = r.body } → written (entry_of r) ≡ r
    at_tag t e q = subst (λ (u : ℕ). written (entry_of (record { tag = u; body = r.body })) ≡ record { tag = u; body = r.body }) (sym e) q

    fits : (t : ℕ) → r.tag ≡ t → shaped t (length r.body) ≡ true
    fits t e = subst (λ (u : ℕ). shaped u (length r.body) ≡ true) e h

    by : (r.tag ≡ 1) ⊎ ((r.tag ≡ 2) ⊎ ((r.tag ≡ 3) ⊎ ((r.tag ≡ 4) ⊎ (r.tag ≡ 5)))) → written (entry_of r) ≡ r
    by (inl e) =
        let p = and_parts (leb 11 (length r.body)) (eqb ((length r.body - 11) % 2) 0) (fits 1 e) in
        let q = cell_again r.body b (leb-true 11 (length r.body) p.0) (eqb-true ((length r.body - 11) % 2) 0 p.1) in
        at_tag 1 e (λ i. record { tag = 1; body = q i })
    by (inr (inl e)) = let q = mark_again r.body b (eqb-true (length r.body) 10 (fits 2 e)) in at_tag 2 e (λ i. record { tag = 2; body = q i })
    by (inr (inr (inl e))) = let q = range_again r.body b (eqb-true (length r.body) 16 (fits 3 e)) in at_tag 3 e (λ i. record { tag = 3; body = q i })
    by (inr (inr (inr (inl e)))) = at_tag 4 e refl
    by (inr (inr (inr (inr e)))) = let q = query_again r.body b (eqb-true (length r.body) 4 (fits 5 e)) in at_tag 5 e (λ i. record { tag = 5; body = q i })

-- what was written is read again
eight_read : (z : ℤ) → SFits w64 z → to_z w64 (sum8 (of_z w64 z / 256 / 256 / 256 / 256 / 256 / 256 / 256 % 256) (of_z w64 z / 256 / 256 / 256 / 256 / 256 / 256 % 256) (of_z w64 z / 256 / 256 / 256 / 256 / 256 % 256) (of_z w64 z / 256 / 256 / 256 / 256 % 256) (of_z w64 z / 256 / 256 / 256 % 256) (of_z w64 z / 256 / 256 % 256) (of_z w64 z / 256 % 256) (of_z w64 z % 256)) ≡ z
eight_read z f = ap (to_z w64) (sum_bytes (of_z w64 z) (of_z_fits w64 z f).fits) ∙ to_z-of_z w64 z f

pub cell_read : (c : Cell) → SFits w64 c.mark → cell_in (written (cell_e c)).body ≡ c
cell_read c f = λ i. record { ty = two_back c.ty i; flags = c.flags; mark = eight_read c.mark f i; parts = pairs_twos c.parts i }

pub mark_read : (t : ℕ) (m : ℤ) → SFits w64 m → mark_in (written (mark_e t m)).body ≡ record { ty = t; mark = m }
mark_read t m f = λ i. record { ty = two_back t i; mark = eight_read m f i }

pub range_read : (l h : ℤ) → SFits w64 l → SFits w64 h → range_in (written (range_e l h)).body ≡ record { low = l; high = h }
range_read l h f g = λ i. record { low = eight_read l f i; high = eight_read h g i }

pub query_read : (a v : ℕ) → query_in_lem (written (query_e a v)).body ≡ record { annotation = a; value = v }
query_read a v = λ i. record { annotation = two_back a i; value = two_back v i }

-- eight bytes make a number of 64 bits
pub signed_fits : (k : ℕ) (xs : List ℕ) → Bytes xs → k + 8 ≤ length xs → SFits w64 (signed_at k xs)
signed_fits k xs b h = to_z-Fits w64 _ (record { fits = omega (arith, b k (omega arith), b (k + 1) (omega arith), b (k + 2) (omega arith), b (k + 3) (omega arith), b (k + 4) (omega arith), b (k + 5) (omega arith), b (k + 6) (omega arith), b (k + 7) (omega arith)) })

pub entry_signed : (r : Raw) → Bytes r.body → shaped r.tag (length r.body) ≡ true → Signed (entry_of r)
entry_signed r b h = by (known r.tag (length r.body) h)
  where
    at_tag : (t : ℕ) → r.tag ≡ t → Signed (entry_of (record { tag = t; body = r.body })) → Signed (entry_of r)
    at_tag t e q = subst (λ (u : ℕ). Signed (entry_of (record { tag = u; body = r.body }))) (sym e) q

    fits : (t : ℕ) → r.tag ≡ t → shaped t (length r.body) ≡ true
    fits t e = subst (λ (u : ℕ). shaped u (length r.body) ≡ true) e h

    by : (r.tag ≡ 1) ⊎ ((r.tag ≡ 2) ⊎ ((r.tag ≡ 3) ⊎ ((r.tag ≡ 4) ⊎ (r.tag ≡ 5)))) → Signed (entry_of r)
    by (inl e) = at_tag 1 e (signed_fits 3 r.body b (omega (arith, leb-true 11 (length r.body) (and_parts (leb 11 (length r.body)) (eqb ((length r.body - 11) % 2) 0) (fits 1 e)).0)))
    by (inr (inl e)) = at_tag 2 e (signed_fits 2 r.body b (omega (arith, eqb-true (length r.body) 10 (fits 2 e))))
    by (inr (inr (inl e))) = let n = eqb-true (length r.body) 16 (fits 3 e) in at_tag 3 e (signed_fits 0 r.body b (omega (arith, n)), signed_fits 8 r.body b (omega (arith, n)))
    by (inr (inr (inr (inl e)))) = at_tag 4 e tt
    by (inr (inr (inr (inr e)))) = at_tag 5 e tt
