-- Records found by their tag, and the laws of a job's cells. Assumes nothing.
use Rattle.std.proofs.Common.{◌≡◌, ℕ, zero, suc, ◌-◌, ◌%◌, ◌<◌, ◌≤◌, Bool, true, false, cond, eqb, ltb, leb, ◌⊎◌, List, [], ◌∷◌, ◌++◌, length, get_or, take, sym, refl, ap, ◌∙◌, subst, inl, inr, add-one, arith}
use Rattle.std.proofs.lemmas.List.{take_more, take_all, length-map, get_or-map, length_push}
use Rattle.std.proofs.lemmas.Bool.{and_parts, leb-true, ltb-true, cases_eq, eqb-true}
use Rattle.values.specs.Cells.{Cell, no_cell, Closed, Formed, well_formed, each}
use Rattle.values.specs.Held.{Lies}
use Rattle.values.proofs.Eaches.{each_at}
use Rattle.job_format.specs.Frames.{Raw, no_raw, records, Splits}
use Rattle.job_format.specs.Bodies.{shaped, limit, bodies, cell_sound, cell_in}
use Rattle.job_format.specs.Order.{at, Follow, CellsSound, cell_count, last_tag}
use Rattle.job_format.specs.Contents.{Found, job_cells}
use Rattle.job_format.proofs.Walks.{rest_shorter}
use Rattle.job_format.proofs.Tagged.{three, bodies_same, bodies_other}

pub less : {s : List ℕ} {tag : ℕ} {body rest : List ℕ} → Splits s tag body rest → length rest < length s
less {s} sp = omega (arith, ap length sp.rest_is, rest_shorter s sp.whole)

-- what holds of each record with a tag holds of each of their bodies
pub bodies_each : (P : List ℕ → Type 0) (t : ℕ) (rs : List Raw) → ((i : ℕ) → i < length rs → (at rs i).tag ≡ t → P (at rs i).body) → (v : ℕ) → v < length (bodies t rs) → P (get_or (bodies t rs) v [])
unfolding bodies
bodies_each P t [] all v h = absurd (omega arith)
bodies_each P t (r ∷ rs) all v h = by (eqb r.tag t) refl v h (bodies_each P t rs (λ i l e. all (suc i) (omega arith) e))
  where
    by : (b : Bool) → eqb r.tag t ≡ b → (v : ℕ) → v < length (cond b (r.body ∷ bodies t rs) (bodies t rs)) → ((w : ℕ) → w < length (bodies t rs) → P (get_or (bodies t rs) w [])) → P (get_or (cond b (r.body ∷ bodies t rs) (bodies t rs)) v [])
    by true e zero l more = all 0 (omega arith) (eqb-true r.tag t e)
    by true e (suc w) l more = more w (omega arith)
    by false e v l more = more v l

-- no more records of a tag than its limit
prefix_few : (t : ℕ) (rs : List Raw) → Follow rs (length rs) → (n : ℕ) → n ≤ length rs → length (bodies t (take n rs)) ≤ limit t
unfolding bodies
prefix_few t rs fo zero h = omega arith
prefix_few t rs fo (suc n) h = by (cases_eq (at rs n).tag t) (prefix_few t rs fo n (omega arith))
  where
    l : n < length rs
    l = omega arith

    more : take (suc n) rs ≡ take n rs ++ (at rs n ∷ [])
    more = ap (λ k. take k rs) (sym (add-one n)) ∙ take_more rs n no_raw l

    under : length (bodies (at rs n).tag (take n rs)) < limit (at rs n).tag
    under = ltb-true _ _ (three (shaped (at rs n).tag (length (at rs n).body)) (leb (last_tag (take n rs)) (at rs n).tag) (ltb (length (bodies (at rs n).tag (take n rs))) (limit (at rs n).tag)) (fo n l)).2

    by : ((at rs n).tag ≡ t) ⊎ ((at rs n).tag ≡ t → ⊥) → length (bodies t (take n rs)) ≤ limit t → length (bodies t (take (suc n) rs)) ≤ limit t
    by (inl e) old =
        let u : length (bodies t (take n rs)) < limit t = subst (λ (k : ℕ). length (bodies k (take n rs)) < limit k) e under in
        let m = ap length (ap (bodies t) more ∙ bodies_same t (take n rs) (at rs n) e) in
        omega (arith, m, length_push (bodies t (take n rs)) (at rs n).body, u)
    by (inr ne) old = omega (arith, ap length (ap (bodies t) more ∙ bodies_other t (take n rs) (at rs n) ne), old)

pub few_of : (t : ℕ) (rs : List Raw) → Follow rs (length rs) → length (bodies t rs) ≤ limit t
few_of t rs fo = subst (λ (xs : List Raw). length (bodies t xs) ≤ limit t) (take_all (length rs) rs (omega arith)) (prefix_few t rs fo (length rs) (omega arith))

-- a body is as long as its tag says
pub shapes : (t : ℕ) (rs : List Raw) → Follow rs (length rs) → (v : ℕ) → v < length (bodies t rs) → shaped t (length (get_or (bodies t rs) v [])) ≡ true
shapes t rs fo = bodies_each (λ b. shaped t (length b) ≡ true) t rs (λ i h e. ap (λ k. shaped k (length (at rs i).body)) (sym e) ∙ (three (shaped (at rs i).tag (length (at rs i).body)) (leb (last_tag (take i rs)) (at rs i).tag) (ltb (length (bodies (at rs i).tag (take i rs))) (limit (at rs i).tag)) (fo i h)).0)

pub cell_bytes_least : (n : ℕ) → shaped 1 n ≡ true → 11 ≤ n
cell_bytes_least n h = leb-true 11 n (and_parts (leb 11 n) (eqb ((n - 11) % 2) 0) h).0

module _ (s : List ℕ) (sound : CellsSound (records s) (length (records s))) where
  bs : List (List ℕ)
  bs = bodies 1 (records s)

  good : (v : ℕ) → v < length (bodies 1 (records s)) → (each (λ p. ltb p (cell_count (records s))) (cell_in (get_or (bodies 1 (records s)) v [])).parts ≡ true) × (well_formed (cell_in (get_or (bodies 1 (records s)) v [])) ≡ true)
  good v h = let b = get_or (bodies 1 (records s)) v [] in and_parts (each (λ p. ltb p (cell_count (records s))) (cell_in b).parts) (well_formed (cell_in b)) (bodies_each (λ b. cell_sound (cell_count (records s)) b ≡ true) 1 (records s) sound v h)

  pub job_formed : Formed (job_cells s)
  job_formed v h =
      let l : v < length (bodies 1 (records s)) = omega (arith, length-map (bodies 1 (records s)) cell_in) in
      subst (λ (c : Cell). well_formed c ≡ true) (sym (get_or-map cell_in (bodies 1 (records s)) v [] no_cell l)) (good v l).1

  pub job_closed : Closed (job_cells s)
  job_closed v i h p =
      let l : v < length (bodies 1 (records s)) = omega (arith, length-map (bodies 1 (records s)) cell_in) in
      let e = get_or-map cell_in (bodies 1 (records s)) v [] no_cell l in
      let b = get_or (bodies 1 (records s)) v [] in
      let q : i < length (cell_in b).parts = subst (λ (c : Cell). i < length c.parts) e p in
      let r = ltb-true (get_or (cell_in b).parts i 0) (cell_count (records s)) (each_at (λ p. ltb p (cell_count (records s))) (cell_in b).parts i 0 (good v l).0 q) in
      subst (λ (c : Cell). get_or c.parts i 0 < length (job_cells s)) (sym e) (omega (arith, r, length-map (bodies 1 (records s)) cell_in))

pub lies : (s : List ℕ) (v : ℕ) (b : List ℕ) → Found (bodies 1 (records s)) v b → Lies (job_cells s) v (cell_in b)
lies s v b f = record { within = omega (arith, f.within, length-map (bodies 1 (records s)) cell_in); is = get_or-map cell_in (bodies 1 (records s)) v [] no_cell f.within ∙ ap cell_in (sym f.is) }
