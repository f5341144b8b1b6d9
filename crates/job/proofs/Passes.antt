-- One record of each pass over a job. Assumes nothing.
use Rattle.std.proofs.Common.{◌≡◌, ℕ, ◌<◌, ◌≤◌, Bool, true, false, cond, ◌&&◌, ltb, leb, List, [], ◌∷◌, ◌++◌, length, take, Some, None, Option, sym, refl, ap, ◌∙◌, subst, ap₂, inl, inr, arith, length-take, below_more}
use Rattle.std.proofs.lemmas.List.{take_more, take_all}
use Rattle.values.specs.Cells.{each, well_formed}
use Rattle.values.specs.declared.refusal.Refusal.{Refusal}
use Rattle.values.specs.declared.refusal.Refusal.TheVariants.{NoValue, BadForm}
use Rattle.job_format.specs.Frames.{Raw, no_raw, records}
use Rattle.job_format.specs.Bodies.{shaped, limit, bodies, fault_of, cell_fault_lem, cell_sound, cell_in}
use Rattle.job_format.specs.Order.{at, follows, Follow, CellsSound, cell_count, last_tag, Framed, Misframed, Unsound, Verified}
use Rattle.job.specs.Seens.{had, can_follow_lem, with_record_lem, Sees}
use Rattle.job.specs.Walked.{StartsAt, Steps}
use Rattle.job.specs.declared.tally.Seen.{Seen}
use Rattle.job.specs.declared.records.Record.{Record}
use Rattle.job.specs.declared.records.Records.{Records}
use Rattle.job_format.proofs.Walks.{Stands, start, here_within, here_is, goes_on, ended}
use Rattle.job_format.proofs.Tagged.{cells_few, three}
use Rattle.job_format.proofs.Finding.{less, cell_bytes_least}
use Rattle.job.proofs.Seeing.{follows_is, may, sees_more}

none_by : (a b : Bool) → ◌≡◌ {A = Option Refusal} (cond a (cond b None (Some BadForm)) (Some NoValue)) None → (a && b) ≡ true
none_by true true h = refl
none_by true false h = let z : ◌≡◌ {A = ℕ} 0 1 = cc in absurd (omega arith)
none_by false b h = let z : ◌≡◌ {A = ℕ} 0 1 = cc in absurd (omega arith)

no_fault : (n : ℕ) (b : List ℕ) → cell_fault_lem n b ≡ None → cell_sound n b ≡ true
no_fault n b h = none_by (each (λ p. ltb p n) (cell_in b).parts) (well_formed (cell_in b)) h

pub begins : (all : List ℕ) (w : Records) → StartsAt all w → Stands all w.number w.rest.now
begins all w h = subst (λ n. Stands all n w.rest.now) (sym h.0) (subst (Stands all 0) (sym h.1) (start all))

module _ (all : List ℕ) (w : Records) (x : Record) (after : Records) (st : Stands all w.number w.rest.now) (sp : Steps w (Some x) after) where
  pub goes : Stands all after.number after.rest.now
  goes = subst (λ m. Stands all m after.rest.now) (sym sp.1) (goes_on st sp.2)

  module _ (seen : Seen) (fo : Follow (records all) w.number) (sees : Sees seen (take w.number (records all))) where
    this : follows (take w.number (records all)) (at (records all) w.number) ≡ can_follow_lem seen x.tag (length x.body.now)
    this = ap (follows (take w.number (records all))) (here_is st sp.2) ∙ follows_is seen (take w.number (records all)) (record { tag = x.tag; body = x.body.now }) sees

    pub pass : can_follow_lem seen x.tag (length x.body.now) ≡ true → Stands all after.number after.rest.now × Follow (records all) after.number × Sees (with_record_lem seen x.tag) (take after.number (records all))
    pass h = (
      goes,
      subst (Follow (records all)) (sym sp.1) (below_more (λ i. follows (take i (records all)) (at (records all) i) ≡ true) w.number fo (this ∙ h)),
      subst (λ m. Sees (with_record_lem seen x.tag) (take m (records all))) (sym sp.1) (subst (Sees (with_record_lem seen x.tag)) (ap (λ r. take w.number (records all) ++ (r ∷ [])) (sym (here_is st sp.2)) ∙ sym (take_more (records all) w.number no_raw (here_within st sp.2))) (sees_more seen (take w.number (records all)) (record { tag = x.tag; body = x.body.now }) sees (may seen x.tag (length x.body.now) h).1)),
    )

    pub stop : length all ≤ 60000 → can_follow_lem seen x.tag (length x.body.now) ≡ false → Misframed all x.number
    stop small h = subst (Misframed all) (sym sp.0) (record { small = small; before = fo; here = inl (here_within st sp.2, this ∙ h) })

    pub room : length all ≤ 60000 → can_follow_lem seen x.tag (length x.body.now) ≡ true → (had seen x.tag < 60000) × (seen.cells < 60000)
    room small h = (few (may seen x.tag (length x.body.now) h).2, omega (arith, sees.cells, cells_few 1 (take w.number (records all)), short, st.bound, less sp.2))
      where
        short : length (take w.number (records all)) ≤ w.number
        short = omega (arith, length-take w.number (records all))

        most : (t : ℕ) → limit t ≤ 60000
        most t = grind arith

        few : had seen x.tag < limit x.tag → had seen x.tag < 60000
        few q = omega (arith, most x.tag)

  module _ (framed : Framed all) (one : x.tag ≡ 1) where
    pub cell_long : 11 ≤ length x.body.now
    cell_long =
        let f : follows (take w.number (records all)) (record { tag = x.tag; body = x.body.now }) ≡ true = ap (follows (take w.number (records all))) (sym (here_is st sp.2)) ∙ framed.follow w.number (here_within st sp.2) in
        let p = three (shaped x.tag (length x.body.now)) (leb (last_tag (take w.number (records all))) x.tag) (ltb (length (bodies x.tag (take w.number (records all)))) (limit x.tag)) f in
        cell_bytes_least (length x.body.now) (ap (λ t. shaped t (length x.body.now)) (sym one) ∙ p.0)

  -- a fault of the cell here, where there are as many cells
  cell_here : (cells : ℕ) → cells ≡ cell_count (records all) → fault_of cells (cell_in x.body.now) ≡ cell_fault_lem (cell_count (records all)) (at (records all) w.number).body
  cell_here cells e = ap₂ (λ m (r : Raw). cell_fault_lem m r.body) e (sym (here_is st sp.2))

  pub bad_cell : Framed all → CellsSound (records all) w.number → x.tag ≡ 1 → (cells : ℕ) → cells ≡ cell_count (records all) → (why : Refusal) → Some why ≡ fault_of cells (cell_in x.body.now) → Unsound all x.number why
  bad_cell framed so one cells e why h = subst (λ m. Unsound all m why) (sym sp.0) (record {
    framed = framed;
    before = so;
    within = here_within st sp.2;
    cell = ap (λ (r : Raw). r.tag) (here_is st sp.2) ∙ one;
    here = sym (cell_here cells e) ∙ sym h;
  })

  pub good_cell : CellsSound (records all) w.number → (cells : ℕ) → cells ≡ cell_count (records all) → None ≡ fault_of cells (cell_in x.body.now) → Stands all after.number after.rest.now × CellsSound (records all) after.number
  good_cell so cells e h = (goes, subst (CellsSound (records all)) (sym sp.1) (below_more (λ i. (at (records all) i).tag ≡ 1 → cell_sound (cell_count (records all)) (at (records all) i).body ≡ true) w.number so (λ _. no_fault (cell_count (records all)) (at (records all) w.number).body (sym (cell_here cells e) ∙ sym h))))

  pub no_cell : CellsSound (records all) w.number → (x.tag ≡ 1 → ⊥) → Stands all after.number after.rest.now × CellsSound (records all) after.number
  no_cell so ne = (goes, subst (CellsSound (records all)) (sym sp.1) (below_more (λ i. (at (records all) i).tag ≡ 1 → cell_sound (cell_count (records all)) (at (records all) i).body ≡ true) w.number so (λ e. absurd (ne (sym (ap (λ (r : Raw). r.tag) (here_is st sp.2)) ∙ e)))))

module _ (all : List ℕ) (w after : Records) (st : Stands all w.number w.rest.now) (no : Steps w None after) where
  pub cut_short : length all ≤ 60000 → Follow (records all) w.number → 0 < length after.rest.now → Misframed all after.number
  cut_short small fo h = subst (Misframed all) (sym no.1) (record { small = small; before = fo; here = inr ((ended st no.0).0, omega (arith, ap length (ended st no.0).1, ap length no.2)) })

  pub framed_all : length all ≤ 60000 → Follow (records all) w.number → length after.rest.now ≤ 0 → Framed all
  framed_all small fo h = record { small = small; follow = subst (Follow (records all)) (ended st no.0).0 fo; whole = omega (arith, ap length (ended st no.0).1, ap length no.2) }

  pub all_cells : (seen : Seen) → Sees seen (take w.number (records all)) → seen.cells ≡ cell_count (records all)
  all_cells seen sees = sees.cells ∙ ap (λ rs. length (bodies 1 rs)) (take_all w.number (records all) (omega (arith, (ended st no.0).0)))

  pub sound_all : Framed all → CellsSound (records all) w.number → Verified all
  sound_all framed so = record { framed = framed; cells = subst (CellsSound (records all)) (ended st no.0).0 so }
