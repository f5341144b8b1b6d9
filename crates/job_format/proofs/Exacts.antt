-- The test says yes to the encodings of good jobs, and to nothing else. Assumes nothing.
use Rattle.std.proofs.Common.{◌≡◌, ℕ, suc, ◌+◌, ◌<◌, Bool, true, false, cond, ◌&&◌, eqb, ltb, leb, ◌⊎◌, List, [], ◌∷◌, ◌++◌, map, length, get_or, take, sym, refl, ap, ◌∙◌, subst, ap₂, inl, inr, append-nil, arith, length-take}
use Rattle.std.proofs.lemmas.List.{length-map, get_or-map, nil_from_length, take-take, get_or-take}
use Rattle.std.proofs.lemmas.Bool.{eqb-true, both_ways}
use Rattle.values.specs.Cells.{Cell as Value, each, well_formed}
use Rattle.job_format.specs.Contents.{job_cells, job_marks, job_ranges, job_texts, job_queries, mark_in, range_in, query_in_lem}
use Rattle.job_format.specs.Frames.{Raw, no_raw, wide, frames, records, leftover}
use Rattle.job_format.specs.Bodies.{shaped, limit, bodies, cell_in, cell_sound, signed_at}
use Rattle.job_format.specs.Order.{at, follows, Follow, CellsSound, cell_count, last_tag, Verified, Misframed}
use Rattle.job_format.specs.Encoding.{Entry, cell_e, mark_e, range_e, text_e, query_e, written, encode, Signed, sound_in, nth, Bytes, Good, cells_of, texts_of, marks_of, ranges_of, queries_of_lem}
use Rattle.job_format.proofs.Tagged.{three}
use Rattle.job_format.proofs.Framing.{records_frames, left_frames, frames_again, bodies_bytes}
use Rattle.job_format.proofs.Entries.{entry_of, written_again, cell_read, mark_read, range_read, query_read, entry_signed}

map_back : (rs : List Raw) → ((i : ℕ) → i < length rs → written (entry_of (at rs i)) ≡ at rs i) → map written (map entry_of rs) ≡ rs
map_back [] h = refl
map_back (r ∷ rs) h = ap₂ ◌∷◌ (h 0 (omega arith)) (map_back rs (λ i l. h (suc i) (omega arith)))

entry_sound : (n : ℕ) (r : Raw) → (r.tag ≡ 1 → cell_sound n r.body ≡ true) → sound_in n (entry_of r) ≡ true
entry_sound n r h = by (eqb r.tag 1) refl (eqb r.tag 2) (eqb r.tag 3) (eqb r.tag 4)
  where
    by : (a : Bool) → eqb r.tag 1 ≡ a → (b c d : Bool)
        → sound_in n (cond a (cell_e (cell_in r.body)) (cond b (mark_e (wide (get_or r.body 0 0) (get_or r.body 1 0)) (signed_at 2 r.body)) (cond c (range_e (signed_at 0 r.body) (signed_at 8 r.body)) (cond d (text_e r.body) (query_e (wide (get_or r.body 0 0) (get_or r.body 1 0)) (wide (get_or r.body 2 0) (get_or r.body 3 0))))))) ≡ true
    by true e b c d = h (eqb-true r.tag 1 e)
    by false e true c d = refl
    by false e false true d = refl
    by false e false false true = refl
    by false e false false false = refl

-- a record that an entry writes, where it is a cell
written_sound : (n : ℕ) (e : Entry) → Signed e → sound_in n e ≡ true → (written e).tag ≡ 1 → cell_sound n (written e).body ≡ true
written_sound n (cell_e c) f s t = ap (λ (x : Value). each (λ p. ltb p n) x.parts && well_formed x) (cell_read c f) ∙ s
written_sound n (mark_e a m) f s t = absurd (omega arith)
written_sound n (range_e l h) f s t = absurd (omega arith)
written_sound n (text_e b) f s t = absurd (omega arith)
written_sound n (query_e a v) f s t = absurd (omega arith)

pub only : (s : List ℕ) → Bytes s → Verified s → (es : List Entry) × Good es × (encode es ≡ s)
only s b v =
    let rs = records s in
    let es = map entry_of (records s) in
    let shape : (i : ℕ) → i < length (records s) → shaped (at (records s) i).tag (length (at (records s) i).body) ≡ true =
    λ i h. (three (shaped (at (records s) i).tag (length (at (records s) i).body)) (leb (last_tag (take i (records s))) (at (records s) i).tag) (ltb (length (bodies (at (records s) i).tag (take i (records s)))) (limit (at (records s) i).tag)) (v.framed.follow i h)).0 in
    let back : map written (map entry_of (records s)) ≡ records s = map_back (records s) (λ i h. written_again (at (records s) i) (bodies_bytes s b i h) (shape i h)) in
    let none : leftover s ≡ [] = nil_from_length (leftover s) v.framed.whole in
    let same : encode (map entry_of (records s)) ≡ s = ap frames back ∙ sym (append-nil (frames (records s))) ∙ ap (λ xs. frames (records s) ++ xs) (sym none) ∙ frames_again s b in
    let nth_is : (i : ℕ) → i < length (records s) → nth (map entry_of (records s)) i ≡ entry_of (at (records s) i) = λ i h. get_or-map entry_of (records s) i no_raw (text_e []) h in
    let long = length-map (records s) entry_of in (
      map entry_of (records s),
      record {
        bytes = subst Bytes (sym same) b;
        signed = λ i h. let l : i < length (records s) = omega (arith, long) in subst Signed (sym (nth_is i l)) (entry_signed (at (records s) i) (bodies_bytes s b i l) (shape i l));
        small = omega (arith, ap length same, v.framed.small);
        follow = subst (λ (xs : List Raw). Follow xs (length xs)) (sym back) v.framed.follow;
        sound = λ i h. let l : i < length (records s) = omega (arith, long) in ap₂ (λ (xs : List Raw) (e : Entry). sound_in (cell_count xs) e) back (nth_is i l) ∙ entry_sound (cell_count (records s)) (at (records s) i) (v.cells i l);
      },
      same,
    )

pub every : (es : List Entry) → Good es → Verified (encode es)
every es g =
    let rs = map written es in
    let e : records (encode es) ≡ map written es = records_frames (map written es) in
    let long = length-map es written in
    record {
      framed = record {
        small = g.small;
        follow = subst (λ (xs : List Raw). Follow xs (length xs)) (sym e) g.follow;
        whole = ap length (left_frames (map written es));
      };
      cells = subst (λ (xs : List Raw). CellsSound xs (length xs)) (sym e) (λ i h t.
          let l : i < length es = omega (arith, long) in
          let w : at (map written es) i ≡ written (nth es i) = get_or-map written es i (text_e []) no_raw l in
          ap (λ (r : Raw). cell_sound (cell_count (map written es)) r.body) w ∙ written_sound (cell_count (map written es)) (nth es i) (g.signed i l) (g.sound i l) (ap (λ (r : Raw). r.tag) (sym w) ∙ t));
    }

-- what was written is read
cells_read : (es : List Entry) → ((i : ℕ) → i < length es → Signed (nth es i)) → map cell_in (bodies 1 (map written es)) ≡ cells_of es
unfolding bodies
cells_read [] f = refl
cells_read (cell_e c ∷ es) f = ap₂ ◌∷◌ (cell_read c (f 0 (omega arith))) (cells_read es (λ i h. f (suc i) (omega arith)))
cells_read (mark_e t m ∷ es) f = cells_read es (λ i h. f (suc i) (omega arith))
cells_read (range_e l h ∷ es) f = cells_read es (λ i k. f (suc i) (omega arith))
cells_read (text_e b ∷ es) f = cells_read es (λ i h. f (suc i) (omega arith))
cells_read (query_e a v ∷ es) f = cells_read es (λ i h. f (suc i) (omega arith))

texts_read : (es : List Entry) → bodies 4 (map written es) ≡ texts_of es
unfolding bodies
texts_read [] = refl
texts_read (cell_e c ∷ es) = texts_read es
texts_read (mark_e t m ∷ es) = texts_read es
texts_read (range_e l h ∷ es) = texts_read es
texts_read (text_e b ∷ es) = ap (λ xs. b ∷ xs) (texts_read es)
texts_read (query_e a v ∷ es) = texts_read es

pub cells : (es : List Entry) → Good es → job_cells (encode es) ≡ cells_of es
cells es g = ap (λ (rs : List Raw). map cell_in (bodies 1 rs)) (records_frames (map written es)) ∙ cells_read es g.signed

pub texts : (es : List Entry) → Good es → job_texts (encode es) ≡ texts_of es
texts es g = ap (λ (rs : List Raw). bodies 4 rs) (records_frames (map written es)) ∙ texts_read es

marks_read : (es : List Entry) → ((i : ℕ) → i < length es → Signed (nth es i)) → map mark_in (bodies 2 (map written es)) ≡ marks_of es
unfolding bodies
marks_read [] f = refl
marks_read (cell_e c ∷ es) f = marks_read es (λ i k. f (suc i) (omega arith))
marks_read (mark_e t m ∷ es) f = ap₂ ◌∷◌ (mark_read t m (f 0 (omega arith))) (marks_read es (λ i k. f (suc i) (omega arith)))
marks_read (range_e l h ∷ es) f = marks_read es (λ i k. f (suc i) (omega arith))
marks_read (text_e b ∷ es) f = marks_read es (λ i k. f (suc i) (omega arith))
marks_read (query_e a v ∷ es) f = marks_read es (λ i k. f (suc i) (omega arith))

ranges_read : (es : List Entry) → ((i : ℕ) → i < length es → Signed (nth es i)) → map range_in (bodies 3 (map written es)) ≡ ranges_of es
unfolding bodies
ranges_read [] f = refl
ranges_read (cell_e c ∷ es) f = ranges_read es (λ i k. f (suc i) (omega arith))
ranges_read (mark_e t m ∷ es) f = ranges_read es (λ i k. f (suc i) (omega arith))
ranges_read (range_e l h ∷ es) f = ap₂ ◌∷◌ (range_read l h (f 0 (omega arith)).0 (f 0 (omega arith)).1) (ranges_read es (λ i k. f (suc i) (omega arith)))
ranges_read (text_e b ∷ es) f = ranges_read es (λ i k. f (suc i) (omega arith))
ranges_read (query_e a v ∷ es) f = ranges_read es (λ i k. f (suc i) (omega arith))

queries_read : (es : List Entry) → ((i : ℕ) → i < length es → Signed (nth es i)) → map query_in_lem (bodies 5 (map written es)) ≡ queries_of_lem es
unfolding bodies
queries_read [] f = refl
queries_read (cell_e c ∷ es) f = queries_read es (λ i k. f (suc i) (omega arith))
queries_read (mark_e t m ∷ es) f = queries_read es (λ i k. f (suc i) (omega arith))
queries_read (range_e l h ∷ es) f = queries_read es (λ i k. f (suc i) (omega arith))
queries_read (text_e b ∷ es) f = queries_read es (λ i k. f (suc i) (omega arith))
queries_read (query_e a v ∷ es) f = ap₂ ◌∷◌ (query_read a v) (queries_read es (λ i k. f (suc i) (omega arith)))

pub marks : (es : List Entry) → Good es → job_marks (encode es) ≡ marks_of es
marks es g = ap (λ (rs : List Raw). map mark_in (bodies 2 rs)) (records_frames (map written es)) ∙ marks_read es g.signed

pub ranges : (es : List Entry) → Good es → job_ranges (encode es) ≡ ranges_of es
ranges es g = ap (λ (rs : List Raw). map range_in (bodies 3 rs)) (records_frames (map written es)) ∙ ranges_read es g.signed

pub queries : (es : List Entry) → Good es → job_queries (encode es) ≡ queries_of_lem es
queries es g = ap (λ (rs : List Raw). map query_in_lem (bodies 5 rs)) (records_frames (map written es)) ∙ queries_read es g.signed

pub first : (s : List ℕ) (n : ℕ) → Misframed s n → (es : List Entry) → Good es → n < length es → take (n + 1) (map written es) ≡ take (n + 1) (records s) → ⊥
first s n m es g l e = by m.here
  where
    rs : List Raw
    rs = map written es

    long : n < length (map written es)
    long = omega (arith, length-map es written)

    before : take n (map written es) ≡ take n (records s)
    before = sym (take-take n (n + 1) (map written es) (omega arith)) ∙ ap (take n) e ∙ take-take n (n + 1) (records s) (omega arith)

    here : at (map written es) n ≡ at (records s) n
    here = sym (get_or-take (n + 1) (map written es) n no_raw (omega arith)) ∙ ap (λ (xs : List Raw). get_or xs n no_raw) e ∙ get_or-take (n + 1) (records s) n no_raw (omega arith)

    by : ((n < length (records s)) × (follows (take n (records s)) (at (records s) n) ≡ false)) ⊎ ((n ≡ length (records s)) × (0 < length (leftover s))) → ⊥
    by (inl p) = both_ways (follows (take n (records s)) (at (records s) n)) p.1 (sym (ap₂ follows before here) ∙ g.follow n long)
    by (inr p) = omega (arith, p.0, ap length e, length-take (n + 1) (map written es), length-take (n + 1) (records s), long)
