-- The bodies of the records with a tag, each with its number. Assumes nothing.
use Rattle.std.proofs.Common.{◌≡◌, ℕ, zero, suc, ◌+◌, ◌<◌, ◌≤◌, Bool, true, false, cond, eqb, ◌⊎◌, inl, inr, List, [], ◌∷◌, length, map, take, Some, None, Option, MatchOption, slice_get, slice_index_or, sym, refl, ap, ◌∙◌, subst, arith}
use Rattle.std.proofs.lemmas.Bool.{eqb-true, cases_lt}
use Rattle.std.proofs.lemmas.List.{length-map}
use Rattle.std.proofs.lemmas.Simd.{map-map}
use Rattle.std.proofs.lemmas.Option.{slice_get-get_or, slice_get_within, get_or_from_slice_get}
use Rattle.std.proofs.lemmas.Iterator.Consumers.{nth_from_yields_List, YieldsList-from_first}
use Rattle.std.specs.Option.{option_map}
use Rattle.std.specs.Iterator.{YieldsFirstBy, SkipsThenYields}
use Rattle.job_format.specs.Frames.{Raw, records}
use Rattle.job_format.specs.Bodies.{bodies, shaped}
use Rattle.job_format.specs.Order.{at, Follow}
use Rattle.job_format.specs.Contents.{Found, Located}
use Rattle.job_format.proofs.Walks.{records_few}
use Rattle.job_format.proofs.Tagged.{cells_few}
use Rattle.job_format.proofs.Finding.{shapes}
use Rattle.job.specs.Walked.{numbered, AllFit}

abbrev pub nothing : ℕ × List ℕ
nothing = (0, [])

pub bodies_numbered : (t n : ℕ) (rs : List Raw) → map (λ (p : ℕ × List ℕ). p.1) (numbered t n rs) ≡ bodies t rs
unfolding numbered bodies
bodies_numbered t n [] = refl
bodies_numbered t n (r ∷ rs) = by (eqb r.tag t) (bodies_numbered t (n + 1) rs)
  where
    by : (b : Bool) → map (λ (p : ℕ × List ℕ). p.1) (numbered t (n + 1) rs) ≡ bodies t rs → map (λ (p : ℕ × List ℕ). p.1) (cond b ((n, r.body) ∷ numbered t (n + 1) rs) (numbered t (n + 1) rs)) ≡ cond b (r.body ∷ bodies t rs) (bodies t rs)
    by true e = ap (λ bs. r.body ∷ bs) e
    by false e = e

-- the record k has the tag t and the body of p, whose number is that of the record, and v records before it have that tag
pub record Numbers (t n v : ℕ) (rs : List Raw) (p : ℕ × List ℕ) : Type 0 where
  pub place : ℕ
  pub number : p.0 ≡ n + place
  pub within : place < length rs
  pub here : at rs place ≡ record { tag = t; body = p.1 }
  pub before : length (bodies t (take place rs)) ≡ v
  pub found : Found (bodies t rs) v p.1

pub numbers : (t n v : ℕ) (rs : List Raw) → v < length (numbered t n rs) → Numbers t n v rs (slice_index_or (numbered t n rs) v nothing)
unfolding numbered bodies
numbers t n v [] h = absurd (omega arith)
numbers t n v (r ∷ rs) h = by (eqb r.tag t) refl v h (λ w l. numbers t (n + 1) w rs l)
  where
    behind : (b : Bool) → eqb r.tag t ≡ b → (xs : List Raw) → bodies t (r ∷ xs) ≡ cond b (r.body ∷ bodies t xs) (bodies t xs)
    behind b e xs = ap (λ c. cond c (r.body ∷ bodies t xs) (bodies t xs)) e

    later : (b : Bool) → eqb r.tag t ≡ b → (w : ℕ) (p : ℕ × List ℕ) → Numbers t (n + 1) w rs p → Numbers t n (cond b (suc w) w) (r ∷ rs) p
    later true e w p k = record {
      place = suc k.place;
      number = omega (arith, k.number);
      within = omega (arith, k.within);
      here = k.here;
      before = omega (arith, ap length (behind true e (take k.place rs)), k.before);
      found = subst (λ (bs : List (List ℕ)). Found bs (suc w) p.1) (sym (behind true e rs)) (record { within = omega (arith, k.found.within); is = k.found.is });
    }
    later false e w p k = record {
      place = suc k.place;
      number = omega (arith, k.number);
      within = omega (arith, k.within);
      here = k.here;
      before = omega (arith, ap length (behind false e (take k.place rs)), k.before);
      found = subst (λ (bs : List (List ℕ)). Found bs w p.1) (sym (behind false e rs)) k.found;
    }

    by : (b : Bool) → eqb r.tag t ≡ b → (v : ℕ) → v < length (cond b ((n, r.body) ∷ numbered t (n + 1) rs) (numbered t (n + 1) rs)) → ((w : ℕ) → w < length (numbered t (n + 1) rs) → Numbers t (n + 1) w rs (slice_index_or (numbered t (n + 1) rs) w nothing)) → Numbers t n v (r ∷ rs) (slice_index_or (cond b ((n, r.body) ∷ numbered t (n + 1) rs) (numbered t (n + 1) rs)) v nothing)
    by true e zero l more = record {
      place = 0;
      number = omega arith;
      within = omega arith;
      here = λ i. record { tag = eqb-true r.tag t e i; body = r.body };
      before = refl;
      found = subst (λ (bs : List (List ℕ)). Found bs 0 r.body) (sym (behind true e rs)) (record { within = omega arith; is = refl });
    }
    by true e (suc w) l more = later true e w (slice_index_or (numbered t (n + 1) rs) w nothing) (more w (omega arith))
    by false e v l more = later false e v (slice_index_or (numbered t (n + 1) rs) v nothing) (more v l)

pub length_numbered : (t n : ℕ) (rs : List Raw) → length (numbered t n rs) ≡ length (bodies t rs)
length_numbered t n rs = sym (length-map (numbered t n rs) (λ (p : ℕ × List ℕ). p.1)) ∙ ap length (bodies_numbered t n rs)

-- a record that was found
pub located : (t v : ℕ) (rs : List Raw) → v < length (numbered t 0 rs) → (p : ℕ × List ℕ) → p ≡ slice_index_or (numbered t 0 rs) v nothing → Located rs t v p.0 p.1
located t v rs h p e = subst (λ (q : ℕ × List ℕ). Located rs t v q.0 q.1) (sym e) this
  where
    k : Numbers t 0 v rs (slice_index_or (numbered t 0 rs) v nothing)
    k = numbers t 0 v rs h

    place : k.place ≡ (slice_index_or (numbered t 0 rs) v nothing).0
    place = omega (arith, k.number)

    this : Located rs t v (slice_index_or (numbered t 0 rs) v nothing).0 (slice_index_or (numbered t 0 rs) v nothing).1
    this = record {
      within = omega (arith, k.within, place);
      here = ap (at rs) (sym place) ∙ k.here;
      before = ap (λ n. length (bodies t (take n rs))) (sym place) ∙ k.before;
      found = k.found;
    }

-- no more of them than bytes
pub numbered_few : (t n : ℕ) (s : List ℕ) → length (numbered t n (records s)) ≤ length s
numbered_few t n s = omega (arith, length_numbered t n (records s), cells_few t (records s), records_few s)

-- what is read of each body
pub read_numbered : {A : Type 0} (read : List ℕ → A) (t n : ℕ) (rs : List Raw) → map (λ (p : ℕ × List ℕ). read p.1) (numbered t n rs) ≡ map read (bodies t rs)
read_numbered read t n rs = sym (map-map read (λ (p : ℕ × List ℕ). p.1) (numbered t n rs)) ∙ ap (map read) (bodies_numbered t n rs)

pub all_fit : (t : ℕ) (rs : List Raw) → Follow rs (length rs) → AllFit t (numbered t 0 rs)
all_fit t rs fo v h =
    let f = (numbers t 0 v rs h).found in
    ap (λ (b : List ℕ). shaped t (length b)) f.is ∙ shapes t rs fo v f.within

module _ {S A : Type 0} (view : A → ℕ × List ℕ) (rest : S → List (ℕ × List ℕ)) (t : ℕ) where
  -- what `nth` finds
  pub nth_located : (v : ℕ) (rs : List Raw) (w after : S) (r : Option A) → rest w ≡ numbered t 0 rs → SkipsThenYields (YieldsFirstBy view rest) w v r after → MatchOption r (length (bodies t rs) ≤ v) (λ x. Located rs t v (view x).0 (view x).1)
  nth_located v rs w after r e ran = by r (nth_from_yields_List r after v ran (YieldsList-from_first view rest (numbered t 0 rs) e))
    where
      by : (r : Option A) → option_map view r ≡ slice_get (numbered t 0 rs) v → MatchOption r (length (bodies t rs) ≤ v) (λ x. Located rs t v (view x).0 (view x).1)
      by None h = past (cases_lt v (length (numbered t 0 rs)))
        where
          past : (v < length (numbered t 0 rs)) ⊎ (length (numbered t 0 rs) ≤ v) → length (bodies t rs) ≤ v
          past (inl l) = let z : None ≡ Some (slice_index_or (numbered t 0 rs) v nothing) = h ∙ slice_get-get_or (numbered t 0 rs) v nothing l in cc
          past (inr l) = omega (arith, length_numbered t 0 rs)
      by (Some x) h = located t v rs (slice_get_within (numbered t 0 rs) v (view x) (sym h)) (view x) (sym (get_or_from_slice_get (numbered t 0 rs) v (view x) nothing (sym h)))

  -- the first body fits, and so do those after it
  pub fit_here : (w after : S) (x : A) → YieldsFirstBy view rest w (Some x) after → AllFit t (rest w) → shaped t (length (view x).1) ≡ true
  fit_here w after x y a = subst (AllFit t) y a 0 (omega arith)

  pub fit_on : (w after : S) (r : Option A) → YieldsFirstBy view rest w r after → AllFit t (rest w) → AllFit t (rest after)
  fit_on w after None y a = subst (AllFit t) (sym y.1) (λ v l. absurd (omega arith))
  fit_on w after (Some x) y a = λ v l. subst (AllFit t) y a (suc v) (omega arith)
