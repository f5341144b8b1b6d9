-- A fixed tuple: its elements are added to the pool, and cut off again where no type is added. Assumes nothing.
use Rattle.std.proofs.Common.{◌≡◌, ℕ, zero, suc, ◌+◌, ◌-◌, ◌<◌, ◌≤◌, min, Bool, true, false, cond, ◌||◌, ltb, leb, ◌⊎◌, List, [], ◌∷◌, ◌++◌, length, take, drop, Some, None, Ok, Err, Option, Result, vec_items, vec_capacity, sym, refl, ap, ◌∙◌, subst, ap₂, inl, inr, add-zero, arith, length-append}
use Rattle.std.proofs.lemmas.List.{take_all, take_at, drop_at, length-map}
use Rattle.std.proofs.lemmas.Bool.{and_parts, and_from, or_parts, leb-true, le-leb, lt-ltb}
use Rattle.std.specs.List.{between}
use Rattle.values.specs.declared.refusal.Refusal.{Refusal}
use Rattle.values.specs.declared.refusal.Refusal.TheVariants.{TooDeep, TooWide}
use Rattle.membership.specs.Rows.{Alt, tuple, Row, row, never, elements, made_row, parts, deepest, all_below_lem, all_places, any_of, too_long, too_deep, too_wide, find, intern, intern_by, Grown, grown, judged, verdict, single, Outcome, granted, refused, each, Sound}
use Rattle.membership.proofs.Eachs.{each_under}
use Rattle.membership.proofs.Kepts.{find_row_lem}
use Rattle.membership.proofs.Laws.{judged_granted}
use Rattle.membership.proofs.Measured.{limits_of, none_at_lem}
use Rattle.typing.specs.View.{alt, alts, pooled, table, row_of}
use Rattle.typing.specs.Held.{table_of, pool_in}
use Rattle.typing.specs.Growing.{Grew, Ready}
use Rattle.typing.specs.Outcomes.{Answered}
use Rattle.typing.specs.declared.basic.TyBasic.{TyBasic}
use Rattle.typing.specs.declared.basic.TyBasic.TheVariants as basic
use Rattle.typing.specs.declared.basic.TyTuple.TheVariants.{Elems, Of}
use Rattle.typing.specs.declared.rows.Row.{Row as CodeRow}
use Rattle.typing.specs.declared.types.Rows.{Rows}
use Rattle.typing.proofs.Walks.{each_between}
use Rattle.typing.proofs.Bounds.{deepest_both}
use Rattle.typing.proofs.Stores.{table_kept, places_push}
use Rattle.typing.proofs.Joining.{Alls}
use Rattle.typing.proofs.Cutting.{judged_refused}
use Rattle.typing.proofs.Reading.{missing_row}

table_count : (s : Rows) → length (table_of s) ≡ length (vec_items s.rows)
table_count s = length-map (vec_items s.rows) (row_of (pool_in s) (vec_items s.all))

-- an answer, with equal outcomes and tables
pub answered_as : (o o' : Outcome) (t t' u u' : List Row) (r : Result ℕ Refusal) → o ≡ o' → t ≡ u → t' ≡ u' → Answered o t t' r → Answered o' u u' r
answered_as o o' t t' u u' (Ok n) p q e h = sym p ∙ h ∙ ap (λ (z : List Row). granted (grown z n)) e
answered_as o o' t t' u u' (Err f) p q e h = (sym e ∙ h.0 ∙ q, sym p ∙ h.1)

side : (i n : ℕ) → (i < n) ⊎ (n ≤ i)
side zero zero = inr (omega arith)
side zero (suc n) = inl (omega arith)
side (suc i) zero = inr (omega arith)
side (suc i) (suc n) = elim (side i n) [ inl l ↦ inl (omega arith) | inr l ↦ inr (omega arith) ]

-- more elements in the pool change nothing
module _ (pool more : List ℕ) where
  drop_longer : (i : ℕ) (xs : List ℕ) → i ≤ length xs → drop i (xs ++ more) ≡ drop i xs ++ more
  drop_longer zero xs l = refl
  drop_longer (suc i) [] l = absurd (omega arith)
  drop_longer (suc i) (x ∷ xs) l = drop_longer i xs (omega arith)

  take_longer : (n : ℕ) (xs : List ℕ) → n ≤ length xs → take n (xs ++ more) ≡ take n xs
  take_longer zero xs l = refl
  take_longer (suc n) [] l = absurd (omega arith)
  take_longer (suc n) (x ∷ xs) l = ap (λ (z : List ℕ). x ∷ z) (take_longer n xs (omega arith))

  drop_count : (i : ℕ) (xs : List ℕ) → length (drop i xs) ≡ length xs - i
  drop_count zero xs = omega arith
  drop_count (suc i) [] = omega arith
  drop_count (suc i) (x ∷ xs) = omega (arith, drop_count i xs)

  between_longer : (from to : ℕ) → from ≤ to → to ≤ length pool → between from to (pool ++ more) ≡ between from to pool
  between_longer from to l m = ap (take (to - from)) (drop_longer from pool (omega arith)) ∙ take_longer (to - from) (drop from pool) (omega (arith, drop_count from pool))

  alt_longer : (x : TyBasic) → pooled (length pool) x ≡ true → alt (pool ++ more) x ≡ alt pool x
  alt_longer basic.Any h = refl
  alt_longer (basic.StarlarkValue n) h = refl
  alt_longer (basic.Iter t) h = refl
  alt_longer basic.Callable h = refl
  alt_longer basic.Type h = refl
  alt_longer (basic.List t) h = refl
  alt_longer (basic.Tuple (Elems from to)) h =
      let a = and_parts (leb from to) (leb to (length pool)) h in
      ap tuple (between_longer from to (leb-true from to a.0) (leb-true to (length pool) a.1))
  alt_longer (basic.Tuple (Of t)) h = refl
  alt_longer (basic.Dict k v) h = refl
  alt_longer (basic.Custom n) h = refl
  alt_longer (basic.Set t) h = refl

  alts_longer : (xs : List TyBasic) → each (pooled (length pool)) xs ≡ true → alts (pool ++ more) xs ≡ alts pool xs
  alts_longer [] h = refl
  alts_longer (x ∷ xs) h = let a = and_parts (pooled (length pool) x) (each (pooled (length pool)) xs) h in ap₂ ◌∷◌ (alt_longer x a.0) (alts_longer xs a.1)

  pooled_up : (m n : ℕ) (x : TyBasic) → m ≤ n → pooled m x ≡ true → pooled n x ≡ true
  pooled_up m n basic.Any l h = refl
  pooled_up m n (basic.StarlarkValue k) l h = refl
  pooled_up m n (basic.Iter t) l h = refl
  pooled_up m n basic.Callable l h = refl
  pooled_up m n basic.Type l h = refl
  pooled_up m n (basic.List t) l h = refl
  pooled_up m n (basic.Tuple (Elems from to)) l h =
      let a = and_parts (leb from to) (leb to m) h in
      and_from (leb from to) (leb to n) a.0 (le-leb to n (omega (arith, leb-true to m a.1)))
  pooled_up m n (basic.Tuple (Of t)) l h = refl
  pooled_up m n (basic.Dict k v) l h = refl
  pooled_up m n (basic.Custom k) l h = refl
  pooled_up m n (basic.Set t) l h = refl

  row_longer : (all : List TyBasic) (r : CodeRow) → each (pooled (length pool)) all ≡ true → row_of (pool ++ more) all r ≡ row_of pool all r
  row_longer all r h =
      let f : List Alt → Row = λ xs. record { alts = xs; deep = r.depth; heavy = r.weight } in
      ap f (alts_longer (between r.start r.end all) (each_between (pooled (length pool)) r.start r.end all h))

  pub table_longer : (all : List TyBasic) (rows : List CodeRow) → each (pooled (length pool)) all ≡ true → table (pool ++ more) all rows ≡ table pool all rows
  table_longer all [] h = refl
  table_longer all (r ∷ rows) h = ap₂ ◌∷◌ (row_longer all r h) (table_longer all rows h)

  pub pooled_longer : (all : List TyBasic) → each (pooled (length pool)) all ≡ true → each (pooled (length (pool ++ more))) all ≡ true
  pooled_longer all h = each_under (pooled (length pool)) (pooled (length (pool ++ more))) all (λ x k. pooled_up (length pool) (length (pool ++ more)) x (omega (arith, length-append pool more)) k) h

  pub own_elements : (from to : ℕ) → from ≡ length pool → to ≡ length pool + length more → between from to (pool ++ more) ≡ more
  own_elements from to p q =
      let n : to - from ≡ length more = omega arith in
      ap (λ (k : ℕ). take k (drop from (pool ++ more))) n
      ∙ ap (λ (k : ℕ). take (length more) (drop k (pool ++ more))) p
      ∙ ap (take (length more)) (drop_at pool more (length pool) refl) ∙ take_all (length more) more (omega arith)

-- a type that was added takes a place, and one more for each element
grown_places : (t u : List Row) (x : Alt) (n : ℕ) → single t x ≡ granted (grown u n) → (length u ≡ length t → ⊥) → all_places u ≡ all_places t + (1 + elements x)
grown_places t u x n e other = go (all_below_lem (length t) (parts x)) e
  where
    by_find : (o : Option ℕ) → intern_by o t (x ∷ []) ≡ grown u n → all_places u ≡ all_places t + (1 + elements x)
    by_find None p = ap (λ (g : Grown). all_places g.rows) (sym p) ∙ places_push t (made_row t (x ∷ [])) ∙ ap (λ (k : ℕ). all_places t + k) (add-zero (1 + elements x))
    by_find (Some m) p = absurd (other (ap (λ (g : Grown). length g.rows) (sym p)))

    go : (b : Bool) → cond b (judged (intern t (x ∷ []))) (refused 1) ≡ granted (grown u n) → all_places u ≡ all_places t + (1 + elements x)
    go true p = by_find (find 0 t (x ∷ [])) (judged_granted (intern t (x ∷ [])) (grown u n) p).0
    go false p = let z : ◌≡◌ {A = ℕ} 0 1 = cc in absurd (omega arith)

-- the rows s, and s' with the elements es added to the pool
module _ (s s' : Rows) (u : Alls) (es : List ℕ) (more : pool_in s' ≡ pool_in s ++ es) (all_same : s'.all ≡ s.all) (rows_same : s'.rows ≡ s.rows) (ready : Ready s u) (x : TyBasic) (is_tuple : alt (pool_in s') x ≡ tuple es) where
  abbrev t : List Row
  t = table_of s

  pub same_table : table_of s' ≡ t
  same_table =
      ap₂ (λ v w. table (pool_in s') (vec_items v) (vec_items w)) all_same rows_same ∙ ap (λ (z : List ℕ). table z (vec_items s.all) (vec_items s.rows)) more
      ∙ table_longer (pool_in s) es (vec_items s.all) (vec_items s.rows) s.elements

  count : length (pool_in s') ≡ length (pool_in s) + length es
  count = ap length more ∙ length-append (pool_in s) es

  pub ready_longer : Ready s' u
  ready_longer = record {
    sound = subst Sound (sym same_table) ready.sound;
    packed = omega (arith, ready.packed, ap all_places same_table, ap (λ v. length (vec_items v)) all_same);
    for_rows = omega (arith, ready.for_rows, ap (λ v. vec_capacity v) rows_same);
    for_all = omega (arith, ready.for_all, ap (λ v. vec_capacity v) all_same);
    for_scratch = ready.for_scratch;
  }

  same_outcome : single (table_of s') (alt (pool_in s') x) ≡ single t (tuple es)
  same_outcome = ap₂ single same_table is_tuple

  module _ (s'' : Rows) (r : Result ℕ Refusal) (grew : Grew s' s'') (answered : Answered (single (table_of s') (alt (pool_in s') x)) (table_of s') (table_of s'') r) (few : length (vec_items s''.all) ≤ length (vec_items s'.all) + 1)
      (lean : length (pool_in s) + length (vec_items s.all) ≤ all_places t) where
    long_pool : pool_in s'' ≡ pool_in s'
    long_pool = ap (λ v. vec_items v) grew.pool_stays

    same_all : length (vec_items s'.all) ≡ length (vec_items s.all)
    same_all = ap (λ v. length (vec_items v)) all_same

    -- no row was added, and the elements are cut off again
    module _ (same : length (table_of s'') ≡ length t) (from : ℕ) (from_is : from ≡ length (pool_in s)) (P : List ℕ) (P_is : P ≡ take from (pool_in s'')) where
      rows_back : vec_items s''.rows ≡ vec_items s.rows
      rows_back =
          let e : length (vec_items s''.rows) ≤ length (vec_items s'.rows) = omega (arith, table_count s'', table_count s, same, ap (λ v. length (vec_items v)) rows_same) in
          sym (take_all (length (vec_items s'.rows)) (vec_items s''.rows) e) ∙ grew.rows_stay ∙ ap (λ v. vec_items v) rows_same

      same_rows : table_of s'' ≡ table_of s'
      same_rows =
          ap₂ (λ (y : List ℕ) (z : List CodeRow). table y (vec_items s''.all) z) long_pool (rows_back ∙ ap (λ v. vec_items v) (sym rows_same))
          ∙ table_kept (pool_in s') (vec_items s'.all) (vec_items s''.all) (vec_items s'.rows) grew.all_stay s'.alternatives

      all_back : vec_items s''.all ≡ vec_items s.all
      all_back =
          let e : length (vec_items s''.all) ≤ length (vec_items s'.all) = omega (arith, grew.packed, ap all_places same_rows) in
          sym (take_all (length (vec_items s'.all)) (vec_items s''.all) e) ∙ grew.all_stay ∙ ap (λ v. vec_items v) all_same

      pool_back : P ≡ pool_in s
      pool_back = P_is ∙ ap (take from) (long_pool ∙ more) ∙ ap (λ (k : ℕ). take k (pool_in s ++ es)) from_is ∙ take_at (pool_in s) es (length (pool_in s)) refl

      pub back_elements : each (pooled (length P)) (vec_items s''.all) ≡ true
      back_elements = ap₂ (λ (y : List ℕ) (z : List TyBasic). each (pooled (length y)) z) pool_back all_back ∙ s.elements

      pub table_back : table P (vec_items s''.all) (vec_items s''.rows) ≡ t
      table_back = ap (λ (z : List ℕ). table z (vec_items s''.all) (vec_items s''.rows)) pool_back ∙ ap₂ (table (pool_in s)) all_back rows_back

      pub back_sound : Sound (table P (vec_items s''.all) (vec_items s''.rows))
      back_sound = subst Sound (sym table_back) ready.sound

      pub back_packed : length P + length (vec_items s''.all) ≤ all_places (table P (vec_items s''.all) (vec_items s''.rows))
      back_packed = omega (arith, lean, ap length pool_back, ap length all_back, ap all_places table_back)

      pub back_answered : Answered (single t (tuple es)) t (table P (vec_items s''.all) (vec_items s''.rows)) r
      back_answered = answered_as (single (table_of s') (alt (pool_in s') x)) (single t (tuple es)) (table_of s') (table_of s'') t (table P (vec_items s''.all) (vec_items s''.rows)) r same_outcome same_table (same_rows ∙ same_table ∙ sym table_back) answered

    -- a row was added
    module _ (other : length (table_of s'') ≡ length t → ⊥) where
      longer : length (table_of s'') ≡ length (table_of s') → ⊥
      longer e = other (e ∙ ap length same_table)

      its_places : (a : Result ℕ Refusal) → Answered (single (table_of s') (alt (pool_in s') x)) (table_of s') (table_of s'') a → all_places (table_of s'') ≡ all_places t + (1 + length es)
      its_places (Ok n) h = grown_places (table_of s') (table_of s'') (alt (pool_in s') x) n h longer ∙ ap₂ (λ (y : List Row) (z : Alt). all_places y + (1 + elements z)) same_table is_tuple
      its_places (Err f) h = absurd (longer (ap length h.0))

      pub on_packed : length (pool_in s'') + length (vec_items s''.all) ≤ all_places (table_of s'')
      on_packed = omega (arith, lean, few, count, same_all, ap length long_pool, its_places r answered)

      pub on_answered : Answered (single t (tuple es)) t (table_of s'') r
      on_answered = answered_as (single (table_of s') (alt (pool_in s') x)) (single t (tuple es)) (table_of s') (table_of s'') t (table_of s'') r same_outcome same_table refl answered

-- the elements es, added to the pool from one place to another
module _ (pool es : List ℕ) (more : List ℕ) (more_is : more ≡ pool ++ es) (from to : ℕ) (from_is : from ≡ length pool) (to_is : to ≡ length more) where
  long : length more ≡ length pool + length es
  long = ap length more_is ∙ length-append pool es

  pub whole_pooled : pooled (length more) (basic.Tuple (Elems from to)) ≡ true
  whole_pooled = and_from (leb from to) (leb to (length more)) (le-leb from to (omega (arith, long))) (le-leb to (length more) (omega arith))

  pub whole_is : alt more (basic.Tuple (Elems from to)) ≡ tuple es
  whole_is = ap tuple (ap (between from to) more_is ∙ own_elements pool es from to from_is (to_is ∙ long))

-- more elements than a tuple may have
module _ (t : List Row) (es : List ℕ) (sound : Sound t) (long : 64 < length es) where
  abbrev m : Row
  m = made_row t (tuple es ∷ [])

  wide_row : (xs : List Alt) → xs ≡ tuple es ∷ [] → (ltb 64 (length xs) || any_of too_long xs) ≡ true
  wide_row xs e = ap (λ (z : List Alt). ltb 64 (length z) || any_of too_long z) e ∙ rw (lt-ltb 64 (length es) long) refl

  not_found : (o : Option ℕ) → find 0 t (tuple es ∷ []) ≡ o → o ≡ None
  not_found None e = refl
  not_found (Some n) e =
      let f = find_row_lem 0 t (tuple es ∷ []) n e in
      absurd (at f.0 f.2 (side f.0 (length t)))
    where
      at : (i : ℕ) → (row t i).alts ≡ tuple es ∷ [] → (i < length t) ⊎ (length t ≤ i) → ⊥
      at i p (inl l) =
          let a : false ≡ true = sym (none_at_lem too_wide t i never (limits_of t sound.limited).wide l) ∙ wide_row (row t i).alts p in
          let z : ◌≡◌ {A = ℕ} 0 1 = cc in omega arith
      at i p (inr l) =
          let a : [] ≡ tuple es ∷ [] = ap (λ (y : Row). y.alts) (sym (missing_row t i l)) ∙ p in
          let z : ◌≡◌ {A = ℕ} 0 1 = cc in omega arith

  any_push : (f : Row → Bool) (u : List Row) → any_of f u ≡ false → any_of f (u ++ m ∷ []) ≡ f m
  any_push f [] h = or_false (f m)
    where
      or_false : (b : Bool) → (b || false) ≡ b
      or_false true = refl
      or_false false = refl
  any_push f (r ∷ u) h = let a = or_parts (f r) (any_of f u) h in rw a.0 (any_push f u a.1)

  pub long_missing : all_below_lem (length t) es ≡ false → single t (tuple es) ≡ refused 1
  long_missing h = rw h refl

  module _ (stand : all_below_lem (length t) es ≡ true) where
    made : single t (tuple es) ≡ judged (grown (t ++ m ∷ []) (length t))
    made = rw stand (ap (λ (o : Option ℕ). judged (intern_by o t (tuple es ∷ []))) (not_found (find 0 t (tuple es ∷ [])) refl))

    broken : (b : Bool) → too_deep m ≡ b → cond b 7 8 ≡ verdict (t ++ m ∷ [])
    broken b h =
        let p : any_of too_deep (t ++ m ∷ []) ≡ b = any_push too_deep t (limits_of t sound.limited).deep ∙ h in
        let q : any_of too_wide (t ++ m ∷ []) ≡ true = any_push too_wide t (limits_of t sound.limited).wide ∙ wide_row (tuple es ∷ []) refl in
        rw (p, q) refl

    pub long_deep : too_deep m ≡ true → single t (tuple es) ≡ refused 7
    long_deep h = made ∙ judged_refused (grown (t ++ m ∷ []) (length t)) TooDeep (broken true h)

    pub long_wide : too_deep m ≡ false → single t (tuple es) ≡ refused 8
    long_wide h = made ∙ judged_refused (grown (t ++ m ∷ []) (length t)) TooWide (broken false h)

  pub long_depth : (d : ℕ) → d ≡ min 33 (1 + deepest t (es ++ [])) → ltb 32 d ≡ too_deep m
  long_depth d e = ap (ltb 32) (omega (arith, deepest_both t es []))
