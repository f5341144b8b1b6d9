-- Whole lists tested and added up. Assumes nothing.
use Rattle.std.proofs.Common.{◌≡◌, ℕ, zero, suc, ◌+◌, ◌<◌, ◌≤◌, min, max, Bool, true, false, cond, ◌&&◌, ◌||◌, ltb, ◌⊎◌, List, [], ◌∷◌, ◌++◌, map, fold, length, drop, Some, Option, sym, refl, ap, ◌∙◌, ap₂, inl, inr, arith, lt-ltb, le-ltb}
use Rattle.std.proofs.lemmas.List.{drop_all, drop_more}
use Rattle.std.proofs.lemmas.Bool.{and_parts}
use Rattle.std.proofs.lemmas.Bool.Decides.{nat_tests}
use Rattle.std.specs.List.{list_any, list_all, range_with_len}
use Rattle.std.specs.List as std_list
use Rattle.membership.specs.Rows.{Alt, any_of, each, elements, places, all_places, deepest, total, all_below_lem, find, same_alts, too_long, too_wide, too_deep, too_heavy, verdict, crowded, Row, row, never}
use Rattle.typing.specs.View.{alt, alts, pooled, span}
use Rattle.typing.specs.declared.basic.TyBasic.{TyBasic}
use Rattle.typing.specs.declared.basic.TyBasic.TheVariants as basic
use Rattle.typing.specs.declared.basic.TyTuple.TheVariants.{Elems, Of}
use Rattle.typing.proofs.Walks.{elements_are}

pub any_map : {C X : Type 0} (f : X → Bool) (g : C → X) (test : C → Bool) (ok : C → Bool) → ((x : C) → ok x ≡ true → test x ≡ f (g x)) → (xs : List C) → each ok xs ≡ true → list_any test xs ≡ any_of f (map g xs)
any_map f g test ok same [] h = refl
any_map f g test ok same (x ∷ xs) h =
    let a = and_parts (ok x) (each ok xs) h in
    ap₂ (λ (y z : Bool). y || z) (same x a.0) (any_map f g test ok same xs a.1)

pub any_plain : {C X : Type 0} (f : X → Bool) (g : C → X) (xs : List C) → list_any (λ x. f (g x)) xs ≡ any_of f (map g xs)
any_plain f g [] = refl
any_plain f g (x ∷ xs) = ap (λ (z : Bool). f (g x) || z) (any_plain f g xs)

pub below_is : (n : ℕ) (ps : List ℕ) → list_all (λ p. ltb p n) ps ≡ all_below_lem n ps
below_is n [] = refl
below_is n (p ∷ ps) = let e = below_is n ps in grind (arith, nat_tests, e)

-- a type for each number of a table
module _ (t : List Row) where
  pub any_row : (f : Row → Bool) (k n : ℕ) → k + n ≡ length t → list_any (λ i. f (row t i)) (range_with_len k n) ≡ any_of f (drop k t)
  any_row f k zero e = sym (ap (any_of f) (drop_all k t (omega arith)))
  any_row f k (suc n) e =
      let l : k < length t = omega arith in
      ap (λ (z : Bool). f (row t k) || z) (any_row f (k + 1) n (omega arith)) ∙ sym (ap (any_of f) (drop_more t k never l))

  pub fold_rows : {A : Type 0} (h : A → Row → A) (a : A) (k n : ℕ) → k + n ≡ length t → fold (λ b i. h b (row t i)) a (range_with_len k n) ≡ fold h a (drop k t)
  fold_rows h a k zero e = sym (ap (fold h a) (drop_all k t (omega arith)))
  fold_rows h a k (suc n) e =
      let l : k < length t = omega arith in
      fold_rows h (h a (row t k)) (k + 1) n (omega arith) ∙ sym (ap (fold h a) (drop_more t k never l))

  pub find_row : (xs : List Alt) (k n : ℕ) → k + n ≡ length t → std_list.find (λ i. same_alts (row t i).alts xs) (range_with_len k n) ≡ find k (drop k t) xs
  find_row xs k zero e = sym (ap (λ (z : List Row). find k z xs) (drop_all k t (omega arith)))
  find_row xs k (suc n) e =
      let l : k < length t = omega arith in
      ap (λ (z : Option ℕ). cond (same_alts (row t k).alts xs) (Some k) z) (find_row xs (k + 1) n (omega arith)) ∙ sym (ap (λ (z : List Row). find k z xs) (drop_more t k never l))

  pub fold_deepest : (d : ℕ) (ps : List ℕ) → fold (λ (m p : ℕ). max m (row t p).deep) d ps ≡ max d (deepest t ps)
  fold_deepest d [] = omega arith
  fold_deepest d (p ∷ ps) = omega (arith, fold_deepest (max d (row t p).deep) ps)

  pub fold_total : (w : ℕ) (ps : List ℕ) → w ≤ 4097 → fold (λ (m p : ℕ). min 4097 (m + (row t p).heavy)) w ps ≡ min 4097 (w + total t ps)
  fold_total w [] l = omega arith
  fold_total w (p ∷ ps) l = omega (arith, fold_total (min 4097 (w + (row t p).heavy)) ps (omega arith))

  pub deepest_both : (ps qs : List ℕ) → deepest t (ps ++ qs) ≡ max (deepest t ps) (deepest t qs)
  deepest_both [] qs = omega arith
  deepest_both (p ∷ ps) qs = omega (arith, deepest_both ps qs)

  pub total_both : (ps qs : List ℕ) → total t (ps ++ qs) ≡ total t ps + total t qs
  total_both [] qs = omega arith
  total_both (p ∷ ps) qs = omega (arith, total_both ps qs)

pub below_both : (n : ℕ) (ps qs : List ℕ) → all_below_lem n (ps ++ qs) ≡ (all_below_lem n ps && all_below_lem n qs)
below_both n [] qs = refl
below_both n (p ∷ ps) qs = let e = below_both n ps qs in grind (arith, nat_tests, e)

pub fold_places : (n : ℕ) (t : List Row) → n ≤ 8193 → fold (λ (s : ℕ) (r : Row). min 8193 (s + min 8193 (places r.alts))) n t ≡ min 8193 (n + all_places t)
fold_places n [] l = omega arith
fold_places n (r ∷ t) l = omega (arith, fold_places (min 8193 (n + min 8193 (places r.alts))) t (omega arith))

-- the alternatives xs, whose elements stand in the pool
module _ (pool : List ℕ) where
  pub span_is : (x : TyBasic) → pooled (length pool) x ≡ true → span x ≡ elements (alt pool x)
  span_is basic.Any h = refl
  span_is (basic.StarlarkValue n) h = refl
  span_is (basic.Iter t) h = refl
  span_is basic.Callable h = refl
  span_is basic.Type h = refl
  span_is (basic.List t) h = refl
  span_is (basic.Tuple (Elems from to)) h = elements_are pool (basic.Tuple (Elems from to)) from to refl h
  span_is (basic.Tuple (Of t)) h = refl
  span_is (basic.Dict k v) h = refl
  span_is (basic.Custom n) h = refl
  span_is (basic.Set t) h = refl

  pub any_long : (xs : List TyBasic) → each (pooled (length pool)) xs ≡ true → list_any (λ x. ltb 64 (span x)) xs ≡ any_of too_long (alts pool xs)
  any_long xs h = any_map too_long (alt pool) (λ x. ltb 64 (span x)) (pooled (length pool)) (λ x k. ap (ltb 64) (span_is x k)) xs h

  pub fold_spans : (n : ℕ) (xs : List TyBasic) → n ≤ 8193 → each (pooled (length pool)) xs ≡ true → fold (λ (s : ℕ) (x : TyBasic). min 8193 (min 8193 (s + 1) + span x)) n xs ≡ min 8193 (n + places (alts pool xs))
  fold_spans n [] l h = omega arith
  fold_spans n (x ∷ xs) l h =
      let a = and_parts (pooled (length pool) x) (each (pooled (length pool)) xs) h in
      omega (arith, span_is x a.0, fold_spans (min 8193 (min 8193 (n + 1) + span x)) xs (omega arith) a.1)

-- which limit is broken first
module _ (t : List Row) where
  pub deep_first : true ≡ any_of too_deep t → ◌≡◌ {A = ℕ} 7 (verdict t)
  deep_first d = rw (sym d) refl

  pub wide_first : false ≡ any_of too_deep t → true ≡ any_of too_wide t → ◌≡◌ {A = ℕ} 8 (verdict t)
  wide_first d w = rw (sym d, sym w) refl

  pub heavy_first : false ≡ any_of too_deep t → false ≡ any_of too_wide t → true ≡ any_of too_heavy t → ◌≡◌ {A = ℕ} 9 (verdict t)
  heavy_first d w h = rw (sym d, sym w, sym h) refl

  module _ (d : false ≡ any_of too_deep t) (w : false ≡ any_of too_wide t) (h : false ≡ any_of too_heavy t) where
    last : verdict t ≡ cond (crowded t) 10 0
    last = rw (sym d, sym w, sym h) refl

    pub crowd_last : (n : ℕ) → n ≡ min 8193 (all_places t) → (1024 < length t) ⊎ (8192 < n) → ◌≡◌ {A = ℕ} 10 (verdict t)
    crowd_last n e c = sym (last ∙ ap (λ (b : Bool). cond b 10 0) (go c))
      where
        go : (1024 < length t) ⊎ (8192 < n) → crowded t ≡ true
        go (inl l) = let k = lt-ltb 1024 (length t) l in grind (arith, nat_tests, k)
        go (inr l) = let k = lt-ltb 8192 (all_places t) (omega arith) in grind (arith, nat_tests, k)

    pub none_last : (n : ℕ) → n ≡ min 8193 (all_places t) → length t ≤ 1024 → n ≤ 8192 → ◌≡◌ {A = ℕ} 0 (verdict t)
    none_last n e l m =
        let a = le-ltb 1024 (length t) l in
        let b = le-ltb 8192 (all_places t) (omega arith) in
        let k : crowded t ≡ false = grind (arith, nat_tests, a, b) in
        sym (last ∙ ap (λ (b : Bool). cond b 10 0) k)
