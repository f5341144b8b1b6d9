-- What holds of a table is kept as it grows. Assumes nothing.
use Rattle.std.proofs.Common.{◌≡◌, ℕ, zero, suc, ◌+◌, ◌<◌, ◌≤◌, min, max, Bool, true, false, cond, ◌&&◌, ◌||◌, eqb, ltb, ◌⊎◌, List, [], ◌∷◌, ◌++◌, length, get_or, Some, None, Option, sym, refl, ap, ◌∙◌, subst, ap₂, inl, inr, zero-add, arith, length-append}
use Rattle.std.proofs.lemmas.List.{take_all, take_at, get_or_push, get_or_append_left, get_or_past}
use Rattle.std.proofs.lemmas.Bool.{and_parts, and_from, lt-ltb, ltb-true, eq-eqb, eqb-true, eqb-false, cases_lt, cond_both, or_parts}
use Rattle.membership.specs.Rows.{Alt, any, plain, iter, callable, kind, list, tuple, tuple_of, dict, custom, set_of, Row, row, never, parts, all_below_lem, below, stands, deepest, total, depth_alts, weight_alts, one_less, made_row, find, intern, intern_by, Inner, inner, no_inner, put_settled_lem, settle, Grown, grown, Joins, join_rows_lem, join, Keeps, each, any_of, how_many, is_any, is_list, is_dict, plainly, ascends, alone, formed, sized, is_at, numbered, begins, Kept, KeptAs, same_alts}
use Rattle.membership.proofs.Stands.{Under, inner_under, put_settled_below, row_below, below_up, stands_push, find_within}
use Rattle.membership.proofs.Joins.{keeps_row, keeps_length, keeps_trans}
use Rattle.membership.proofs.Order.{same_alts_same}
use Rattle.membership.proofs.Uniques.{Unique, unique_push}
use Rattle.membership.proofs.Eachs.{each_at, each_from, each_push, any_same, each_same, each_true}
use Rattle.membership.proofs.Puts.{union_ascends, any_union, each_settled, union_lists, union_dicts, settled_any}

pub keeps_here : (t : List Row) → Keeps t t
keeps_here t = take_all (length t) t (omega arith)

pub keeps_more : (t : List Row) (r : Row) → Keeps t (t ++ r ∷ [])
keeps_more t r = take_at t (r ∷ []) (length t) refl

-- a part is numbered below its type, also of a number that names no type
pub row_under : (t : List Row) (n : ℕ) → stands 0 t ≡ true → below n (row t n).alts ≡ true
row_under t n s = go (cases_lt n (length t))
  where
    go : (n < length t) ⊎ (length t ≤ n) → below n (row t n).alts ≡ true
    go (inl l) = subst (λ (m : ℕ). below m (row t n).alts ≡ true) (zero-add n) (row_below t 0 n s l)
    go (inr l) = subst (λ (r : Row). below n r.alts ≡ true) (sym (get_or_past t n never l)) refl

module _ (t u : List Row) (k : Keeps t u) where
  deepest_kept : (ps : List ℕ) → all_below_lem (length t) ps ≡ true → deepest u ps ≡ deepest t ps
  deepest_kept [] h = refl
  deepest_kept (p ∷ ps) h =
      let a = and_parts (ltb p (length t)) (all_below_lem (length t) ps) h in
      ap₂ max (ap (λ (r : Row). r.deep) (keeps_row t u p k (ltb-true p (length t) a.0))) (deepest_kept ps a.1)

  total_kept : (ps : List ℕ) → all_below_lem (length t) ps ≡ true → total u ps ≡ total t ps
  total_kept [] h = refl
  total_kept (p ∷ ps) h =
      let a = and_parts (ltb p (length t)) (all_below_lem (length t) ps) h in
      ap₂ ◌+◌ (ap (λ (r : Row). r.heavy) (keeps_row t u p k (ltb-true p (length t) a.0))) (total_kept ps a.1)

  depth_kept : (xs : List Alt) → below (length t) xs ≡ true → depth_alts u xs ≡ depth_alts t xs
  depth_kept [] h = refl
  depth_kept (x ∷ xs) h =
      let a = and_parts (all_below_lem (length t) (parts x)) (below (length t) xs) h in
      ap₂ (λ (d e : ℕ). max (1 + d) e) (deepest_kept (parts x) a.0) (depth_kept xs a.1)

  weight_kept : (xs : List Alt) → below (length t) xs ≡ true → weight_alts u xs ≡ weight_alts t xs
  weight_kept [] h = refl
  weight_kept (x ∷ xs) h =
      let a = and_parts (all_below_lem (length t) (parts x)) (below (length t) xs) h in
      ap₂ (λ (d e : ℕ). 1 + d + e) (total_kept (parts x) a.0) (weight_kept xs a.1)

  pub deep_kept : (xs : List Alt) → below (length t) xs ≡ true → (made_row u xs).deep ≡ (made_row t xs).deep
  deep_kept xs h = ap (λ (d : ℕ). min 33 d) (depth_kept xs h)

  pub heavy_kept : (xs : List Alt) → below (length t) xs ≡ true → (made_row u xs).heavy ≡ (made_row t xs).heavy
  heavy_kept xs h = ap (λ (d : ℕ). min 4097 (d + one_less xs)) (weight_kept xs h)

  pub sized_kept : (r : Row) → below (length t) r.alts ≡ true → sized t r ≡ true → sized u r ≡ true
  sized_kept r b h =
      let a = and_parts (eqb r.deep (made_row t r.alts).deep) (eqb r.heavy (made_row t r.alts).heavy) h in
      and_from (eqb r.deep (made_row u r.alts).deep) (eqb r.heavy (made_row u r.alts).heavy)
      (ap (λ (d : ℕ). eqb r.deep d) (deep_kept r.alts b) ∙ a.0)
      (ap (λ (d : ℕ). eqb r.heavy d) (heavy_kept r.alts b) ∙ a.1)

is_at_is : (n : ℕ) (o : Option ℕ) → is_at n o ≡ true → o ≡ Some n
is_at_is n None e = let z : ◌≡◌ {A = ℕ} 0 1 = cc in absurd (omega arith)
is_at_is n (Some m) e = ap (λ (z : ℕ). Some z) (eqb-true m n e)

numbered_at : (t rs : List Row) (m i : ℕ) → numbered t m rs ≡ true → i < length rs → find 0 t (get_or rs i never).alts ≡ Some (m + i)
numbered_at t [] m i h l = absurd (omega arith)
numbered_at t (r ∷ rs) m zero h l = is_at_is m (find 0 t r.alts) (and_parts (is_at m (find 0 t r.alts)) (numbered t (m + 1) rs) h).0 ∙ ap (λ (z : ℕ). Some z) (omega arith)
numbered_at t (r ∷ rs) m (suc i) h l =
    let e : m + 1 + i ≡ m + suc i = omega arith in
    numbered_at t rs (m + 1) i (and_parts (is_at m (find 0 t r.alts)) (numbered t (m + 1) rs) h).1 (omega arith) ∙ ap (λ (z : ℕ). Some z) e

numbered_from : (t rs : List Row) (m : ℕ) → ((i : ℕ) → i < length rs → find 0 t (get_or rs i never).alts ≡ Some (m + i)) → numbered t m rs ≡ true
numbered_from t [] m h = refl
numbered_from t (r ∷ rs) m h =
    and_from (is_at m (find 0 t r.alts)) (numbered t (m + 1) rs)
    (ap (is_at m) (h 0 (omega arith)) ∙ eq-eqb (m + 0) m (omega arith))
    (numbered_from t rs (m + 1) (λ i l. let e : m + suc i ≡ m + 1 + i = omega arith in h (suc i) (omega arith) ∙ ap (λ (z : ℕ). Some z) e))

pub unique_of : (t : List Row) → numbered t 0 t ≡ true → Unique t
unique_of t h i l = numbered_at t t 0 i h l ∙ ap (λ (z : ℕ). Some z) (zero-add i)

pub numbered_of : (t : List Row) → Unique t → numbered t 0 t ≡ true
numbered_of t u = numbered_from t t 0 (λ i l. u i l ∙ ap (λ (z : ℕ). Some z) (sym (zero-add i)))

-- never is 0 and any is 1
pub record First (t : List Row) : Type 0 where
  pub none : (row t 0).alts ≡ []
  pub all : (row t 1).alts ≡ any ∷ []
  pub two : 1 < length t

pub first_of : (t : List Row) → begins t ≡ true → First t
first_of [] h = let z : ◌≡◌ {A = ℕ} 0 1 = cc in absurd (omega arith)
first_of (r ∷ []) h = let z : ◌≡◌ {A = ℕ} 0 1 = cc in absurd (omega arith)
first_of (r ∷ (s ∷ t)) h =
    let a = and_parts (same_alts r.alts []) (same_alts s.alts (any ∷ [])) h in
    record { none = same_alts_same r.alts [] a.0; all = same_alts_same s.alts (any ∷ []) a.1; two = omega arith }

begins_more : (t : List Row) (r : Row) → begins t ≡ true → begins (t ++ r ∷ []) ≡ true
begins_more [] r h = let z : ◌≡◌ {A = ℕ} 0 1 = cc in absurd (omega arith)
begins_more (q ∷ []) r h = let z : ◌≡◌ {A = ℕ} 0 1 = cc in absurd (omega arith)
begins_more (q ∷ (s ∷ t)) r h = h

kept_more : (o : List Alt → Bool) (t : List Row) (xs : List Alt) → KeptAs o t → find 0 t xs ≡ None → below (length t) xs ≡ true → o xs ≡ true → KeptAs o (t ++ made_row t xs ∷ [])
kept_more o t xs k e b f =
    let u : List Row = t ++ made_row t xs ∷ [] in
    let q : length t ≡ 0 + length t = omega arith in
    record {
      standing = stands_push t 0 (made_row t xs) k.standing (subst (λ (n : ℕ). below n xs ≡ true) q b);
      forms = each_push (λ r. o r.alts) t (made_row t xs) k.forms f;
      sizes = each_from (sized u) u never (λ i l. size_at i (cases_lt i (length t)) l);
      own_numbers = numbered_of u (unique_push t xs (unique_of t k.own_numbers) e);
      begun = begins_more t (made_row t xs) k.begun;
    }
  where
    size_at : (i : ℕ) → (i < length t) ⊎ (length t ≤ i) → i < length (t ++ made_row t xs ∷ []) → sized (t ++ made_row t xs ∷ []) (get_or (t ++ made_row t xs ∷ []) i never) ≡ true
    size_at i (inl l) h =
        rw (get_or_append_left t (made_row t xs ∷ []) never i l)
        (sized_kept t (t ++ made_row t xs ∷ []) (keeps_more t (made_row t xs)) (row t i) (below_up i (length t) (row t i).alts (omega arith) (row_under t i k.standing)) (each_at (sized t) t i never k.sizes l))
    size_at i (inr l) h =
        let n : length t ≡ i = omega (arith, length-append t (made_row t xs ∷ [])) in
        rw (get_or_push t (made_row t xs) never i n)
        (and_from (eqb (made_row t xs).deep (made_row (t ++ made_row t xs ∷ []) xs).deep) (eqb (made_row t xs).heavy (made_row (t ++ made_row t xs ∷ []) xs).heavy)
        (eq-eqb (made_row t xs).deep (made_row (t ++ made_row t xs ∷ []) xs).deep (sym (deep_kept t (t ++ made_row t xs ∷ []) (keeps_more t (made_row t xs)) xs b)))
        (eq-eqb (made_row t xs).heavy (made_row (t ++ made_row t xs ∷ []) xs).heavy (sym (heavy_kept t (t ++ made_row t xs ∷ []) (keeps_more t (made_row t xs)) xs b))))

-- a table grown from t, with a number in it
pub record FineAs (f : List Alt → Bool) (t : List Row) (g : Grown) : Type 0 where
  pub kept : KeptAs f g.rows
  pub keeps : Keeps t g.rows
  pub within : g.number < length g.rows

abbrev pub Fine : List Row → Grown → Type 0
Fine t g = FineAs formed t g

pub fine_here : {f : List Alt → Bool} (t : List Row) (n : ℕ) → KeptAs f t → n < length t → FineAs f t (grown t n)
fine_here t n k l = record { kept = k; keeps = keeps_here t; within = l }

pub find_row_lem : (m : ℕ) (t : List Row) (xs : List Alt) (n : ℕ) → find m t xs ≡ Some n → (i : ℕ) × (n ≡ m + i) × ((row t i).alts ≡ xs)
find_row_lem m [] xs n e = let z : ◌≡◌ {A = ℕ} 0 1 = cc in absurd (omega arith)
find_row_lem m (r ∷ rs) xs n e = go (same_alts r.alts xs) refl (λ p. find_row_lem (m + 1) rs xs n p) e
  where
    go : (b : Bool) → same_alts r.alts xs ≡ b → (find (m + 1) rs xs ≡ Some n → (i : ℕ) × (n ≡ m + 1 + i) × ((row rs i).alts ≡ xs)) → cond b (Some m) (find (m + 1) rs xs) ≡ Some n → (i : ℕ) × (n ≡ m + i) × ((row (r ∷ rs) i).alts ≡ xs)
    go true s f p = let q : m ≡ n = cc in (0, omega arith, same_alts_same r.alts xs s)
    go false s f p = let i = f p in (suc i.0, omega (arith, i.1), i.2)

-- the alternatives of an interned type
pub intern_row_lem : (t : List Row) (xs : List Alt) → (row (intern t xs).rows (intern t xs).number).alts ≡ xs
intern_row_lem t xs = go (find 0 t xs) refl
  where
    go : (o : Option ℕ) → find 0 t xs ≡ o → (row (intern_by o t xs).rows (intern_by o t xs).number).alts ≡ xs
    go None e = ap (λ (r : Row). r.alts) (get_or_push t (made_row t xs) never (length t) refl)
    go (Some n) e =
        let f = find_row_lem 0 t xs n e in
        let q : n ≡ f.0 = omega (arith, f.1) in
        ap (λ (i : ℕ). (row t i).alts) q ∙ f.2

pub intern_fine : {form : List Alt → Bool} (t : List Row) (xs : List Alt) → KeptAs form t → below (length t) xs ≡ true → form xs ≡ true → FineAs form t (intern t xs)
intern_fine {form} t xs k b f = go (find 0 t xs) refl
  where
    go : (o : Option ℕ) → find 0 t xs ≡ o → FineAs form t (intern_by o t xs)
    go None e = record { kept = kept_more form t xs k e b f; keeps = keeps_more t (made_row t xs); within = omega (arith, length-append t (made_row t xs ∷ [])) }
    go (Some n) e = record { kept = k; keeps = keeps_here t; within = omega (arith, find_within 0 t xs n e) }

-- Any is among the alternatives of the type 1 alone
pub free_as : (form : List Alt → Bool) → ((xs : List Alt) → form xs ≡ true → alone xs ≡ true) → (t : List Row) (a : ℕ) → KeptAs form t → a < length t → (a ≡ 1 → ⊥) → any_of is_any (row t a).alts ≡ false
free_as form lonely t a k l ne = go (any_of is_any (row t a).alts) refl
  where
    go : (b : Bool) → any_of is_any (row t a).alts ≡ b → b ≡ false
    go false e = refl
    go true e =
        let f = first_of t k.begun in
        let u = unique_of t k.own_numbers in
        let xs : List Alt = (row t a).alts in
        let q : alone xs ≡ true = lonely xs (each_at (λ r. form r.alts) t a never k.forms l) in
        let s : same_alts xs (any ∷ []) ≡ true = subst (λ (b : Bool). cond b (same_alts xs (any ∷ [])) true ≡ true) e q in
        let h : xs ≡ (row t 1).alts = same_alts_same xs (any ∷ []) s ∙ sym f.all in
        let i : find 0 t xs ≡ Some 1 = ap (find 0 t) h ∙ u 1 f.two in
        let j : find 0 t xs ≡ Some a = u a l in
        let z : a ≡ 1 = cc in
        absurd (ne z)

-- the parts of a formed row
pub record Form (xs : List Alt) : Type 0 where
  pub ascending : ascends xs ≡ true
  pub lonely : alone xs ≡ true
  pub one_list : how_many is_list xs < 2
  pub one_dict : how_many is_dict xs < 2
  pub plains : each plainly xs ≡ true

pub form_of : (xs : List Alt) → formed xs ≡ true → Form xs
form_of xs h =
    let a = and_parts (ascends xs) (alone xs && (ltb (how_many is_list xs) 2 && (ltb (how_many is_dict xs) 2 && each plainly xs))) h in
    let b = and_parts (alone xs) (ltb (how_many is_list xs) 2 && (ltb (how_many is_dict xs) 2 && each plainly xs)) a.1 in
    let c = and_parts (ltb (how_many is_list xs) 2) (ltb (how_many is_dict xs) 2 && each plainly xs) b.1 in
    let d = and_parts (ltb (how_many is_dict xs) 2) (each plainly xs) c.1 in
    record { ascending = a.0; lonely = b.0; one_list = ltb-true (how_many is_list xs) 2 c.0; one_dict = ltb-true (how_many is_dict xs) 2 d.0; plains = d.1 }

pub formed_of : (xs : List Alt) → Form xs → formed xs ≡ true
formed_of xs f =
    and_from (ascends xs) (alone xs && (ltb (how_many is_list xs) 2 && (ltb (how_many is_dict xs) 2 && each plainly xs))) f.ascending
    (and_from (alone xs) (ltb (how_many is_list xs) 2 && (ltb (how_many is_dict xs) 2 && each plainly xs)) f.lonely
    (and_from (ltb (how_many is_list xs) 2) (ltb (how_many is_dict xs) 2 && each plainly xs) (lt-ltb (how_many is_list xs) 2 f.one_list)
    (and_from (ltb (how_many is_dict xs) 2) (each plainly xs) (lt-ltb (how_many is_dict xs) 2 f.one_dict) f.plains)))

-- an alternative alone is formed, where a plain type has a plain number
pub alone_formed : (x : Alt) → plainly x ≡ true → formed (x ∷ []) ≡ true
alone_formed any h = refl
alone_formed (plain n) h = and_from (plainly (plain n)) true h refl
alone_formed (iter t) h = refl
alone_formed callable h = refl
alone_formed kind h = refl
alone_formed (list t) h = refl
alone_formed (tuple ts) h = refl
alone_formed (tuple_of t) h = refl
alone_formed (dict k v) h = refl
alone_formed (custom n) h = refl
alone_formed (set_of t) h = refl

settled_plainly : (j : Inner) (x : Alt) → plainly (settle j x) ≡ plainly x
settled_plainly j any = refl
settled_plainly j (plain n) = refl
settled_plainly j (iter t) = refl
settled_plainly j callable = refl
settled_plainly j kind = refl
settled_plainly j (list t) = refl
settled_plainly j (tuple ts) = refl
settled_plainly j (tuple_of t) = refl
settled_plainly j (dict k v) = refl
settled_plainly j (custom n) = refl
settled_plainly j (set_of t) = refl

union_plains : (j : Inner) (xs ys : List Alt) → each plainly xs ≡ true → each plainly ys ≡ true → each plainly (put_settled_lem j (put_settled_lem j [] xs) ys) ≡ true
union_plains j xs ys p q =
    let l : each (λ x. plainly (settle j x)) xs ≡ true = each_same (λ x. plainly (settle j x)) plainly xs (settled_plainly j) ∙ p in
    let r : each (λ x. plainly (settle j x)) ys ≡ true = each_same (λ x. plainly (settle j x)) plainly ys (settled_plainly j) ∙ q in
    each_settled plainly j (put_settled_lem j [] xs) ys
    ∙ and_from (each plainly (put_settled_lem j [] xs)) (each (λ x. plainly (settle j x)) ys) (each_settled plainly j [] xs ∙ l) r

pub free_of_any : (t : List Row) (a : ℕ) → Kept t → a < length t → (a ≡ 1 → ⊥) → any_of is_any (row t a).alts ≡ false
free_of_any = free_as formed (λ xs h. (form_of xs h).lonely)

pub row_form : (t : List Row) (a : ℕ) → Kept t → a < length t → Form (row t a).alts
row_form t a k l = form_of (row t a).alts (each_at (λ r. formed r.alts) t a never k.forms l)

pub union_formed : (j : Inner) (xs ys : List Alt) → any_of is_any xs ≡ false → any_of is_any ys ≡ false → each plainly xs ≡ true → each plainly ys ≡ true → formed (put_settled_lem j (put_settled_lem j [] xs) ys) ≡ true
union_formed j xs ys p q u v =
    let zs : List Alt = put_settled_lem j (put_settled_lem j [] xs) ys in
    let l : any_of (λ x. is_any (settle j x)) xs ≡ any_of is_any xs = any_same (λ x. true) (λ x. is_any (settle j x)) is_any xs (each_true (λ x. true) xs (λ x. refl)) (λ x e. settled_any j x) in
    let r : any_of (λ x. is_any (settle j x)) ys ≡ any_of is_any ys = any_same (λ x. true) (λ x. is_any (settle j x)) is_any ys (each_true (λ x. true) ys (λ x. refl)) (λ x e. settled_any j x) in
    let n : any_of is_any zs ≡ false = any_union is_any j xs ys ∙ ap₂ ◌||◌ (l ∙ p) (r ∙ q) in
    formed_of zs (record {
      ascending = union_ascends j xs ys;
      lonely = ap (λ (b : Bool). cond b (same_alts zs (any ∷ [])) true) n;
      one_list = union_lists j xs ys;
      one_dict = union_dicts j xs ys;
      plains = union_plains j xs ys u v;
    })

-- where a join is no plain answer
pub record Apart (a b : ℕ) : Type 0 where
  pub a0 : a ≡ 0 → ⊥
  pub a1 : a ≡ 1 → ⊥
  pub b0 : b ≡ 0 → ⊥
  pub b1 : b ≡ 1 → ⊥

abbrev pub JoinsFine : ℕ → Joins → Type 0
JoinsFine m f = (t : List Row) (a b : ℕ) → Kept t → a < m → a < length t → b < length t → Fine t (f t a b)

module _ (m : ℕ) (f : Joins) (ih : JoinsFine m f) (t : List Row) (a b : ℕ) (k : Kept t) (am : a < suc m) (al : a < length t) (bl : b < length t) (ap' : Apart a b) where
  abbrev xs : List Alt
  xs = (row t a).alts

  abbrev ys : List Alt
  ys = (row t b).alts

  abbrev x : Inner
  x = inner no_inner xs

  abbrev y : Inner
  y = inner no_inner ys

  abbrev items : Grown
  items = f t x.item y.item

  abbrev pairs : Grown
  pairs = f items.rows x.key y.key

  abbrev vals : Grown
  vals = f pairs.rows x.value y.value

  abbrev pub joined : Inner
  joined = record { item = items.number; key = pairs.number; value = vals.number }

  pub under_x : Under a x
  under_x = inner_under a no_inner xs (omega (arith, ap'.a0), omega (arith, ap'.a0), omega (arith, ap'.a0)) (row_under t a k.standing)

  pub under_y : Under b y
  under_y = inner_under b no_inner ys (omega (arith, ap'.b0), omega (arith, ap'.b0), omega (arith, ap'.b0)) (row_under t b k.standing)

  pub items_fine : Fine t items
  items_fine = ih t x.item y.item k (omega (arith, under_x.0)) (omega (arith, under_x.0)) (omega (arith, under_y.0))

  longer₁ : length t ≤ length items.rows
  longer₁ = keeps_length t items.rows items_fine.keeps

  pub pairs_fine : Fine items.rows pairs
  pairs_fine = ih items.rows x.key y.key items_fine.kept (omega (arith, under_x.1)) (omega (arith, under_x.1, longer₁)) (omega (arith, under_y.1, longer₁))

  longer₂ : length items.rows ≤ length pairs.rows
  longer₂ = keeps_length items.rows pairs.rows pairs_fine.keeps

  pub vals_fine : Fine pairs.rows vals
  vals_fine = ih pairs.rows x.value y.value pairs_fine.kept (omega (arith, under_x.2)) (omega (arith, under_x.2, longer₁, longer₂)) (omega (arith, under_y.2, longer₁, longer₂))

  longer₃ : length pairs.rows ≤ length vals.rows
  longer₃ = keeps_length pairs.rows vals.rows vals_fine.keeps

  united_below : below (length vals.rows) (put_settled_lem joined (put_settled_lem joined [] xs) ys) ≡ true
  united_below =
      let n = length vals.rows in
      let u : Under n joined = (omega (arith, items_fine.within, longer₂, longer₃), omega (arith, pairs_fine.within, longer₃), vals_fine.within) in
      let p = below_up a n xs (omega (arith, longer₁, longer₂, longer₃)) (row_under t a k.standing) in
      let q = below_up b n ys (omega (arith, longer₁, longer₂, longer₃)) (row_under t b k.standing) in
      put_settled_below n joined (put_settled_lem joined [] xs) ys u (put_settled_below n joined [] xs u refl p) q

  pub row_fine : Fine vals.rows (join_rows_lem f t xs ys)
  row_fine = intern_fine vals.rows (put_settled_lem joined (put_settled_lem joined [] xs) ys) vals_fine.kept united_below (union_formed joined xs ys (free_of_any t a k al ap'.a1) (free_of_any t b k bl ap'.b1) (row_form t a k al).plains (row_form t b k bl).plains)

  pub rows_fine : Fine t (join_rows_lem f t xs ys)
  rows_fine = record {
    kept = row_fine.kept;
    keeps = keeps_trans t items.rows (join_rows_lem f t xs ys).rows items_fine.keeps (keeps_trans items.rows pairs.rows (join_rows_lem f t xs ys).rows pairs_fine.keeps (keeps_trans pairs.rows vals.rows (join_rows_lem f t xs ys).rows vals_fine.keeps row_fine.keeps));
    within = row_fine.within;
  }

pub apart : (a b : ℕ) → (eqb a 1 || eqb b 1) ≡ false → (eqb a b || eqb b 0) ≡ false → eqb a 0 ≡ false → Apart a b
apart a b e f g =
    let p = or_parts (eqb a 1) (eqb b 1) e in
    let q = or_parts (eqb a b) (eqb b 0) f in
    record { a0 = eqb-false a 0 g; a1 = eqb-false a 1 p.0; b0 = eqb-false b 0 q.1; b1 = eqb-false b 1 p.1 }

-- a join keeps what holds of a table
pub join_fine : (m : ℕ) → JoinsFine m (join m)
join_fine zero t a b k am al bl = absurd (omega arith)
join_fine (suc m) t a b k am al bl =
    cond_both (eqb a 1 || eqb b 1) (grown t 1) _ (Fine t) (λ e. fine_here t 1 k (first_of t k.begun).two) (λ e.
    cond_both (eqb a b || eqb b 0) (grown t a) _ (Fine t) (λ f. fine_here t a k al) (λ f.
    cond_both (eqb a 0) (grown t b) _ (Fine t) (λ g. fine_here t b k bl) (λ g.
    rows_fine m (join m) (join_fine m) t a b k am al bl (apart a b e f g))))
