-- Alternatives put into a kept order. Assumes nothing.
use Rattle.std.proofs.Common.{◌≡◌, ℕ, suc, ◌<◌, Bool, true, false, cond, ◌&&◌, ◌||◌, List, [], ◌∷◌, Ordering, Less, Equal, Greater, sym, refl, ap, ◌∙◌, subst, ap₂, arith}
use Rattle.std.proofs.lemmas.Bool.Decides.{nat_tests}
use Rattle.std.proofs.lemmas.Bool.{and_parts, and_from}
use Rattle.std.specs.Ordering.{is_eq, is_lt}
use Rattle.membership.specs.Rows.{Alt, any, plain, iter, callable, kind, list, tuple, tuple_of, dict, custom, set_of, rank, numbers, compared, put, put_by, put_settled_lem, settle, Inner, inner, with_part, each, any_of, how_many, is_any, is_list, is_dict, ascends}
use Rattle.membership.proofs.Order.{flip, order_flip, order_same, order_trans, same_alt, equal_from}
use Rattle.membership.proofs.Eachs.{each_under, each_true}

abbrev pub before : Alt → Alt → Bool
before x y = is_lt (compared x y)

pub less_from : (o : Ordering) → is_lt o ≡ true → o ≡ Less
less_from Less e = refl
less_from Equal e = let z : ◌≡◌ {A = ℕ} 0 1 = cc in absurd (omega arith)
less_from Greater e = let z : ◌≡◌ {A = ℕ} 0 1 = cc in absurd (omega arith)

pub compared_flip : (x y : Alt) → compared y x ≡ flip (compared x y)
compared_flip x y = order_flip (rank x ∷ numbers x) (rank y ∷ numbers y)

pub compared_same : (x : Alt) → compared x x ≡ Equal
compared_same x = order_same (rank x ∷ numbers x)

pub before_trans : (x y z : Alt) → compared x y ≡ Less → before y z ≡ true → before x z ≡ true
before_trans x y z e h = ap is_lt (order_trans (rank x ∷ numbers x) (rank y ∷ numbers y) (rank z ∷ numbers z) e (less_from (compared y z) h))

-- some of the row with x is x or some of the row
pub any_put : (f : Alt → Bool) (x : Alt) (ys : List Alt) → any_of f (put x ys) ≡ (f x || any_of f ys)
any_put f x [] = refl
any_put f x (y ∷ ys) = go (compared x y) refl (any_put f x ys)
  where
    go : (o : Ordering) → compared x y ≡ o → any_of f (put x ys) ≡ (f x || any_of f ys) → any_of f (put_by o x y ys (put x ys)) ≡ (f x || (f y || any_of f ys))
    go Less e i = refl
    go Equal e i = let s : f x ≡ f y = ap f (same_alt x y e) in grind (arith, nat_tests, s)
    go Greater e i = grind (arith, nat_tests, i)

pub each_put : (f : Alt → Bool) (x : Alt) (ys : List Alt) → each f (put x ys) ≡ (f x && each f ys)
each_put f x [] = refl
each_put f x (y ∷ ys) = go (compared x y) refl (each_put f x ys)
  where
    go : (o : Ordering) → compared x y ≡ o → each f (put x ys) ≡ (f x && each f ys) → each f (put_by o x y ys (put x ys)) ≡ (f x && (f y && each f ys))
    go Less e i = refl
    go Equal e i = let s : f x ≡ f y = ap f (same_alt x y e) in grind (arith, nat_tests, s)
    go Greater e i = grind (arith, nat_tests, i)

pub ascends_put : (x : Alt) (ys : List Alt) → ascends ys ≡ true → ascends (put x ys) ≡ true
ascends_put x [] h = refl
ascends_put x (y ∷ ys) h = go (compared x y) refl (ascends_put x ys (and_parts (each (before y) ys) (ascends ys) h).1)
  where
    go : (o : Ordering) → compared x y ≡ o → ascends (put x ys) ≡ true → ascends (put_by o x y ys (put x ys)) ≡ true
    go Less e i =
        let a = and_parts (each (before y) ys) (ascends ys) h in
        let b : each (before x) ys ≡ true = each_under (before y) (before x) ys (λ z k. before_trans x y z e k) a.0 in
        and_from (each (before x) (y ∷ ys)) (ascends (y ∷ ys)) (and_from (before x y) (each (before x) ys) (ap is_lt e) b) h
    go Equal e i = h
    go Greater e i =
        let a = and_parts (each (before y) ys) (ascends ys) h in
        let c : before y x ≡ true = ap is_lt (compared_flip x y ∙ ap flip e) in
        and_from (each (before y) (put x ys)) (ascends (put x ys)) (each_put (before y) x ys ∙ and_from (before y x) (each (before y) ys) c a.0) i

pub any_settled : (f : Alt → Bool) (j : Inner) (out xs : List Alt) → any_of f (put_settled_lem j out xs) ≡ (any_of f out || any_of (λ x. f (settle j x)) xs)
any_settled f j out [] = grind (arith, nat_tests)
any_settled f j out (x ∷ xs) =
    let i = any_settled f j (put (settle j x) out) xs in
    let p = any_put f (settle j x) out in
    grind (arith, nat_tests, i, p)

pub each_settled : (f : Alt → Bool) (j : Inner) (out xs : List Alt) → each f (put_settled_lem j out xs) ≡ (each f out && each (λ x. f (settle j x)) xs)
each_settled f j out [] = grind (arith, nat_tests)
each_settled f j out (x ∷ xs) =
    let i = each_settled f j (put (settle j x) out) xs in
    let p = each_put f (settle j x) out in
    grind (arith, nat_tests, i, p)

pub ascends_settled : (j : Inner) (out xs : List Alt) → ascends out ≡ true → ascends (put_settled_lem j out xs) ≡ true
ascends_settled j out [] h = h
ascends_settled j out (x ∷ xs) h = ascends_settled j (put (settle j x) out) xs (ascends_put (settle j x) out h)

-- where x is of the kind p, it is e
abbrev pub only : (Alt → Bool) → Alt → Alt → Bool
only p e x = cond (p x) (is_eq (compared x e)) true

none_after : (p : Alt → Bool) (e : Alt) (zs : List Alt) → each (before e) zs ≡ true → each (only p e) zs ≡ true → how_many p zs ≡ 0
none_after p e [] h k = refl
none_after p e (z ∷ zs) h k = go (p z) (and_parts (only p e z) (each (only p e) zs) k).0 (none_after p e zs (and_parts (before e z) (each (before e) zs) h).1 (and_parts (only p e z) (each (only p e) zs) k).1)
  where
    go : (b : Bool) → cond b (is_eq (compared z e)) true ≡ true → how_many p zs ≡ 0 → cond b (suc (how_many p zs)) (how_many p zs) ≡ 0
    go true q i =
        let s : z ≡ e = same_alt z e (equal_from (compared z e) q) in
        let c : compared e z ≡ Equal = ap (compared e) s ∙ compared_same e in
        let d : compared e z ≡ Less = less_from (compared e z) (and_parts (before e z) (each (before e) zs) h).0 in
        let z : ◌≡◌ {A = ℕ} 0 1 = cc in absurd (omega arith)
    go false q i = i

-- in an ascending row a kind that can only be e is there at most once
pub few : (p : Alt → Bool) (e : Alt) (zs : List Alt) → ascends zs ≡ true → each (only p e) zs ≡ true → how_many p zs < 2
few p e [] h k = omega arith
few p e (z ∷ zs) h k = go (p z) (and_parts (only p e z) (each (only p e) zs) k).0 (few p e zs (and_parts (each (before z) zs) (ascends zs) h).1 (and_parts (only p e z) (each (only p e) zs) k).1)
  where
    go : (b : Bool) → cond b (is_eq (compared z e)) true ≡ true → how_many p zs < 2 → cond b (suc (how_many p zs)) (how_many p zs) < 2
    go true q i =
        let s : z ≡ e = same_alt z e (equal_from (compared z e) q) in
        let n : how_many p zs ≡ 0 = none_after p e zs (subst (λ (y : Alt). each (before y) zs ≡ true) s (and_parts (each (before z) zs) (ascends zs) h).0) (and_parts (only p e z) (each (only p e) zs) k).1 in
        omega arith
    go false q i = i

pub only_none : (p : Alt → Bool) (e : Alt) (zs : List Alt) → how_many p zs ≡ 0 → each (only p e) zs ≡ true
only_none p e [] h = refl
only_none p e (z ∷ zs) h = go (p z) (λ k. only_none p e zs k) h
  where
    go : (b : Bool) → (how_many p zs ≡ 0 → each (only p e) zs ≡ true) → cond b (suc (how_many p zs)) (how_many p zs) ≡ 0 → (cond b (is_eq (compared z e)) true && each (only p e) zs) ≡ true
    go true i k = absurd (omega (arith, k))
    go false i k = i k

only_same : (e : Alt) (b : Bool) → b ≡ true → (is_eq (compared e e) && b) ≡ true
only_same e b h = and_from (is_eq (compared e e)) b (ap is_eq (compared_same e)) h

-- the item of a row without lists is the one before
pub item_none : (q : Inner) (xs : List Alt) → how_many is_list xs ≡ 0 → (inner q xs).item ≡ q.item
item_none q [] h = refl
item_none q (any ∷ xs) h = item_none q xs h
item_none q (plain n ∷ xs) h = item_none q xs h
item_none q (iter t ∷ xs) h = item_none q xs h
item_none q (callable ∷ xs) h = item_none q xs h
item_none q (kind ∷ xs) h = item_none q xs h
item_none q (list t ∷ xs) h = absurd (omega (arith, h))
item_none q (tuple ts ∷ xs) h = item_none q xs h
item_none q (tuple_of t ∷ xs) h = item_none q xs h
item_none q (dict k v ∷ xs) h = item_none (with_part q (dict k v)) xs h
item_none q (custom n ∷ xs) h = item_none q xs h
item_none q (set_of t ∷ xs) h = item_none q xs h

-- the list of a row with at most one is that of its item
pub item_one : (q : Inner) (xs : List Alt) → how_many is_list xs < 2 → each (only is_list (list (inner q xs).item)) xs ≡ true
item_one q [] h = refl
item_one q (any ∷ xs) h = item_one q xs h
item_one q (plain n ∷ xs) h = item_one q xs h
item_one q (iter t ∷ xs) h = item_one q xs h
item_one q (callable ∷ xs) h = item_one q xs h
item_one q (kind ∷ xs) h = item_one q xs h
item_one q (list t ∷ xs) h =
    let n : how_many is_list xs ≡ 0 = omega arith in
    let e : (inner (with_part q (list t)) xs).item ≡ t = item_none (with_part q (list t)) xs n in
    subst (λ (i : ℕ). each (only is_list (list i)) (list t ∷ xs) ≡ true) (sym e) (only_same (list t) (each (only is_list (list t)) xs) (only_none is_list (list t) xs n))
item_one q (tuple ts ∷ xs) h = item_one q xs h
item_one q (tuple_of t ∷ xs) h = item_one q xs h
item_one q (dict k v ∷ xs) h = item_one (with_part q (dict k v)) xs h
item_one q (custom n ∷ xs) h = item_one q xs h
item_one q (set_of t ∷ xs) h = item_one q xs h

pub pair_none : (q : Inner) (xs : List Alt) → how_many is_dict xs ≡ 0 → ((inner q xs).key ≡ q.key) × ((inner q xs).value ≡ q.value)
pair_none q [] h = (refl, refl)
pair_none q (any ∷ xs) h = pair_none q xs h
pair_none q (plain n ∷ xs) h = pair_none q xs h
pair_none q (iter t ∷ xs) h = pair_none q xs h
pair_none q (callable ∷ xs) h = pair_none q xs h
pair_none q (kind ∷ xs) h = pair_none q xs h
pair_none q (list t ∷ xs) h = pair_none (with_part q (list t)) xs h
pair_none q (tuple ts ∷ xs) h = pair_none q xs h
pair_none q (tuple_of t ∷ xs) h = pair_none q xs h
pair_none q (dict k v ∷ xs) h = absurd (omega (arith, h))
pair_none q (custom n ∷ xs) h = pair_none q xs h
pair_none q (set_of t ∷ xs) h = pair_none q xs h

pub pair_one : (q : Inner) (xs : List Alt) → how_many is_dict xs < 2 → each (only is_dict (dict (inner q xs).key (inner q xs).value)) xs ≡ true
pair_one q [] h = refl
pair_one q (any ∷ xs) h = pair_one q xs h
pair_one q (plain n ∷ xs) h = pair_one q xs h
pair_one q (iter t ∷ xs) h = pair_one q xs h
pair_one q (callable ∷ xs) h = pair_one q xs h
pair_one q (kind ∷ xs) h = pair_one q xs h
pair_one q (list t ∷ xs) h = pair_one (with_part q (list t)) xs h
pair_one q (tuple ts ∷ xs) h = pair_one q xs h
pair_one q (tuple_of t ∷ xs) h = pair_one q xs h
pair_one q (dict k v ∷ xs) h =
    let n : how_many is_dict xs ≡ 0 = omega arith in
    let e = pair_none (with_part q (dict k v)) xs n in
    let s : dict (inner (with_part q (dict k v)) xs).key (inner (with_part q (dict k v)) xs).value ≡ dict k v = ap₂ dict e.0 e.1 in
    subst (λ (d : Alt). each (only is_dict d) (dict k v ∷ xs) ≡ true) (sym s) (only_same (dict k v) (each (only is_dict (dict k v)) xs) (only_none is_dict (dict k v) xs n))
pair_one q (custom n ∷ xs) h = pair_one q xs h
pair_one q (set_of t ∷ xs) h = pair_one q xs h

-- what is settled has the joined parts
pub settled_list : (j : Inner) (x : Alt) → only is_list (list j.item) (settle j x) ≡ true
settled_list j any = refl
settled_list j (plain n) = refl
settled_list j (iter t) = refl
settled_list j callable = refl
settled_list j kind = refl
settled_list j (list t) = ap is_eq (compared_same (list j.item))
settled_list j (tuple ts) = refl
settled_list j (tuple_of t) = refl
settled_list j (dict k v) = refl
settled_list j (custom n) = refl
settled_list j (set_of t) = refl

pub settled_dict : (j : Inner) (x : Alt) → only is_dict (dict j.key j.value) (settle j x) ≡ true
settled_dict j any = refl
settled_dict j (plain n) = refl
settled_dict j (iter t) = refl
settled_dict j callable = refl
settled_dict j kind = refl
settled_dict j (list t) = refl
settled_dict j (tuple ts) = refl
settled_dict j (tuple_of t) = refl
settled_dict j (dict k v) = ap is_eq (compared_same (dict j.key j.value))
settled_dict j (custom n) = refl
settled_dict j (set_of t) = refl

pub settled_any : (j : Inner) (x : Alt) → is_any (settle j x) ≡ is_any x
settled_any j any = refl
settled_any j (plain n) = refl
settled_any j (iter t) = refl
settled_any j callable = refl
settled_any j kind = refl
settled_any j (list t) = refl
settled_any j (tuple ts) = refl
settled_any j (tuple_of t) = refl
settled_any j (dict k v) = refl
settled_any j (custom n) = refl
settled_any j (set_of t) = refl

-- the alternatives of a union ascend, with at most one list and one dict
pub union_ascends : (j : Inner) (xs ys : List Alt) → ascends (put_settled_lem j (put_settled_lem j [] xs) ys) ≡ true
union_ascends j xs ys = ascends_settled j (put_settled_lem j [] xs) ys (ascends_settled j [] xs refl)

pub each_union : (f : Alt → Bool) (j : Inner) (xs ys : List Alt) → ((x : Alt) → f (settle j x) ≡ true) → each f (put_settled_lem j (put_settled_lem j [] xs) ys) ≡ true
each_union f j xs ys h =
    let a = each_settled f j (put_settled_lem j [] xs) ys in
    let b = each_settled f j [] xs in
    let c : each (λ x. f (settle j x)) xs ≡ true = each_true (λ x. f (settle j x)) xs h in
    let d : each (λ x. f (settle j x)) ys ≡ true = each_true (λ x. f (settle j x)) ys h in
    a ∙ and_from (each f (put_settled_lem j [] xs)) (each (λ x. f (settle j x)) ys) (b ∙ c) d

pub any_union : (f : Alt → Bool) (j : Inner) (xs ys : List Alt) → any_of f (put_settled_lem j (put_settled_lem j [] xs) ys) ≡ (any_of (λ x. f (settle j x)) xs || any_of (λ x. f (settle j x)) ys)
any_union f j xs ys = any_settled f j (put_settled_lem j [] xs) ys ∙ ap (λ b. b || any_of (λ x. f (settle j x)) ys) (any_settled f j [] xs)

pub union_lists : (j : Inner) (xs ys : List Alt) → how_many is_list (put_settled_lem j (put_settled_lem j [] xs) ys) < 2
union_lists j xs ys = few is_list (list j.item) (put_settled_lem j (put_settled_lem j [] xs) ys) (union_ascends j xs ys) (each_union (only is_list (list j.item)) j xs ys (settled_list j))

pub union_dicts : (j : Inner) (xs ys : List Alt) → how_many is_dict (put_settled_lem j (put_settled_lem j [] xs) ys) < 2
union_dicts j xs ys = few is_dict (dict j.key j.value) (put_settled_lem j (put_settled_lem j [] xs) ys) (union_ascends j xs ys) (each_union (only is_dict (dict j.key j.value)) j xs ys (settled_dict j))
