-- Lists read place by place. Assumes nothing.
use Rattle.std.proofs.Common.{◌≡◌, ℕ, zero, suc, ◌+◌, ◌-◌, ◌<◌, ◌≤◌, Bool, true, false, ◌&&◌, leb, List, [], ◌∷◌, ◌++◌, length, get_or, take, drop, Ordering, Less, Equal, Greater, sym, refl, ap, ◌∙◌, subst, arith}
use Rattle.std.proofs.lemmas.List.{get_or_default, drop_more, take_more, map-append, take-append-drop, append_assoc}
use Rattle.std.proofs.lemmas.List.Edits.{length-between}
use Rattle.std.proofs.lemmas.Bool.Decides.{nat_tests}
use Rattle.std.proofs.lemmas.Bool.{and_parts, and_from, leb-true}
use Rattle.std.specs.List.{between, insert, list_all, zip}
use Rattle.std.specs.Ordering.{is_eq}
use Rattle.membership.specs.Rows.{Alt, elements, same_alts, compared, put, put_by, put_settled_lem, settle, Inner, inner, with_part, each}
use Rattle.membership.proofs.Eachs.{each_at}
use Rattle.typing.specs.View.{alt, alts, pooled}
use Rattle.typing.specs.declared.basic.TyBasic.{TyBasic}
use Rattle.typing.specs.declared.basic.TyBasic.TheVariants as basic
use Rattle.typing.specs.declared.basic.TyTuple.TheVariants.{Elems}

pub pooled_at : {X : Type 0} (f : X → Bool) (xs : List X) (i : ℕ) (x : X) → each f xs ≡ true → i < length xs → x ≡ get_or xs i x → f x ≡ true
pooled_at f xs i x h l e = subst (λ z. f z ≡ true) (sym e) (each_at f xs i x h l)

each_append : {X : Type 0} (f : X → Bool) (xs ys : List X) → each f xs ≡ true → each f ys ≡ true → each f (xs ++ ys) ≡ true
each_append f [] ys h k = k
each_append f (x ∷ xs) ys h k = let a = and_parts (f x) (each f xs) h in and_from (f x) (each f (xs ++ ys)) a.0 (each_append f xs ys a.1 k)

pub each_take : {X : Type 0} (f : X → Bool) (i : ℕ) (xs : List X) → each f xs ≡ true → each f (take i xs) ≡ true
each_take f zero xs h = refl
each_take f (suc i) [] h = refl
each_take f (suc i) (x ∷ xs) h = let a = and_parts (f x) (each f xs) h in and_from (f x) (each f (take i xs)) a.0 (each_take f i xs a.1)

pub each_drop : {X : Type 0} (f : X → Bool) (i : ℕ) (xs : List X) → each f xs ≡ true → each f (drop i xs) ≡ true
each_drop f zero xs h = h
each_drop f (suc i) [] h = refl
each_drop f (suc i) (x ∷ xs) h = each_drop f i xs (and_parts (f x) (each f xs) h).1

pub each_inserted : {X : Type 0} (f : X → Bool) (xs : List X) (i : ℕ) (x : X) → each f xs ≡ true → f x ≡ true → each f (insert xs i x) ≡ true
each_inserted f xs i x h k = each_append f (take i xs) (x ∷ drop i xs) (each_take f i xs h) (and_from (f x) (each f (drop i xs)) k (each_drop f i xs h))

pub each_between : {X : Type 0} (f : X → Bool) (i j : ℕ) (xs : List X) → each f xs ≡ true → each f (between i j xs) ≡ true
each_between f i j xs h = each_take f (j - i) (drop i xs) (each_drop f i xs h)

pub each_both : {X : Type 0} (f : X → Bool) (xs ys : List X) → each f xs ≡ true → each f ys ≡ true → each f (xs ++ ys) ≡ true
each_both f xs ys h k = each_append f xs ys h k

pub drop_read : {X : Type 0} (xs : List X) (i : ℕ) (x : X) → i < length xs → x ≡ get_or xs i x → drop i xs ≡ x ∷ drop (i + 1) xs
drop_read xs i x h e = drop_more xs i x h ∙ ap (λ y. y ∷ drop (i + 1) xs) (sym e)

module _ (pool : List ℕ) where
  pub same_zip : (xs ys : List TyBasic) → length xs ≡ length ys → list_all (λ p. is_eq (compared (alt pool p.0) (alt pool p.1))) (zip xs ys) ≡ same_alts (alts pool xs) (alts pool ys)
  same_zip [] [] e = refl
  same_zip [] (y ∷ ys) e = absurd (omega arith)
  same_zip (x ∷ xs) [] e = absurd (omega arith)
  same_zip (x ∷ xs) (y ∷ ys) e = ap (λ (b : Bool). is_eq (compared (alt pool x) (alt pool y)) && b) (same_zip xs ys (omega arith))

  pub same_length : (xs ys : List TyBasic) → (length xs ≡ length ys → ⊥) → same_alts (alts pool xs) (alts pool ys) ≡ false
  same_length [] [] h = absurd (h refl)
  same_length [] (y ∷ ys) h = refl
  same_length (x ∷ xs) [] h = refl
  same_length (x ∷ xs) (y ∷ ys) h = let e = same_length xs ys (λ e. h (ap suc e)) in grind (arith, nat_tests, e)

  module _ (xs : List TyBasic) (i : ℕ) (y : TyBasic) (x : Alt) (h : i < length xs) (e : y ≡ get_or xs i y) where
    put_here : put x (alts pool (drop i xs)) ≡ put_by (compared x (alt pool y)) x (alt pool y) (alts pool (drop (i + 1) xs)) (put x (alts pool (drop (i + 1) xs)))
    put_here = rw (drop_read xs i y h e) refl

    alts_here : alts pool (drop i xs) ≡ alt pool y ∷ alts pool (drop (i + 1) xs)
    alts_here = ap (alts pool) (drop_read xs i y h e)

    alts_more : alts pool (take (i + 1) xs) ≡ alts pool (take i xs) ++ alt pool y ∷ []
    alts_more = ap (alts pool) (take_more xs i y h) ∙ map-append (alt pool) (take i xs) (get_or xs i y ∷ []) ∙ ap (λ (z : TyBasic). alts pool (take i xs) ++ alt pool z ∷ []) (sym e)

    pub put_less : compared x (alt pool y) ≡ Less → put x (alts pool (drop i xs)) ≡ x ∷ alts pool (drop i xs)
    put_less o = put_here ∙ ap (λ (k : Ordering). put_by k x (alt pool y) (alts pool (drop (i + 1) xs)) (put x (alts pool (drop (i + 1) xs)))) o ∙ ap (λ (zs : List Alt). x ∷ zs) (sym alts_here)

    pub put_equal : compared x (alt pool y) ≡ Equal → put x (alts pool (drop i xs)) ≡ alts pool (drop i xs)
    put_equal o = put_here ∙ ap (λ (k : Ordering). put_by k x (alt pool y) (alts pool (drop (i + 1) xs)) (put x (alts pool (drop (i + 1) xs)))) o ∙ sym alts_here

    pub put_more : compared x (alt pool y) ≡ Greater → alts pool (take i xs) ++ put x (alts pool (drop i xs)) ≡ alts pool (take (i + 1) xs) ++ put x (alts pool (drop (i + 1) xs))
    put_more o =
        let p = put_here ∙ ap (λ (k : Ordering). put_by k x (alt pool y) (alts pool (drop (i + 1) xs)) (put x (alts pool (drop (i + 1) xs)))) o in
        ap (λ (zs : List Alt). alts pool (take i xs) ++ zs) p ∙ sym (append_assoc (alts pool (take i xs)) (alt pool y ∷ []) (put x (alts pool (drop (i + 1) xs)))) ∙ ap (λ (zs : List Alt). zs ++ put x (alts pool (drop (i + 1) xs))) (sym alts_more)

  pub alts_split : (i : ℕ) (xs : List TyBasic) → alts pool (take i xs) ++ alts pool (drop i xs) ≡ alts pool xs
  alts_split i xs = sym (map-append (alt pool) (take i xs) (drop i xs)) ∙ ap (alts pool) (take-append-drop i xs)

  pub put_settled_step : (j : Inner) (out out' : List Alt) (xs : List TyBasic) (i : ℕ) (y : TyBasic) (z : Alt) → i < length xs → y ≡ get_or xs i y → z ≡ settle j (alt pool y) → out' ≡ put z out → put_settled_lem j out' (alts pool (drop (i + 1) xs)) ≡ put_settled_lem j out (alts pool (drop i xs))
  put_settled_step j out out' xs i y z h e p q =
      let m : put_settled_lem j out (alts pool (drop i xs)) ≡ put_settled_lem j (put (settle j (alt pool y)) out) (alts pool (drop (i + 1) xs)) = rw (drop_read xs i y h e) refl in
      ap (λ (zs : List Alt). put_settled_lem j zs (alts pool (drop (i + 1) xs))) (q ∙ ap (λ (w : Alt). put w out) p) ∙ sym m

  pub inner_step : (p p' : Inner) (xs : List TyBasic) (i : ℕ) (y : TyBasic) → i < length xs → y ≡ get_or xs i y → p' ≡ with_part p (alt pool y) → inner p' (alts pool (drop (i + 1) xs)) ≡ inner p (alts pool (drop i xs))
  inner_step p p' xs i y h e q =
      let m : inner p (alts pool (drop i xs)) ≡ inner (with_part p (alt pool y)) (alts pool (drop (i + 1) xs)) = rw (drop_read xs i y h e) refl in
      ap (λ (z : Inner). inner z (alts pool (drop (i + 1) xs))) q ∙ sym m

-- an element of plain values is read with a default
pub read_plain : {X : Type 0} (xs : List X) (i : ℕ) (d : X) → i < length xs → get_or xs i d ≡ get_or xs i (get_or xs i d)
read_plain xs i d l = get_or_default xs i d (get_or xs i d) l

pub elements_are : (pool : List ℕ) (x : TyBasic) (from to : ℕ) → x ≡ basic.Tuple (Elems from to) → pooled (length pool) x ≡ true → to - from ≡ elements (alt pool x)
elements_are pool x from to e h =
    let k : pooled (length pool) (basic.Tuple (Elems from to)) ≡ true = subst (λ (z : TyBasic). pooled (length pool) z ≡ true) e h in
    let q : to ≤ length pool = leb-true to (length pool) (and_parts (leb from to) (leb to (length pool)) k).1 in
    sym (length-between pool from to q) ∙ sym (ap (λ (z : TyBasic). elements (alt pool z)) e)
