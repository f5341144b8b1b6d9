-- Tests over all and over some of a list. Assumes nothing.
use Rattle.std.proofs.Common.{◌≡◌, ℕ, zero, suc, ◌<◌, Bool, true, false, cond, ◌&&◌, ◌||◌, List, [], ◌∷◌, ◌++◌, length, get_or, refl, ap₂, arith}
use Rattle.std.proofs.lemmas.Bool.Decides.{nat_tests}
use Rattle.std.proofs.lemmas.Bool.{and_parts, and_from}
use Rattle.membership.specs.Rows.{each, any_of, how_many}

module _ {X : Type 0} (f : X → Bool) where
  pub each_at : (t : List X) (i : ℕ) (d : X) → each f t ≡ true → i < length t → f (get_or t i d) ≡ true
  each_at [] i d h l = absurd (omega arith)
  each_at (x ∷ xs) zero d h l = (and_parts (f x) (each f xs) h).0
  each_at (x ∷ xs) (suc i) d h l = each_at xs i d (and_parts (f x) (each f xs) h).1 (omega arith)

  pub each_from : (t : List X) (d : X) → ((i : ℕ) → i < length t → f (get_or t i d) ≡ true) → each f t ≡ true
  each_from [] d h = refl
  each_from (x ∷ xs) d h = and_from (f x) (each f xs) (h 0 (omega arith)) (each_from xs d (λ i l. h (suc i) (omega arith)))

  pub each_push : (t : List X) (r : X) → each f t ≡ true → f r ≡ true → each f (t ++ r ∷ []) ≡ true
  each_push [] r h k = and_from (f r) true k refl
  each_push (x ∷ xs) r h k = and_from (f x) (each f (xs ++ r ∷ [])) (and_parts (f x) (each f xs) h).0 (each_push xs r (and_parts (f x) (each f xs) h).1 k)

pub each_under : {X : Type 0} (f g : X → Bool) (xs : List X) → ((x : X) → f x ≡ true → g x ≡ true) → each f xs ≡ true → each g xs ≡ true
each_under f g [] p h = refl
each_under f g (x ∷ xs) p h = and_from (g x) (each g xs) (p x (and_parts (f x) (each f xs) h).0) (each_under f g xs p (and_parts (f x) (each f xs) h).1)

pub each_same : {X : Type 0} (f g : X → Bool) (xs : List X) → ((x : X) → f x ≡ g x) → each f xs ≡ each g xs
each_same f g [] p = refl
each_same f g (x ∷ xs) p = ap₂ ◌&&◌ (p x) (each_same f g xs p)

pub each_true : {X : Type 0} (f : X → Bool) (xs : List X) → ((x : X) → f x ≡ true) → each f xs ≡ true
each_true f [] p = refl
each_true f (x ∷ xs) p = and_from (f x) (each f xs) (p x) (each_true f xs p)

-- of those that pass h, what f says g says
pub any_under : {X : Type 0} (h f g : X → Bool) (xs : List X) → each h xs ≡ true → ((x : X) → h x ≡ true → f x ≡ true → g x ≡ true) → any_of f xs ≡ true → any_of g xs ≡ true
any_under h f g [] e p k = k
any_under h f g (x ∷ xs) e p k =
    let a = and_parts (h x) (each h xs) e in
    let i : any_of f xs ≡ true → any_of g xs ≡ true = any_under h f g xs a.1 p in
    let j : f x ≡ true → g x ≡ true = p x a.0 in
    grind (arith, nat_tests, k, i, j)

pub any_same : {X : Type 0} (h f g : X → Bool) (xs : List X) → each h xs ≡ true → ((x : X) → h x ≡ true → f x ≡ g x) → any_of f xs ≡ any_of g xs
any_same h f g [] e p = refl
any_same h f g (x ∷ xs) e p = let a = and_parts (h x) (each h xs) e in ap₂ ◌||◌ (p x a.0) (any_same h f g xs a.1 p)

pub each_and : {X : Type 0} (f g : X → Bool) (xs : List X) → each f xs ≡ true → each g xs ≡ true → each (λ x. f x && g x) xs ≡ true
each_and f g [] h k = refl
each_and f g (x ∷ xs) h k =
    let a = and_parts (f x) (each f xs) h in
    let b = and_parts (g x) (each g xs) k in
    and_from (f x && g x) (each (λ x. f x && g x) xs) (and_from (f x) (g x) a.0 b.0) (each_and f g xs a.1 b.1)

pub none_any : {X : Type 0} (f : X → Bool) (xs : List X) → how_many f xs ≡ 0 → any_of f xs ≡ false
none_any f [] h = refl
none_any f (x ∷ xs) h = go (f x) (λ e. none_any f xs e) h
  where
    go : (b : Bool) → (how_many f xs ≡ 0 → any_of f xs ≡ false) → cond b (suc (how_many f xs)) (how_many f xs) ≡ 0 → (b || any_of f xs) ≡ false
    go true i e = absurd (omega (arith, e))
    go false i e = i e

pub any_none : {X : Type 0} (f : X → Bool) (xs : List X) → any_of f xs ≡ false → how_many f xs ≡ 0
any_none f [] h = refl
any_none f (x ∷ xs) h = go (f x) (λ e. any_none f xs e) h
  where
    go : (b : Bool) → (any_of f xs ≡ false → how_many f xs ≡ 0) → (b || any_of f xs) ≡ false → cond b (suc (how_many f xs)) (how_many f xs) ≡ 0
    go true i e = let z : ◌≡◌ {A = ℕ} 0 1 = cc in absurd (omega arith)
    go false i e = i e
