-- Lists that grow at their end. Assumes nothing.
use Rattle.std.proofs.Common.{◌≡◌, ℕ, ◌<◌, ◌≤◌, List, ◌++◌, length, get_or, take, drop, sym, refl, ap, ◌∙◌, arith, take-append-drop}
use Rattle.std.proofs.lemmas.List.{take_all, take_at, take-take, length-take, get_or-take}

-- xs stands at the front of ys
abbrev pub Front : {A : Type 0} → List A → List A → Type 0
Front xs ys = take (length xs) ys ≡ xs

pub front_here : {A : Type 0} (xs : List A) → Front xs xs
front_here xs = take_all (length xs) xs (omega arith)

pub front_more : {A : Type 0} (xs zs : List A) → Front xs (xs ++ zs)
front_more xs zs = take_at xs zs (length xs) refl

pub front_length : {A : Type 0} (xs ys : List A) → Front xs ys → length xs ≤ length ys
front_length xs ys f = omega (arith, ap length f, length-take (length xs) ys)

pub front_trans : {A : Type 0} (xs ys zs : List A) → Front xs ys → Front ys zs → Front xs zs
front_trans xs ys zs f g = sym (take-take (length xs) (length ys) zs (front_length xs ys f)) ∙ ap (take (length xs)) g ∙ f

pub front_at : {A : Type 0} (xs ys : List A) (d : A) (n : ℕ) → Front xs ys → n < length xs → get_or ys n d ≡ get_or xs n d
front_at xs ys d n f h = sym (get_or-take (length xs) ys n d h) ∙ ap (λ (l : List _). get_or l n d) f

pub front_rest : {A : Type 0} (xs ys : List A) → Front xs ys → xs ++ drop (length xs) ys ≡ ys
front_rest xs ys f = ap (λ (l : List _). l ++ drop (length xs) ys) (sym f) ∙ take-append-drop (length xs) ys
