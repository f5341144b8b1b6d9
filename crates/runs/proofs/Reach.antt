-- Whether a type has a value is read from the cells that the value reaches. Assumes nothing.
use Rattle.std.proofs.Common.{◌≡◌, ℕ, zero, suc, ◌<◌, Bool, ◌&&◌, ◌||◌, eqb, List, [], ◌∷◌, length, get_or, refl, ap, ◌∙◌, ap₂, arith}
use Rattle.values.specs.Cells.{Cell, cell_at}
use Rattle.custom.specs.Worlds.{Answers, World}
use Rattle.membership.specs.Rows.{Alt, any, plain, iter, callable, kind, list, tuple, tuple_of, dict, custom, set_of, Row, row, any_of, each}
use Rattle.membership.specs.Members.{keys, values, each_place, alternative_has, member_within, member}

-- every part is below n
abbrev pub Low : ℕ → List ℕ → Type 0
Low n [] = Unit {0}
Low n (p ∷ ps) = (p < n) × Low n ps

-- the parts of the cells below n are below n
abbrev pub ClosedBelow : ℕ → List Cell → Type 0
ClosedBelow n cells = (v i : ℕ) → v < n → i < length (cell_at cells v).parts → get_or (cell_at cells v).parts i 0 < n

pub low_of : (n : ℕ) (ps : List ℕ) → ((i : ℕ) → i < length ps → get_or ps i 0 < n) → Low n ps
low_of n [] h = tt
low_of n (p ∷ ps) h = (h 0 (omega arith), low_of n ps (λ i l. h (suc i) (omega arith)))

low_keys : (n : ℕ) (ps : List ℕ) → Low n ps → Low n (keys ps)
low_keys n [] l = tt
low_keys n (k ∷ []) l = l
low_keys n (k ∷ (v ∷ rest)) l = (l.0, low_keys n rest l.1.1)

low_values : (n : ℕ) (ps : List ℕ) → Low n ps → Low n (values ps)
low_values n [] l = tt
low_values n (k ∷ []) l = tt
low_values n (k ∷ (v ∷ rest)) l = (l.1.0, low_values n rest l.1.1)

each_low : (n : ℕ) (f g : ℕ → Bool) (ps : List ℕ) → Low n ps → ((v : ℕ) → v < n → f v ≡ g v) → each f ps ≡ each g ps
each_low n f g [] l h = refl
each_low n f g (p ∷ ps) l h = ap₂ ◌&&◌ (h p l.0) (each_low n f g ps l.1 h)

place_low : (n : ℕ) (f g : ℕ → ℕ → Bool) (ts ps : List ℕ) → Low n ps → ((t v : ℕ) → v < n → f t v ≡ g t v) → each_place f ts ps ≡ each_place g ts ps
place_low n f g [] [] l h = refl
place_low n f g [] (p ∷ ps) l h = refl
place_low n f g (t ∷ ts) [] l h = refl
place_low n f g (t ∷ ts) (p ∷ ps) l h = ap₂ ◌&&◌ (h t p l.0) (place_low n f g ts ps l.1 h)

any_same : (f g : Alt → Bool) (xs : List Alt) → ((x : Alt) → f x ≡ g x) → any_of f xs ≡ any_of g xs
any_same f g [] h = refl
any_same f g (x ∷ xs) h = ap₂ ◌||◌ (h x) (any_same f g xs h)

module _ (says : Answers) (n : ℕ) (f g : ℕ → ℕ → Bool) (h : (t v : ℕ) → v < n → f t v ≡ g t v) where
  alternative_same : (a : Alt) (c : Cell) → Low n c.parts → alternative_has f says a c ≡ alternative_has g says a c
  alternative_same any c l = refl
  alternative_same (plain m) c l = refl
  alternative_same (iter t) c l = refl
  alternative_same callable c l = refl
  alternative_same kind c l = refl
  alternative_same (list t) c l = ap (λ b. eqb c.ty 5 && b) (each_low n (f t) (g t) c.parts l (h t))
  alternative_same (tuple ts) c l = ap (λ b. eqb c.ty 8 && b) (place_low n f g ts c.parts l h)
  alternative_same (tuple_of t) c l = ap (λ b. eqb c.ty 8 && b) (each_low n (f t) (g t) c.parts l (h t))
  alternative_same (dict k v) c l =
      ap₂ (λ p q. eqb c.ty 6 && (p && q))
      (each_low n (f k) (g k) (keys c.parts) (low_keys n c.parts l) (h k))
      (each_low n (f v) (g v) (values c.parts) (low_values n c.parts l) (h v))
  alternative_same (custom m) c l = refl
  alternative_same (set_of t) c l = ap (λ b. eqb c.ty 7 && b) (each_low n (f t) (g t) c.parts l (h t))

module _ (says : Answers) (n : ℕ) (cells cells' : List Cell) (same : (v : ℕ) → v < n → cell_at cells' v ≡ cell_at cells v) (closed : ClosedBelow n cells) (rows : List Row) where
  within_same : (f t v : ℕ) → v < n → member_within f rows (record { cells = cells'; says = says }) t v ≡ member_within f rows (record { cells = cells; says = says }) t v
  within_same zero t v l = refl
  within_same (suc f) t v l =
      let W : World = record { cells = cells; says = says } in
      let W' : World = record { cells = cells'; says = says } in
      any_same
      (λ a. alternative_has (member_within f rows W') says a (cell_at cells' v))
      (λ a. alternative_has (member_within f rows W) says a (cell_at cells v))
      (row rows t).alts
      (λ a. ap (λ (c : Cell). alternative_has (member_within f rows W') says a c) (same v l)
      ∙ alternative_same says n (member_within f rows W') (member_within f rows W) (λ u w m. within_same f u w m) a (cell_at cells v) (low_of n (cell_at cells v).parts (λ i m. closed v i l m)))

  -- cells that agree below n give a value below n the same types
  pub member_same : (t v : ℕ) → v < n → member rows (record { cells = cells'; says = says }) t v ≡ member rows (record { cells = cells; says = says }) t v
  member_same t v l = within_same (suc t) t v l
