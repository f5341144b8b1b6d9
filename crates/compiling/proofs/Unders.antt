-- A type's parts are types before it. Assumes nothing.
use Rattle.std.proofs.Common.{◌≡◌, ℕ, zero, suc, ◌<◌, ◌≤◌, true, List, [], ◌∷◌, length, get_or, arith}
use Rattle.membership.specs.Rows.{Alt, any, tuple, Row, row, parts}
use Rattle.membership.specs.Readings.{alt_at, elems, plain_alt}
use Rattle.compiling.proofs.Fines.{all_under, AltsFine, Fines, number_ok}

pub under_at : (n : ℕ) (ps : List ℕ) (j : ℕ) → all_under n ps → j < length ps → get_or ps j 0 < n
under_at n [] j u l = absurd (omega arith)
under_at n (p ∷ ps) zero u l = u.0
under_at n (p ∷ ps) (suc j) u l = under_at n ps j u.1 (omega arith)

abbrev pub AltFine : ℕ → Alt → Type 0
AltFine t a = all_under t (parts a) × (number_ok (plain_alt a) ≡ true) × (length (parts a) ≤ 64)

pub fine_at : (t : ℕ) (xs : List Alt) (i : ℕ) → AltsFine t xs → i < length xs → AltFine t (get_or xs i any)
fine_at t [] i f l = absurd (omega arith)
fine_at t (a ∷ xs) zero f l = f.0
fine_at t (a ∷ xs) (suc i) f l = fine_at t xs i f.1 (omega arith)

elements_under : (n : ℕ) (a : Alt) (j : ℕ) → all_under n (parts a) → j < length (elems a) → get_or (elems a) j 0 < n
elements_under n (tuple ts) j u l = under_at n ts j u l
elements_under n _ j u l = absurd (omega arith)

pub under_up : (n m : ℕ) (ps : List ℕ) → n ≤ m → all_under n ps → all_under m ps
under_up n m [] l u = tt
under_up n m (p ∷ ps) l u = (omega (arith, u.0), under_up n m ps l u.1)

module _ (rows : List Row) (sound : Fines rows) (t i : ℕ) (stands : t < length rows) (within : i < length (row rows t).alts) where
  pub alt_fine : AltFine t (alt_at rows t i)
  alt_fine = fine_at t (row rows t).alts i (sound.at t stands).under within

  pub element_low : (j : ℕ) → j < length (elems (alt_at rows t i)) → get_or (elems (alt_at rows t i)) j 0 < t
  element_low j l = elements_under t (alt_at rows t i) j alt_fine.0 l

  pub element_in : (j : ℕ) → j < length (elems (alt_at rows t i)) → get_or (elems (alt_at rows t i)) j 0 < length rows
  element_in j l = omega (arith, element_low j l)

pub elems_few : (a : Alt) → length (parts a) ≤ 64 → length (elems a) ≤ 64
elems_few (tuple ts) h = h
elems_few _ h = omega arith
