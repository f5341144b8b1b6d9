-- What compiling reads off a sound table, row by row. Assumes nothing.
use Rattle.std.proofs.Common.{◌≡◌, ℕ, ◌+◌, ◌<◌, ◌≤◌, Bool, true, false, ltb, List, [], ◌∷◌, length, Some, None, Option, refl, arith}
use Rattle.std.proofs.lemmas.Bool.{and_parts, or_parts, ltb-true, ltb-false}
use Rattle.matcher.specs.Nodes.{plain_type_number}
use Rattle.membership.specs.Rows.{Alt, plain, tuple, Row, row, never, parts, depth_alts, weight_alts, one_less, all_below_lem, below, stands, each, any_of, plainly, too_long, too_deep, too_wide, too_heavy, Sound}
use Rattle.membership.specs.Readings.{plain_alt}
use Rattle.membership.proofs.Kepts.{row_under, row_form}
use Rattle.membership.proofs.Laws.{kept_of}
use Rattle.membership.proofs.Measured.{limits_of, none_at_lem, row_deep, row_heavy}
use Rattle.compiling.specs.Limits.{heaviest}

abbrev pub number_ok : Option ℕ → Bool
number_ok None = true
number_ok (Some n) = plain_type_number n

abbrev pub all_under : ℕ → List ℕ → Type 0
all_under n [] = Unit {0}
all_under n (p ∷ ps) = (p < n) × all_under n ps

abbrev pub AltsFine : ℕ → List Alt → Type 0
AltsFine t [] = Unit {0}
AltsFine t (a ∷ xs) = (all_under t (parts a) × (number_ok (plain_alt a) ≡ true) × (length (parts a) ≤ 64)) × AltsFine t xs

-- what holds of a type
pub record RowFine (rows : List Row) (t : ℕ) : Type 0 where
  pub under : AltsFine t (row rows t).alts
  pub wide : length (row rows t).alts ≤ 64
  pub deep : (row rows t).deep ≡ depth_alts rows (row rows t).alts
  pub low : (row rows t).deep ≤ 32
  pub heavy : (row rows t).heavy ≡ weight_alts rows (row rows t).alts + one_less (row rows t).alts
  pub light : (row rows t).heavy ≤ heaviest

pub record Fines (rows : List Row) : Type 0 where
  pub standing : stands 0 rows ≡ true
  pub at : (t : ℕ) → t < length rows → RowFine rows t

under_of : (n : ℕ) (ps : List ℕ) → all_below_lem n ps ≡ true → all_under n ps
under_of n [] h = tt
under_of n (p ∷ ps) h = let a = and_parts (ltb p n) (all_below_lem n ps) h in (ltb-true p n a.0, under_of n ps a.1)

number_of : (a : Alt) → plainly a ≡ true → number_ok (plain_alt a) ≡ true
number_of (plain n) h = h
number_of _ h = refl

parts_few : (a : Alt) → too_long a ≡ false → length (parts a) ≤ 64
parts_few (tuple ts) h = ltb-false 64 (length ts) h
parts_few _ h = omega arith

alts_fine : (n : ℕ) (xs : List Alt) → below n xs ≡ true → each plainly xs ≡ true → any_of too_long xs ≡ false → AltsFine n xs
alts_fine n [] b p l = tt
alts_fine n (a ∷ xs) b p l =
    let u = and_parts (all_below_lem n (parts a)) (below n xs) b in
    let q = and_parts (plainly a) (each plainly xs) p in
    let k = or_parts (too_long a) (any_of too_long xs) l in
    ((under_of n (parts a) u.0, number_of a q.0, parts_few a k.0), alts_fine n xs u.1 q.1 k.1)

row_fine : (rows : List Row) → Sound rows → (t : ℕ) → t < length rows → RowFine rows t
row_fine rows s t l =
    let m = limits_of rows s.limited in
    let w = or_parts (ltb 64 (length (row rows t).alts)) (any_of too_long (row rows t).alts) (none_at_lem too_wide rows t never m.wide l) in
    record {
      under = alts_fine t (row rows t).alts (row_under rows t s.standing) (row_form rows t (kept_of rows s) l).plains w.1;
      wide = ltb-false 64 (length (row rows t).alts) w.0;
      deep = row_deep rows s t l;
      low = ltb-false 32 (row rows t).deep (none_at_lem too_deep rows t never m.deep l);
      heavy = row_heavy rows s t l;
      light = ltb-false 4096 (row rows t).heavy (none_at_lem too_heavy rows t never m.heavy l);
    }

pub fines_of : (rows : List Row) → Sound rows → Fines rows
fines_of rows s = record { standing = s.standing; at = row_fine rows s }
