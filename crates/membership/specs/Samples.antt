-- Samples, evaluated. Assumes nothing.
use Rattle.std.specs.Prelude.{◌≡◌, ℕ, zero, suc, Bool, true, false, List, [], ◌∷◌, pos, refl}
use Rattle.membership.specs.Rows.{plain, list, dict, tuple, Row, Grown, grown, start, row, union2, single, Outcome, granted, refused}
use Rattle.values.specs.Cells.{Cell}
use Rattle.custom.specs.Worlds.{World}
use Rattle.membership.specs.Members.{member}

-- a call's table and number
abbrev pub made : Outcome → Grown
made (granted g) = g
made (refused n) = grown [] 0

abbrev pub s1 : Grown
s1 = made (single start (plain 1))

abbrev pub s2 : Grown
s2 = made (single s1.rows (plain 4))

abbrev pub s3 : Grown
s3 = made (single s2.rows (list 2))

abbrev pub s4 : Grown
s4 = made (single s3.rows (list 3))

abbrev pub s5 : Grown
s5 = made (union2 s4.rows 4 5)

abbrev pub s6 : Grown
s6 = made (single s5.rows (list 0))

abbrev pub s7 : Grown
s7 = made (single s6.rows (list 1))

abbrev pub s8 : Grown
s8 = made (single s7.rows (list 9))

abbrev pub s9 : Grown
s9 = made (single s8.rows (list 4))

abbrev pub s10 : Grown
s10 = made (single s9.rows (tuple (2 ∷ 3 ∷ [])))

abbrev pub s11 : Grown
s11 = made (single s10.rows (dict 3 2))

abbrev pub the_table : List Row
the_table = s11.rows

-- int is 2, str 3, list[int] 4, list[str] 5: their union is 7, list[6], and 6 is int | str
pub sample : union2 s4.rows 4 5 ≡ granted s5
sample = refl

pub sample_number : s5.number ≡ 7
sample_number = refl

pub sample_row : row s5.rows 7 ≡ record { alts = list 6 ∷ []; deep = 2; heavy = 4 }
sample_row = refl

pub sample_item : row s5.rows 6 ≡ record { alts = plain 1 ∷ plain 4 ∷ []; deep = 1; heavy = 3 }
sample_item = refl

pub sample_back : union2 s5.rows 5 4 ≡ granted s5
sample_back = refl

pub sample_missing : union2 s5.rows 5 8 ≡ refused 1
sample_missing = refl

abbrev wrap : Outcome → Outcome
wrap (granted h) = single h.rows (list h.number)
wrap (refused k) = refused k

-- n lists around a type
abbrev nest : ℕ → Grown → Outcome
nest zero g = granted g
nest (suc n) g = wrap (nest n g)

pub under_31 : (made (nest 31 s1)).number ≡ 33
under_31 = refl

pub under_32 : nest 32 s1 ≡ refused 7
under_32 = refl

-- a heap: 7, "a", [7], [7, "a"], [], a list whose only part is itself, True, (7, "a"), {"a": 7}
abbrev pub of_type : ℕ → List ℕ → Cell
of_type n ps = record { ty = n; flags = 2; mark = pos 0; parts = ps }

abbrev pub leaf : ℕ → Cell
leaf n = record { ty = n; flags = 0; mark = pos 1; parts = [] }

abbrev pub the_world : World
the_world = record {
  cells = leaf 1 ∷ leaf 4 ∷ of_type 5 (0 ∷ []) ∷ of_type 5 (0 ∷ 1 ∷ []) ∷ of_type 5 [] ∷ of_type 5 (5 ∷ []) ∷ leaf 2 ∷ of_type 8 (0 ∷ 1 ∷ []) ∷ of_type 6 (1 ∷ 0 ∷ []) ∷ [];
  says = λ n ty flags mark. false;
}

abbrev pub answers_to : ℕ → List Bool
answers_to n =
    member the_table the_world n 0 ∷ member the_table the_world n 1 ∷ member the_table the_world n 2 ∷ member the_table the_world n 3 ∷ member the_table the_world n 4
    ∷ member the_table the_world n 5 ∷ member the_table the_world n 6 ∷ member the_table the_world n 7 ∷ member the_table the_world n 8 ∷ member the_table the_world n 9 ∷ []

-- never, any, int (True is none), list[int], list[int | str], list[never], list, list[list], list[list[int]], tuple[int, str], dict[str, int]
abbrev pub MembersSamples : Type 0
MembersSamples =
    (answers_to 0 ≡ false ∷ false ∷ false ∷ false ∷ false ∷ false ∷ false ∷ false ∷ false ∷ false ∷ [])
    × (answers_to 1 ≡ true ∷ true ∷ true ∷ true ∷ true ∷ true ∷ true ∷ true ∷ true ∷ true ∷ [])
    × (answers_to 2 ≡ true ∷ false ∷ false ∷ false ∷ false ∷ false ∷ false ∷ false ∷ false ∷ false ∷ [])
    × (answers_to 4 ≡ false ∷ false ∷ true ∷ false ∷ true ∷ false ∷ false ∷ false ∷ false ∷ false ∷ [])
    × (answers_to 7 ≡ false ∷ false ∷ true ∷ true ∷ true ∷ false ∷ false ∷ false ∷ false ∷ false ∷ [])
    × (answers_to 8 ≡ false ∷ false ∷ false ∷ false ∷ true ∷ false ∷ false ∷ false ∷ false ∷ false ∷ [])
    × (answers_to 9 ≡ false ∷ false ∷ true ∷ true ∷ true ∷ true ∷ false ∷ false ∷ false ∷ false ∷ [])
    × (answers_to 10 ≡ false ∷ false ∷ false ∷ false ∷ true ∷ true ∷ false ∷ false ∷ false ∷ false ∷ [])
    × (answers_to 11 ≡ false ∷ false ∷ false ∷ false ∷ true ∷ false ∷ false ∷ false ∷ false ∷ false ∷ [])
    × (answers_to 12 ≡ false ∷ false ∷ false ∷ false ∷ false ∷ false ∷ false ∷ true ∷ false ∷ false ∷ [])
    × (answers_to 13 ≡ false ∷ false ∷ false ∷ false ∷ false ∷ false ∷ false ∷ false ∷ true ∷ false ∷ [])

pub members_samples : MembersSamples
members_samples = (refl, refl, refl, refl, refl, refl, refl, refl, refl, refl, refl)
