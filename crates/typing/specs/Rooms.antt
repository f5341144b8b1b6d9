-- The places that a join needs, and those that it takes. Assumes nothing.
use Rattle.std.specs.Prelude.{◌≡◌, ℕ, ◌+◌, ◌≤◌, List}
use Rattle.membership.specs.Rows.{Row}
use Rattle.membership.specs.Measures.{cost}

-- how many places are taken and how many there are: of rows, of alternatives, and of alternatives of one union
pub record Places : Type 0 where
  pub rows : ℕ
  pub all_rows : ℕ
  pub alternatives : ℕ
  pub all_alternatives : ℕ
  pub scratch : ℕ

-- no more rows than the left side weighs, no more alternatives than both weigh
pub record Room (t : List Row) (a b : ℕ) (p : Places) : Type 0 where
  pub light_a : cost t a ≤ 4096
  pub light_b : cost t b ≤ 4096
  pub for_rows : p.rows + cost t a ≤ p.all_rows
  pub for_alternatives : p.alternatives + (cost t a + cost t b) ≤ p.all_alternatives
  pub for_scratch : cost t a + cost t b ≤ p.scratch

pub record Taken (t : List Row) (a b : ℕ) (p q : Places) : Type 0 where
  pub rows_taken : q.rows ≤ p.rows + cost t a
  pub alternatives_taken : q.alternatives ≤ p.alternatives + (cost t a + cost t b)
  pub same_rows : q.all_rows ≡ p.all_rows
  pub same_alternatives : q.all_alternatives ≡ p.all_alternatives
  pub same_scratch : q.scratch ≡ p.scratch

abbrev pub places : ℕ → ℕ → ℕ → ℕ → ℕ → Places
places r s a b c = record { rows = r; all_rows = s; alternatives = a; all_alternatives = b; scratch = c }
