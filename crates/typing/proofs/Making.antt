-- A union before it is judged. Assumes nothing.
use Rattle.std.proofs.Common.{◌≡◌, ℕ, ◌+◌, ◌<◌, ◌≤◌, ◌⊎◌, inl, inr, List, length, cond, ◌&&◌, false, ltb, sym, ap, arith}
use Rattle.std.proofs.lemmas.Bool.{lt-ltb, le-ltb, ltb-false}
use Rattle.std.proofs.lemmas.Bool.Decides.{nat_tests}
use Rattle.membership.specs.Rows.{Row, row, never, too_heavy, grown, judged, refused, union2, join, Kept, Sound, Joined}
use Rattle.membership.specs.Measures.{cost}
use Rattle.membership.proofs.Costs.{cost_low}
use Rattle.membership.proofs.Measured.{limits_of, none_at_lem}
use Rattle.membership.proofs.Laws.{kept_of}
use Rattle.typing.specs.Held.{table_of}
use Rattle.typing.specs.Growing.{Ready, held}
use Rattle.typing.specs.Rooms.{Room}
use Rattle.typing.specs.declared.types.Rows.{Rows}
use Rattle.typing.proofs.Joining.{Alls, table_length, joined_kept}
use Rattle.typing.proofs.Cutting.{few_rows, few_places}

light : (t : List Row) (a : ℕ) → Sound t → a < length t → cost t a ≤ 4096
light t a s l = omega (arith, cost_low t a, ltb-false 4096 (row t a).heavy (none_at_lem too_heavy t a never (limits_of t s.limited).heavy l))

module _ (s : Rows) (u : Alls) (a b : ℕ) (ready : Ready s u) where
  abbrev t : List Row
  t = table_of s

  pub union_missing : (length t ≤ a) ⊎ (length t ≤ b) → union2 t a b ≡ refused 1
  union_missing h = ap (λ z. cond z (judged (join (a + 1) t a b)) (refused 1)) (go h)
    where
      go : (length t ≤ a) ⊎ (length t ≤ b) → (ltb a (length t) && ltb b (length t)) ≡ false
      go (inl l) = let k = le-ltb a (length t) l in grind (arith, nat_tests, k)
      go (inr l) = let k = le-ltb b (length t) l in grind (arith, nat_tests, k)

  module _ (al : a < length t) (bl : b < length t) where
    pub union_room : Room t a b (held s u)
    union_room =
        let x = light t a ready.sound al in
        let y = light t b ready.sound bl in
        let r = few_rows t ready.sound in
        let q = few_places t ready.sound in
        let n = table_length s in
        record {
          light_a = x;
          light_b = y;
          for_rows = omega (arith, ready.for_rows);
          for_alternatives = omega (arith, s.all.ok.0, ready.packed, ready.for_all);
          for_scratch = omega (arith, ready.for_scratch);
        }

    module _ (t' : List Row) (n : ℕ) (joins : Joined t t' a b n) where
      pub union_outcome : union2 t a b ≡ judged (grown t' n)
      union_outcome = rw (lt-ltb a (length t) al, lt-ltb b (length t) bl) (ap judged (sym (joins.grows (a + 1) (omega arith))))

      pub union_kept : Kept t'
      union_kept = joined_kept t t' a b n (kept_of t ready.sound) al bl joins
