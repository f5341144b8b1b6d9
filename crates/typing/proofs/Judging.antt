-- An alternative alone, before it is judged. Assumes nothing.
use Rattle.std.proofs.Common.{◌≡◌, ℕ, ◌+◌, ◌<◌, ◌≤◌, true, false, List, [], ◌∷◌, length, vec_items, vec_len, vec_capacity, sym, refl, ap, ◌∙◌, subst, arith}
use Rattle.std.proofs.lemmas.Bool.{and_from}
use Rattle.membership.specs.Rows.{Row, parts, all_below_lem, Grown, grown, intern, single, judged, refused, Kept, plainly, each}
use Rattle.membership.proofs.Kepts.{intern_fine, alone_formed}
use Rattle.membership.proofs.Laws.{kept_of}
use Rattle.typing.specs.View.{alt, alts, pooled}
use Rattle.typing.specs.Held.{table_of, pool_in}
use Rattle.typing.specs.Growing.{Ready}
use Rattle.typing.specs.declared.basic.TyBasic.{TyBasic}
use Rattle.typing.specs.declared.types.Rows.{Rows}
use Rattle.typing.proofs.Joining.{Alls, table_length}
use Rattle.typing.proofs.Cutting.{few_rows, few_places}

module _ (s : Rows) (u : Alls) (x : TyBasic) (ready : Ready s u) where
  abbrev t : List Row
  t = table_of s

  abbrev pool : List ℕ
  pool = pool_in s

  pub single_missing : all_below_lem (length t) (parts (alt pool x)) ≡ false → single t (alt pool x) ≡ refused 1
  single_missing h = rw h refl

  module _ (row : List TyBasic) (row_is : row ≡ x ∷ []) where
    pub row_pooled : pooled (length pool) x ≡ true → each (pooled (length pool)) row ≡ true
    row_pooled h = ap (each (pooled (length pool))) row_is ∙ and_from (pooled (length pool) x) true h refl

    pub row_room : vec_len s.rows < vec_capacity s.rows
    row_room = omega (arith, table_length s, few_rows t ready.sound, ready.for_rows)

    pub all_room : vec_len s.all + length row ≤ vec_capacity s.all
    all_room = omega (arith, s.all.ok.0, ready.packed, few_places t ready.sound, ready.for_all, ap length row_is)

    pub one_more : (s' : Rows) → vec_len s'.all ≤ vec_len s.all + length row → length (vec_items s'.all) ≤ length (vec_items s.all) + 1
    one_more s' l = omega (arith, s.all.ok.0, s'.all.ok.0, ap length row_is)

    module _ (stand : all_below_lem (length t) (parts (alt pool x)) ≡ true) (t' : List Row) (n : ℕ) (grows : grown t' n ≡ intern t (alts pool row)) where
      made : grown t' n ≡ intern t (alt pool x ∷ [])
      made = grows ∙ ap (λ (z : List TyBasic). intern t (alts pool z)) row_is

      pub single_outcome : single t (alt pool x) ≡ judged (grown t' n)
      single_outcome = rw stand (ap judged (sym made))

      pub single_kept : plainly (alt pool x) ≡ true → Kept t'
      single_kept h = subst (λ (g : Grown). Kept g.rows) (sym made) (intern_fine t (alt pool x ∷ []) (kept_of t ready.sound) (and_from (all_below_lem (length t) (parts (alt pool x))) true stand refl) (alone_formed (alt pool x) h)).kept
