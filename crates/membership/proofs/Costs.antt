-- What a join may add: no more rows than its left side weighs, no more alternatives than both weigh. Assumes nothing.
use Rattle.std.proofs.Common.{◌≡◌, ℕ, ◌+◌, ◌<◌, ◌≤◌, min, Bool, true, false, cond, eqb, List, [], ◌∷◌, length, Some, sym, refl, ap, ◌∙◌, arith}
use Rattle.std.proofs.lemmas.Bool.{and_parts, eqb-true, ne_eqb}
use Rattle.membership.specs.Rows.{Alt, any, plain, iter, callable, kind, list, tuple, tuple_of, dict, custom, set_of, Row, row, never, parts, total, weight_alts, one_less, made_row, sized, Inner, inner, no_inner, with_part, find, Kept, Keeps}
use Rattle.membership.specs.Measures.{cost, costs}
use Rattle.membership.proofs.Eachs.{each_at}
use Rattle.membership.proofs.Joins.{keeps_row}
use Rattle.membership.proofs.Kepts.{first_of, unique_of}

pub cost_low : (t : List Row) (n : ℕ) → cost t n ≤ (row t n).heavy
cost_low t n = go (eqb n 0)
  where
    go : (b : Bool) → cond b 0 (row t n).heavy ≤ (row t n).heavy
    go true = omega arith
    go false = omega arith

pub cost_kept : (t u : List Row) (n : ℕ) → Keeps t u → n < length t → cost u n ≡ cost t n
cost_kept t u n k l = ap (λ (r : Row). cond (eqb n 0) 0 r.heavy) (keeps_row t u n k l)

with_part_costs : (t : List Row) (q : Inner) (x : Alt) → costs t (with_part q x) ≤ costs t q + total t (parts x)
with_part_costs t q any = omega arith
with_part_costs t q (plain n) = omega arith
with_part_costs t q (iter i) = omega arith
with_part_costs t q callable = omega arith
with_part_costs t q kind = omega arith
with_part_costs t q (list i) = omega (arith, cost_low t i)
with_part_costs t q (tuple ts) = omega arith
with_part_costs t q (tuple_of i) = omega arith
with_part_costs t q (dict k v) = omega (arith, cost_low t k, cost_low t v)
with_part_costs t q (custom n) = omega arith
with_part_costs t q (set_of i) = omega arith

inner_costs : (t : List Row) (q : Inner) (xs : List Alt) → costs t (inner q xs) + length xs ≤ costs t q + weight_alts t xs
inner_costs t q [] = omega arith
inner_costs t q (x ∷ xs) = omega (arith, inner_costs t (with_part q x) xs, with_part_costs t q x)

-- the parts that a join takes of a side, and its alternatives, are within its weight
pub side_costs : (t : List Row) (a : ℕ) → Kept t → a < length t → (a ≡ 0 → ⊥) → cost t a ≤ 4096 → costs t (inner no_inner (row t a).alts) + length (row t a).alts ≤ cost t a
side_costs t a k l z h =
    let s = and_parts (eqb (row t a).deep (made_row t (row t a).alts).deep) (eqb (row t a).heavy (made_row t (row t a).alts).heavy) (each_at (sized t) t a never k.sizes l) in
    let e : (row t a).heavy ≡ min 4097 (weight_alts t (row t a).alts + one_less (row t a).alts) = eqb-true (row t a).heavy (made_row t (row t a).alts).heavy s.1 in
    let c : cost t a ≡ (row t a).heavy = ap (λ (b : Bool). cond b 0 (row t a).heavy) (ne_eqb a 0 z) in
    let i : costs t (inner no_inner (row t a).alts) + length (row t a).alts ≤ costs t no_inner + weight_alts t (row t a).alts = inner_costs t no_inner (row t a).alts in
    let n : costs t no_inner ≡ 0 = refl in
    omega arith

-- a type other than never has an alternative
pub some_alternative : (t : List Row) (a : ℕ) → Kept t → a < length t → (a ≡ 0 → ⊥) → 1 ≤ length (row t a).alts
some_alternative t a k l z = go (row t a).alts refl
  where
    go : (xs : List Alt) → (row t a).alts ≡ xs → 1 ≤ length xs
    go [] e =
        let f = first_of t k.begun in
        let u = unique_of t k.own_numbers in
        let p : find 0 t [] ≡ Some a = ap (find 0 t) (sym e) ∙ u a l in
        let two = f.two in
        let q : find 0 t [] ≡ Some 0 = ap (find 0 t) (sym f.none) ∙ u 0 (omega arith) in
        let h : a ≡ 0 = cc in
        absurd (z h)
    go (y ∷ ys) e = omega arith
