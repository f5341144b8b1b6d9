-- The theorems on members. Assumes nothing.
use Rattle.std.proofs.Common.{◌≡◌, ℕ, zero, suc, ◌+◌, ◌<◌, Bool, true, false, cond, ◌&&◌, eqb, ltb, List, length, sym, refl, ap, ◌∙◌, subst, arith}
use Rattle.std.proofs.lemmas.Bool.{and_parts, ltb-true, ne_eqb}
use Rattle.membership.specs.Rows.{Row, Grown, join, judged, verdict, granted, refused, union2, Kept, Sound}
use Rattle.membership.specs.Members.{UnionMembers, UnionsHaveTheirSides, GrowingKeepsMembers}
use Rattle.membership.proofs.Belongs.{member_kept}
use Rattle.membership.proofs.Unions.{Covers, join_covers, join_bounded}

pub kept_of : (t : List Row) → Sound t → Kept t
kept_of t s = record { standing = s.standing; forms = s.forms; sizes = s.sizes; own_numbers = s.own_numbers; begun = s.begun }

-- a granted table is within the limits
judged_by : (g h : Grown) (n : ℕ) → n ≡ verdict g.rows → cond (eqb n 0) (granted g) (refused n) ≡ granted h → (g ≡ h) × (verdict g.rows ≡ 0)
judged_by g h zero e k = (cc, sym e)
judged_by g h (suc n) e k =
    let k' : refused (suc n) ≡ granted h = rw (ne_eqb (suc n) 0 (λ p. omega arith)) at k in
    let z : ◌≡◌ {A = ℕ} 0 1 = cc in absurd (omega arith)

pub judged_granted : (g h : Grown) → judged g ≡ granted h → (g ≡ h) × (verdict g.rows ≡ 0)
judged_granted g h k = judged_by g h (verdict g.rows) refl k

-- a granted union is a join of two types that stand
pub record Granted (t : List Row) (a b : ℕ) (g : Grown) : Type 0 where
  pub a_stands : a < length t
  pub b_stands : b < length t
  pub is : join (a + 1) t a b ≡ g
  pub within : verdict g.rows ≡ 0

pub union_granted : (t : List Row) (a b : ℕ) (g : Grown) → union2 t a b ≡ granted g → Granted t a b g
union_granted t a b g e = go (ltb a (length t) && ltb b (length t)) refl e
  where
    go : (c : Bool) → (ltb a (length t) && ltb b (length t)) ≡ c → cond c (judged (join (a + 1) t a b)) (refused 1) ≡ granted g → Granted t a b g
    go true p q =
        let l = and_parts (ltb a (length t)) (ltb b (length t)) p in
        let j = judged_granted (join (a + 1) t a b) g q in
        record { a_stands = ltb-true a (length t) l.0; b_stands = ltb-true b (length t) l.1; is = j.0; within = ap (λ (h : Grown). verdict h.rows) (sym j.0) ∙ j.1 }
    go false p q = let z : ◌≡◌ {A = ℕ} 0 1 = cc in absurd (omega arith)

pub unions : UnionsHaveTheirSides
unions t a b g s e =
    let k = kept_of t s in
    let r = union_granted t a b g e in
    let c : Covers t a b (join (a + 1) t a b) = join_covers (a + 1) t a b k (omega arith) r.a_stands r.b_stands in
    let d = join_bounded (a + 1) t a b k (omega arith) r.a_stands r.b_stands in
    subst (λ (h : Grown). UnionMembers t h.rows a b h.number) r.is (record { left = c.left; right = c.right; no_other = d })

pub growing : GrowingKeepsMembers
growing t t' s k w n v l = member_kept t t' w s.standing k n v l
