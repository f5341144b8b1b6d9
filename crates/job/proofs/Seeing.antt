-- What the first pass keeps is what the records leave. Assumes nothing.
use Rattle.std.proofs.Common.{◌≡◌, ℕ, ◌+◌, ◌<◌, ◌≤◌, Bool, true, false, cond, ◌&&◌, eqb, ltb, leb, ◌⊎◌, List, [], ◌∷◌, ◌++◌, length, sym, refl, ap, ◌∙◌, inl, inr, arith}
use Rattle.std.proofs.lemmas.Bool.{cases_eq, cases_lt, eq-eqb, ne_eqb, lt-leb, leb-true, ltb-true, cond-true, cond-false}
use Rattle.job_format.specs.Frames.{Raw}
use Rattle.job_format.specs.Bodies.{shaped, limit, bodies}
use Rattle.job_format.specs.Order.{last_tag, follows}
use Rattle.job_format.proofs.Tagged.{last_push, bodies_other, count_same, three}
use Rattle.job.specs.Seens.{had, can_follow_lem, with_record_lem, Sees}
use Rattle.job.specs.declared.tally.Seen.{Seen}

pub blank : Sees (record { last = 0; run = 0; cells = 0 }) []
unfolding last_tag bodies
blank = record { last = refl; run = refl; none = λ t h. refl; cells = refl }

had_is : (s : Seen) (rs : List Raw) (t : ℕ) → Sees s rs → s.last ≤ t → had s t ≡ length (bodies t rs)
had_is s rs t sees le = by (cases_eq t s.last)
  where
    by : (t ≡ s.last) ⊎ (t ≡ s.last → ⊥) → had s t ≡ length (bodies t rs)
    by (inl e) = cond-true (eqb t s.last) _ _ (eq-eqb t s.last e) ∙ sees.run ∙ ap (λ u. length (bodies u rs)) (sym e)
    by (inr ne) = cond-false (eqb t s.last) _ _ (ne_eqb t s.last ne) ∙ sym (sees.none t (omega arith))

pub follows_is : (s : Seen) (rs : List Raw) (r : Raw) → Sees s rs → follows rs r ≡ can_follow_lem s r.tag (length r.body)
follows_is s rs r sees = by (cases_lt r.tag s.last)
  where
    sh : Bool
    sh = shaped r.tag (length r.body)

    fall : (a b c : Bool) → (a && false && b) ≡ (a && false && c)
    fall true b c = refl
    fall false b c = refl

    by : (r.tag < s.last) ⊎ (s.last ≤ r.tag) → follows rs r ≡ can_follow_lem s r.tag (length r.body)
    by (inl lt) =
        (λ i. shaped r.tag (length r.body) && lt-leb (last_tag rs) r.tag (omega (arith, sees.last)) i && ltb (length (bodies r.tag rs)) (limit r.tag))
        ∙ fall (shaped r.tag (length r.body)) (ltb (length (bodies r.tag rs)) (limit r.tag)) (ltb (had s r.tag) (limit r.tag))
        ∙ sym (λ i. shaped r.tag (length r.body) && lt-leb s.last r.tag lt i && ltb (had s r.tag) (limit r.tag))
    by (inr ge) = λ i. shaped r.tag (length r.body) && leb (sym sees.last i) r.tag && ltb (sym (had_is s rs r.tag sees ge) i) (limit r.tag)

pub may : (s : Seen) (t n : ℕ) → can_follow_lem s t n ≡ true → (shaped t n ≡ true) × (s.last ≤ t) × (had s t < limit t)
may s t n h = let p = three (shaped t n) (leb s.last t) (ltb (had s t) (limit t)) h in (p.0, leb-true _ _ p.1, ltb-true _ _ p.2)

pub sees_more : (s : Seen) (rs : List Raw) (r : Raw) → Sees s rs → s.last ≤ r.tag → Sees (with_record_lem s r.tag) (rs ++ (r ∷ []))
sees_more s rs r sees le = record {
  last = sym (last_push rs r);
  run = ap (λ n. n + 1) (had_is s rs r.tag sees le) ∙ sym (count_same r.tag rs r refl);
  none = λ t h. ap length (bodies_other t rs r (λ e. absurd (omega arith))) ∙ sees.none t (omega arith);
  cells = by (cases_eq r.tag 1);
}
  where
    by : (r.tag ≡ 1) ⊎ (r.tag ≡ 1 → ⊥) → cond (eqb r.tag 1) (s.cells + 1) s.cells ≡ length (bodies 1 (rs ++ (r ∷ [])))
    by (inl e) = cond-true (eqb r.tag 1) _ _ (eq-eqb r.tag 1 e) ∙ ap (λ n. n + 1) sees.cells ∙ sym (count_same 1 rs r e)
    by (inr ne) = cond-false (eqb r.tag 1) _ _ (ne_eqb r.tag 1 ne) ∙ sees.cells ∙ ap length (sym (bodies_other 1 rs r ne))
