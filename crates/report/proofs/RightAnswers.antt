-- What is answered of a job is right. Assumes nothing.
use Rattle.std.proofs.Common.{◌≡◌, ℕ, ◌-◌, Bool, true, false, cond, ◌&&◌, ◌||◌, eqb, ltb, List, [], ◌∷◌, map, length, get_or, Ok, Err, Result, sym, refl, ◌∙◌, subst, arith}
use Rattle.values.specs.declared.refusal.Refusal.{Refusal}
use Rattle.values.specs.declared.refusal.Refusal.TheVariants.{NoNode, NoValue}
use Rattle.custom.specs.Customs.{Custom, Open, paired, most}
use Rattle.custom.specs.Entries.{no_mark, same_z, mark_wild, marks_mean, ranges_mean}
use Rattle.custom.specs.declared.entries.Mark.{Mark}
use Rattle.custom.specs.declared.entries.Range.{Range}
use Rattle.membership.specs.Members.{member}
use Rattle.type_compiled.specs.Compiled.{annotation_at}
use Rattle.runs.specs.Acts.{says, refused, check_told}
use Rattle.runs.specs.States.{State as SetState, answer}
use Rattle.runs.specs.Runs.{Blank, Reaches}
use Rattle.runs.proofs.Checks.{reached_says}
use Rattle.job_format.specs.Order.{Verified}
use Rattle.job_format.specs.Contents.{job_cells, job_marks, job_ranges, job_texts, job_queries}
use Rattle.job_format.specs.declared.query.Query.{Query}
use Rattle.job_format.proofs.Finding.{job_closed}
use Rattle.report.specs.Asking.{asks, tells, Asked}
use Rattle.report.specs.Entering.{State, blank, EnterAll}
use Rattle.report.specs.Held.{setting}
use Rattle.report.specs.Reports.{checks, job_custom, job_world, most_places, job_setting, Answered}
use Rattle.report.specs.ByCalls.{job_set, AnsweredByCalls}
use Rattle.report.specs.declared.answer.Answer.{Answer}
use Rattle.report.proofs.Leading.{texts_lead}
use Rattle.report.proofs.Replies.{replies, answers_are}

-- a wildcard of a job's customs says yes to all
either_way : (p q x y x' y' : Bool) → (x ≡ true → x' ≡ true) → (y ≡ true → y' ≡ true) → (p && cond q x y) ≡ true → (p && cond q x' y') ≡ true
either_way false q x y x' y' f g e = e
either_way true true x y x' y' f g e = f e
either_way true false x y x' y' f g e = g e

or_more : (p q r : Bool) → (p && q) ≡ true → (p && (q || r)) ≡ true
or_more false q r e = e
or_more true true r e = refl
or_more true false r e = let z : ◌≡◌ {A = ℕ} 0 1 = cc in absurd (omega arith)

marks_open : (es : List Mark) → Open (marks_mean es)
marks_open es n w t f m =
    let e = get_or es n no_mark in
    or_more (ltb n (length es)) (mark_wild e) (eqb e.ty t && same_z e.mark m) w

no_range_open : {q : Bool} (p : Bool) → (p && false) ≡ true → q ≡ true
no_range_open true e = let z : ◌≡◌ {A = ℕ} 0 1 = cc in absurd (omega arith)
no_range_open false e = let z : ◌≡◌ {A = ℕ} 0 1 = cc in absurd (omega arith)

ranges_open : (es : List Range) → Open (ranges_mean es)
ranges_open es n w t f m = no_range_open (ltb n (length es)) w

pair_open : (a b : Custom) → Open a → Open b → Open (paired a b)
pair_open a b p q n w t f m =
    let k = n - a.count in
    either_way (ltb n most) (ltb n a.count) (a.wild n) (b.wild k) (a.says n t f m) (b.says k t f m) (λ e. p n e t f m) (λ e. q k e t f m) w

job_open : (s : List ℕ) → Open (job_custom s)
job_open s = pair_open (marks_mean (job_marks s)) (ranges_mean (job_ranges s)) (marks_open (job_marks s)) (ranges_open (job_ranges s))

-- a check says whether the value is a member
told_by : (a b x : Bool) → cond a (cond b (says x) (refused 3)) (refused 2) ≡ check_told (cond a (cond b (Ok x) (Err NoValue)) (Err NoNode))
told_by true true x = refl
told_by true false x = refl
told_by false b x = refl

module _ (s : List ℕ) (good : Verified s) (texts : State) (entered : EnterAll (job_setting s) (job_texts s) blank texts) where
  calls : Reaches (job_custom s) true (job_set s blank) (job_set s texts)
  calls = texts_lead (job_custom s) true (job_cells s) most_places (job_texts s) blank texts entered

  begun : Blank (job_set s blank)
  begun = record { heap = refl; closed = job_closed s good.cells; rows = refl; nodes = refl; annotations = refl }

  abbrev right : Query → Result Bool Refusal
  right q = checks texts (job_world s) q.annotation q.value

  check_told_by : (q : Query) → answer (job_custom s) true (job_set s texts) (asks q) ≡ check_told (right q)
  check_told_by q = reached_says (job_custom s) true (job_open s) (job_set s blank) (job_set s texts) begun calls q.annotation q.value ∙ told_by (ltb q.annotation (length texts.annotations)) (ltb q.value (length (job_cells s))) (member texts.rows (job_world s) (annotation_at texts.annotations q.annotation).ty q.value)

  all_told : (qs : List Query) → map (λ q. answer (job_custom s) true (job_set s texts) (asks q)) qs ≡ map (λ q. check_told (right q)) qs
  all_told [] = refl
  all_told (q ∷ qs) = λ i. check_told_by q i ∷ all_told qs i

  pub answered_by_calls : (given : List Answer) → Asked (job_custom s) true (job_set s texts) (job_queries s) given → AnsweredByCalls s given
  answered_by_calls given asked =
      let r = asked.ran in
      let told : map tells given ≡ map (λ q. check_told (right q)) (job_queries s) = sym r.answered ∙ replies (job_custom s) true (job_set s texts) r.steps (job_queries s) r.run r.called ∙ all_told (job_queries s) in
      record {
        good = good;
        texts = texts;
        entered = entered;
        calls = calls;
        asked = asked;
        lawful = r.lawful (job_set s blank) calls.steps begun calls.run calls.ends;
        answers = answers_are right given (job_queries s) asked.of_queries told;
      }

-- the custom, the limit and the first state are the job's
pub entered_of : (s : List ℕ) (k : Custom) (limit : ℕ) (s₀ s₁ : State) → k ≡ job_custom s → limit ≡ most_places → s₀ ≡ blank → EnterAll (setting true limit k) (job_texts s) s₀ s₁ → EnterAll (job_setting s) (job_texts s) blank s₁
entered_of s k limit s₀ s₁ e l b all =
    subst (λ (x : Custom). EnterAll (setting true most_places x) (job_texts s) blank s₁) e (subst (λ (m : ℕ). EnterAll (setting true m k) (job_texts s) blank s₁) l (subst (λ (x : State). EnterAll (setting true limit k) (job_texts s) x s₁) b all))

pub asked_of : (s : List ℕ) (k : Custom) (set : SetState) (texts : State) (qs : List Query) (given : List Answer) → k ≡ job_custom s → set ≡ job_set s texts → qs ≡ job_queries s → Asked k true set qs given → Asked (job_custom s) true (job_set s texts) (job_queries s) given
asked_of s k set texts qs given e f q a =
    subst (λ (x : Custom). Asked x true (job_set s texts) (job_queries s) given) e (subst (λ (x : SetState). Asked k true x (job_queries s) given) f (subst (λ (x : List Query). Asked k true set x given) q a))

-- those answers are right
pub answered : (s : List ℕ) (given : List Answer) → AnsweredByCalls s given → Answered s given
answered s given a = record { good = a.good; texts = a.texts; entered = a.entered; answers = a.answers }
