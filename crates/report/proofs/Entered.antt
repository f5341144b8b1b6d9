-- What entering a text keeps: every annotation accepts just the members of its type. Assumes nothing.
use Rattle.std.proofs.Common.{◌≡◌, ℕ, ◌<◌, ◌≤◌, Bool, true, ◌⊎◌, List, [], ◌∷◌, ◌++◌, length, Ok, Err, Result, MatchResult, sym, refl, ap, ◌∙◌, subst, inl, inr, arith, length-append, ap₂}
use Rattle.std.proofs.lemmas.List.{get_or_append_left, get_or_push}
use Rattle.std.proofs.lemmas.Bool.{cases_lt}
use Rattle.custom.specs.Customs.{Custom, Open, paired}
use Rattle.custom.specs.Entries.{marks_mean, ranges_mean}
use Rattle.custom.specs.Held.{marks_in, ranges_in}
use Rattle.custom.specs.declared.entries.Mark.{Mark}
use Rattle.custom.specs.declared.entries.Range.{Range}
use Rattle.custom.specs.declared.list.Entries.{Entries}
use Rattle.custom.specs.declared.pair.Pair.{Pair}
use Rattle.custom.specs.Worlds.{world}
use Rattle.matcher.specs.Nodes.{Node, valid}
use Rattle.membership.specs.Rows.{Row, Sound, Keeps}
use Rattle.membership.proofs.Joins.{keeps_length}
use Rattle.membership.proofs.Laws.{growing}
use Rattle.compiling.specs.Outcomes.{alloc_ty_lem, granted, Entered, added, annotation, Means}
use Rattle.compiling.specs.Written.{written}
use Rattle.compiling.specs.declared.annotation.Annotation.{Annotation}
use Rattle.compiling.proofs.Rights.{was_granted, right_by}
use Rattle.type_compiled.specs.Compiled.{annotation_at, no_annotation}
use Rattle.runs.proofs.Fronts.{Front, front_length}
use Rattle.runs.proofs.Stores.{accepts_kept}
use Rattle.report.specs.Entering.{State, blank, Setting, Enters, EnterAll, Rightly, AllRight}
use Rattle.job_format.specs.Order.{Verified}
use Rattle.report.specs.Reports.{job_custom, most_places, job_setting, Stopped, BadIn}
use Rattle.job_format.specs.Contents.{job_marks, job_ranges}
use Rattle.report.specs.Held.{setting}
use Rattle.report.specs.declared.bad.BadRecord.{BadRecord}
use Rattle.report.specs.declared.bad.BadRecord.TheVariants.{Job, Text, Compiling}

-- in larger tables an annotation is what it was
kept : (c : Custom) (rows rows' : List Row) (ns ns' : List Node) (x : Annotation) → Sound rows → Keeps rows rows' → Front ns ns' → x.ty < length rows → x.root < length ns → Means c rows ns x → Means c rows' ns' x
kept c rows rows' ns ns' x s k f t n m cells v =
    accepts_kept (world cells c) ns ns' x.root v f n ∙ m cells v ∙ sym (growing rows rows' s k (world cells c) x.ty v t)

module _ (c : Custom) (sh : Bool) (limit : ℕ) (s : State) (rows : List Row) (t : ℕ) (opens : Open c) (sound : Sound s.rows) (sound' : Sound rows) (keeps : Keeps s.rows rows) (fine : valid limit s.nodes ≡ true) (right : AllRight c s) where
  abbrev to : Entered
  to = added s.annotations t (written sh rows c.wild t s.nodes)

  abbrev ends : Entered → State
  ends e = record { rows = rows; nodes = e.nodes; annotations = e.list }

  added_right : t < length rows → Front s.nodes to.nodes → (written sh rows c.wild t s.nodes).root < length to.nodes → Means c rows to.nodes (annotation t (written sh rows c.wild t s.nodes).root) → AllRight c (ends to)
  added_right l f n m a h = by (cases_lt a (length s.annotations))
    where
      new : Annotation
      new = annotation t (written sh rows c.wild t s.nodes).root

      is_right : (x : Annotation) → x.ty < length rows → x.root < length to.nodes → Means c rows to.nodes x → annotation_at to.list a ≡ x → Rightly c (ends to) a
      is_right x p q r e = record {
        stands = subst (λ (y : Annotation). y.ty < length rows) (sym e) p;
        written = subst (λ (y : Annotation). y.root < length to.nodes) (sym e) q;
        means = subst (Means c rows to.nodes) (sym e) r;
      }

      by : (a < length s.annotations) ⊎ (length s.annotations ≤ a) → Rightly c (ends to) a
      by (inl k) =
          let o = right a k in
          let x = annotation_at s.annotations a in
          is_right x (omega (arith, o.stands, keeps_length s.rows rows keeps)) (omega (arith, o.written, front_length s.nodes to.nodes f))
          (kept c s.rows rows s.nodes to.nodes x sound keeps f o.stands o.written o.means)
          (get_or_append_left s.annotations (new ∷ []) no_annotation a k)
      by (inr k) = is_right new l n m (get_or_push s.annotations new no_annotation a (omega (arith, length-append s.annotations (new ∷ []))))

  pub entered_right : (e : Entered) → alloc_ty_lem sh limit rows c.wild t s.nodes s.annotations ≡ granted e → AllRight c (ends e) × (e.number ≡ length s.annotations)
  entered_right e h =
      let w = was_granted sh limit rows c.wild t s.nodes s.annotations e h in
      let r = right_by c sh limit rows t s.nodes opens sound' fine w.0.stands w.0.room in
      subst (λ (x : Entered). AllRight c (ends x) × (x.number ≡ length s.annotations)) (sym w.1) (added_right w.0.stands r.stand r.within r.means, refl)

-- texts entered in turn, and one more
pub enter_more : (e : Setting) (ss : List (List ℕ)) (b : List ℕ) (s t u : State) → EnterAll e ss s t → Enters e b t u → EnterAll e (ss ++ b ∷ []) s u
enter_more e [] b s t u p q = (u, subst (λ (x : State). Enters e b x u) (sym p) q, refl)
enter_more e (x ∷ ss) b s t u p q = (p.0, p.1, enter_more e ss b p.0 t u p.2 q)

-- a result that is no error
pub ok_of : {T E : Type 0} (P : T → Type 0) (Q : E → Type 0) (r : Result T E) → ((e : E) → r ≡ Err e → ⊥) → MatchResult r P Q → (x : T) × P x
ok_of P Q (Ok x) never h = (x, h)
ok_of P Q (Err e) never h = absurd (never e refl)

-- Marks and then Ranges mean the custom of the job that they were read of
abbrev pub customs_mean : Pair (Entries Mark) (Entries Range) → Custom
customs_mean p = paired (marks_mean (marks_in p.first)) (ranges_mean (ranges_in p.second))

pub customs_are : (s : List ℕ) (p : Pair (Entries Mark) (Entries Range)) {ms : Entries Mark} {rs : Entries Range} → p.first ≡ ms → p.second ≡ rs → marks_in ms ≡ job_marks s → ranges_in rs ≡ job_ranges s → customs_mean p ≡ job_custom s
customs_are s p f g m r = ap₂ (λ ms rs. paired (marks_mean ms) (ranges_mean rs)) (ap marks_in f ∙ m) (ap ranges_in g ∙ r)

-- the custom, the limit and the first state are the job's
stopped_of : (s : List ℕ) (k : Custom) (limit : ℕ) (s₀ : State) (bad : BadRecord) → k ≡ job_custom s → limit ≡ most_places → s₀ ≡ blank → Stopped (setting true limit k) s s₀ bad → Stopped (job_setting s) s blank bad
stopped_of s k limit s₀ bad e l b p =
    subst (λ (x : Custom). Stopped (setting true most_places x) s blank bad) e (subst (λ (m : ℕ). Stopped (setting true m k) s blank bad) l (subst (λ (x : State). Stopped (setting true limit k) s x bad) b p))

pub bad_of : (s : List ℕ) (k : Custom) (limit : ℕ) (s₀ : State) (bad : BadRecord) → k ≡ job_custom s → limit ≡ most_places → s₀ ≡ blank → Verified s → Stopped (setting true limit k) s s₀ bad → BadIn s bad
bad_of s k limit s₀ (Job f) e l b v p = absurd p.turned
bad_of s k limit s₀ (Text n f) e l b v p = (v, stopped_of s k limit s₀ (Text n f) e l b p)
bad_of s k limit s₀ (Compiling n why) e l b v p = (v, stopped_of s k limit s₀ (Compiling n why) e l b p)
