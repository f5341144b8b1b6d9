-- The bytes that are written of a report. Assumes nothing.
use Rattle.std.specs.Prelude.{◌≡◌, ℕ, Bool, cond, List, [], ◌∷◌, ◌++◌, Ok, Err, vec_items, codes, decimal, Result}
use Rattle.values.specs.Refusals.{number}
use Rattle.values.specs.declared.refusal.Refusal.{Refusal}
use Rattle.job.specs.declared.fault.Report.{Report}
use Rattle.report.specs.Reports.{Reports, bad_says}
use Rattle.report.specs.ByCalls.{ReportsByCalls}
use Rattle.report.specs.declared.answer.Answer.{Answer}
use Rattle.report.specs.declared.reported.Reported.{Reported}
use Rattle.report.specs.declared.reported.Reported.TheVariants.{Bad, Answers}

-- yes, no, or the number of the reason to refuse
abbrev pub says_text : Result Bool Refusal → List ℕ
says_text (Ok is_member) = cond is_member (codes "yes") (codes "no")
says_text (Err why) = codes "refused " ++ decimal (number why)

-- the annotation, the value and the answer
abbrev pub answer_text : Answer → List ℕ
answer_text a = decimal a.annotation ++ (codes " " ++ (decimal a.value ++ (codes " " ++ says_text a.says)))

-- the record, the number of the reason, and the byte
abbrev pub bad_text : Report → List ℕ
bad_text b = codes "bad " ++ (decimal b.«record» ++ (codes " " ++ (decimal b.number ++ (codes " " ++ decimal b.byte))))

-- a line for each answer, each with a line feed
abbrev pub answer_lines : List Answer → List ℕ
answer_lines [] = []
answer_lines (a ∷ rest) = (answer_text a ++ (10 ∷ [])) ++ answer_lines rest

abbrev pub report_lines : Reported → List ℕ
report_lines (Bad bad) = bad_text (bad_says bad) ++ (10 ∷ [])
report_lines (Answers xs) = answer_lines (vec_items xs)

-- the text is what is written of the report of the bytes s
pub record Lines (s text : List ℕ) : Type 0 where
  pub reported : Reported
  pub right : Reports s reported
  pub by_calls : ReportsByCalls s reported
  pub written : text ≡ report_lines reported
