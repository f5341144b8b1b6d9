-- The answers of a job as outcomes of calls on a working set. Assumes nothing.
use Rattle.std.specs.Prelude.{◌≡◌, ℕ, true, List, ◌++◌, map, vec_items}
use Rattle.runs.specs.States.{State as SetState}
use Rattle.runs.specs.Runs.{Reaches}
use Rattle.runs.specs.Throughout.{Throughout}
use Rattle.job_format.specs.Order.{Verified}
use Rattle.job_format.specs.Contents.{job_cells, job_texts, job_queries}
use Rattle.report.specs.Entering.{State, blank, EnterAll}
use Rattle.report.specs.Held.{set_over}
use Rattle.report.specs.Asking.{Asked}
use Rattle.report.specs.Reports.{answered, job_custom, job_world, job_setting, most_places}
use Rattle.report.specs.declared.answer.Answer.{Answer}
use Rattle.report.specs.declared.reported.Reported.{Reported}
use Rattle.report.specs.declared.reported.Reported.TheVariants.{Bad, Answers}

-- the working set of the job s once its texts came to the state t; it is blank where no text is entered
abbrev pub job_set : List ℕ → State → SetState
job_set s t = set_over (job_cells s) most_places t

-- the answers to the queries of the job s: calls on a blank working set lead to the set that its texts leave, each query is one more call,
-- performed on that set, the law of every run holds throughout both, and an answer is yes just for a member
pub record AnsweredByCalls (s : List ℕ) (given : List Answer) : Type 0 where
  pub good : Verified s
  pub texts : State
  pub entered : EnterAll (job_setting s) (job_texts s) blank texts
  pub calls : Reaches (job_custom s) true (job_set s blank) (job_set s texts)
  pub asked : Asked (job_custom s) true (job_set s texts) (job_queries s) given
  pub lawful : Throughout (job_custom s) true (job_set s blank) (calls.steps ++ asked.ran.steps)
  pub answers : given ≡ map (answered texts (job_world s)) (job_queries s)

-- answers that are reported of the bytes s are outcomes of calls
abbrev pub ReportsByCalls : List ℕ → Reported → Type 0
ReportsByCalls s (Bad bad) = Unit {0}
ReportsByCalls s (Answers xs) = AnsweredByCalls s (vec_items xs)
