-- What is reported of a job: its answers, or its first bad record. Assumes nothing.
use Rattle.std.specs.Prelude.{◌≡◌, ℕ, Bool, true, cond, List, map, length, take, Ok, Err, vec_items, Result, nat_lt}
use Rattle.values.specs.Refusals.{number}
use Rattle.values.specs.declared.refusal.Refusal.{Refusal}
use Rattle.values.specs.declared.refusal.Refusal.TheVariants.{NoNode, NoValue}
use Rattle.custom.specs.Customs.{Custom, paired}
use Rattle.custom.specs.Entries.{marks_mean, ranges_mean}
use Rattle.custom.specs.Worlds.{World, world}
use Rattle.membership.specs.Rows.{Row}
use Rattle.membership.specs.Members.{member}
use Rattle.compiling.specs.Outcomes.{alloc_ty_lem, refused}
use Rattle.type_compiled.specs.Compiled.{annotation_at}
use Rattle.annotation.specs.Evaluated.{ReadAs}
use Rattle.annotation.specs.Faults.{code_of, byte_of}
use Rattle.job_format.specs.Order.{Verified}
use Rattle.job_format.specs.Contents.{job_cells, job_marks, job_ranges, job_texts, job_queries, TextAt}
use Rattle.job_format.specs.declared.query.Query.{Query}
use Rattle.job.specs.Judged.{Judged, fault_says}
use Rattle.job.specs.declared.fault.Report.{Report}
use Rattle.report.specs.Entering.{State, blank, Setting, EnterAll}
use Rattle.report.specs.declared.answer.Answer.{Answer}
use Rattle.report.specs.declared.bad.BadRecord.{BadRecord}
use Rattle.report.specs.declared.bad.BadRecord.TheVariants.{Job, Text, Compiling}
use Rattle.report.specs.declared.reported.Reported.{Reported}
use Rattle.report.specs.declared.reported.Reported.TheVariants.{Bad, Answers}

-- the custom of a job: its Marks, then its Ranges
abbrev pub job_custom : List ℕ → Custom
job_custom s = paired (marks_mean (job_marks s)) (ranges_mean (job_ranges s))

-- texts are compiled into a store that shares, of 8,192 places
abbrev pub most_places : ℕ
most_places = 8192

abbrev pub job_setting : List ℕ → Setting
job_setting s = record { shares = true; limit = most_places; wild = (job_custom s).wild }

abbrev pub job_world : List ℕ → World
job_world s = world (job_cells s) (job_custom s)

-- whether the value v is a member of the annotation a; 2 for a missing annotation, then 3 for a missing value
abbrev pub checks : State → World → ℕ → ℕ → Result Bool Refusal
checks t w a v =
    cond (nat_lt a (length t.annotations))
    (cond (nat_lt v (length w.cells)) (Ok (member t.rows w (annotation_at t.annotations a).ty v)) (Err NoValue))
    (Err NoNode)

abbrev pub answered : State → World → Query → Answer
answered t w q = record { annotation = q.annotation; value = q.value; says = checks t w q.annotation q.value }

-- the one definition of a bad record: its number, the number of the reason, and the byte of a text's fault, else 0
abbrev pub bad_says : BadRecord → Report
bad_says (Job f) = fault_says f
bad_says (Text n f) = record { «record» = n; number = code_of f; byte = byte_of f }
bad_says (Compiling n why) = record { «record» = n; number = number why; byte = 0 }

-- why the text b of the record n is turned down, where the texts before it left the state t
abbrev pub Turned : Setting → State → ℕ → List ℕ → BadRecord → Type 0
Turned e t n b (Job f) = ⊥
Turned e t n b (Text m f) = (m ≡ n) × ((rows : List Row) × ReadAs b t.rows rows (Err f))
Turned e t n b (Compiling m why) =
    (m ≡ n) × ((rows : List Row) × (ty : ℕ) × ReadAs b t.rows rows (Ok ty) × (alloc_ty_lem e.shares e.limit rows e.wild ty t.nodes t.annotations ≡ refused (number why)))

-- a text of the job s is turned down, after the texts before it were entered
pub record Stopped (e : Setting) (s : List ℕ) (from : State) (bad : BadRecord) : Type 0 where
  pub number : ℕ
  pub place : ℕ
  pub bytes : List ℕ
  pub there : State
  pub text : TextAt s place number bytes
  pub before : EnterAll e (take place (job_texts s)) from there
  pub turned : Turned e there number bytes bad

-- the first bad record of the bytes s
abbrev pub BadIn : List ℕ → BadRecord → Type 0
BadIn s (Job f) = Judged s (Err f)
BadIn s (Text n f) = Verified s × Stopped (job_setting s) s blank (Text n f)
BadIn s (Compiling n why) = Verified s × Stopped (job_setting s) s blank (Compiling n why)

-- the answers to the queries of the job s, where its texts came to the state t
pub record Answered (s : List ℕ) (given : List Answer) : Type 0 where
  pub good : Verified s
  pub texts : State
  pub entered : EnterAll (job_setting s) (job_texts s) blank texts
  pub answers : given ≡ map (answered texts (job_world s)) (job_queries s)

-- what is reported of the bytes s
abbrev pub Reports : List ℕ → Reported → Type 0
Reports s (Bad bad) = BadIn s bad
Reports s (Answers xs) = Answered s (vec_items xs)
