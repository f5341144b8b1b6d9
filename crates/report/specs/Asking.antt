-- Queries, asked of a working set by calls that are performed in turn. Assumes nothing.
use Rattle.std.specs.Prelude.{◌≡◌, Bool, List, [], ◌∷◌, map, Result}
use Rattle.values.specs.declared.refusal.Refusal.{Refusal}
use Rattle.custom.specs.Customs.{Custom}
use Rattle.runs.specs.Acts.{Act, check_value, Answer as Told, check_told}
use Rattle.runs.specs.States.{State}
use Rattle.runs.specs.Throughout.{Ran}
use Rattle.job_format.specs.declared.query.Query.{Query}
use Rattle.report.specs.declared.answer.Answer.{Answer}

-- the call that asks a query, and what an answer tells of its outcome
abbrev pub asks : Query → Act
asks q = check_value q.annotation q.value

abbrev pub tells : Answer → Told
tells a = check_told a.says

-- the query that an answer belongs to
abbrev pub query_of : Answer → Query
query_of a = record { annotation = a.annotation; value = a.value }

-- the outcome of a check; the outcomes of checks
abbrev pub OfCheck : Told → Type 0
OfCheck o = (r : Result Bool Refusal) × (o ≡ check_told r)

abbrev pub OfChecks : List Told → Type 0
OfChecks [] = Unit {0}
OfChecks (o ∷ os) = OfCheck o × OfChecks os

-- each query is asked of the set s by a check, in turn; the answers are the outcomes, and the law of every run of calls holds
pub record Asked (c : Custom) (shares : Bool) (s : State) (queries : List Query) (given : List Answer) : Type 0 where
  pub of_queries : map query_of given ≡ queries
  pub left : State
  pub ran : Ran c shares s (map asks queries) (map tells given) left
