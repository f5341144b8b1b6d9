use Rattle.std.proofs.Common.{◌≡◌, length, take}
use Rattle.job.specs.Held.{job_bytes}
use Rattle.job_format.specs.Contents.{job_texts}
use Rattle.report.specs.Entering.{EnterAll, AllRight}
use Rattle.report.specs.Held.{state_of, setting}
use Rattle.report.proofs.tables.Tables.enter_all.Given as goal

abbrev pub invariant-loop-text : goal.invariant-loop-text
invariant-loop-text g l =
    EnterAll (setting g.S.TypeMatcherAlloc.sharing (g.S.TypeMatcherAlloc.limit l.initial.self.store) (g.C.TyCustom.custom l.customs)) (take (length l.yielded) (job_texts (job_bytes l.job))) (state_of g.S.TypeMatcherAlloc.nodes l.initial.self) (state_of g.S.TypeMatcherAlloc.nodes l.self)
    × AllRight (g.C.TyCustom.custom l.customs) (state_of g.S.TypeMatcherAlloc.nodes l.self)
    × (g.S.TypeMatcherAlloc.limit l.self.store ≡ g.S.TypeMatcherAlloc.limit l.initial.self.store)
