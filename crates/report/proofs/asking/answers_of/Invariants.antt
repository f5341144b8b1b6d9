use Rattle.std.proofs.Common.{◌≡◌, ◌≤◌, map, length, take, vec_items, vec_len, vec_capacity}
use Rattle.working_set.specs.Words.{told}
use Rattle.report.specs.Asking.{tells, query_of}
use Rattle.report.proofs.asking.answers_of.Given as goal

abbrev pub invariant-loop-query : goal.invariant-loop-query
invariant-loop-query l =
    (map query_of (vec_items l.all) ≡ take (length l.yielded) l.queries)
    × (map tells (vec_items l.all) ≡ map told (take (length l.yielded) l.outcomes))
    × (vec_len l.all ≡ length l.yielded)
    × (length l.queries ≤ vec_capacity l.all)
