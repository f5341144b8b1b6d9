use Rattle.std.proofs.Common.{◌≡◌, ◌-◌, List, ℕ, [], ◌∷◌, ◌++◌, length, ap, ◌∙◌, arith}
use Rattle.compiling.specs.Code.{takes}
use Rattle.compiling.proofs.Takes.{part_is, step_can, step_exec}
use Rattle.type_compiled.proofs.scratch.Scratch.step.Goals as goal

pub write_op-n-requires : goal.write_op-n-requires
write_op-n-requires g c =
    let rs = c.args.self.now.results.items in
    let len_is : c.len.result ≡ length rs = omega (arith, c.len.ensures, c.args.self.now.results.ok.0) in
    step_can (g.S.TypeMatcherAlloc.limit c.args.store.now) c.args.op (g.S.TypeMatcherAlloc.nodes c.args.store.now) rs _
    (part_is c.as_slice.result.now rs c.len.result c.takes.result (takes c.args.op) c.as_slice.ensures.value len_is c.takes.ensures)
    c.requires.grants

pub returns-clause-state : goal.returns-clause-state
returns-clause-state g c =
    let rs = c.args.self.now.results.items in
    let len_is : c.len.result ≡ length rs = omega (arith, c.len.ensures, c.args.self.now.results.ok.0) in
    let rest_is : c.len.result - c.takes.result ≡ length rs - takes c.args.op = omega (arith, c.takes.ensures) in
    step_exec g.S.TypeMatcherAlloc.sharing c.args.op (g.S.TypeMatcherAlloc.nodes c.args.store.now) (g.S.TypeMatcherAlloc.nodes c.write_op-n.new.store) rs c.push_reserved.new.self.items _ c.write_op-n.result (c.len.result - c.takes.result)
    (part_is c.as_slice.result.now rs c.len.result c.takes.result (takes c.args.op) c.as_slice.ensures.value len_is c.takes.ensures)
    rest_is c.write_op-n.ensures.wrote
    (c.push_reserved.ensures.items ∙ ap (λ (x : List ℕ). x ++ c.write_op-n.result ∷ []) c.truncate.ensures.items)
