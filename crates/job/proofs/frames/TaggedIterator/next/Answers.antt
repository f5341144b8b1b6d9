use Rattle.std.proofs.Common.{rules, tests}
use Rattle.job.specs.Walked.{numbered_of, numbered_left}
use Rattle.job_format.specs.Tags.{tag_number}
use Rattle.job.proofs.Steps.{finds, progress}
use Rattle.job.proofs.frames.TaggedIterator.next.Goals as goal

pub returns-clause-steps : goal.returns-clause-steps
returns-clause-steps c = finds (tag_number c.args.self.now.tag) _ _ (λ x b q k. search (rules, tests)) c.args.self.now.records c.find.new.self c.find.result c.find.ensures.ran

pub returns-clause-goes : goal.returns-clause-goes
returns-clause-goes c = progress _ (λ _. tt) numbered_of numbered_left _ _ _ (finds (tag_number c.args.self.now.tag) _ _ (λ x b q k. search (rules, tests)) c.args.self.now.records c.find.new.self c.find.result c.find.ensures.ran)
