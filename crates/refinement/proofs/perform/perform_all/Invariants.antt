use Rattle.std.proofs.Common.{take, vec_items}
use Rattle.memory.specs.Keeping.{OnlyWordsChange}
use Rattle.stepper.specs.Memories.{setting_of}
use Rattle.pipeline.specs.Clock.{machine, reset}
use Rattle.refinement.specs.Performing.{AllPerformed}
use Rattle.refinement.proofs.perform.perform_all.Given as goal

abbrev pub invariant-loop-call : goal.invariant-loop-call
invariant-loop-call g l =
    AllPerformed (setting_of g.S.Store g.M.Store g.M.Memory l.store l.initial.memory) (machine reset (g.M.Store.word_at l.initial.memory)) (take l.call-index l.calls) (vec_items l.answers) (vec_items l.handed) (machine l.core (g.M.Store.word_at l.memory))
    × OnlyWordsChange g.M.Store g.M.Memory l.initial.memory l.memory
