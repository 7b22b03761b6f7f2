use Rattle.std.proofs.Common.{◌≤◌}
use Rattle.memory.specs.Keeping.{OnlyWordsChange}
use Rattle.stepper.specs.Memories.{setting_of}
use Rattle.pipeline.specs.Clock.{machine}
use Rattle.pipeline.proofs.Placing.{Sofar}
use Rattle.pipeline.proofs.state.Core.run.Given as goal

abbrev pub invariant-loop-made : goal.invariant-loop-made
invariant-loop-made g l =
    Sofar (setting_of g.S.Store g.M.Store g.M.Memory l.store l.initial.memory) (machine l.initial.self (g.M.Store.word_at l.initial.memory)) l.budget l.initial.list l.made l.written (machine l.self (g.M.Store.word_at l.memory)) l.list
    × OnlyWordsChange g.M.Store g.M.Memory l.initial.memory l.memory
    × (l.budget ≤ 1000000)
