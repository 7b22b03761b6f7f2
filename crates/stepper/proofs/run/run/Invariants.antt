use Rattle.std.proofs.Common.{vec_items}
use Rattle.memory.specs.Keeping.{OnlyWordsChange}
use Rattle.stepper.specs.Memories.{setting_of}
use Rattle.stepper.specs.Step.{world}
use Rattle.stepper.proofs.Stays.{Sofar}
use Rattle.stepper.proofs.run.run.Given as goal

abbrev pub invariant-loop-taken : goal.invariant-loop-taken
invariant-loop-taken g l =
    Sofar (setting_of g.S.Store g.M.Store g.M.Memory l.store l.initial.memory) (g.M.Store.word_at l.initial.memory) l._taken (vec_items l.events) (world l.stepper (g.M.Store.word_at l.memory))
    × OnlyWordsChange g.M.Store g.M.Memory l.initial.memory l.memory
