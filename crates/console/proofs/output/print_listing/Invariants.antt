-- The lines so far, the machine after them, and that no clock changes a tag or what is writable.
use Rattle.std.proofs.Common.{◌≡◌}
use Rattle.std.specs.Io.KnownBytes.{Appends}
use Rattle.memory.specs.Keeping.{OnlyWordsChange}
use Rattle.stepper.specs.Memories.{setting_of}
use Rattle.pipeline.specs.Clock.{machine}
use Rattle.console.specs.Listing.{after_calls, listing}
use Rattle.console.proofs.output.print_listing.Given as goal

abbrev pub invariant-loop-clock : goal.invariant-loop-clock
invariant-loop-clock g l =
    let s = setting_of g.S.Store g.M.Store g.M.Memory l.store l.initial.memory in
    let m = machine l.initial.core (g.M.Store.word_at l.initial.memory) in
    record {
      lines : Appends (g.W.Write.contents l.initial.out) (g.W.Write.contents l.out) (listing s m l.clock);
      goes : machine l.core (g.M.Store.word_at l.memory) ≡ after_calls s m l.clock;
      rest : OnlyWordsChange g.M.Store g.M.Memory l.initial.memory l.memory;
    }
