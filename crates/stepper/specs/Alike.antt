-- Two routines over memories of the same meaning. How the memories are kept plays no part in what a routine does.
use Rattle.std.specs.Prelude.{◌≡◌, ℕ, List}
use Rattle.memory.specs.Meaning.{Words}
use Rattle.stepper.specs.declared.event.Event.{Event}
use Rattle.stepper.specs.Step.{Setting}
use Rattle.stepper.specs.Run.{Ran}

-- the two programs have the same words and tags, the two data memories the same words, tags and leave to write
pub record SameMeanings (s s' : Setting) (words words' : Words) : Type 0 where
  pub programs : s.program ≡ s'.program
  pub program_tags : s.program_tags ≡ s'.program_tags
  pub data_words : words ≡ words'
  pub data_tags : s.data_tags ≡ s'.data_tags
  pub writable : s.writable ≡ s'.writable

-- what holds after both routines ran under the same limit: the same events, and the same data words
pub record SameRuns (events events' : List Event) (after after' : Words) : Type 0 where
  pub same_events : events ≡ events'
  pub same_words : after ≡ after'

-- each is a run of its own, and the same meanings make the same runs
pub record BothRan (s s' : Setting) (words words' : Words) (limit : ℕ) (events events' : List Event) (after after' : Words) : Type 0 where
  pub first : Ran s words limit events after
  pub second : Ran s' words' limit events' after'
  pub alike : SameMeanings s s' words words' → SameRuns events events' after after'
