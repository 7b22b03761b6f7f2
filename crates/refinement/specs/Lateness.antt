-- The core is the stepper running late: by how much follows from the stepper's events alone.
use Rattle.std.specs.Prelude.{◌≡◌, ℕ, ◌+◌, ◌-◌, ◌≤◌, List, map, length, is_some, slice_index_or}
use Rattle.memory.specs.Meaning.{Words}
use Rattle.stepper.specs.Alike.{SameMeanings}
use Rattle.stepper.specs.Step.{Setting}
use Rattle.stepper.specs.Run.{after_steps, first_events}
pub use Rattle.pipeline.specs.Calls.{tick, handed_by}
use Rattle.pipeline.specs.Calls.{onward, handed_on}
use Rattle.pipeline.specs.Clock.{Machine, machine, reset}
use Rattle.pipeline.specs.declared.clock.Handed.{Handed}
use Rattle.refinement.specs.ClockLaw.{bit, clock_of}

module _ (s : Setting) (words : Words) where
  -- the machine t clocks after reset, and what was handed out until then
  abbrev pub after_clocks : ℕ → Machine
  after_clocks t = onward s (machine reset words) t

  abbrev pub handed_out : ℕ → List Handed
  handed_out t = handed_on s (machine reset words) t

-- event number k, counted from 1, was handed out in clock c
pub record HandedIn (handed : List Handed) (k c : ℕ) : Type 0 where
  pub number : (1 ≤ k) × (k ≤ length handed)
  pub clock : slice_index_or (map (λ h. h.clock) handed) (k - 1) 0 ≡ c

-- the stepper has an event number k
pub record HasEvent (s : Setting) (words : Words) (k : ℕ) : Type 0 where
  pub number : 1 ≤ k
  pub there : length (first_events s words k) ≡ k

-- a machine and what it has handed out since reset, beside a stepper on memories of the same meanings
pub record RunsLate (s : Setting) (words : Words) (m : Machine) (handed : List Handed) : Type 0 where
  -- the events are the stepper's first ones, in order, the stop included
  pub events : map (λ h. h.event) handed ≡ first_events s words (length handed)
  -- registers, data memory and flags are those of the stepper, some events on
  pub registers : m.core.registers.values ≡ (after_steps s words (length handed)).stepper.registers.values
  pub memory : m.words ≡ (after_steps s words (length handed + bit (is_some m.core.slots.writeback))).words
  pub flags : m.core.flags ≡ (after_steps s words (length handed + bit (is_some m.core.slots.writeback) + bit (is_some m.core.slots.memory))).stepper.flags
  -- a clock that was made hands out an event exactly if its number is the one that the clock law gives
  pub clocks : (k c : ℕ) → HasEvent s words k → c ≤ m.core.clocks → (HandedIn handed k c → c ≡ clock_of (first_events s words k)) × (c ≡ clock_of (first_events s words k) → HandedIn handed k c)

-- after any number of clocks from reset
abbrev pub CoreRunsLate : Type 0
CoreRunsLate = (s : Setting) (words : Words) (t : ℕ) → RunsLate s words (after_clocks s words t) (handed_out s words t)

-- and so beside every stepper whose program and data mean the same at the start, whatever keeps them
abbrev pub RunsLateBeside : Setting → Words → Machine → List Handed → Type 0
RunsLateBeside s words m handed =
    (beside : Setting) (beside_words : Words) → SameMeanings s beside words beside_words → RunsLate beside beside_words m handed
