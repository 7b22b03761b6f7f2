-- A routine from its start: the world after any number of steps, and the events so far.
use Rattle.std.specs.Prelude.{◌≡◌, ℕ, zero, suc, ◌≤◌, cond, List, [], ◌∷◌, ◌++◌, Ok, Err, Result}
use Rattle.memory.specs.Meaning.{Words}
use Rattle.stepper.specs.declared.event.Event.{Event}
use Rattle.stepper.specs.declared.stepper.HasStopped.{HasStopped}
use Rattle.stepper.specs.Step.{Setting, World, turn, start}

module _ (s : Setting) where
  -- what a step answers: its event, or that the stepper has stopped
  abbrev pub answered : World → Result Event HasStopped
  answered w = cond w.stepper.stopped (Err (record {})) (Ok (turn s w).event)

  -- the world after a step; once stopped it stays as it is
  abbrev pub advance : World → World
  advance w = cond w.stepper.stopped w (turn s w).world

  -- the event of a step, if there is one
  abbrev pub event_of : World → List Event
  event_of w = cond w.stepper.stopped [] ((turn s w).event ∷ [])

  -- the world after n steps, from data words
  abbrev pub after_steps : Words → ℕ → World
  after_steps words zero = record { stepper = start; words = words }
  after_steps words (suc n) = advance (after_steps words n)

  -- the first n events; fewer if the routine stops before, and then the stop is the last
  abbrev pub first_events : Words → ℕ → List Event
  first_events words zero = []
  first_events words (suc n) = first_events words n ++ event_of (after_steps words n)

-- what one step promises: its answer, and the world after it
pub record Stepped (s : Setting) (before : World) (answer : Result Event HasStopped) (after : World) : Type 0 where
  pub answers : answer ≡ answered s before
  pub goes : after ≡ advance s before

-- what a run from the start promises: its events, and the data words after it
pub record Ran (s : Setting) (words : Words) (limit : ℕ) (events : List Event) (after : Words) : Type 0 where
  pub gives : events ≡ first_events s words limit
  pub leaves : after ≡ (after_steps s words limit).words

-- a run that was given up between two steps
pub record GivenUp (s : Setting) (words : Words) (limit : ℕ) (after : Words) : Type 0 where
  pub steps : ℕ
  pub within : steps ≤ limit
  pub leaves : after ≡ (after_steps s words steps).words
