-- Memory makes the access of a done load or store and fills Writeback with the event.
use Rattle.std.specs.Prelude.{ℕ, Bool, Some, None, Ok, Err, Option, Result}
use Rattle.memory.specs.Meaning.{Words, Tags}
use Rattle.memory.specs.declared.fault.Fault.{Fault}
use Rattle.stepper.specs.Access.{accessed, words_after}
use Rattle.stepper.specs.declared.access.Effect.{Effect}
use Rattle.stepper.specs.declared.event.Event.{Event}
use Rattle.stepper.specs.declared.event.Kind.{Kind}
use Rattle.stepper.specs.declared.event.Kind.TheVariants.{Done, Skipped, Stopped}
use Rattle.stepper.specs.declared.event.Stop.{Stop}
use Rattle.stepper.specs.declared.event.Stop.TheVariants.{Access}
use Rattle.pipeline.specs.declared.slots.MemorySlot.{MemorySlot}
use Rattle.pipeline.specs.declared.slots.Pending.{Pending}
use Rattle.pipeline.specs.declared.slots.Pending.TheVariants.{Done as ToDo, Skipped as Passed, Stopped as Halted}
use Rattle.pipeline.specs.declared.slots.WritebackSlot.{WritebackSlot}

-- nothing written, nothing stored
abbrev pub no_effect : Effect
no_effect = record { register = None; store = None }

-- a done instruction, by what the data memory answered: an access fault is a stop
abbrev pub accessed_or : Result Effect Fault → Result (Kind × Effect) Stop
accessed_or (Ok effect) = Ok (Done, effect)
accessed_or (Err fault) = Err (Access fault)

-- the event of the slot's instruction
abbrev pub event_of : MemorySlot → Result (Kind × Effect) Stop → Event
event_of slot (Ok end) =
    record { address = slot.address; word = slot.word; kind = end.0; flags = slot.flags; register = end.1.register; store = end.1.store }
event_of slot (Err why) =
    record { address = slot.address; word = slot.word; kind = Stopped why; flags = slot.flags; register = None; store = None }

module _ (words : Words) (tags : Tags) (writable : ℕ → Bool) where
  -- what is pending comes to a kind and an effect, or to a stop
  abbrev pub completed : Pending → Result (Kind × Effect) Stop
  completed (ToDo work) = accessed_or (accessed words tags writable work)
  completed Passed = Ok (Skipped, no_effect)
  completed (Halted why) = Err why

  abbrev pub words_of : Pending → Words
  words_of (ToDo work) = words_after words tags writable work
  words_of Passed = words
  words_of (Halted why) = words

  -- the Writeback slot that Memory fills, and the data words after it
  abbrev pub to_writeback : Option MemorySlot → Option WritebackSlot
  to_writeback None = None
  to_writeback (Some slot) = Some (record { event = event_of slot (completed slot.pending) })

  abbrev pub words_left : Option MemorySlot → Words
  words_left None = words
  words_left (Some slot) = words_of slot.pending
