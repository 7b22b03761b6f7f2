-- The word of an event, and what it means.
use Rattle.std.specs.Prelude.{Bool, true, false, cond, None, Option}
use Rattle.isa.specs.Decoding.{decoded}
use Rattle.isa.specs.declared.instruction.Instruction.{Instruction}
use Rattle.stepper.specs.declared.event.Event.{Event}
use Rattle.stepper.specs.declared.event.Kind.{Kind}
use Rattle.stepper.specs.declared.event.Kind.TheVariants.{Done, Skipped, Stopped}
use Rattle.stepper.specs.declared.event.Stop.TheVariants.{Fetch, Outside, Access}

-- a word could be read: every event but a stop at fetching
abbrev pub was_read : Kind → Bool
was_read Done = true
was_read Skipped = true
was_read (Stopped (Fetch fault)) = false
was_read (Stopped Outside) = true
was_read (Stopped (Access fault)) = true

-- the instruction of an event, if its word is one
abbrev pub instruction_of : Event → Option Instruction
instruction_of e = cond (was_read e.kind) (decoded e.word) None
