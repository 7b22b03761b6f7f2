-- A line of the listing. A text is its bytes.
use Rattle.std.specs.Prelude.{ℕ, List, [], ◌∷◌, ◌++◌, Some, None, codes, decimal, Option}
use Rattle.isa.specs.Hexadecimal.{hex_text}
use Rattle.stepper.specs.Events.{stop_number}
use Rattle.stepper.specs.declared.event.Kind.{Kind}
use Rattle.stepper.specs.declared.event.Kind.TheVariants.{Done, Skipped, Stopped}
use Rattle.stepper.specs.declared.event.Stop.{Stop}
use Rattle.pipeline.specs.declared.calls.SlotAddresses.{SlotAddresses}
use Rattle.pipeline.specs.declared.clock.Handed.{Handed}

-- the address in a slot, or a dash for an empty one
abbrev pub address_field : Option ℕ → List ℕ
address_field None = codes "-"
address_field (Some address) = hex_text address

-- the cause of a stop
abbrev pub stop_mark : Stop → List ℕ
stop_mark stop = codes "!" ++ decimal (stop_number stop)

-- behind an event's address: nothing, but for a stop
abbrev pub cause_mark : Kind → List ℕ
cause_mark Done = []
cause_mark Skipped = []
cause_mark (Stopped stop) = stop_mark stop

-- what the clock handed out, or a dash
abbrev pub event_field : Option Handed → List ℕ
event_field None = codes "-"
event_field (Some handed) = hex_text handed.event.address ++ cause_mark handed.event.kind

-- a field behind another
abbrev pub spaced : List ℕ → List ℕ
spaced field = codes " " ++ field

-- the number of the clock, the slots after it, the event, and the byte 0A
abbrev pub line_text : ℕ → SlotAddresses → Option Handed → List ℕ
line_text clock slots handed =
    decimal clock
    ++ spaced (address_field slots.decode)
    ++ spaced (address_field slots.execute)
    ++ spaced (address_field slots.memory)
    ++ spaced (address_field slots.writeback)
    ++ spaced (event_field handed)
    ++ 10 ∷ []
