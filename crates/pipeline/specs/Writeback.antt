-- Writeback: the finished event leaves the core, and its register is written.
use Rattle.std.specs.Prelude.{Bool, true, false, Some, None, Option}
use Rattle.stepper.specs.declared.event.Event.{Event}
use Rattle.stepper.specs.declared.event.Kind.{Kind}
use Rattle.stepper.specs.declared.event.Kind.TheVariants.{Done, Skipped, Stopped}
use Rattle.stepper.specs.declared.event.RegisterWrite.{RegisterWrite}
use Rattle.pipeline.specs.declared.slots.WritebackSlot.{WritebackSlot}

abbrev pub handed_out : Option WritebackSlot → Option Event
handed_out None = None
handed_out (Some slot) = Some slot.event

abbrev pub register_of : Option WritebackSlot → Option RegisterWrite
register_of None = None
register_of (Some slot) = slot.event.register

abbrev pub is_stop : Kind → Bool
is_stop Done = false
is_stop Skipped = false
is_stop (Stopped why) = true

abbrev pub hands_out_stop : Option WritebackSlot → Bool
hands_out_stop None = false
hands_out_stop (Some slot) = is_stop slot.event.kind
