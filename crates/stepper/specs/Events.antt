-- The numbers by which users know what an event says.
use Rattle.std.specs.Prelude.{ℕ, Some, None, Option}
use Rattle.memory.specs.declared.fault.Fault.{Fault}
use Rattle.stepper.specs.declared.event.Stop.{Stop}
use Rattle.stepper.specs.declared.event.Stop.TheVariants.{Fetch, Outside, Access}
use Rattle.stepper.specs.declared.event.Kind.{Kind}
use Rattle.stepper.specs.declared.event.Kind.TheVariants.{Done, Skipped, Stopped}

abbrev pub stop_number : Stop → ℕ
stop_number (Fetch fault) = 20
stop_number Outside = 21
stop_number (Access fault) = 22

abbrev pub stop_fault : Stop → Option Fault
stop_fault (Fetch fault) = Some fault
stop_fault Outside = None
stop_fault (Access fault) = Some fault

abbrev pub kind_number : Kind → ℕ
kind_number Done = 0
kind_number Skipped = 1
kind_number (Stopped stop) = 2

-- the cause of a stop, and 0 for what is no stop
abbrev pub cause_number : Kind → ℕ
cause_number Done = 0
cause_number Skipped = 0
cause_number (Stopped stop) = stop_number stop

abbrev pub fault_of : Kind → Option Fault
fault_of Done = None
fault_of Skipped = None
fault_of (Stopped stop) = stop_fault stop
