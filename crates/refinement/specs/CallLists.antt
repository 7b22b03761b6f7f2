-- Calls on one core, in any order: what each was asked and answered, and where a list of them leads.
use Rattle.std.specs.Prelude.{◌≡◌, ℕ, List, [], ◌∷◌, ◌++◌, take, Ok, Err, Result}
use Rattle.std.specs.Option.{option_to_list}
use Rattle.std.specs.List.{flat_map}
use Rattle.memory.specs.Meaning.{Words}
use Rattle.isa.specs.declared.flags.Flags.{Flags}
use Rattle.stepper.specs.Registers.{cell_of}
use Rattle.stepper.specs.Step.{Setting}
use Rattle.stepper.specs.declared.registers.UnknownRegister.{UnknownRegister}
use Rattle.pipeline.specs.Calls.{addresses_in, Clocks, RunAnswers}
use Rattle.pipeline.specs.Clock.{Machine, machine, reset}
use Rattle.pipeline.specs.declared.calls.Ran.{Ran}
use Rattle.pipeline.specs.declared.calls.Refusal.{Refusal}
use Rattle.pipeline.specs.declared.calls.SlotAddresses.{SlotAddresses}
use Rattle.pipeline.specs.declared.clock.Handed.{Handed}
use Rattle.pipeline.specs.declared.clock.Tick.{Tick}
use Rattle.refinement.specs.Lateness.{RunsLateBeside}

-- a call that was made: what was asked, and what was answered
pub data Made : Type 0 where
  ClockMade : Result Tick Refusal → Made
  -- asked with a budget and a list; answered with the list as it was left
  RunMade : ℕ → List Handed → Result Ran Refusal → List Handed → Made
  -- asked with the register's number
  RegisterMade : ℕ → Result ℕ UnknownRegister → Made
  FlagsMade : Flags → Made
  SlotsMade : SlotAddresses → Made

-- what the contract of the call promises, for the machine before it and the machine after it
abbrev pub Promised : Setting → Machine → Made → Machine → Type 0
Promised s before (ClockMade answer) after = Clocks s before answer after
Promised s before (RunMade budget list answer filled) after = RunAnswers s before budget list answer after filled
Promised s before (RegisterMade number answer) after = (answer ≡ cell_of before.core.registers.values number) × (after ≡ before)
Promised s before (FlagsMade answer) after = (answer ≡ before.core.flags) × (after ≡ before)
Promised s before (SlotsMade answer) after = (answer ≡ addresses_in before.core.slots) × (after ≡ before)

-- the events that clock answers and that run writes into its list
abbrev pub clock_hands : Result Tick Refusal → List Handed
clock_hands (Ok tick) = option_to_list tick.handed
clock_hands (Err why) = []

abbrev pub run_hands : Result Ran Refusal → List Handed → List Handed
run_hands (Ok ran) filled = take ran.events filled
run_hands (Err why) filled = []

abbrev pub handed_in : Made → List Handed
handed_in (ClockMade answer) = clock_hands answer
handed_in (RunMade budget list answer filled) = run_hands answer filled
handed_in (RegisterMade number answer) = []
handed_in (FlagsMade answer) = []
handed_in (SlotsMade answer) = []

-- where a list of calls leads: each goes on where the one before it ended, and keeps its contract
pub data Leads (s : Setting) (start : Machine) : List Made → Machine → Type 0 where
  nothing_made : Leads s start [] start
  one_more : {made : List Made} {before after : Machine} (call : Made) → Leads s start made before → Promised s before call after → Leads s start (made ++ call ∷ []) after

-- whatever list of calls a client makes on a core from reset, the core then runs late
abbrev pub CallsRunLate : Type 0
CallsRunLate =
    (s : Setting) (words : Words) (made : List Made) (after : Machine)
    → Leads s (machine reset words) made after → RunsLateBeside s words after (flat_map handed_in made)
