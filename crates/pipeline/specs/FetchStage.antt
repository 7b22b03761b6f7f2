-- Fetch: which word comes next, if any.
use Rattle.std.specs.Prelude.{ℕ, Bool, false, cond, ◌||◌, Some, None, Ok, Err, Option, Result, ◌==◌}
use Rattle.memory.specs.Meaning.{Words, Tags, reading}
use Rattle.isa.specs.Roles.{destination_of, is_15}
use Rattle.isa.specs.declared.instruction.Instruction.{Instruction}
use Rattle.stepper.specs.Step.{behind}
use Rattle.stepper.specs.declared.event.RegisterWrite.{RegisterWrite}
use Rattle.stepper.specs.declared.event.Stop.{Stop}
use Rattle.pipeline.specs.declared.slots.Change.{Change}
use Rattle.pipeline.specs.declared.slots.Change.TheVariants.{Keep, Empty, Fill}
use Rattle.pipeline.specs.declared.slots.DecodeSlot.{DecodeSlot}
use Rattle.pipeline.specs.declared.slots.ExecuteSlot.{ExecuteSlot}
use Rattle.pipeline.specs.declared.slots.Issue.{Issue}

abbrev pub issue_writes_15 : Result Issue Stop → Bool
issue_writes_15 (Ok issue) = is_15 (destination_of issue.instruction.action)
issue_writes_15 (Err why) = false

abbrev pub in_decode : Option (Result Instruction Stop) → Bool
in_decode None = false
in_decode (Some (Ok i)) = is_15 (destination_of i.action)
in_decode (Some (Err why)) = false

abbrev pub in_execute : Option ExecuteSlot → Bool
in_execute None = false
in_execute (Some x) = issue_writes_15 x.issue

-- the value that a write gives to register 15, if it is to that
abbrev pub value_for_15 : Option RegisterWrite → Option ℕ
value_for_15 None = None
value_for_15 (Some w) = cond (w.register.number == 15) (Some w.value) None

abbrev pub is_write_15 : Option RegisterWrite → Bool
is_write_15 None = false
is_write_15 (Some w) = w.register.number == 15

-- a write of register 15 is pending: in Decode or Execute whatever its condition, in Memory if it is done
abbrev pub is_pending : Option (Result Instruction Stop) → Option ExecuteSlot → Option RegisterWrite → Bool
is_pending held x memory = in_decode held || (in_execute x || is_write_15 memory)

-- the fetch address after the clock, by the first case that applies: a taken branch, register 15 written back, a
-- stall or a pending write, and otherwise the next word
abbrev pub onward : Option ℕ → Option ℕ → Bool → Bool → ℕ → ℕ
onward (Some target) back stall pending fetch = target
onward None (Some value) stall pending fetch = value
onward None None stall pending fetch = cond (stall || pending) fetch (behind fetch)

-- a fetched word: its address, and what the program store answers there
abbrev pub slot_at : Words → Tags → ℕ → DecodeSlot
slot_at program tags a = record { address = a; fetched = reading program tags a }

-- what becomes of the Decode slot, by the same cases
abbrev pub to_decode : Option ℕ → Option ℕ → Bool → Bool → DecodeSlot → Change DecodeSlot
to_decode (Some target) back stall pending slot = Empty
to_decode None (Some value) stall pending slot = Empty
to_decode None None stall pending slot = cond stall Keep (cond pending Empty (Fill slot))
