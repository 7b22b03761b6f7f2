-- Execute takes its source values, judges the condition and does the arithmetic.
use Rattle.std.specs.Prelude.{ℕ, Bool, false, cond, Some, None, Ok, Err, Option, Result, ◌==◌}
use Rattle.isa.specs.Conditions.{condition_holds}
use Rattle.isa.specs.Roles.{first_source, second_source}
use Rattle.isa.specs.declared.flags.Flags.{Flags}
use Rattle.isa.specs.declared.register.Register.{Register}
use Rattle.stepper.specs.Execute.{work_of, flags_of}
use Rattle.stepper.specs.declared.event.RegisterWrite.{RegisterWrite}
use Rattle.stepper.specs.declared.event.Stop.{Stop}
use Rattle.stepper.specs.declared.execute.Work.{Work}
use Rattle.stepper.specs.declared.execute.Work.TheVariants.{Compare, Write, Load, Store, Branch}
use Rattle.pipeline.specs.declared.execute_stage.Executed.{Executed}
use Rattle.pipeline.specs.declared.signals.Forwarding.{Forwarding}
use Rattle.pipeline.specs.declared.signals.Forwarding.TheVariants.{Register as Read, Writeback, Memory}
use Rattle.pipeline.specs.declared.slots.ExecuteSlot.{ExecuteSlot}
use Rattle.pipeline.specs.declared.slots.Issue.{Issue}
use Rattle.pipeline.specs.declared.slots.MemorySlot.{MemorySlot}
use Rattle.pipeline.specs.declared.slots.Pending.{Pending}
use Rattle.pipeline.specs.declared.slots.Pending.TheVariants.{Done, Skipped, Stopped}

-- the register that done work writes, with the value in the slot; a load's slot holds its address
abbrev pub result_of : Work → Option RegisterWrite
result_of Compare = None
result_of (Write w) = Some w
result_of (Load r a) = Some (record { register = r; value = a })
result_of (Store w) = None
result_of (Branch target) = None

abbrev pub pending_write : Pending → Option RegisterWrite
pending_write (Done work) = result_of work
pending_write Skipped = None
pending_write (Stopped why) = None

-- the register that the Memory slot writes, if it is done
abbrev pub memory_write : Option MemorySlot → Option RegisterWrite
memory_write None = None
memory_write (Some slot) = pending_write slot.pending

-- whether a write is to that register
abbrev pub names : Option RegisterWrite → Register → Bool
names None r = false
names (Some w) r = w.register.number == r.number

-- where a source value comes from: the Memory slot goes before the Writeback slot
abbrev pub code_of : Option RegisterWrite → Option RegisterWrite → Register → Forwarding
code_of memory writeback r = cond (names memory r) Memory (cond (names writeback r) Writeback Read)

-- the value of a write, if it is to that register
abbrev pub taking : Option RegisterWrite → Register → ℕ → ℕ
taking None r value = value
taking (Some w) r value = cond (w.register.number == r.number) w.value value

abbrev pub operand : Option RegisterWrite → Option RegisterWrite → Register → ℕ → ℕ
operand memory writeback r read = taking memory r (taking writeback r read)

-- an instruction with its operands
abbrev pub performed : Flags → ℕ → ℕ → Issue → MemorySlot
performed flags address word issue =
    cond (condition_holds issue.instruction.condition flags)
    (record {
      address = address;
      word = word;
      flags = flags_of issue.instruction.action issue.first issue.second flags;
      pending = Done (work_of issue.instruction.action issue.first issue.second);
    })
    (record { address = address; word = word; flags = flags; pending = Skipped })

-- the issue with forwarded values in place of what Decode read
abbrev pub forwarded : Option RegisterWrite → Option RegisterWrite → Issue → Issue
forwarded memory writeback issue =
    record {
      instruction = issue.instruction;
      first = operand memory writeback (first_source issue.instruction.action) issue.first;
      second = operand memory writeback (second_source issue.instruction.action) issue.second;
    }

-- a done branch is taken, to its target
abbrev pub branch_of : Work → Option ℕ
branch_of Compare = None
branch_of (Write w) = None
branch_of (Load r a) = None
branch_of (Store w) = None
branch_of (Branch target) = Some target

abbrev pub taken_by : Pending → Option ℕ
taken_by (Done work) = branch_of work
taken_by Skipped = None
taken_by (Stopped why) = None

-- what Execute hands on of an instruction
abbrev pub hands_on : MemorySlot → Forwarding → Forwarding → Executed
hands_on slot first second =
    record { slot = Some slot; flags = slot.flags; taken = taken_by slot.pending; first = first; second = second }

abbrev pub issued_on : Option RegisterWrite → Option RegisterWrite → Flags → ℕ → ℕ → Result Issue Stop → Executed
issued_on memory writeback flags address word (Ok issue) =
    hands_on (performed flags address word (forwarded memory writeback issue))
    (code_of memory writeback (first_source issue.instruction.action))
    (code_of memory writeback (second_source issue.instruction.action))
issued_on memory writeback flags address word (Err why) =
    hands_on (record { address = address; word = word; flags = flags; pending = Stopped why }) Read Read

abbrev pub executed : Option RegisterWrite → Option RegisterWrite → Flags → Option ExecuteSlot → Executed
executed memory writeback flags None = record { slot = None; flags = flags; taken = None; first = Read; second = Read }
executed memory writeback flags (Some x) = issued_on memory writeback flags x.address x.word x.issue
