-- Decode says what a fetched word is, reads the source registers, and waits for a load that one of them depends on.
use Rattle.std.specs.Prelude.{ℕ, Bool, false, cond, List, Some, None, Ok, Err, Option, Result}
use Rattle.memory.specs.declared.fault.Fault.{Fault}
use Rattle.isa.specs.Decoding.{decoded}
use Rattle.isa.specs.Roles.{first_source, second_source, is_source}
use Rattle.isa.specs.declared.instruction.Action.{Action}
use Rattle.isa.specs.declared.instruction.Action.TheVariants.{Data, Load, Store, Branch}
use Rattle.isa.specs.declared.instruction.Instruction.{Instruction}
use Rattle.isa.specs.declared.register.Register.{Register}
use Rattle.stepper.specs.Registers.{read_at}
use Rattle.stepper.specs.declared.event.Stop.{Stop}
use Rattle.stepper.specs.declared.event.Stop.TheVariants.{Fetch, Outside}
use Rattle.pipeline.specs.declared.slots.Change.{Change}
use Rattle.pipeline.specs.declared.slots.Change.TheVariants.{Empty, Fill}
use Rattle.pipeline.specs.declared.slots.DecodeSlot.{DecodeSlot}
use Rattle.pipeline.specs.declared.slots.ExecuteSlot.{ExecuteSlot}
use Rattle.pipeline.specs.declared.slots.Issue.{Issue}

-- a word outside the subset is a stop
abbrev pub in_subset : Option Instruction → Result Instruction Stop
in_subset (Some i) = Ok i
in_subset None = Err Outside

-- what a fetched word is: an instruction, or a stop
abbrev pub understood : Result ℕ Fault → Result Instruction Stop
understood (Ok word) = in_subset (decoded word)
understood (Err fault) = Err (Fetch fault)

-- the word that a slot shows; 0 if none could be read
abbrev pub word_in : Result ℕ Fault → ℕ
word_in (Ok word) = word
word_in (Err fault) = 0

-- the two source registers are read
abbrev pub reading : List ℕ → ℕ → Result Instruction Stop → Result Issue Stop
reading registers a (Ok i) =
    Ok (record { instruction = i; first = read_at registers a (first_source i.action); second = read_at registers a (second_source i.action) })
reading registers a (Err why) = Err why

abbrev pub issued : List ℕ → DecodeSlot → Result Instruction Stop → ExecuteSlot
issued registers slot held =
    record { address = slot.address; word = word_in slot.fetched; issue = reading registers slot.address held }

-- what the Decode slot holds, if it is full
abbrev pub held_in : Option DecodeSlot → Option (Result Instruction Stop)
held_in None = None
held_in (Some slot) = Some (understood slot.fetched)

-- the register that a load brings
abbrev pub loaded_by : Action → Option Register
loaded_by (Data d) = None
loaded_by (Load t) = Some t.rd
loaded_by (Store t) = None
loaded_by (Branch offset) = None

abbrev pub loaded_in : Result Issue Stop → Option Register
loaded_in (Ok issue) = loaded_by issue.instruction.action
loaded_in (Err why) = None

-- the register that a load in Execute brings, whatever its condition
abbrev pub awaited : Option ExecuteSlot → Option Register
awaited None = None
awaited (Some x) = loaded_in x.issue

-- whether an instruction names that register as a source, used or not
abbrev pub sourced : Option Register → Action → Bool
sourced None action = false
sourced (Some r) action = is_source r action

-- Decode stalls: its instruction, if it is one, names the awaited register as a source
abbrev pub stalls : Option Register → Option (Result Instruction Stop) → Bool
stalls r None = false
stalls r (Some (Ok i)) = sourced r i.action
stalls r (Some (Err why)) = false

abbrev pub passing : List ℕ → Option DecodeSlot → Option (Result Instruction Stop) → Change ExecuteSlot
passing registers (Some slot) (Some held) = Fill (issued registers slot held)
passing registers (Some slot) None = Empty
passing registers None held = Empty

-- what becomes of the Execute slot: a stall or a taken branch leaves it empty
abbrev pub to_execute : Option ℕ → Bool → Change ExecuteSlot → Change ExecuteSlot
to_execute (Some target) stall pass = Empty
to_execute None stall pass = cond stall Empty pass
