-- One step of a routine: fetch, decode, judge the condition, do it.
use Rattle.std.specs.Prelude.{◌≡◌, ℕ, ◌+◌, ◌%◌, ◌^◌, Bool, true, false, cond, replicate, Some, None, Ok, Err, Option, Result, ◌==◌}
use Rattle.memory.specs.Meaning.{Words, Tags, reading}
use Rattle.memory.specs.declared.fault.Fault.{Fault}
use Rattle.isa.specs.Conditions.{condition_holds}
use Rattle.isa.specs.Decoding.{decoded}
use Rattle.isa.specs.Roles.{first_source, second_source}
use Rattle.isa.specs.declared.flags.Flags.{Flags}
use Rattle.isa.specs.declared.instruction.Instruction.{Instruction}
use Rattle.stepper.specs.Access.{accessed, words_after}
use Rattle.stepper.specs.Execute.{work_of, flags_of}
use Rattle.stepper.specs.Registers.{read_at, written}
use Rattle.stepper.specs.declared.access.Effect.{Effect}
use Rattle.stepper.specs.declared.event.Event.{Event}
use Rattle.stepper.specs.declared.event.Kind.TheVariants.{Done, Skipped, Stopped}
use Rattle.stepper.specs.declared.event.RegisterWrite.{RegisterWrite}
use Rattle.stepper.specs.declared.event.Stop.{Stop}
use Rattle.stepper.specs.declared.event.Stop.TheVariants.{Fetch, Outside, Access}
use Rattle.stepper.specs.declared.execute.Work.{Work}
use Rattle.stepper.specs.declared.execute.Work.TheVariants.{Compare, Write, Load, Store, Branch}
use Rattle.stepper.specs.declared.stepper.Stepper.{Stepper}

-- what stays the same while a routine runs: the program, the tags of both memories, and where data may be written
pub record Setting : Type 0 where
  pub program : Words
  pub program_tags : Tags
  pub data_tags : Tags
  pub writable : ℕ → Bool

-- what changes: the stepper, and the words of the data memory
pub record World : Type 0 where
  pub stepper : Stepper
  pub words : Words

-- a step: its event, and the world after it
pub record Turn : Type 0 where
  pub event : Event
  pub world : World

abbrev pub setting : Words → Tags → Tags → (ℕ → Bool) → Setting
setting program program_tags data_tags writable =
    record { program = program; program_tags = program_tags; data_tags = data_tags; writable = writable }

abbrev pub world : Stepper → Words → World
world stepper words = record { stepper = stepper; words = words }

-- the number by which users know that a stopped stepper was asked to step
abbrev pub stopped_number : ℕ
stopped_number = 6

-- where every routine starts
abbrev pub start : Stepper
start =
    record {
      registers = record { values = replicate 15 0 };
      flags = record { n = false; z = false; c = false; v = false };
      next = 0;
      stopped = false;
    }

-- the instruction after the one at the address a
abbrev pub behind : ℕ → ℕ
behind a = (a + 4) % 2 ^ 32

-- a stop changes nothing but the mark
abbrev pub stop_event : Stepper → ℕ → Stop → Event
stop_event s word why =
    record { address = s.next; word = word; kind = Stopped why; flags = s.flags; register = None; store = None }

abbrev pub marked : Stepper → Stepper
marked s = record { registers = s.registers; flags = s.flags; next = s.next; stopped = true }

-- a skipped instruction is only passed by
abbrev pub skip_event : Stepper → ℕ → Event
skip_event s word =
    record { address = s.next; word = word; kind = Skipped; flags = s.flags; register = None; store = None }

abbrev pub passed : Stepper → Stepper
passed s = record { registers = s.registers; flags = s.flags; next = behind s.next; stopped = false }

-- a done instruction writes its register and sets the flags
abbrev pub done_event : Stepper → ℕ → Flags → Effect → Event
done_event s word flags effect =
    record { address = s.next; word = word; kind = Done; flags = flags; register = effect.register; store = effect.store }

-- writing register 15 sets the next address
abbrev pub following : ℕ → Option RegisterWrite → ℕ
following a None = behind a
following a (Some w) = cond (w.register.number == 15) w.value (behind a)

-- a branch goes to its target
abbrev pub next_of : ℕ → Work → Option RegisterWrite → ℕ
next_of a Compare register = following a register
next_of a (Write w) register = following a register
next_of a (Load r at) register = following a register
next_of a (Store w) register = following a register
next_of a (Branch target) register = target

abbrev pub moved : Stepper → Work → Flags → Effect → Stepper
moved s work flags effect =
    record {
      registers = record { values = written s.registers.values effect.register };
      flags = flags;
      next = next_of s.next work effect.register;
      stopped = false;
    }

abbrev pub stopping : World → ℕ → Stop → Turn
stopping w word why =
    record { event = stop_event w.stepper word why; world = world (marked w.stepper) w.words }

abbrev pub skipping : World → ℕ → Turn
skipping w word = record { event = skip_event w.stepper word; world = world (passed w.stepper) w.words }

-- a done instruction, by what the data memory answered
abbrev pub finishing : World → ℕ → Work → Flags → Words → Result Effect Fault → Turn
finishing w word work flags words (Err fault) = stopping w word (Access fault)
finishing w word work flags words (Ok effect) =
    record { event = done_event w.stepper word flags effect; world = world (moved w.stepper work flags effect) words }

module _ (tags : Tags) (writable : ℕ → Bool) where
  -- an instruction whose condition holds
  abbrev pub doing : World → ℕ → Work → Flags → Turn
  doing w word work flags =
      finishing w word work flags (words_after w.words tags writable work) (accessed w.words tags writable work)

  -- a word, by what it means
  abbrev pub understanding : World → ℕ → Option Instruction → Turn
  understanding w word None = stopping w word Outside
  understanding w word (Some i) =
      let first = read_at w.stepper.registers.values w.stepper.next (first_source i.action) in
      let second = read_at w.stepper.registers.values w.stepper.next (second_source i.action) in
      cond (condition_holds i.condition w.stepper.flags)
      (doing w word (work_of i.action first second) (flags_of i.action first second w.stepper.flags))
      (skipping w word)

  -- what the program store answered at the next address
  abbrev pub fetching : World → Result ℕ Fault → Turn
  fetching w (Err fault) = stopping w 0 (Fetch fault)
  fetching w (Ok word) = understanding w word (decoded word)

abbrev pub turn : Setting → World → Turn
turn s w = fetching s.data_tags s.writable w (reading s.program s.program_tags w.stepper.next)

-- an attempt at the instruction of a word: it comes to this turn, or to a stop that leaves the world as it was
abbrev pub Attempted : World → ℕ → Turn → World → Result Event Stop → Type 0
Attempted before word turn after (Ok event) = turn ≡ record { event = event; world = after }
Attempted before word turn after (Err why) = (turn ≡ stopping before word why) × (after ≡ before)
