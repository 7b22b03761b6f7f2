-- The clock law: in which clock the core hands out each event of the stepper, from those events alone.
use Rattle.std.specs.Prelude.{ℕ, ◌+◌, ◌-◌, ◌*◌, Bool, true, false, cond, ◌&&◌, ◌||◌, List, [], ◌∷◌, length, take, Some, None, count_by, Option, ◌==◌}
use Rattle.isa.specs.Roles.{destination_of, is_15, is_source}
use Rattle.isa.specs.declared.instruction.Action.{Action}
use Rattle.isa.specs.declared.instruction.Action.TheVariants.{Data, Load, Store, Branch}
use Rattle.isa.specs.declared.instruction.Instruction.{Instruction}
use Rattle.isa.specs.declared.register.Register.{Register}
pub use Rattle.stepper.specs.EventWords.{was_read, instruction_of}
use Rattle.stepper.specs.declared.event.Event.{Event}
use Rattle.stepper.specs.declared.event.Kind.{Kind}
use Rattle.stepper.specs.declared.event.Kind.TheVariants.{Done, Skipped, Stopped}

-- whether the event's word is an instruction of that sort
abbrev pub which : (Action → Bool) → Option Instruction → Bool
which test None = false
which test (Some i) = test i.action

abbrev pub is_done : Kind → Bool
is_done Done = true
is_done Skipped = false
is_done (Stopped why) = false

abbrev pub is_skipped : Kind → Bool
is_skipped Done = false
is_skipped Skipped = true
is_skipped (Stopped why) = false

abbrev pub is_branch : Action → Bool
is_branch (Data d) = false
is_branch (Load t) = false
is_branch (Store t) = false
is_branch (Branch offset) = true

abbrev pub writes_15 : Action → Bool
writes_15 action = is_15 (destination_of action)

-- a done B, a done write of register 15, and a skipped one
abbrev pub taken_branch : Event → Bool
taken_branch e = is_done e.kind && which is_branch (instruction_of e)

abbrev pub done_write_15 : Event → Bool
done_write_15 e = is_done e.kind && which writes_15 (instruction_of e)

abbrev pub skipped_write_15 : Event → Bool
skipped_write_15 e = is_skipped e.kind && which writes_15 (instruction_of e)

-- the register that a load brings, if it is another than 15
abbrev pub brought_by : Action → Option Register
brought_by (Data d) = None
brought_by (Load t) = cond (t.rd.number == 15) None (Some t.rd)
brought_by (Store t) = None
brought_by (Branch offset) = None

abbrev pub brought : Option Instruction → Option Register
brought None = None
brought (Some i) = brought_by i.action

-- of an event: done or skipped
abbrev pub load_of : Event → Option Register
load_of e = cond (is_done e.kind || is_skipped e.kind) (brought (instruction_of e)) None

abbrev pub needs : Option Register → Option Instruction → Bool
needs None i = false
needs (Some r) None = false
needs (Some r) (Some i) = is_source r i.action

-- a load, and right behind it an instruction that names its register as a source
abbrev pub feeds : Event → Event → Bool
feeds e next = needs (load_of e) (instruction_of next)

abbrev pub bit : Bool → ℕ
bit b = cond b 1 0

-- how many neighbours in the list are a load and its use
abbrev pub load_uses : List Event → ℕ
load_uses [] = 0
load_uses (e ∷ []) = 0
load_uses (e ∷ next ∷ more) = bit (feeds e next) + load_uses (next ∷ more)

-- all events but the last
abbrev pub but_last : List Event → List Event
but_last es = take (length es - 1) es

-- the clock in which the last of these events is handed out, if they are the stepper's first ones
abbrev pub clock_of : List Event → ℕ
clock_of es =
    length es + 4 + load_uses es
    + 2 * count_by taken_branch (but_last es)
    + 4 * count_by done_write_15 (but_last es)
    + 2 * count_by skipped_write_15 (but_last es)
