-- The texts in the columns of a trace. A text is its bytes.
use Rattle.std.specs.Prelude.{ℕ, Bool, cond, List, [], ◌++◌, Some, None, codes, decimal, Option}
use Rattle.memory.specs.Fault.{number}
use Rattle.memory.specs.declared.fault.Fault.{Fault}
use Rattle.isa.specs.Syntax.{or_dash, register_text}
use Rattle.isa.specs.declared.flags.Flags.{Flags}
use Rattle.stepper.specs.EventWords.{instruction_of}
use Rattle.stepper.specs.Events.{stop_number, stop_fault}
use Rattle.stepper.specs.declared.event.Event.{Event}
use Rattle.stepper.specs.declared.event.Kind.{Kind}
use Rattle.stepper.specs.declared.event.Kind.TheVariants.{Done, Skipped, Stopped}
use Rattle.stepper.specs.declared.event.MemoryWrite.{MemoryWrite}
use Rattle.stepper.specs.declared.event.RegisterWrite.{RegisterWrite}
use Rattle.stepper.specs.declared.event.Stop.{Stop}
use Rattle.isa.specs.Hexadecimal.{hex_text}

abbrev pub kind_text : Kind → List ℕ
kind_text Done = codes "done"
kind_text Skipped = codes "skipped"
kind_text (Stopped stop) = codes "stop"

-- a flag's letter, or a dash if it is clear
abbrev pub letter : Bool → List ℕ → List ℕ
letter set name = cond set name (codes "-")

abbrev pub flags_text : Flags → List ℕ
flags_text f = letter f.n (codes "N") ++ (letter f.z (codes "Z") ++ (letter f.c (codes "C") ++ letter f.v (codes "V")))

-- the memory's fault, where one made the stop
abbrev pub fault_text : Option Fault → List ℕ
fault_text None = []
fault_text (Some f) =
    codes ": fault " ++ (decimal (number f.cause) ++ (codes " at " ++ (hex_text f.address ++ (codes ", tag " ++ decimal f.tag))))

abbrev pub stop_text : Stop → List ℕ
stop_text stop = codes "  stop " ++ (decimal (stop_number stop) ++ fault_text (stop_fault stop))

-- a register or a word of the data memory, with its new value
abbrev pub change_text : Option RegisterWrite → Option MemoryWrite → List ℕ
change_text (Some w) store = codes "  " ++ (register_text w.register ++ (codes " = " ++ hex_text w.value))
change_text None (Some m) = codes "  [" ++ (hex_text m.address ++ (codes "] = " ++ hex_text m.value))
change_text None None = []

-- why it is a stop, or what it changed; no text if it did neither
abbrev pub effect_text : Kind → Option RegisterWrite → Option MemoryWrite → List ℕ
effect_text Done register store = change_text register store
effect_text Skipped register store = change_text register store
effect_text (Stopped stop) register store = stop_text stop

-- an event's instruction; a dash for a word outside the subset, and where no word was read
abbrev pub instruction_text : Event → List ℕ
instruction_text e = or_dash e.address (instruction_of e)
