-- What the data memory's part of an instruction answers, and the words afterwards.
use Rattle.std.specs.Prelude.{ℕ, Bool, cond, is_ok, Some, None, Ok, Err, Result}
use Rattle.memory.specs.Meaning.{Words, Tags, reading, writing, put}
use Rattle.memory.specs.declared.fault.Fault.{Fault}
use Rattle.isa.specs.declared.register.Register.{Register}
use Rattle.stepper.specs.declared.access.Effect.{Effect}
use Rattle.stepper.specs.declared.event.MemoryWrite.{MemoryWrite}
use Rattle.stepper.specs.declared.execute.Work.{Work}
use Rattle.stepper.specs.declared.execute.Work.TheVariants.{Compare, Write, Load, Store, Branch}

-- a loaded word goes to the register; a fault is passed on
abbrev pub loaded : Register → Result ℕ Fault → Result Effect Fault
loaded r (Ok value) = Ok (record { register = Some (record { register = r; value = value }); store = None })
loaded r (Err fault) = Err fault

abbrev pub stored : MemoryWrite → Result (Unit {0}) Fault → Result Effect Fault
stored w (Ok done) = Ok (record { register = None; store = Some w })
stored w (Err fault) = Err fault

module _ (words : Words) (tags : Tags) (writable : ℕ → Bool) where
  abbrev pub accessed : Work → Result Effect Fault
  accessed Compare = Ok (record { register = None; store = None })
  accessed (Write w) = Ok (record { register = Some w; store = None })
  accessed (Load r a) = loaded r (reading words tags a)
  accessed (Store w) = stored w (writing words tags writable w.address)
  accessed (Branch target) = Ok (record { register = None; store = None })

  abbrev pub words_after : Work → Words
  words_after Compare = words
  words_after (Write w) = words
  words_after (Load r a) = words
  words_after (Store w) = cond (is_ok (writing words tags writable w.address)) (put words w.address w.value) words
  words_after (Branch target) = words
