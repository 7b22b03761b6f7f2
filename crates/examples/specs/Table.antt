-- The worked examples.
use Rattle.std.specs.Prelude.{◌≡◌, ℕ, false, List, [], ◌∷◌, map, replicate, None, codes}
use Rattle.memory.specs.declared.fault.Cause.TheVariants.{Unaligned}
use Rattle.isa.specs.Registers.{register}
use Rattle.isa.specs.declared.condition.Condition.TheVariants.{Al}
use Rattle.isa.specs.declared.instruction.Action.TheVariants.{Data}
use Rattle.isa.specs.declared.instruction.DataProcessing.{DataProcessing}
use Rattle.isa.specs.declared.instruction.Operand.TheVariants.{Register as InRegister}
use Rattle.isa.specs.declared.operation.Operation.TheVariants.{Add}
use Rattle.stepper.specs.declared.event.Event.{Event}
use Rattle.stepper.specs.declared.event.Kind.TheVariants.{Stopped}
use Rattle.stepper.specs.declared.event.Stop.TheVariants.{Access}
use Rattle.examples.specs.Kinds.{Example, Means, Inside, Outside, AddFlags, CmpFlags, CheckWord, Takes, First, clear, found, expected}

-- R2 becomes R1 + R1
abbrev pub doubling : DataProcessing
doubling =
    record {
      operation = Add;
      set_flags = false;
      rn = register 1;
      rd = register 2;
      operand = InRegister (register 1);
    }

-- 1,024 data words
abbrev pub zeros : List ℕ
zeros = replicate 1024 0

-- the stop of LDR R1, [R0, #2] with R0 = 0: fault 10 at the address 2, all flags clear
abbrev pub unaligned_load : Event
unaligned_load =
    record {
      address = 0;
      word = 0xE5901002;
      kind = Stopped (Access (record { cause = Unaligned; address = 2; tag = 0 }));
      flags = clear;
      register = None;
      store = None;
    }

abbrev pub examples : List Example
examples =
    Means 0xE0812001 (record { condition = Al; action = Data doubling }) (codes "ADD R2, R1, R1")
    ∷ Inside 0xE281F000
    ∷ Inside 0x00000000
    ∷ Inside 0xE5901FFF
    ∷ Outside 0xE291F000
    ∷ Outside 0xF0000000
    ∷ Outside 0xE0812081
    ∷ Outside 0xE2812101
    ∷ Outside 0xE5101004
    ∷ AddFlags 0x7FFFFFFF 1 9
    ∷ AddFlags 0xFFFFFFFF 1 6
    ∷ CmpFlags 5 5 6
    ∷ CmpFlags 0 1 8
    ∷ CmpFlags 0x80000000 1 3
    ∷ CheckWord (0xEAFFFFFE ∷ []) 0x14FF0001
    -- a load, its use, and the end of the program
    ∷ Takes (0xE5901000 ∷ 0xE0812001 ∷ []) zeros 8 ((0, 5) ∷ (4, 7) ∷ (8, 8) ∷ [])
    -- a taken branch in front of a write of register 15
    ∷ Takes (0xEA000000 ∷ 0xE281F000 ∷ 0xE1800000 ∷ []) zeros 8 ((0, 5) ∷ (8, 8) ∷ [])
    -- a load, and a write of register 15 with what it brought
    ∷ Takes (0xE5901000 ∷ 0xE281F000 ∷ 0xE1800000 ∷ 0xE1800000 ∷ []) (12 ∷ []) 12 ((0, 5) ∷ (4, 7) ∷ (12, 12) ∷ [])
    -- a write of register 15 that is skipped
    ∷ Takes (0x0281F000 ∷ 0xE1800000 ∷ []) zeros 8 ((0, 5) ∷ (4, 8) ∷ [])
    -- a load that faults, with an instruction behind it that would set the flags
    ∷ First (0xE5901002 ∷ 0xE2900000 ∷ []) zeros 5 unaligned_load
    ∷ []

abbrev pub ExamplesHold : Type 0
ExamplesHold = map found examples ≡ map expected examples
