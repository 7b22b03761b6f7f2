-- One clock of the core: every stage looks at the slots as they stood before it.
use Rattle.std.specs.Prelude.{ℕ, ◌+◌, Bool, true, false, cond, replicate, is_some, Some, None, Option}
use Rattle.memory.specs.Meaning.{Words, Tags}
use Rattle.stepper.specs.Registers.{written}
use Rattle.stepper.specs.Step.{Setting}
use Rattle.stepper.specs.declared.event.Event.{Event}
use Rattle.stepper.specs.declared.event.Kind.TheVariants.{Skipped}
use Rattle.pipeline.specs.Slots.{changed}
use Rattle.pipeline.specs.Signals.{quiet}
use Rattle.pipeline.specs.Writeback.{handed_out, register_of, hands_out_stop}
use Rattle.pipeline.specs.MemoryStage.{to_writeback, words_left}
use Rattle.pipeline.specs.ExecuteStage.{memory_write, executed}
use Rattle.pipeline.specs.DecodeStage.{held_in, awaited, stalls, passing, to_execute}
use Rattle.pipeline.specs.FetchStage.{is_pending, value_for_15, onward, slot_at, to_decode}
use Rattle.pipeline.specs.declared.clock.Handed.{Handed}
use Rattle.pipeline.specs.declared.state.Core.{Core}
use Rattle.pipeline.specs.declared.state.Slots.{Slots}
use Rattle.pipeline.specs.declared.execute_stage.Executed.{Executed}
use Rattle.pipeline.specs.declared.signals.Signals.{Signals}
use Rattle.pipeline.specs.declared.slots.WritebackSlot.{WritebackSlot}

abbrev pub empty_slots : Slots
empty_slots = record { decode = None; execute = None; memory = None; writeback = None }

-- everything empty and 0
abbrev pub reset : Core
reset =
    record {
      registers = record { values = replicate 15 0 };
      flags = record { n = false; z = false; c = false; v = false };
      fetch = 0;
      slots = empty_slots;
      clocks = 0;
      stopped = false;
    }

-- what changes in a clock: the core, and the words of the data memory
pub record Machine : Type 0 where
  pub core : Core
  pub words : Words

-- an event with the number of the clock that hands it out
abbrev pub stamped : ℕ → Option Event → Option Handed
stamped clock None = None
stamped clock (Some event) = Some (record { event = event; clock = clock })

-- what stands in a list before anything is written into it
abbrev pub blank : Handed
blank =
    record {
      event = record { address = 0; word = 0; kind = Skipped; flags = reset.flags; register = None; store = None };
      clock = 0;
    }

-- a clock: the core and the words after it, what it hands out, and its signals
pub record Clocked : Type 0 where
  pub machine : Machine
  pub handed : Option Handed
  pub signals : Signals

abbrev pub machine : Core → Words → Machine
machine core words = record { core = core; words = words }

-- Writeback has written its register, and the clock counts; the slots still stand as before
abbrev pub retired : Core → Core
retired c =
    record {
      registers = record { values = written c.registers.values (register_of c.slots.writeback) };
      flags = c.flags;
      fetch = c.fetch;
      slots = c.slots;
      clocks = c.clocks + 1;
      stopped = c.stopped;
    }

abbrev pub with_slots : Core → Slots → Bool → Core
with_slots c slots stopped =
    record { registers = c.registers; flags = c.flags; fetch = c.fetch; slots = slots; clocks = c.clocks; stopped = stopped }

-- a stop that is handed out empties all slots and stops the core
abbrev pub halted : Core → Core
halted c = with_slots c empty_slots true

-- a stop that Memory passes on empties the slots behind it; flags and fetch address are kept
abbrev pub flushed : Core → Option WritebackSlot → Core
flushed c writeback = with_slots c (record { decode = None; execute = None; memory = None; writeback = writeback }) c.stopped

-- what Execute, Decode and Fetch find in a clock without a stop
abbrev pub executing : Core → Executed
executing c = executed (memory_write c.slots.memory) (register_of c.slots.writeback) c.flags c.slots.execute

abbrev pub stalling : Core → Bool
stalling c = stalls (awaited c.slots.execute) (held_in c.slots.decode)

abbrev pub awaiting15 : Core → Bool
awaiting15 c = is_pending (held_in c.slots.decode) c.slots.execute (memory_write c.slots.memory)

abbrev pub back15 : Core → Option ℕ
back15 c = value_for_15 (register_of c.slots.writeback)

abbrev pub signals_of : Core → Signals
signals_of c =
    record {
      stall = stalling c;
      write_pending = awaiting15 c;
      branch_taken = is_some (executing c).taken;
      pc_written = is_some (back15 c);
      first = (executing c).first;
      second = (executing c).second;
    }

-- over what the program store maps, and its tags
module _ (program : Words) (tags : Tags) where
  -- the slots after a clock without a stop
  abbrev pub slots_after : Core → Option WritebackSlot → Slots
  slots_after c writeback =
      record {
        decode = changed (to_decode (executing c).taken (back15 c) (stalling c) (awaiting15 c) (slot_at program tags c.fetch)) c.slots.decode;
        execute = changed (to_execute (executing c).taken (stalling c) (passing c.registers.values c.slots.decode (held_in c.slots.decode))) c.slots.execute;
        memory = (executing c).slot;
        writeback = writeback;
      }

  abbrev pub moved : Core → Option WritebackSlot → Core
  moved c writeback =
      record {
        registers = c.registers;
        flags = (executing c).flags;
        fetch = onward (executing c).taken (back15 c) (stalling c) (awaiting15 c) c.fetch;
        slots = slots_after c writeback;
        clocks = c.clocks;
        stopped = c.stopped;
      }

module _ (s : Setting) where
  -- what follows when Memory has filled the Writeback slot
  abbrev pub behind_memory : Core → Words → Option WritebackSlot → Clocked
  behind_memory c words writeback =
      cond (hands_out_stop writeback)
      (record { machine = machine (flushed c writeback) words; handed = stamped c.clocks (handed_out c.slots.writeback); signals = quiet })
      (record { machine = machine (moved s.program s.program_tags c writeback) words; handed = stamped c.clocks (handed_out c.slots.writeback); signals = signals_of c })

  -- what follows when Writeback has written its register
  abbrev pub behind_writeback : Core → Words → Clocked
  behind_writeback c words =
      cond (hands_out_stop c.slots.writeback)
      (record { machine = machine (halted c) words; handed = stamped c.clocks (handed_out c.slots.writeback); signals = quiet })
      (behind_memory c (words_left words s.data_tags s.writable c.slots.memory) (to_writeback words s.data_tags s.writable c.slots.memory))

  abbrev pub clocked : Machine → Clocked
  clocked m = behind_writeback (retired m.core) m.words
