-- A core in flight, seen from the stepper: which slots are full, and what they then hold. Assumes nothing.
use Rattle.std.proofs.Common.{◌≡◌, ℕ, ◌+◌, ◌*◌, Bool, true, false, cond, ◌&&◌, List, length, Some, None, Option, Result}
use Rattle.isa.specs.declared.instruction.Instruction.{Instruction}
use Rattle.stepper.specs.Step.{Setting, World, turn, behind}
use Rattle.stepper.specs.declared.event.Event.{Event}
use Rattle.stepper.specs.declared.event.Stop.{Stop}
use Rattle.pipeline.specs.DecodeStage.{understood, word_in, reading, issued}
use Rattle.pipeline.specs.FetchStage.{in_decode, is_write_15, slot_at}
use Rattle.pipeline.specs.declared.state.Core.{Core}
use Rattle.pipeline.specs.declared.slots.DecodeSlot.{DecodeSlot}
use Rattle.pipeline.specs.declared.slots.ExecuteSlot.{ExecuteSlot}
use Rattle.pipeline.specs.declared.slots.MemorySlot.{MemorySlot}
use Rattle.pipeline.specs.declared.slots.WritebackSlot.{WritebackSlot}
use Rattle.refinement.specs.ClockLaw.{taken_branch, done_write_15, skipped_write_15, feeds, bit}
use Rattle.refinement.proofs.Facts.{alone}

-- what stands in Execute and Decode, and where Fetch is
pub data Front : Type 0 where
  -- nothing; Fetch is at the next instruction
  idle : Front
  -- the next instruction is in Decode
  fetched : Front
  -- the next instruction is in Execute, and the one behind it in Decode unless it waits for register 15
  issuing : Front
  -- nothing; register 15 is about to be written, and Fetch waits
  redirect : ℕ → Front
  -- a stop is ahead: what stands here is thrown away
  dead : Option ExecuteSlot → Option DecodeSlot → ℕ → Front

abbrev pub regs : World → List ℕ
regs u = u.stepper.registers.values

abbrev pub pc : World → ℕ
pc u = u.stepper.next

abbrev pub halted : World → Bool
halted u = u.stepper.stopped

module _ (s : Setting) where
  -- the world after a step, and the step's event
  abbrev pub next : World → World
  next u = (turn s u).world

  abbrev pub ev : World → Event
  ev u = (turn s u).event

  abbrev pub slot : ℕ → DecodeSlot
  slot a = slot_at s.program s.program_tags a

  abbrev pub held_at : ℕ → Result Instruction Stop
  held_at a = understood (slot a).fetched

  abbrev pub writes : ℕ → Bool
  writes a = in_decode (Some (held_at a))

  abbrev pub issue_at : List ℕ → ℕ → ExecuteSlot
  issue_at values a = issued values (slot a) (held_at a)

  abbrev pub memory_at : World → MemorySlot
  memory_at u = alone u.stepper.flags (pc u) (word_in (slot (pc u)).fetched) (reading (regs u) (pc u) (held_at (pc u)))

  -- how many clocks pass between an event and the next
  abbrev pub gap : World → ℕ
  gap u =
      1 + bit (feeds (ev u) (ev (next u)))
      + 2 * bit (taken_branch (ev u)) + 4 * bit (done_write_15 (ev u)) + 2 * bit (skipped_write_15 (ev u))

  -- the world one event on if a slot is full, and the clock in which the event there is due
  abbrev pub on : Bool → World → World
  on full u = cond full (next u) u

  abbrev pub due : Bool → World → ℕ → ℕ
  due full u d = cond full (d + gap u) d

  abbrev pub in_execute_of : Front → List ℕ → ℕ → Option ExecuteSlot
  in_execute_of idle values a = None
  in_execute_of fetched values a = None
  in_execute_of issuing values a = Some (issue_at values a)
  in_execute_of (redirect f) values a = None
  in_execute_of (dead x d f) values a = x

  abbrev pub in_decode_of : Front → ℕ → Option DecodeSlot
  in_decode_of idle a = None
  in_decode_of fetched a = Some (slot a)
  in_decode_of issuing a = cond (writes a) None (Some (slot (behind a)))
  in_decode_of (redirect f) a = None
  in_decode_of (dead x d f) a = d

  abbrev pub fetch_of : Front → ℕ → ℕ
  fetch_of idle a = a
  fetch_of fetched a = behind a
  fetch_of issuing a = cond (writes a) (behind a) (behind (behind a))
  fetch_of (redirect f) a = f
  fetch_of (dead x d f) a = f

  abbrev pub mslot : Bool → World → Option MemorySlot
  mslot full u = cond full (Some (memory_at u)) None

  abbrev pub wslot : Bool → World → Option WritebackSlot
  wslot full u = cond full (Some (record { event = ev u })) None

  -- the core whose last event handed out led to the world u, t clocks after reset
  abbrev pub view : World → Bool → Bool → Front → ℕ → Core
  view u w m front t =
      record {
        registers = record { values = regs u };
        flags = (on m (on w u)).stepper.flags;
        fetch = fetch_of front (pc (on m (on w u)));
        slots = record {
          decode = in_decode_of front (pc (on m (on w u)));
          execute = in_execute_of front (regs u) (pc (on m (on w u)));
          memory = cond m (Some (memory_at (on w u))) None;
          writeback = cond w (Some (record { event = ev u })) None;
        };
        clocks = t;
        stopped = halted u;
      }

  -- register 15 is written by the youngest instruction behind Execute
  abbrev pub youngest15 : World → Bool → Bool → Bool
  youngest15 u w m = cond m (is_write_15 (ev (on w u)).register) (w && is_write_15 (ev u).register)

  -- what holds of the front: whose turn it is, and when its event is due
  abbrev pub FrontRight : Front → World → Bool → Bool → ℕ → ℕ → Type 0
  FrontRight idle u w m d t = (halted (on m (on w u)) ≡ false) × (due m (on w u) (due w u d) ≡ t + 5)
  FrontRight fetched u w m d t = (halted (on m (on w u)) ≡ false) × (due m (on w u) (due w u d) ≡ t + 4)
  FrontRight issuing u w m d t = (halted (on m (on w u)) ≡ false) × (due m (on w u) (due w u d) ≡ t + 3)
  FrontRight (redirect f) u w m d t = (halted (on m (on w u)) ≡ false) × (due m (on w u) (due w u d) ≡ t + cond m 7 6) × (youngest15 u w m ≡ true)
  FrontRight (dead x y f) u w m d t = (halted (on m (on w u)) ≡ true) × (m ≡ false → (x ≡ None) × (y ≡ None))

  -- a flight: d is the clock in which the first event that is not handed out is due
  pub record Flight (u : World) (d t : ℕ) (w m : Bool) (front : Front) : Type 0 where
    pub long : length (regs u) ≡ 15
    pub first_on : w ≡ true → halted u ≡ false
    pub first_due : w ≡ true → d ≡ t + 1
    pub second_on : m ≡ true → halted (on w u) ≡ false
    pub second_due : m ≡ true → due w u d ≡ t + 2
    pub front_right : FrontRight front u w m d t
