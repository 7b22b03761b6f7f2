-- What the core makes of one instruction beside what the stepper makes of it. Assumes nothing.
use Rattle.std.proofs.Common.{◌≡◌, ℕ, Bool, true, false, cond, ◌&&◌, ◌||◌, eqb, is_some, is_ok, Some, None, Ok, Err, Option, Result, sym, refl, ap, ◌∙◌, arith}
use Rattle.std.proofs.lemmas.Bool.Decides.{nat_tests}
use Rattle.std.specs.Result.{result_ok}
use Rattle.memory.specs.Meaning.{Tags, put, reading as read, writing}
use Rattle.memory.specs.declared.fault.Fault.{Fault}
use Rattle.isa.specs.Conditions.{condition_holds}
use Rattle.isa.specs.Decoding.{decoded}
use Rattle.isa.specs.Roles.{destination_of, is_15}
use Rattle.isa.specs.declared.condition.Condition.{Condition}
use Rattle.isa.specs.declared.flags.Flags.{Flags}
use Rattle.isa.specs.declared.instruction.Action.{Action}
use Rattle.isa.specs.declared.instruction.Action.TheVariants.{Data, Load, Store, Branch}
use Rattle.isa.specs.declared.instruction.Instruction.{Instruction}
use Rattle.isa.specs.declared.register.Register.{Register}
use Rattle.stepper.specs.Access.{loaded, stored, words_after}
use Rattle.stepper.specs.Execute.{work_of, flags_of, to_write}
use Rattle.stepper.specs.Registers.{written}
use Rattle.stepper.specs.Step.{World, Turn, behind, stopping, skipping, finishing, doing, understanding, fetching}
use Rattle.stepper.specs.declared.event.MemoryWrite.{MemoryWrite}
use Rattle.stepper.specs.declared.event.Stop.{Stop}
use Rattle.stepper.specs.declared.event.Stop.TheVariants.{Fetch, Outside}
use Rattle.stepper.specs.declared.execute.Work.{Work}
use Rattle.stepper.specs.declared.execute.Work.TheVariants.{Load as ToLoad, Store as ToStore}
use Rattle.pipeline.specs.Writeback.{is_stop}
use Rattle.pipeline.specs.MemoryStage.{accessed_or, completed, event_of, words_of}
use Rattle.pipeline.specs.ExecuteStage.{pending_write, taking, performed, taken_by}
use Rattle.pipeline.specs.DecodeStage.{in_subset, understood, word_in, reading, loaded_by}
use Rattle.pipeline.specs.FetchStage.{value_for_15, is_write_15}
use Rattle.pipeline.specs.declared.slots.Issue.{Issue}
use Rattle.pipeline.specs.declared.slots.MemorySlot.{MemorySlot}
use Rattle.pipeline.specs.declared.slots.Pending.TheVariants.{Done, Skipped, Stopped}
use Rattle.refinement.specs.ClockLaw.{which, is_done, is_skipped, is_branch, writes_15, brought_by, brought}

-- where the program goes on: at a branch's target, at the value of register 15, or behind
abbrev pub goes_to : ℕ → Option ℕ → Option ℕ → ℕ
goes_to a (Some target) back = target
goes_to a None (Some value) = value
goes_to a None None = behind a

-- what Execute makes of an issue whose operands are right
abbrev pub alone : Flags → ℕ → ℕ → Result Issue Stop → MemorySlot
alone flags a word (Ok issue) = performed flags a word issue
alone flags a word (Err why) = record { address = a; word = word; flags = flags; pending = Stopped why }

-- whether a load brings that register
abbrev pub hits : Option Register → Register → Bool
hits None r = false
hits (Some x) r = eqb x.number r.number

abbrev pub load_in : Result Instruction Stop → Option Register
load_in (Ok i) = loaded_by i.action
load_in (Err why) = None

module _ (tags : Tags) (writable : ℕ → Bool) where
  pub record Facts (u : World) (held : Result Instruction Stop) (m : MemorySlot) (τ : Turn) : Type 0 where
    pub event : event_of m (completed u.words tags writable m.pending) ≡ τ.event
    pub words : words_of u.words tags writable m.pending ≡ τ.world.words
    pub registers : written u.stepper.registers.values τ.event.register ≡ τ.world.stepper.registers.values
    pub flags : m.flags ≡ τ.world.stepper.flags
    pub stopped : is_stop τ.event.kind ≡ τ.world.stepper.stopped
    pub next : τ.world.stepper.stopped ≡ false → τ.world.stepper.next ≡ goes_to u.stepper.next (taken_by m.pending) (value_for_15 τ.event.register)
    pub taken : (is_done τ.event.kind && which is_branch (result_ok held)) ≡ is_some (taken_by m.pending)
    pub wrote15 : (is_done τ.event.kind && which writes_15 (result_ok held)) ≡ is_write_15 τ.event.register
    pub ahead15 : τ.world.stepper.stopped ≡ false → is_write_15 (pending_write m.pending) ≡ is_write_15 τ.event.register
    pub forwards : τ.world.stepper.stopped ≡ false → (r : Register) (v : ℕ) → hits (cond (is_done τ.event.kind || is_skipped τ.event.kind) (brought (result_ok held)) None) r ≡ false → is_write_15 τ.event.register ≡ false → taking (pending_write m.pending) r v ≡ taking τ.event.register r v
    pub ends : τ.world.stepper.stopped ≡ false → (is_done τ.event.kind || is_skipped τ.event.kind) ≡ true
    pub exclusive : is_done τ.event.kind ≡ true → is_skipped τ.event.kind ≡ false

  -- a word that comes to a stop before Execute
  halts : (u : World) (word : ℕ) (why : Stop) → Facts u (Err why) (alone u.stepper.flags u.stepper.next word (Err why)) (stopping u word why)
  halts u word why =
      record {
        event = refl;
        words = refl;
        registers = refl;
        flags = refl;
        stopped = refl;
        next = λ h. grind arith;
        taken = refl;
        wrote15 = refl;
        ahead15 = λ h. refl;
        forwards = λ h r v p q. refl;
        ends = λ h. grind arith;
        exclusive = λ h. refl;
      }

  -- a skipped instruction
  skips : (u : World) (word : ℕ) (i : Instruction) → Facts u (Ok i) (record { address = u.stepper.next; word = word; flags = u.stepper.flags; pending = Skipped }) (skipping u word)
  skips u word i =
      record {
        event = refl;
        words = refl;
        registers = refl;
        flags = refl;
        stopped = refl;
        next = λ h. refl;
        taken = refl;
        wrote15 = refl;
        ahead15 = λ h. refl;
        forwards = λ h r v p q. refl;
        ends = λ h. refl;
        exclusive = λ h. grind arith;
      }

  -- an instruction that is done, with work that is left and the flags after it
  abbrev ready : World → ℕ → Flags → Work → MemorySlot
  ready u word flags work =
      record { address = u.stepper.next; word = word; flags = flags; pending = Done work }

  -- a result for a register, or a comparison
  computes : (u : World) (word : ℕ) (flags : Flags) (i : Instruction) (to : Option Register) (v : ℕ) → which is_branch (Some i) ≡ false → destination_of i.action ≡ to → brought_by i.action ≡ None → Facts u (Ok i) (ready u word flags (to_write to v)) (doing tags writable u word (to_write to v) flags)
  computes u word flags i None v b d l =
      record {
        event = refl;
        words = refl;
        registers = refl;
        flags = refl;
        stopped = refl;
        next = λ h. refl;
        taken = b;
        wrote15 = ap is_15 d;
        ahead15 = λ h. refl;
        forwards = λ h r v' p q. refl;
        ends = λ h. refl;
        exclusive = λ h. refl;
      }
  computes u word flags i (Some to) v b d l =
      record {
        event = refl;
        words = refl;
        registers = refl;
        flags = refl;
        stopped = refl;
        next = λ h. grind arith;
        taken = b;
        wrote15 = ap is_15 d;
        ahead15 = λ h. refl;
        forwards = λ h r v' p q. refl;
        ends = λ h. refl;
        exclusive = λ h. refl;
      }

  -- a load, by what the data memory answers
  fetches : (u : World) (word : ℕ) (i : Instruction) (to : Register) (at : ℕ) (r : Result ℕ Fault) → read u.words tags at ≡ r → which is_branch (Some i) ≡ false → destination_of i.action ≡ Some to → brought_by i.action ≡ cond (eqb to.number 15) None (Some to) → Facts u (Ok i) (ready u word u.stepper.flags (ToLoad to at)) (finishing u word (ToLoad to at) u.stepper.flags u.words (loaded to r))
  fetches u word i to at (Ok v) e b d l =
      record {
        event = ap (λ x. event_of (ready u word u.stepper.flags (ToLoad to at)) (accessed_or (loaded to x))) e;
        words = refl;
        registers = refl;
        flags = refl;
        stopped = refl;
        next = λ h. grind arith;
        taken = b;
        wrote15 = ap is_15 d;
        ahead15 = λ h. refl;
        forwards = λ h r v' p q. let p' : hits (cond (eqb to.number 15) None (Some to)) r ≡ false = ap (λ x. hits x r) (sym l) ∙ p in grind (arith, nat_tests);
        ends = λ h. refl;
        exclusive = λ h. refl;
      }
  fetches u word i to at (Err fault) e b d l =
      record {
        event = ap (λ x. event_of (ready u word u.stepper.flags (ToLoad to at)) (accessed_or (loaded to x))) e;
        words = refl;
        registers = refl;
        flags = refl;
        stopped = refl;
        next = λ h. grind arith;
        taken = refl;
        wrote15 = refl;
        ahead15 = λ h. grind arith;
        forwards = λ h r v' p q. grind arith;
        ends = λ h. grind arith;
        exclusive = λ h. grind arith;
      }

  -- a store, by what the data memory answers
  puts : (u : World) (word : ℕ) (i : Instruction) (w : MemoryWrite) (r : Result (Unit {0}) Fault) → writing u.words tags writable w.address ≡ r → which is_branch (Some i) ≡ false → destination_of i.action ≡ None → brought_by i.action ≡ None → Facts u (Ok i) (ready u word u.stepper.flags (ToStore w)) (finishing u word (ToStore w) u.stepper.flags (words_after u.words tags writable (ToStore w)) (stored w r))
  puts u word i w (Ok ok) e b d l =
      record {
        event = ap (λ x. event_of (ready u word u.stepper.flags (ToStore w)) (accessed_or (stored w x))) e;
        words = refl;
        registers = refl;
        flags = refl;
        stopped = refl;
        next = λ h. refl;
        taken = b;
        wrote15 = ap is_15 d;
        ahead15 = λ h. refl;
        forwards = λ h r v p q. refl;
        ends = λ h. refl;
        exclusive = λ h. refl;
      }
  puts u word i w (Err fault) e b d l =
      record {
        event = ap (λ x. event_of (ready u word u.stepper.flags (ToStore w)) (accessed_or (stored w x))) e;
        words = ap (λ x. cond (is_ok x) (put u.words w.address w.value) u.words) e;
        registers = refl;
        flags = refl;
        stopped = refl;
        next = λ h. grind arith;
        taken = refl;
        wrote15 = refl;
        ahead15 = λ h. grind arith;
        forwards = λ h r v p q. refl;
        ends = λ h. grind arith;
        exclusive = λ h. grind arith;
      }

  -- an instruction whose condition holds, with its operands
  does : (u : World) (word : ℕ) (c : Condition) (action : Action) (first second : ℕ) → Facts u (Ok (record { condition = c; action = action })) (ready u word (flags_of action first second u.stepper.flags) (work_of action first second)) (doing tags writable u word (work_of action first second) (flags_of action first second u.stepper.flags))
  does u word c (Data d) first second = computes u word _ (record { condition = c; action = Data d }) (destination_of (Data d)) _ refl refl refl
  does u word c (Load t) first second = fetches u word (record { condition = c; action = Load t }) t.rd _ _ refl refl refl refl
  does u word c (Store t) first second = puts u word (record { condition = c; action = Store t }) _ _ refl refl refl refl
  does u word c (Branch offset) first second =
      record {
        event = refl;
        words = refl;
        registers = refl;
        flags = refl;
        stopped = refl;
        next = λ h. refl;
        taken = refl;
        wrote15 = refl;
        ahead15 = λ h. refl;
        forwards = λ h r v p q. refl;
        ends = λ h. refl;
        exclusive = λ h. refl;
      }

  -- an instruction, by whether its condition holds
  judged : (u : World) (word : ℕ) (c : Condition) (action : Action) (first second : ℕ) (b : Bool) → Facts u (Ok (record { condition = c; action = action })) (cond b (ready u word (flags_of action first second u.stepper.flags) (work_of action first second)) (record { address = u.stepper.next; word = word; flags = u.stepper.flags; pending = Skipped })) (cond b (doing tags writable u word (work_of action first second) (flags_of action first second u.stepper.flags)) (skipping u word))
  judged u word c action first second true = does u word c action first second
  judged u word c action first second false = skips u word (record { condition = c; action = action })

  -- a word, by what it means
  meant : (u : World) (word : ℕ) (o : Option Instruction) → Facts u (in_subset o) (alone u.stepper.flags u.stepper.next word (reading u.stepper.registers.values u.stepper.next (in_subset o))) (understanding tags writable u word o)
  meant u word None = halts u word Outside
  meant u word (Some i) = judged u word i.condition i.action _ _ (condition_holds i.condition u.stepper.flags)

  -- what the program store answered
  pub facts : (u : World) (f : Result ℕ Fault) → Facts u (understood f) (alone u.stepper.flags u.stepper.next (word_in f) (reading u.stepper.registers.values u.stepper.next (understood f))) (fetching tags writable u f)
  facts u (Ok word) = meant u word (decoded word)
  facts u (Err fault) = halts u 0 (Fetch fault)
