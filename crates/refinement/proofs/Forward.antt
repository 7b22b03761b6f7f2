-- Execute works with the registers of the stepper, whatever is still under way. Assumes nothing.
use Rattle.std.proofs.Common.{◌≡◌, ℕ, ◌+◌, Bool, true, false, eqb, List, length, Some, None, Ok, Err, Option, Result, sym, refl, ap, ◌∙◌, arith}
use Rattle.std.specs.Result.{result_ok}
use Rattle.std.proofs.lemmas.Bool.{or_parts, false≢true}
use Rattle.isa.specs.Roles.{first_source, second_source}
use Rattle.isa.specs.declared.flags.Flags.{Flags}
use Rattle.isa.specs.declared.instruction.Instruction.{Instruction}
use Rattle.isa.specs.declared.register.Register.{Register}
use Rattle.stepper.specs.Registers.{read_at}
use Rattle.stepper.specs.Step.{Setting, World}
use Rattle.stepper.specs.declared.event.RegisterWrite.{RegisterWrite}
use Rattle.stepper.specs.declared.event.Stop.{Stop}
use Rattle.pipeline.specs.Writeback.{register_of}
use Rattle.pipeline.specs.ExecuteStage.{memory_write, taking, operand, performed, taken_by, issued_on, executed}
use Rattle.pipeline.specs.DecodeStage.{reading}
use Rattle.pipeline.specs.declared.execute_stage.Executed.{Executed}
use Rattle.pipeline.specs.declared.slots.MemorySlot.{MemorySlot}
use Rattle.refinement.specs.ClockLaw.{load_of, needs}
use Rattle.refinement.proofs.Facts.{alone, hits}
use Rattle.refinement.proofs.Stages.{read_after}
use Rattle.refinement.proofs.View.{regs, pc, halted, next, ev, held_at, issue_at, memory_at, on, due, mslot, wslot}
use Rattle.refinement.proofs.Quiet.{of, instr, is_load, near, close, quiet_writeback, regs_on, long_on}

-- a load that is not needed brings none of the two sources
spared : (load : Option Register) (i : Instruction) → needs load (Some i) ≡ false → (hits load (first_source i.action) ≡ false) × (hits load (second_source i.action) ≡ false)
spared None i h = (refl, refl)
spared (Some r) i h = or_parts (eqb r.number (first_source i.action).number) (eqb r.number (second_source i.action).number) h

-- what Execute makes of an instruction whose forwarded operands are the registers `exact`
pub record Right (x : Executed) (done : MemorySlot) : Type 0 where
  pub slot : x.slot ≡ Some done
  pub flags : x.flags ≡ done.flags
  pub taken : x.taken ≡ taken_by done.pending

module _ (memory writeback : Option RegisterWrite) (flags : Flags) (a word : ℕ) (values exact : List ℕ) where
  pub executes : (h : Result Instruction Stop) → ((i : Instruction) → h ≡ Ok i → (operand memory writeback (first_source i.action) (read_at values a (first_source i.action)) ≡ read_at exact a (first_source i.action)) × (operand memory writeback (second_source i.action) (read_at values a (second_source i.action)) ≡ read_at exact a (second_source i.action))) → Right (issued_on memory writeback flags a word (reading values a h)) (alone flags a word (reading exact a h))
  executes (Ok i) same =
      let p = same i refl in
      record {
        slot = λ k. Some (performed flags a word (record { instruction = i; first = p.0 k; second = p.1 k }));
        flags = λ k. (performed flags a word (record { instruction = i; first = p.0 k; second = p.1 k })).flags;
        taken = λ k. taken_by (performed flags a word (record { instruction = i; first = p.0 k; second = p.1 k })).pending;
      }
  executes (Err why) same = record { slot = refl; flags = refl; taken = refl }

module _ (s : Setting) where
  -- a source through Memory
  past_memory : (m : Bool) (u : World) (d t a : ℕ) (r : Register) (v : ℕ) → length (regs u) ≡ 15 → (m ≡ true → d ≡ t + 2) → due s m u d ≡ t + 3 → halted (on s m u) ≡ false → (m ≡ true → hits (load_of (ev s u)) r ≡ false) → v ≡ read_at (regs u) a r → taking (memory_write (mslot s m u)) r v ≡ read_at (regs (on s m u)) a r
  past_memory true u d t a r v long p q alive spare e =
      let other = near s u (omega (arith, p refl)) in
      (of s u).forwards alive r v (ap (λ x. hits x r) (sym (is_load s u)) ∙ spare refl) other
      ∙ ap (taking (ev s u).register r) e
      ∙ sym (read_after (regs u) a (ev s u).register r long other)
      ∙ ap (λ l. read_at l a r) (of s u).registers
  past_memory false u d t a r v long p q alive spare e = e

  -- a source through Writeback and Memory
  pub forwarded_right : (w m : Bool) (u : World) (d t a : ℕ) (r : Register) → length (regs u) ≡ 15 → (w ≡ true → d ≡ t + 1) → (m ≡ true → due s w u d ≡ t + 2) → due s m (on s w u) (due s w u d) ≡ t + 3 → halted (on s m (on s w u)) ≡ false → (m ≡ true → hits (load_of (ev s (on s w u))) r ≡ false) → operand (memory_write (mslot s m (on s w u))) (register_of (wslot s w u)) r (read_at (regs u) a r) ≡ read_at (regs (on s m (on s w u))) a r
  forwarded_right w true u d t a r long p q front alive spare =
      past_memory true (on s w u) (due s w u d) t a r _ (long_on s w u long) q front alive spare
      (sym (read_after (regs u) a _ r long (quiet_writeback s w u d t 2 p (q refl) (omega arith))) ∙ ap (λ l. read_at l a r) (regs_on s w u))
  forwarded_right w false u d t a r long p q front alive spare =
      sym (read_after (regs u) a _ r long (quiet_writeback s w u d t 3 p front (omega arith))) ∙ ap (λ l. read_at l a r) (regs_on s w u)

  -- the events of Memory and Execute are no load and its use
  spares : (m : Bool) (u : World) (d t : ℕ) (i : Instruction) → held_at s (pc (on s m u)) ≡ Ok i → (m ≡ true → d ≡ t + 2) → due s m u d ≡ t + 3 → m ≡ true → (hits (load_of (ev s u)) (first_source i.action) ≡ false) × (hits (load_of (ev s u)) (second_source i.action) ≡ false)
  spares true u d t i h p q m =
      spared (load_of (ev s u)) i (ap (needs (load_of (ev s u))) (sym (instr s (next s u) ∙ ap result_ok h)) ∙ close s u (omega (arith, p refl)))
  spares false u d t i h p q m = absurd (false≢true m)

  -- so Execute makes of its slot what the stepper's registers make of it
  pub executes_right : (w m : Bool) (u : World) (d t : ℕ) → length (regs u) ≡ 15 → (w ≡ true → d ≡ t + 1) → (m ≡ true → due s w u d ≡ t + 2) → due s m (on s w u) (due s w u d) ≡ t + 3 → halted (on s m (on s w u)) ≡ false → Right (executed (memory_write (mslot s m (on s w u))) (register_of (wslot s w u)) (on s m (on s w u)).stepper.flags (Some (issue_at s (regs u) (pc (on s m (on s w u)))))) (memory_at s (on s m (on s w u)))
  executes_right w m u d t long p q front alive =
      let v = on s m (on s w u) in
      executes (memory_write (mslot s m (on s w u))) (register_of (wslot s w u)) v.stepper.flags (pc v) _ (regs u) (regs v) (held_at s (pc v))
      (λ i h.
      let spare = spares m (on s w u) (due s w u d) t i h q front in (
        forwarded_right w m u d t (pc v) (first_source i.action) long p q front alive (λ e. (spare e).0),
        forwarded_right w m u d t (pc v) (second_source i.action) long p q front alive (λ e. (spare e).1),
      ))
