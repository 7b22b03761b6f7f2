-- What the due clocks of a flight tell of the instructions in it. Assumes nothing.
use Rattle.std.proofs.Common.{◌≡◌, ℕ, ◌+◌, ◌<◌, ◌≤◌, Bool, true, false, cond, ◌&&◌, ◌||◌, List, length, Some, None, Ok, Err, Option, Result, sym, refl, ap, ◌∙◌, arith, length-set}
use Rattle.std.specs.Result.{result_ok}
use Rattle.memory.specs.Meaning.{reading as read}
use Rattle.isa.specs.declared.instruction.Instruction.{Instruction}
use Rattle.stepper.specs.Registers.{written}
use Rattle.stepper.specs.Step.{Setting, World, turn}
use Rattle.stepper.specs.declared.event.RegisterWrite.{RegisterWrite}
use Rattle.stepper.specs.declared.event.Stop.{Stop}
use Rattle.pipeline.specs.Writeback.{register_of}
use Rattle.pipeline.specs.ExecuteStage.{memory_write}
use Rattle.pipeline.specs.FetchStage.{in_decode, is_write_15}
use Rattle.refinement.specs.ClockLaw.{instruction_of, which, is_done, is_skipped, writes_15, done_write_15, brought, load_of, feeds, bit}
use Rattle.refinement.proofs.Facts.{Facts, facts}
use Rattle.refinement.proofs.Found.{found}
use Rattle.refinement.proofs.View.{regs, pc, halted, next, ev, held_at, memory_at, gap, on, due, mslot, wslot}

-- a write keeps the number of registers
long_after : (values : List ℕ) (w : Option RegisterWrite) → length values ≡ 15 → length (written values w) ≡ 15
long_after values None h = h
long_after values (Some w) h = grind (arith, length-set values w.register.number w.value)

pub which_15 : (h : Result Instruction Stop) → which writes_15 (result_ok h) ≡ in_decode (Some h)
which_15 (Ok i) = refl
which_15 (Err why) = refl

module _ (s : Setting) where
  pub of : (u : World) → Facts s.data_tags s.writable u (held_at s (pc u)) (memory_at s u) (turn s u)
  of u = facts s.data_tags s.writable u (read s.program s.program_tags (pc u))

  pub instr : (u : World) → instruction_of (ev s u) ≡ result_ok (held_at s (pc u))
  instr u = found s.data_tags s.writable u (read s.program s.program_tags (pc u))

  pub is_done_15 : (u : World) → done_write_15 (ev s u) ≡ is_write_15 (ev s u).register
  is_done_15 u = ap (λ x. is_done (ev s u).kind && which writes_15 x) (instr u) ∙ (of u).wrote15

  pub is_load : (u : World) → load_of (ev s u) ≡ cond (is_done (ev s u).kind || is_skipped (ev s u).kind) (brought (result_ok (held_at s (pc u)))) None
  is_load u = ap (λ x. cond (is_done (ev s u).kind || is_skipped (ev s u).kind) (brought x) None) (instr u)

  -- a done write of register 15 takes five clocks to the next event
  bit_one : (b : Bool) → b ≡ true → bit b ≡ 1
  bit_one b h = ap bit h

  pub near : (u : World) → gap s u < 5 → is_write_15 (ev s u).register ≡ false
  near u h =
      elim (is_write_15 (ev s u).register) as (λ b. done_write_15 (ev s u) ≡ b → b ≡ false) [ true ↦ λ q. absurd (omega (arith, ap bit q)) | false ↦ λ q. refl ] (is_done_15 u)

  -- one clock to the next event: no load and use
  pub close : (u : World) → gap s u ≡ 1 → feeds (ev s u) (ev s (next s u)) ≡ false
  close u h =
      elim (feeds (ev s u) (ev s (next s u))) as (λ b. feeds (ev s u) (ev s (next s u)) ≡ b → b ≡ false) [ true ↦ λ q. absurd (omega (arith, ap bit q)) | false ↦ λ q. refl ] refl

  -- Writeback writes no register 15 if the next event is due within four clocks of its own
  pub quiet_writeback : (w : Bool) (u : World) (d t k : ℕ) → (w ≡ true → d ≡ t + 1) → due s w u d ≡ t + k → k ≤ 5 → is_write_15 (register_of (wslot s w u)) ≡ false
  quiet_writeback true u d t k p q h = near u (omega (arith, p refl))
  quiet_writeback false u d t k p q h = refl

  -- nor does Memory
  pub quiet_memory : (m : Bool) (u : World) (d t k : ℕ) → (m ≡ true → d ≡ t + 2) → due s m u d ≡ t + k → k ≤ 5 → halted (on s m u) ≡ false → is_write_15 (memory_write (mslot s m u)) ≡ false
  quiet_memory true u d t k p q h alive = (of u).ahead15 alive ∙ near u (omega (arith, p refl))
  quiet_memory false u d t k p q h alive = refl

  -- the registers one event on
  pub regs_on : (w : Bool) (u : World) → written (regs u) (register_of (wslot s w u)) ≡ regs (on s w u)
  regs_on true u = (of u).registers
  regs_on false u = refl

  pub long_on : (w : Bool) (u : World) → length (regs u) ≡ 15 → length (regs (on s w u)) ≡ 15
  long_on true u h = ap length (sym (of u).registers) ∙ long_after (regs u) (ev s u).register h
  long_on false u h = h
