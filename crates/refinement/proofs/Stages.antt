-- What a stage does to a slot, over any content. Assumes nothing.
use Rattle.std.proofs.Common.{◌≡◌, ℕ, false, cond, List, length, Some, None, Ok, Err, Option, Result, refl, ap, arith}
use Rattle.std.specs.Result.{result_ok}
use Rattle.std.proofs.lemmas.List.{get_or-set_same, get_or-set_other}
use Rattle.std.proofs.lemmas.Bool.Decides.{nat_tests}
use Rattle.isa.specs.declared.instruction.Instruction.{Instruction}
use Rattle.isa.specs.declared.register.Register.{Register}
use Rattle.stepper.specs.Registers.{read_at, written}
use Rattle.stepper.specs.declared.event.RegisterWrite.{RegisterWrite}
use Rattle.stepper.specs.declared.event.Stop.{Stop}
use Rattle.pipeline.specs.ExecuteStage.{taking}
use Rattle.pipeline.specs.DecodeStage.{reading, loaded_in, stalls}
use Rattle.pipeline.specs.FetchStage.{in_decode, issue_writes_15, is_write_15, value_for_15}
use Rattle.refinement.specs.ClockLaw.{needs}
use Rattle.refinement.proofs.Facts.{load_in}

-- a register read after a write, if the write is not of register 15
pub read_after : (values : List ℕ) (a : ℕ) (w : Option RegisterWrite) (r : Register) → length values ≡ 15 → is_write_15 w ≡ false → read_at (written values w) a r ≡ taking w r (read_at values a r)
read_after values a None r long other = refl
read_after values a (Some w) r long other =
    grind (arith, nat_tests, w.register.ok, r.ok, get_or-set_same values w.register.number w.value 0, get_or-set_other values w.register.number r.number w.value 0)

-- nothing waits for no load
pub no_load : (h : Option (Result Instruction Stop)) → stalls None h ≡ false
no_load None = refl
no_load (Some (Ok i)) = refl
no_load (Some (Err why)) = refl

-- what Execute holds of an instruction that Decode understood
pub issue_writes : (values : List ℕ) (a : ℕ) (h : Result Instruction Stop) → issue_writes_15 (reading values a h) ≡ in_decode (Some h)
issue_writes values a (Ok i) = refl
issue_writes values a (Err why) = refl

pub issue_loads : (values : List ℕ) (a : ℕ) (h : Result Instruction Stop) → loaded_in (reading values a h) ≡ load_in h
issue_loads values a (Ok i) = refl
issue_loads values a (Err why) = refl

-- a stall is a load and its use
pub stall_needs : (r : Option Register) (h : Result Instruction Stop) → stalls r (Some h) ≡ needs r (result_ok h)
stall_needs None (Ok i) = refl
stall_needs None (Err why) = refl
stall_needs (Some r) (Ok i) = refl
stall_needs (Some r) (Err why) = refl

-- no write of register 15, no value for it
pub no_value : (w : Option RegisterWrite) → is_write_15 w ≡ false → value_for_15 w ≡ None
no_value None h = refl
no_value (Some w) h = ap (λ b. cond b (Some w.value) None) h
