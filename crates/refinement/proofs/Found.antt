-- The instruction of an event is the one that Decode finds in the fetched word. Assumes nothing.
use Rattle.std.proofs.Common.{◌≡◌, ℕ, Bool, true, false, cond, Some, None, Ok, Err, Option, Result, refl, ◌∙◌}
use Rattle.std.specs.Result.{result_ok}
use Rattle.memory.specs.Meaning.{Words, Tags}
use Rattle.memory.specs.declared.fault.Fault.{Fault}
use Rattle.isa.specs.Conditions.{condition_holds}
use Rattle.isa.specs.Decoding.{decoded}
use Rattle.isa.specs.Roles.{first_source, second_source}
use Rattle.isa.specs.declared.flags.Flags.{Flags}
use Rattle.isa.specs.declared.instruction.Instruction.{Instruction}
use Rattle.stepper.specs.Access.{accessed}
use Rattle.stepper.specs.Execute.{work_of, flags_of}
use Rattle.stepper.specs.Registers.{read_at}
use Rattle.stepper.specs.Step.{World, Turn, skipping, finishing, doing, understanding, fetching}
use Rattle.stepper.specs.declared.access.Effect.{Effect}
use Rattle.stepper.specs.declared.execute.Work.{Work}
use Rattle.pipeline.specs.DecodeStage.{in_subset, understood}
use Rattle.refinement.specs.ClockLaw.{was_read, instruction_of}

-- the event shows the word, which could be read
abbrev Shows : ℕ → Turn → Type 0
Shows word τ = (was_read τ.event.kind ≡ true) × (τ.event.word ≡ word)

finished : (u : World) (word : ℕ) (work : Work) (flags : Flags) (words : Words) (r : Result Effect Fault) → Shows word (finishing u word work flags words r)
finished u word work flags words (Ok effect) = (refl, refl)
finished u word work flags words (Err fault) = (refl, refl)

module _ (tags : Tags) (writable : ℕ → Bool) where
  judged : (u : World) (word : ℕ) (work : Work) (flags : Flags) (b : Bool) → Shows word (cond b (doing tags writable u word work flags) (skipping u word))
  judged u word work flags true = finished u word work flags _ (accessed u.words tags writable work)
  judged u word work flags false = (refl, refl)

  meant : (u : World) (word : ℕ) (o : Option Instruction) → Shows word (understanding tags writable u word o)
  meant u word None = (refl, refl)
  meant u word (Some i) =
      let first = read_at u.stepper.registers.values u.stepper.next (first_source i.action) in
      let second = read_at u.stepper.registers.values u.stepper.next (second_source i.action) in
      judged u word (work_of i.action first second) (flags_of i.action first second u.stepper.flags) (condition_holds i.condition u.stepper.flags)

  same_part : (o : Option Instruction) → o ≡ result_ok (in_subset o)
  same_part None = refl
  same_part (Some i) = refl

  pub found : (u : World) (f : Result ℕ Fault) → instruction_of (fetching tags writable u f).event ≡ result_ok (understood f)
  found u (Ok word) =
      let shows = meant u word (decoded word) in
      (λ i. cond (shows.0 i) (decoded (shows.1 i)) None) ∙ same_part (decoded word)
  found u (Err fault) = refl
