-- How many clocks lie between an event and the next, by what the instruction is. Assumes nothing.
use Rattle.std.proofs.Common.{◌≡◌, ℕ, ◌+◌, ◌*◌, true, false, cond, ◌&&◌, ◌||◌, Some, None, Ok, Err, Option, Result, refl, ap, ◌∙◌, arith}
use Rattle.std.specs.Result.{result_ok}
use Rattle.std.proofs.lemmas.Bool.{false≢true}
use Rattle.isa.specs.declared.instruction.Action.{Action}
use Rattle.isa.specs.declared.instruction.Action.TheVariants.{Data, Load, Store, Branch}
use Rattle.isa.specs.declared.instruction.Instruction.{Instruction}
use Rattle.stepper.specs.Step.{Setting, World}
use Rattle.stepper.specs.declared.event.Kind.{Kind}
use Rattle.stepper.specs.declared.event.Kind.TheVariants.{Done, Skipped, Stopped}
use Rattle.stepper.specs.declared.event.Stop.{Stop}
use Rattle.pipeline.specs.DecodeStage.{loaded_by}
use Rattle.pipeline.specs.FetchStage.{in_decode}
use Rattle.refinement.specs.ClockLaw.{which, is_done, is_skipped, is_branch, writes_15, brought_by, brought, needs, bit}
use Rattle.refinement.proofs.Facts.{load_in}
use Rattle.refinement.proofs.View.{pc, next, ev, held_at, gap}
use Rattle.refinement.proofs.Quiet.{instr}

-- the gap, from the event's kind and the instructions of the two events
abbrev gap_of : Kind → Option Instruction → Option Instruction → ℕ
gap_of k o o' =
    1 + bit (needs (cond (is_done k || is_skipped k) (brought o) None) o')
    + 2 * bit (is_done k && which is_branch o) + 4 * bit (is_done k && which writes_15 o) + 2 * bit (is_skipped k && which writes_15 o)

-- a branch loads nothing and writes no register
pub branch_loads : (action : Action) → is_branch action ≡ true → (brought_by action ≡ None) × (writes_15 action ≡ false)
branch_loads (Data d) h = absurd (false≢true h)
branch_loads (Load t) h = absurd (false≢true h)
branch_loads (Store t) h = absurd (false≢true h)
branch_loads (Branch offset) h = (refl, refl)

-- a load of register 15 counts as a write of it
writer_loads : (action : Action) → writes_15 action ≡ true → (brought_by action ≡ None) × (is_branch action ≡ false)
writer_loads (Data d) h = (refl, refl)
writer_loads (Load t) h = (ap (λ b. cond b None (Some t.rd)) h, refl)
writer_loads (Store t) h = absurd (false≢true h)
writer_loads (Branch offset) h = absurd (false≢true h)

other_loads : (action : Action) → writes_15 action ≡ false → brought_by action ≡ loaded_by action
other_loads (Data d) h = refl
other_loads (Load t) h = ap (λ b. cond b None (Some t.rd)) h
other_loads (Store t) h = refl
other_loads (Branch offset) h = refl

taken_gap : (k : Kind) (o o' : Option Instruction) → (is_done k && which is_branch o) ≡ true → gap_of k o o' ≡ 3
taken_gap Done None o' h = absurd (false≢true h)
taken_gap Done (Some i) o' h =
    let p = branch_loads i.action h in
    λ j. 1 + bit (needs (p.0 j) o') + 2 * bit (h j) + 4 * bit (p.1 j) + 2 * bit false
taken_gap Skipped o o' h = absurd (false≢true h)
taken_gap (Stopped why) o o' h = absurd (false≢true h)

written_gap : (k : Kind) (o o' : Option Instruction) → (is_done k && which writes_15 o) ≡ true → gap_of k o o' ≡ 5
written_gap Done None o' h = absurd (false≢true h)
written_gap Done (Some i) o' h =
    let p = writer_loads i.action h in
    λ j. 1 + bit (needs (p.0 j) o') + 2 * bit (p.1 j) + 4 * bit (h j) + 2 * bit false
written_gap Skipped o o' h = absurd (false≢true h)
written_gap (Stopped why) o o' h = absurd (false≢true h)

skipped_gap : (k : Kind) (o o' : Option Instruction) → (is_skipped k && which writes_15 o) ≡ true → gap_of k o o' ≡ 3
skipped_gap Done o o' h = absurd (false≢true h)
skipped_gap Skipped None o' h = absurd (false≢true h)
skipped_gap Skipped (Some i) o' h =
    let p = writer_loads i.action h in
    λ j. 1 + bit (needs (p.0 j) o') + 2 * bit false + 4 * bit false + 2 * bit (h j)
skipped_gap (Stopped why) o o' h = absurd (false≢true h)

plain_gap : (k : Kind) (h : Result Instruction Stop) (o' : Option Instruction) → in_decode (Some h) ≡ false → (is_done k && which is_branch (result_ok h)) ≡ false → (is_done k || is_skipped k) ≡ true → gap_of k (result_ok h) o' ≡ 1 + bit (needs (load_in h) o')
plain_gap Done (Ok i) o' p q e =
    let load = other_loads i.action p in
    let first : gap_of Done (Some i) o' ≡ 1 + bit (needs (load_in (Ok i)) o') + 2 * bit false + 4 * bit false + 2 * bit false = λ j. 1 + bit (needs (load j) o') + 2 * bit (q j) + 4 * bit (p j) + 2 * bit false in
    omega arith
plain_gap Done (Err why) o' p q e = refl
plain_gap Skipped (Ok i) o' p q e =
    let load = other_loads i.action p in
    let first : gap_of Skipped (Some i) o' ≡ 1 + bit (needs (load_in (Ok i)) o') + 2 * bit false + 4 * bit false + 2 * bit false = λ j. 1 + bit (needs (load j) o') + 2 * bit false + 4 * bit false + 2 * bit (p j) in
    omega arith
plain_gap Skipped (Err why) o' p q e = refl
plain_gap (Stopped why) h o' p q e = absurd (false≢true e)

module _ (s : Setting) where
  gap_is : (u : World) → gap s u ≡ gap_of (ev s u).kind (result_ok (held_at s (pc u))) (result_ok (held_at s (pc (next s u))))
  gap_is u = λ j. gap_of (ev s u).kind (instr s u j) (instr s (next s u) j)

  pub gap_taken : (u : World) → (is_done (ev s u).kind && which is_branch (result_ok (held_at s (pc u)))) ≡ true → gap s u ≡ 3
  gap_taken u h = gap_is u ∙ taken_gap (ev s u).kind (result_ok (held_at s (pc u))) (result_ok (held_at s (pc (next s u)))) h

  pub gap_written : (u : World) → (is_done (ev s u).kind && which writes_15 (result_ok (held_at s (pc u)))) ≡ true → gap s u ≡ 5
  gap_written u h = gap_is u ∙ written_gap (ev s u).kind (result_ok (held_at s (pc u))) (result_ok (held_at s (pc (next s u)))) h

  pub gap_skipped : (u : World) → (is_skipped (ev s u).kind && which writes_15 (result_ok (held_at s (pc u)))) ≡ true → gap s u ≡ 3
  gap_skipped u h = gap_is u ∙ skipped_gap (ev s u).kind (result_ok (held_at s (pc u))) (result_ok (held_at s (pc (next s u)))) h

  pub gap_plain : (u : World) → in_decode (Some (held_at s (pc u))) ≡ false → (is_done (ev s u).kind && which is_branch (result_ok (held_at s (pc u)))) ≡ false → (is_done (ev s u).kind || is_skipped (ev s u).kind) ≡ true → gap s u ≡ 1 + bit (needs (load_in (held_at s (pc u))) (result_ok (held_at s (pc (next s u)))))
  gap_plain u p q e = gap_is u ∙ plain_gap (ev s u).kind (held_at s (pc u)) (result_ok (held_at s (pc (next s u)))) p q e
