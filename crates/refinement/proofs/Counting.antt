-- The clock law, one event at a time. Assumes nothing.
use Rattle.std.proofs.Common.{◌≡◌, ℕ, zero, suc, ◌+◌, ◌-◌, ◌*◌, Bool, true, false, cond, List, [], ◌∷◌, ◌++◌, length, take, count_by, sym, refl, ap, ◌∙◌, arith}
use Rattle.std.proofs.lemmas.List.{take_at, length_push}
use Rattle.std.proofs.lemmas.List.Sums.{sum_by_push}
use Rattle.std.proofs.lemmas.Bool.{false≢true}
use Rattle.memory.specs.Meaning.{Words}
use Rattle.stepper.specs.Step.{Setting, World}
use Rattle.stepper.specs.Run.{event_of, after_steps, first_events}
use Rattle.stepper.specs.declared.event.Event.{Event}
use Rattle.refinement.specs.ClockLaw.{taken_branch, done_write_15, skipped_write_15, feeds, bit, load_uses, but_last, clock_of}
use Rattle.refinement.proofs.View.{halted, next, ev, gap}

but_last_lem : (es : List Event) (e : Event) → but_last (es ++ e ∷ []) ≡ es
but_last_lem es e =
    let n : length (es ++ e ∷ []) - 1 ≡ length es = omega (arith, length_push es e) in
    ap (λ k. take k (es ++ e ∷ [])) n ∙ take_at es (e ∷ []) (length es) refl

-- one more event may be the use of a load
pub uses_push : (es : List Event) (e e' : Event) → load_uses ((es ++ e ∷ []) ++ e' ∷ []) ≡ load_uses (es ++ e ∷ []) + bit (feeds e e')
uses_push [] e e' = omega arith
uses_push (x ∷ []) e e' = omega arith
uses_push (x ∷ y ∷ es) e e' = let more = uses_push (y ∷ es) e e' in omega arith

-- and the one before it now counts among those with another behind them
pub count_push : (p : Event → Bool) (es : List Event) (e e' : Event) → count_by p (but_last ((es ++ e ∷ []) ++ e' ∷ [])) ≡ count_by p (but_last (es ++ e ∷ [])) + bit (p e)
count_push p es e e' =
    ap (count_by p) (but_last_lem (es ++ e ∷ []) e') ∙ sum_by_push (λ x. cond (p x) 1 0) es e ∙ ap (λ l. count_by p l + bit (p e)) (sym (but_last_lem es e))

-- the clock of one more event
pub clock_push : (es : List Event) (e e' : Event) → clock_of ((es ++ e ∷ []) ++ e' ∷ []) ≡ clock_of (es ++ e ∷ []) + (1 + bit (feeds e e') + 2 * bit (taken_branch e) + 4 * bit (done_write_15 e) + 2 * bit (skipped_write_15 e))
clock_push es e e' =
    omega (arith, uses_push es e e', length_push (es ++ e ∷ []) e', count_push taken_branch es e e', count_push done_write_15 es e e', count_push skipped_write_15 es e e')

module _ (s : Setting) (words : Words) where
  abbrev pub W : ℕ → World
  W k = after_steps s words k

  -- the clock in which the event behind k others is due
  abbrev pub due_at : ℕ → ℕ
  due_at zero = 5
  due_at (suc k) = due_at k + gap s (W k)

  -- what goes on went on before
  pub went_on : (k : ℕ) → halted (W (suc k)) ≡ false → halted (W k) ≡ false
  went_on k h = by (halted (W k)) refl
    where
      by : (b : Bool) → halted (W k) ≡ b → halted (W k) ≡ false
      by false e = e
      by true e = absurd (false≢true (sym h ∙ ap (λ b. halted (cond b (W k) (next s (W k)))) e ∙ e))

  pub goes : (k : ℕ) → halted (W k) ≡ false → W (suc k) ≡ next s (W k)
  goes k h = ap (λ b. cond b (W k) (next s (W k))) h

  pub says : (k : ℕ) → halted (W k) ≡ false → event_of s (W k) ≡ ev s (W k) ∷ []
  says k h = ap (λ b. cond b [] (ev s (W k) ∷ [])) h

  -- the law gives that clock
  pub law : (k : ℕ) → halted (W k) ≡ false → clock_of (first_events s words (suc k)) ≡ due_at k
  law zero h = ap (λ l. clock_of ([] ++ l)) (says zero h)
  law (suc k) h =
      let before = went_on k h in
      let front = first_events s words k in
      let parts : first_events s words (suc (suc k)) ≡ (front ++ ev s (W k) ∷ []) ++ ev s (next s (W k)) ∷ [] = (λ i. (front ++ says k before i) ++ says (suc k) h i) ∙ ap (λ v. (front ++ ev s (W k) ∷ []) ++ ev s v ∷ []) (goes k before) in
      ap clock_of parts ∙ clock_push front (ev s (W k)) (ev s (next s (W k))) ∙ ap (λ n. n + gap s (W k)) (ap (λ l. clock_of (front ++ l)) (sym (says k before)) ∙ law k before)
