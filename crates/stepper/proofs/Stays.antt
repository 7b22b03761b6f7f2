-- Laws of a routine's run. Assumes nothing.
use Rattle.std.proofs.Common.{◌≡◌, ℕ, zero, suc, ◌+◌, ◌-◌, ◌<◌, ◌≤◌, Bool, true, false, cond, List, [], ◌∷◌, ◌++◌, Ok, Err, Result, sym, refl, ap, ◌∙◌, subst, append-nil, add-zero, add-suc, add-one, arith}
use Rattle.memory.specs.Meaning.{Words}
use Rattle.stepper.specs.declared.event.Event.{Event}
use Rattle.stepper.specs.declared.stepper.HasStopped.{HasStopped}
use Rattle.stepper.specs.Step.{Setting, World, turn}
use Rattle.stepper.specs.Run.{advance, event_of, after_steps, first_events, Stepped, Ran, GivenUp}

module _ (s : Setting) where
  still : (w : World) → w.stepper.stopped ≡ true → advance s w ≡ w
  still w h = ap (λ b. cond b w (turn s w).world) h

  mute : (w : World) → w.stepper.stopped ≡ true → event_of s w ≡ []
  mute w h = ap (λ b. cond b [] ((turn s w).event ∷ [])) h

module _ (s : Setting) (words : Words) where
  -- once stopped, a routine stays where it is
  pub stays : (n d : ℕ) → (after_steps s words n).stepper.stopped ≡ true → after_steps s words (n + d) ≡ after_steps s words n
  stays n zero h = ap (after_steps s words) (add-zero n)
  stays n (suc d) h =
      ap (after_steps s words) (add-suc n d) ∙ ap (advance s) (stays n d h) ∙ still s (after_steps s words n) h

  -- and has no more events
  pub silent : (n d : ℕ) → (after_steps s words n).stepper.stopped ≡ true → first_events s words (n + d) ≡ first_events s words n
  silent n zero h = ap (first_events s words) (add-zero n)
  silent n (suc d) h =
      ap (first_events s words) (add-suc n d)
      ∙ ap (λ w. first_events s words (n + d) ++ event_of s w) (stays n d h)
      ∙ ap (λ l. first_events s words (n + d) ++ l) (mute s (after_steps s words n) h)
      ∙ append-nil (first_events s words (n + d))
      ∙ silent n d h

if_accepted : {A E : Type 0} (b : Bool) (x : E) (y e : A) → ◌≡◌ {A = Result A E} (Ok e) (cond b (Err x) (Ok y)) → cond b [] (y ∷ []) ≡ e ∷ []
if_accepted true x y e q = let z : ◌≡◌ {A = ℕ} 0 1 = cc in absurd (omega arith)
if_accepted false x y e q = cc

if_refused : {A E : Type 0} (b : Bool) (x : E) (y : A) (z : E) → ◌≡◌ {A = Result A E} (Err z) (cond b (Err x) (Ok y)) → b ≡ true
if_refused true x y z q = refl
if_refused false x y z q = let n : ◌≡◌ {A = ℕ} 0 1 = cc in absurd (omega arith)

-- a routine so far: its events, and the world after them
pub record Sofar (s : Setting) (words : Words) (n : ℕ) (events : List Event) (w : World) : Type 0 where
  pub gave : events ≡ first_events s words n
  pub stands : w ≡ after_steps s words n

module _ (s : Setting) (words : Words) where
  -- an accepted step has an event
  spoke : (w w' : World) (e : Event) → Stepped s w (Ok e) w' → event_of s w ≡ e ∷ []
  spoke w w' e h = if_accepted w.stepper.stopped _ (turn s w).event e h.answers

  -- a refused one finds the routine stopped
  had_stopped : (w w' : World) (x : HasStopped) → Stepped s w (Err x) w' → w.stepper.stopped ≡ true
  had_stopped w w' x h = if_refused w.stepper.stopped _ (turn s w).event x h.answers

  pub one_more : (n : ℕ) (es es' : List Event) (w w' : World) (e : Event) → Sofar s words n es w → Stepped s w (Ok e) w' → es' ≡ es ++ e ∷ [] → Sofar s words (n + 1) es' w'
  one_more n es es' w w' e sofar h pushed =
      record {
        gave = pushed ∙ (λ i. sofar.gave i ++ sym (spoke w w' e h) i) ∙ ap (λ v. first_events s words n ++ event_of s v) sofar.stands ∙ sym (ap (first_events s words) (add-one n));
        stands = h.goes ∙ ap (advance s) sofar.stands ∙ sym (ap (after_steps s words) (add-one n));
      }

  pub at_the_limit : (n limit : ℕ) (es : List Event) (w : World) → n ≡ limit → Sofar s words n es w → Ran s words limit es w.words
  at_the_limit n limit es w same sofar =
      record {
        gives = sofar.gave ∙ ap (first_events s words) same;
        leaves = ap (λ v. v.words) (sofar.stands ∙ ap (after_steps s words) same);
      }

  pub at_the_stop : (n limit : ℕ) (es : List Event) (w w' : World) (x : HasStopped) → n ≤ limit → Sofar s words n es w → Stepped s w (Err x) w' → Ran s words limit es w'.words
  at_the_stop n limit es w w' x h sofar step =
      let end : (after_steps s words n).stepper.stopped ≡ true = ap (λ v. v.stepper.stopped) (sym sofar.stands) ∙ had_stopped w w' x step in
      let far : n + (limit - n) ≡ limit = omega arith in
      record {
        gives = sofar.gave ∙ sym (silent s words n (limit - n) end) ∙ ap (first_events s words) far;
        leaves = ap (λ v. v.words) (step.goes ∙ still s w (had_stopped w w' x step) ∙ sofar.stands ∙ sym (stays s words n (limit - n) end) ∙ ap (after_steps s words) far);
      }

-- a step's promise, where the setting is known by another name
pub told_of : {s t : Setting} {w w' : World} {r : Result Event HasStopped} → s ≡ t → Stepped s w r w' → Stepped t w r w'
told_of {s} {t} {w} {w'} {r} p h = subst (λ u. Stepped u w r w') p h

-- between two steps a run can be given up
pub given_up : (s : Setting) (words : Words) (n limit : ℕ) (w w' : World) (e : Event) → n < limit → w ≡ after_steps s words n → Stepped s w (Ok e) w' → GivenUp s words limit w'.words
given_up s words n limit w w' e h stands step =
    record {
      steps = n + 1;
      within = omega arith;
      leaves = ap (λ v. v.words) (step.goes ∙ ap (advance s) stands ∙ sym (ap (after_steps s words) (add-one n)));
    }
