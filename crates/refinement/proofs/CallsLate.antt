-- Any list of calls is some number of clocks. Assumes nothing.
use Rattle.std.proofs.Common.{◌≡◌, ℕ, zero, suc, ◌+◌, false, List, [], ◌∷◌, ◌++◌, take, drop, Some, None, Ok, Err, Option, Result, sym, refl, ap, ◌∙◌, subst, append_assoc, append-nil, add-zero, add-suc, arith}
use Rattle.std.specs.Option.{option_to_list}
use Rattle.std.specs.List.{flat_map}
use Rattle.std.proofs.lemmas.List.{flat_map_more, take_at}
use Rattle.std.proofs.lemmas.Bool.{cond-false}
use Rattle.std.proofs.lemmas.Bool.Decides.{nat_tests}
use Rattle.memory.specs.Meaning.{Words}
use Rattle.stepper.specs.Alike.{SameMeanings}
use Rattle.stepper.specs.Step.{Setting}
use Rattle.pipeline.specs.Calls.{clock_refusal, tick, handed_by, onward, handed_on, answered, unless_refused, RunAnswers}
use Rattle.pipeline.specs.Clock.{Machine, machine, reset, clocked}
use Rattle.pipeline.specs.declared.calls.Ran.{Ran}
use Rattle.pipeline.specs.declared.calls.Refusal.{Refusal}
use Rattle.pipeline.specs.declared.clock.Handed.{Handed}
use Rattle.pipeline.specs.declared.clock.Tick.{Tick}
use Rattle.pipeline.specs.declared.state.Core.{Core}
use Rattle.refinement.specs.CallLists.{Made, ClockMade, RunMade, RegisterMade, FlagsMade, SlotsMade, Promised, clock_hands, run_hands, handed_in, Leads, nothing_made, one_more, CallsRunLate}
use Rattle.refinement.specs.Lateness.{after_clocks, RunsLate}
use Rattle.refinement.proofs.Late.{core_runs_late}

-- a clock that is not refused is made by a core that has not stopped
unstopped : (c : Core) → clock_refusal c ≡ None → c.stopped ≡ false
unstopped c e = grind (arith, nat_tests)

module _ (s : Setting) where
  -- clocks on clocks
  onward_on : (m : Machine) (a n : ℕ) → onward s (onward s m a) n ≡ onward s m (a + n)
  onward_on m a zero = ap (onward s m) (sym (add-zero a))
  onward_on m a (suc n) = ap (tick s) (onward_on m a n) ∙ ap (onward s m) (sym (add-suc a n))

  handed_on_lem : (m : Machine) (a n : ℕ) → handed_on s m a ++ handed_on s (onward s m a) n ≡ handed_on s m (a + n)
  handed_on_lem m a zero = append-nil (handed_on s m a) ∙ ap (handed_on s m) (sym (add-zero a))
  handed_on_lem m a (suc n) =
      sym (append_assoc (handed_on s m a) (handed_on s (onward s m a) n) (option_to_list (handed_by s (onward s (onward s m a) n))))
      ∙ (λ i. handed_on_lem m a n i ++ option_to_list (handed_by s (onward_on m a n i)))
      ∙ ap (handed_on s m) (sym (add-suc a n))

  -- what one call comes to: so many clocks, and what they hand out
  record SomeClocks (before : Machine) (out : List Handed) (after : Machine) : Type 0 where
    many : ℕ
    goes : after ≡ onward s before many
    hands : out ≡ handed_on s before many

  none_made : (before after : Machine) → after ≡ before → SomeClocks before [] after
  none_made before after e = record { many = 0; goes = e; hands = refl }

  by_clock : (before after : Machine) (answer : Result Tick Refusal) (o : Option Refusal) → clock_refusal before.core ≡ o → answer ≡ answered s o before → after ≡ unless_refused s o before (clocked s before).machine → SomeClocks before (clock_hands answer) after
  by_clock before after answer (Some why) e told goes = record { many = 0; goes = goes; hands = ap clock_hands told }
  by_clock before after answer None e told goes =
      let live = unstopped before.core e in
      record {
        many = 1;
        goes = goes ∙ sym (cond-false before.core.stopped before (clocked s before).machine live);
        hands = ap clock_hands told ∙ ap option_to_list (sym (cond-false before.core.stopped None (clocked s before).handed live));
      }

  by_run : (before after : Machine) (budget : ℕ) (list filled : List Handed) (answer : Result Ran Refusal) → RunAnswers s before budget list answer after filled → SomeClocks before (run_hands answer filled) after
  by_run before after budget list filled (Ok ran) p =
      let r = p.1 in
      record {
        many = ran.clocks;
        goes = r.goes;
        hands = ap (take ran.events) r.fills ∙ take_at (handed_on s before ran.clocks) (drop ran.events list) ran.events (sym r.written);
      }
  by_run before after budget list filled (Err why) p = none_made before after p.1

  by_call : (before after : Machine) (call : Made) → Promised s before call after → SomeClocks before (handed_in call) after
  by_call before after (ClockMade answer) p = by_clock before after answer (clock_refusal before.core) refl p.answers p.goes
  by_call before after (RunMade budget list answer filled) p = by_run before after budget list filled answer p
  by_call before after (RegisterMade number answer) p = none_made before after p.1
  by_call before after (FlagsMade answer) p = none_made before after p.1
  by_call before after (SlotsMade answer) p = none_made before after p.1

  then : (start before after : Machine) (made : List Made) (call : Made) → SomeClocks start (flat_map handed_in made) before → SomeClocks before (handed_in call) after → SomeClocks start (flat_map handed_in (made ++ call ∷ [])) after
  then start before after made call p q =
      record {
        many = p.many + q.many;
        goes = q.goes ∙ ap (λ m. onward s m q.many) p.goes ∙ onward_on start p.many q.many;
        hands =
            sym (flat_map_more handed_in [] made call)
            ∙ (λ i. p.hands i ++ (q.hands ∙ ap (λ m. handed_on s m q.many) p.goes) i)
            ∙ handed_on_lem start p.many q.many;
      }

  leads_on : (start : Machine) {made : List Made} {after : Machine} → Leads s start made after → SomeClocks start (flat_map handed_in made) after
  leads_on start nothing_made = none_made start start refl
  leads_on start (one_more {made = made} {before = before} {after = after} call sofar p) = then start before after made call (leads_on start sofar) (by_call before after call p)

same_late : (s s' : Setting) (words words' : Words) (m : Machine) (out : List Handed) → SameMeanings s s' words words' → RunsLate s words m out → RunsLate s' words' m out
same_late s s' words words' m out same late =
    let one : s ≡ s' = λ i. record { program = same.programs i; program_tags = same.program_tags i; data_tags = same.data_tags i; writable = same.writable i } in
    subst (λ x. RunsLate x words' m out) one (subst (λ x. RunsLate s x m out) same.data_words late)

pub calls_run_late : CallsRunLate
calls_run_late s words made after leads s' words' same =
    let p = leads_on s (machine reset words) leads in
    let late = core_runs_late s words p.many in
    same_late s s' words words' after (flat_map handed_in made) same
    (subst (λ m. RunsLate s words m (flat_map handed_in made)) (sym p.goes) (subst (λ out. RunsLate s words (after_clocks s words p.many) out) (sym p.hands) late))
