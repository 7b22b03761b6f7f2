-- The core runs the stepper's routine late. Assumes nothing.
use Rattle.std.proofs.Common.{◌≡◌, ℕ, zero, suc, ◌+◌, ◌-◌, ◌<◌, ◌≤◌, Bool, true, false, cond, List, [], ◌∷◌, ◌++◌, map, length, get_or, is_some, None, sym, refl, ap, ◌∙◌, subst, ⊎_elim, append-nil, add-zero, add-suc, add-one, arith}
use lib.ListN.{length-map}
use Rattle.std.specs.Option.{option_to_list}
use Rattle.std.proofs.lemmas.List.{length_push, map_push, get_or_append_left, get_or_push}
use Rattle.std.proofs.lemmas.Bool.{false≢true, cases_lt}
use Rattle.memory.specs.Meaning.{Words}
use Rattle.stepper.specs.Step.{Setting, World}
use Rattle.stepper.specs.Run.{first_events}
use Rattle.pipeline.specs.Clock.{Machine, machine, reset, clocked}
use Rattle.pipeline.specs.declared.clock.Handed.{Handed}
use Rattle.refinement.specs.ClockLaw.{bit, clock_of}
use Rattle.refinement.specs.Lateness.{tick, handed_by, after_clocks, handed_out, HandedIn, HasEvent, RunsLate, CoreRunsLate}
use Rattle.refinement.proofs.View.{Front, idle, fetched, issuing, redirect, dead, halted, regs, ev, gap, on, mslot, wslot, view, Flight}
use Rattle.refinement.proofs.OneClock.{one_clock}
use Rattle.refinement.proofs.Counting.{W, due_at, went_on, goes, says, law}

module _ (s : Setting) where
  -- the next event is still to come
  later : (u : World) (d t : ℕ) (w m : Bool) (front : Front) → Flight s u d t w m front → halted u ≡ false → t < d
  later u d t true m front flight alive = omega (arith, flight.first_due refl)
  later u d t false true front flight alive = omega (arith, flight.second_due refl)
  later u d t false false idle flight alive = omega (arith, flight.front_right.1)
  later u d t false false fetched flight alive = omega (arith, flight.front_right.1)
  later u d t false false issuing flight alive = omega (arith, flight.front_right.1)
  later u d t false false (redirect f) flight alive = omega (arith, flight.front_right.1)
  later u d t false false (dead x y f) flight alive = absurd (false≢true (sym alive ∙ flight.front_right.0))

  module _ (words : Words) where
    -- a machine in flight, with n events handed out
    record State (m : Machine) (handed : List Handed) : Type 0 where
      n : ℕ
      made : ℕ
      w : Bool
      full : Bool
      front : Front
      count : length handed ≡ n
      events : map (λ h. h.event) handed ≡ first_events s words n
      timely : (k : ℕ) → k < n → get_or (map (λ h. h.clock) handed) k 0 ≡ due_at s words k
      flight : Flight s (W s words n) (due_at s words n) made w full front
      stands : m ≡ machine (view s (W s words n) w full front made) (on s w (W s words n)).words

    begins : State (machine reset words) []
    begins =
        record {
          n = 0;
          made = 0;
          w = false;
          full = false;
          front = idle;
          count = refl;
          events = refl;
          timely = λ k h. absurd (omega arith);
          flight = record { long = refl; first_on = λ h. absurd (false≢true h); first_due = λ h. absurd (false≢true h); second_on = λ h. absurd (false≢true h); second_due = λ h. absurd (false≢true h); front_right = (refl, refl) };
          stands = refl;
        }

    -- the same list under another name
    renamed : (m m' : Machine) (h h' : List Handed) → m ≡ m' → h ≡ h' → State m h → State m' h'
    renamed m m' h h' p q st = subst (State m') q (subst (λ x. State x h) p st)

    -- the machine of a flight
    abbrev flying : ℕ → Bool → Bool → Front → ℕ → Machine
    flying n w full front made = machine (view s (W s words n) w full front made) (on s w (W s words n)).words

    -- a clock that hands out nothing
    quiet_clock : (n made : ℕ) (full : Bool) (front : Front) (handed : List Handed) → length handed ≡ n → map (λ h. h.event) handed ≡ first_events s words n → ((k : ℕ) → k < n → get_or (map (λ h. h.clock) handed) k 0 ≡ due_at s words k) → Flight s (W s words n) (due_at s words n) made false full front → halted (W s words n) ≡ false → State (clocked s (flying n false full front made)).machine (handed ++ option_to_list (clocked s (flying n false full front made)).handed)
    quiet_clock n made full front handed count events timely flight alive =
        let g = one_clock s (W s words n) (due_at s words n) made false full front flight alive in
        renamed _ _ handed _ (sym g.lands) (sym (ap (λ o. handed ++ option_to_list o) g.hands ∙ append-nil handed))
        (record { n = n; made = made + 1; w = full; full = g.full; front = g.ahead; count = count; events = events; timely = timely; flight = g.flies; stands = refl })

    -- a clock that hands out the next event
    telling_clock : (n made : ℕ) (full : Bool) (front : Front) (handed : List Handed) → length handed ≡ n → map (λ h. h.event) handed ≡ first_events s words n → ((k : ℕ) → k < n → get_or (map (λ h. h.clock) handed) k 0 ≡ due_at s words k) → Flight s (W s words n) (due_at s words n) made true full front → halted (W s words n) ≡ false → State (clocked s (flying n true full front made)).machine (handed ++ option_to_list (clocked s (flying n true full front made)).handed)
    telling_clock n made full front handed count events timely flight alive =
        let u = W s words n in
        let g = one_clock s u (due_at s words n) made true full front flight alive in
        let on-it = goes s words n alive in
        let new : Handed = record { event = ev s u; clock = made + 1 } in
        renamed _ _ (handed ++ new ∷ []) _ (sym (g.lands ∙ ap (λ x. machine (view s x full g.full g.ahead (made + 1)) (on s full x).words) (sym on-it))) (sym (ap (λ o. handed ++ option_to_list o) g.hands))
        (record {
          n = suc n;
          made = made + 1;
          w = full;
          full = g.full;
          front = g.ahead;
          count = length_push handed new ∙ ap (λ k. k + 1) count ∙ add-one n;
          events = map_push (λ h. h.event) handed new ∙ (λ i. events i ++ sym (says s words n alive) i);
          timely = λ k h. ⊎_elim (λ lt. ap (λ l. get_or l k 0) (map_push (λ x. x.clock) handed new) ∙ get_or_append_left (map (λ x. x.clock) handed) ((made + 1) ∷ []) 0 k (omega (arith, length-map handed (λ x. x.clock))) ∙ timely k lt)
              (λ ge. let last : k ≡ n = omega arith in ap (λ l. get_or l k 0) (map_push (λ x. x.clock) handed new) ∙ get_or_push (map (λ x. x.clock) handed) (made + 1) 0 k (length-map handed (λ x. x.clock) ∙ count ∙ sym last) ∙ sym (flight.first_due refl) ∙ ap (due_at s words) (sym last)) (cases_lt k n);
          flight = subst (λ x. Flight s x (due_at s words n + gap s u) (made + 1) full g.full g.ahead) (sym on-it) g.flies;
          stands = refl;
        })

    live_clock : (n made : ℕ) (w full : Bool) (front : Front) (handed : List Handed) → length handed ≡ n → map (λ h. h.event) handed ≡ first_events s words n → ((k : ℕ) → k < n → get_or (map (λ h. h.clock) handed) k 0 ≡ due_at s words k) → Flight s (W s words n) (due_at s words n) made w full front → halted (W s words n) ≡ false → State (clocked s (flying n w full front made)).machine (handed ++ option_to_list (clocked s (flying n w full front made)).handed)
    live_clock n made true full front handed count events timely flight alive = telling_clock n made full front handed count events timely flight alive
    live_clock n made false full front handed count events timely flight alive = quiet_clock n made full front handed count events timely flight alive

    -- a clock, or none if the core has stopped
    step : (m : Machine) (handed : List Handed) → State m handed → State (tick s m) (handed ++ option_to_list (handed_by s m))
    step m handed st = by (halted (W s words st.n)) refl
      where
        by : (b : Bool) → halted (W s words st.n) ≡ b → State (tick s m) (handed ++ option_to_list (handed_by s m))
        by true e =
            let mark : m.core.stopped ≡ true = ap (λ x. x.core.stopped) st.stands ∙ e in
            renamed m (tick s m) handed (handed ++ option_to_list (handed_by s m)) (sym (ap (λ b. cond b m (clocked s m).machine) mark)) (sym (ap (λ b. handed ++ option_to_list (cond b None (clocked s m).handed)) mark ∙ append-nil handed)) st
        by false e =
            let mark : m.core.stopped ≡ false = ap (λ x. x.core.stopped) st.stands ∙ e in
            renamed _ (tick s m) _ (handed ++ option_to_list (handed_by s m))
            (ap (λ x. (clocked s x).machine) (sym st.stands) ∙ sym (ap (λ b. cond b m (clocked s m).machine) mark))
            (ap (λ x. handed ++ option_to_list (clocked s x).handed) (sym st.stands) ∙ sym (ap (λ b. handed ++ option_to_list (cond b None (clocked s m).handed)) mark))
            (live_clock st.n st.made st.w st.full st.front handed st.count st.events st.timely st.flight e)

    reached : (t : ℕ) → State (after_clocks s words t) (handed_out s words t)
    reached zero = begins
    reached (suc t) = step (after_clocks s words t) (handed_out s words t) (reached t)

    -- the first events are no more than asked for
    few : (k : ℕ) → length (first_events s words k) ≤ k
    few zero = omega arith
    few (suc k) = by (few k) (halted (W s words k)) refl
      where
        by : length (first_events s words k) ≤ k → (b : Bool) → halted (W s words k) ≡ b → length (first_events s words (suc k)) ≤ suc k
        by h true e = let more = ap (λ b. length (first_events s words k ++ cond b [] (ev s (W s words k) ∷ []))) e ∙ ap length (append-nil (first_events s words k)) in omega arith
        by h false e = let more = ap (λ l. length (first_events s words k ++ l)) (says s words k e) ∙ length_push (first_events s words k) (ev s (W s words k)) in omega arith

    -- the stepper has event number k + 1 only if it has not stopped before
    goes_to : (k : ℕ) → length (first_events s words (suc k)) ≡ suc k → halted (W s words k) ≡ false
    goes_to k there = by (halted (W s words k)) refl
      where
        by : (b : Bool) → halted (W s words k) ≡ b → halted (W s words k) ≡ false
        by false e = e
        by true e = let more = ap (λ b. length (first_events s words k ++ cond b [] (ev s (W s words k) ∷ []))) e ∙ ap length (append-nil (first_events s words k)) in absurd (omega (arith, few k, more))

    -- it had not stopped earlier either, and what comes later is due later
    went_to : (n d : ℕ) → halted (W s words (n + d)) ≡ false → halted (W s words n) ≡ false
    went_to n zero h = ap (λ k. halted (W s words k)) (sym (add-zero n)) ∙ h
    went_to n (suc d) h = went_to n d (went_on s words (n + d) (ap (λ k. halted (W s words k)) (sym (add-suc n d)) ∙ h))

    no_sooner : (n d : ℕ) → due_at s words n ≤ due_at s words (n + d)
    no_sooner n zero = omega (arith, ap (due_at s words) (add-zero n))
    no_sooner n (suc d) = omega (arith, no_sooner n d, ap (due_at s words) (add-suc n d))

    full_is : (w : Bool) (u : World) → is_some (wslot s w u) ≡ w
    full_is true u = refl
    full_is false u = refl

    full_memory : (m : Bool) (u : World) → is_some (mslot s m u) ≡ m
    full_memory true u = refl
    full_memory false u = refl

    -- as many events on as slots are full
    events_on : (n : ℕ) (w : Bool) → (w ≡ true → halted (W s words n) ≡ false) → on s w (W s words n) ≡ W s words (n + bit w)
    events_on n true h = sym (goes s words n (h refl)) ∙ ap (W s words) (sym (add-one n))
    events_on n false h = ap (W s words) (sym (add-zero n))

    -- what a state says of the clocks
    on_time : (m : Machine) (handed : List Handed) (st : State m handed) (k c : ℕ) → HasEvent s words k → c ≤ m.core.clocks → (HandedIn handed k c → c ≡ clock_of (first_events s words k)) × (c ≡ clock_of (first_events s words k) → HandedIn handed k c)
    on_time m handed st zero c has within = absurd (omega (arith, has.number))
    on_time m handed st (suc k) c has within =
        let alive = goes_to k has.there in
        let number = law s words k alive in
        let one : suc k - 1 ≡ k = omega arith in
        let at : get_or (map (λ h. h.clock) handed) (suc k - 1) 0 ≡ get_or (map (λ h. h.clock) handed) k 0 = ap (λ j. get_or (map (λ h. h.clock) handed) j 0) one in
        let made : m.core.clocks ≡ st.made = ap (λ x. x.core.clocks) st.stands in (
          λ h. sym h.clock ∙ at ∙ st.timely k (omega (arith, h.number.1, st.count)) ∙ sym number,
          λ e.
              let early : k < st.n = ⊎_elim (λ lt. lt)
              (λ ge.
              let far : st.n + (k - st.n) ≡ k = omega arith in
              let on_then = went_to st.n (k - st.n) (ap (λ j. halted (W s words j)) far ∙ alive) in
              absurd (omega (arith, later (W s words st.n) (due_at s words st.n) st.made st.w st.full st.front st.flight on_then, no_sooner st.n (k - st.n), ap (due_at s words) far, number)))
              (cases_lt k st.n) in
              record {
                number = (omega arith, omega (arith, st.count));
                clock = at ∙ st.timely k early ∙ sym number ∙ sym e;
              },
        )

    late : (m : Machine) (handed : List Handed) → State m handed → RunsLate s words m handed
    late m handed st =
        let n = st.n in
        let u = W s words n in
        let w_full : is_some m.core.slots.writeback ≡ st.w = ap (λ x. is_some x.core.slots.writeback) st.stands ∙ full_is st.w u in
        let m_full : is_some m.core.slots.memory ≡ st.full = ap (λ x. is_some x.core.slots.memory) st.stands ∙ full_memory st.full (on s st.w u) in
        let one_on = events_on n st.w st.flight.first_on in
        let two_on : on s st.full (on s st.w u) ≡ W s words (n + bit st.w + bit st.full) = ap (on s st.full) one_on ∙ events_on (n + bit st.w) st.full (λ h. ap (λ x. halted x) (sym one_on) ∙ st.flight.second_on h) in
        record {
          events = st.events ∙ ap (first_events s words) (sym st.count);
          registers = ap (λ x. x.core.registers.values) st.stands ∙ ap (λ k. regs (W s words k)) (sym st.count);
          memory = ap (λ x. x.words) st.stands ∙ ap (λ x. x.words) one_on ∙ (λ i. (W s words (sym st.count i + bit (sym w_full i))).words);
          flags = ap (λ x. x.core.flags) st.stands ∙ ap (λ x. x.stepper.flags) two_on ∙ (λ i. (W s words (sym st.count i + bit (sym w_full i) + bit (sym m_full i))).stepper.flags);
          clocks = on_time m handed st;
        }

pub core_runs_late : CoreRunsLate
core_runs_late s words t = late s words (after_clocks s words t) (handed_out s words t) (reached s words t)
