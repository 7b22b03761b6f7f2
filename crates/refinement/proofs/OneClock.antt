-- One clock takes a flight to the next. Assumes nothing.
use Rattle.std.proofs.Common.{◌≡◌, ℕ, ◌+◌, ◌≤◌, Bool, true, false, cond, ◌&&◌, ◌||◌, List, is_some, Some, None, Option, sym, refl, ap, ◌∙◌, subst, arith}
use Rattle.std.specs.Result.{result_ok}
use Rattle.std.proofs.lemmas.Bool.{false≢true, true≢false, cond-true, cond-false}
use Rattle.memory.specs.Meaning.{Words}
use Rattle.isa.specs.declared.instruction.Instruction.{Instruction}
use Rattle.isa.specs.declared.flags.Flags.{Flags}
use Rattle.stepper.specs.Step.{Setting, World, behind}
use Rattle.stepper.specs.declared.event.Kind.{Kind}
use Rattle.stepper.specs.declared.event.Kind.TheVariants.{Done, Skipped, Stopped}
use Rattle.stepper.specs.declared.event.RegisterWrite.{RegisterWrite}
use Rattle.pipeline.specs.Slots.{changed}
use Rattle.pipeline.specs.Signals.{quiet}
use Rattle.pipeline.specs.Writeback.{handed_out, register_of, hands_out_stop, is_stop}
use Rattle.pipeline.specs.MemoryStage.{to_writeback, words_left}
use Rattle.pipeline.specs.ExecuteStage.{memory_write, taken_by}
use Rattle.pipeline.specs.DecodeStage.{held_in, awaited, stalls, passing, to_execute}
use Rattle.pipeline.specs.FetchStage.{is_pending, is_write_15, value_for_15, onward, to_decode}
use Rattle.pipeline.specs.Clock.{stamped, Clocked, machine, retired, halted as stopped, flushed, executing, moved, behind_memory, clocked}
use Rattle.pipeline.specs.declared.state.Core.{Core}
use Rattle.pipeline.specs.declared.slots.DecodeSlot.{DecodeSlot}
use Rattle.pipeline.specs.declared.slots.ExecuteSlot.{ExecuteSlot}
use Rattle.pipeline.specs.declared.slots.MemorySlot.{MemorySlot}
use Rattle.pipeline.specs.declared.slots.WritebackSlot.{WritebackSlot}
use Rattle.refinement.specs.ClockLaw.{which, is_done, is_skipped, is_branch, writes_15, needs, bit}
use Rattle.refinement.proofs.Facts.{goes_to, load_in}
use Rattle.refinement.proofs.Stages.{issue_loads, stall_needs, no_value}
use Rattle.refinement.proofs.Gaps.{branch_loads, gap_taken, gap_written, gap_skipped, gap_plain}
use Rattle.refinement.proofs.Forward.{executes_right}
use Rattle.refinement.proofs.View.{Front, idle, fetched, issuing, redirect, dead, regs, pc, halted, next, ev, slot, held_at, writes, issue_at, memory_at, gap, on, due, in_execute_of, in_decode_of, fetch_of, mslot, wslot, view, FrontRight, Flight}
use Rattle.refinement.proofs.Quiet.{which_15, of, quiet_writeback, quiet_memory, regs_on, long_on}
use Rattle.refinement.proofs.FrontStep.{execute_after, decode_after, fetch_after, Leads, branches, returns15, waits15, fetches, issues, holds15, stays_back, follows}

-- the core after a clock in which no stop is passed on, part by part
module _ (s : Setting) (c : Core) (values : List ℕ) (taken : Option ℕ) (flags : Flags) (memory : Option MemorySlot) (before after : Option WritebackSlot) (front : Front) (a : ℕ) (stopped : Bool) where
  moved_is :
      c.registers.values ≡ values → (executing c).taken ≡ taken → (executing c).flags ≡ flags → (executing c).slot ≡ memory → before ≡ after → c.stopped ≡ stopped →
      Leads s values (memory_write c.slots.memory) (register_of c.slots.writeback) taken c.slots.execute c.slots.decode c.fetch front a →
      ◌≡◌ {A = Core} (moved s.program s.program_tags c before)
      (record {
        registers = record { values = values };
        flags = flags;
        fetch = fetch_of s front a;
        slots = record { decode = in_decode_of s front a; execute = in_execute_of s front values a; memory = memory; writeback = after };
        clocks = c.clocks;
        stopped = stopped;
      })
  moved_is v t f m b o leads =
      let mw = memory_write c.slots.memory in
      let ww = register_of c.slots.writeback in
      let x = c.slots.execute in
      let d = c.slots.decode in
      let first : ◌≡◌ {A = Core} (moved s.program s.program_tags c before) (record { registers = record { values = values }; flags = flags; fetch = fetch_after s values mw ww taken x d c.fetch; slots = record { decode = decode_after s values mw ww taken x d c.fetch; execute = execute_after s values mw ww taken x d; memory = memory; writeback = after }; clocks = c.clocks; stopped = stopped })
      = λ i. record {
        registers = record { values = v i };
        flags = f i;
        fetch = onward (t i) (value_for_15 ww) (stalls (awaited x) (held_in d)) (is_pending (held_in d) x mw) c.fetch;
        slots = record {
          decode = changed (to_decode (t i) (value_for_15 ww) (stalls (awaited x) (held_in d)) (is_pending (held_in d) x mw) (slot s c.fetch)) d;
          execute = changed (to_execute (t i) (stalls (awaited x) (held_in d)) (passing (v i) d (held_in d))) x;
          memory = m i;
          writeback = b i;
        };
        clocks = c.clocks;
        stopped = o i;
      } in
      first ∙ (λ i. record { registers = record { values = values }; flags = flags; fetch = leads.fetch i; slots = record { decode = leads.decode i; execute = leads.execute i; memory = memory; writeback = after }; clocks = c.clocks; stopped = stopped })

module _ (s : Setting) where
  -- what Memory makes of its slot
  writeback_is : (m : Bool) (u : World) → to_writeback u.words s.data_tags s.writable (mslot s m u) ≡ wslot s m u
  writeback_is true u = ap (λ e. Some (record { event = e })) (of s u).event
  writeback_is false u = refl

  words_is : (m : Bool) (u : World) → words_left u.words s.data_tags s.writable (mslot s m u) ≡ (on s m u).words
  words_is true u = (of s u).words
  words_is false u = refl

  -- a stop in Writeback is the end of the routine
  pub hands_is : (w : Bool) (u : World) → halted u ≡ false → hands_out_stop (wslot s w u) ≡ halted (on s w u)
  hands_is true u alive = (of s u).stopped
  hands_is false u alive = sym alive

  -- where a clock takes a flight
  pub record Goes (u : World) (d t : ℕ) (w m : Bool) (front : Front) : Type 0 where
    pub full : Bool
    pub ahead : Front
    pub lands : (clocked s (machine (view s u w m front t) (on s w u).words)).machine ≡ machine (view s (on s w u) m full ahead (t + 1)) (on s m (on s w u)).words
    pub hands : (clocked s (machine (view s u w m front t) (on s w u).words)).handed ≡ stamped (t + 1) (handed_out (wslot s w u))
    pub flies : Flight s (on s w u) (due s w u d) (t + 1) m full ahead

  -- a clock without a stop, by what Execute and the front come to
  module _ (u : World) (d t : ℕ) (w m : Bool) (front : Front) where
    abbrev core : Core
    core = retired (view s u w m front t)

    abbrev words : Words
    words = (on s w u).words

    whole : hands_out_stop (wslot s w u) ≡ false → hands_out_stop (wslot s m (on s w u)) ≡ false → clocked s (machine (view s u w m front t) words) ≡ behind_memory s core (words_left words s.data_tags s.writable (mslot s m (on s w u))) (to_writeback words s.data_tags s.writable (mslot s m (on s w u)))
    whole hw hm = cond-false (hands_out_stop (wslot s w u)) _ _ hw

    calm : hands_out_stop (wslot s m (on s w u)) ≡ false → hands_out_stop (to_writeback words s.data_tags s.writable (mslot s m (on s w u))) ≡ false
    calm hm = ap hands_out_stop (writeback_is m (on s w u)) ∙ hm

    goes_on :
        halted u ≡ false → halted (on s w u) ≡ false → hands_out_stop (wslot s m (on s w u)) ≡ false →
        (full : Bool) (ahead : Front) (taken : Option ℕ) →
        (executing core).taken ≡ taken → (executing core).flags ≡ (on s full (on s m (on s w u))).stepper.flags → (executing core).slot ≡ mslot s full (on s m (on s w u)) →
        Leads s (regs (on s w u)) (memory_write (mslot s m (on s w u))) (register_of (wslot s w u)) taken (in_execute_of s front (regs u) (pc (on s m (on s w u)))) (in_decode_of s front (pc (on s m (on s w u)))) (fetch_of s front (pc (on s m (on s w u)))) ahead (pc (on s full (on s m (on s w u)))) →
        Flight s (on s w u) (due s w u d) (t + 1) m full ahead →
        Goes u d t w m front
    goes_on alive alive' hm full ahead taken pt pf ps leads flight =
        let hw = hands_is w u alive ∙ alive' in
        let through = whole hw hm ∙ cond-false (hands_out_stop (to_writeback words s.data_tags s.writable (mslot s m (on s w u)))) _ _ (calm hm) in
        let lands = moved_is s core (regs (on s w u)) taken (on s full (on s m (on s w u))).stepper.flags (mslot s full (on s m (on s w u))) _ (wslot s m (on s w u)) ahead (pc (on s full (on s m (on s w u)))) (halted (on s w u)) (regs_on s w u) pt pf ps (writeback_is m (on s w u)) (alive ∙ sym alive') leads in
        record {
          full = full;
          ahead = ahead;
          lands = ap (λ z. z.machine) through ∙ (λ i. machine (lands i) (words_is m (on s w u) i));
          hands = ap (λ z. z.handed) through;
          flies = flight;
        }

  module _ (u : World) (d t : ℕ) (w m : Bool) (front : Front) (flight : Flight s u d t w m front) (alive : halted u ≡ false) where
    -- what moves up one place is due one clock sooner
    flight_on : (full : Bool) (ahead : Front) → (full ≡ true → halted (on s m (on s w u)) ≡ false) → (full ≡ true → due s m (on s w u) (due s w u d) ≡ t + 1 + 2) → FrontRight s ahead (on s w u) m full (due s w u d) (t + 1) → Flight s (on s w u) (due s w u d) (t + 1) m full ahead
    flight_on full ahead live soon right =
        record {
          long = long_on s w u flight.long;
          first_on = flight.second_on;
          first_due = λ h. omega (arith, flight.second_due h);
          second_on = live;
          second_due = soon;
          front_right = right;
        }

  -- Writeback holds a stop: it is handed out, and the core stops
  stops_here : (u : World) (d t : ℕ) (w : Bool) (front : Front) → Flight s u d t w false front → halted u ≡ false → halted (on s w u) ≡ true → Goes u d t w false front
  stops_here u d t w front flight alive end =
      let f = fetch_of s front (pc (on s w u)) in
      let through = cond-true (hands_out_stop (wslot s w u)) _ (behind_memory s (retired (view s u w false front t)) (on s w u).words None) (hands_is w u alive ∙ end) in
      let lands : ◌≡◌ {A = Core} (stopped (retired (view s u w false front t))) (view s (on s w u) false false (dead None None f) (t + 1))
      = λ i. record { registers = record { values = regs_on s w u i }; flags = (on s w u).stepper.flags; fetch = f; slots = record { decode = None; execute = None; memory = None; writeback = None }; clocks = t + 1; stopped = sym end i } in
      record {
        full = false;
        ahead = dead None None f;
        lands = ap (λ z. z.machine) through ∙ (λ i. machine (lands i) (on s w u).words);
        hands = ap (λ z. z.handed) through;
        flies = flight_on u d t w false front flight alive false (dead None None f) (λ h. absurd (false≢true h)) (λ h. absurd (false≢true h)) (end, λ h. (refl, refl));
      }

  -- Memory holds a stop: it is passed on, and what is behind it is thrown away
  stops_next : (u : World) (d t : ℕ) (w : Bool) (front : Front) → Flight s u d t w true front → halted u ≡ false → halted (on s w u) ≡ false → halted (next s (on s w u)) ≡ true → Goes u d t w true front
  stops_next u d t w front flight alive alive' end =
      let v = on s w u in
      let f = fetch_of s front (pc (next s v)) in
      let c = retired (view s u w true front t) in
      let wb = to_writeback v.words s.data_tags s.writable (mslot s true v) in
      let through : ◌≡◌ {A = Clocked} (clocked s (machine (view s u w true front t) v.words)) (record { machine = machine (flushed c wb) (words_left v.words s.data_tags s.writable (mslot s true v)); handed = stamped (t + 1) (handed_out (wslot s w u)); signals = quiet })
      = cond-false (hands_out_stop (wslot s w u)) _ _ (hands_is w u alive ∙ alive') ∙ cond-true (hands_out_stop wb) _ _ (ap hands_out_stop (writeback_is true v) ∙ (of s v).stopped ∙ end) in
      let lands : ◌≡◌ {A = Core} (flushed c wb) (view s v true false (dead None None f) (t + 1))
      = λ i. record { registers = record { values = regs_on s w u i }; flags = (next s v).stepper.flags; fetch = f; slots = record { decode = None; execute = None; memory = None; writeback = writeback_is true v i }; clocks = t + 1; stopped = (alive ∙ sym alive') i } in
      record {
        full = false;
        ahead = dead None None f;
        lands = ap (λ z. z.machine) through ∙ (λ i. machine (lands i) (words_is true v i));
        hands = ap (λ z. z.handed) through;
        flies = flight_on u d t w true front flight alive false (dead None None f) (λ h. absurd (false≢true h)) (λ h. absurd (false≢true h)) (end, λ h. (refl, refl));
      }

  -- the world at Memory goes on if the one behind it does
  live_memory : (m : Bool) (v : World) → (m ≡ true → halted v ≡ false) → halted (on s m v) ≡ false → halted v ≡ false
  live_memory true v p q = p refl
  live_memory false v p q = q

  -- Writeback writes no register 15 while the front is due soon
  calm_writeback : (m w : Bool) (u : World) (d t k : ℕ) → (w ≡ true → d ≡ t + 1) → (m ≡ true → due s w u d ≡ t + 2) → due s m (on s w u) (due s w u d) ≡ t + k → k ≤ 5 → is_write_15 (register_of (wslot s w u)) ≡ false
  calm_writeback true w u d t k p q e h = quiet_writeback s w u d t 2 p (q refl) (omega arith)
  calm_writeback false w u d t k p q e h = quiet_writeback s w u d t k p e h

  never : {A : Type 0} → false ≡ true → A
  never h = absurd (false≢true h)

  -- an empty front fetches
  from_idle : (u : World) (d t : ℕ) (w m : Bool) → Flight s u d t w m idle → halted u ≡ false → Goes u d t w m idle
  from_idle u d t w m flight alive =
      let on2 = flight.front_right.0 in
      let dues = flight.front_right.1 in
      let alive' = live_memory m (on s w u) flight.second_on on2 in
      goes_on u d t w m idle alive alive' (hands_is m (on s w u) alive' ∙ on2) false fetched None refl refl refl
      (fetches s (regs (on s w u)) (memory_write (mslot s m (on s w u))) (register_of (wslot s w u)) (calm_writeback m w u d t 5 flight.first_due flight.second_due dues (omega arith)) (quiet_memory s m (on s w u) (due s w u d) t 5 flight.second_due dues (omega arith) on2) (pc (on s m (on s w u))))
      (flight_on u d t w m idle flight alive false fetched never never (on2, omega arith))

  -- an instruction in Decode is issued
  from_fetched : (u : World) (d t : ℕ) (w m : Bool) → Flight s u d t w m fetched → halted u ≡ false → Goes u d t w m fetched
  from_fetched u d t w m flight alive =
      let on2 = flight.front_right.0 in
      let dues = flight.front_right.1 in
      let alive' = live_memory m (on s w u) flight.second_on on2 in
      goes_on u d t w m fetched alive alive' (hands_is m (on s w u) alive' ∙ on2) false issuing None refl refl refl
      (issues s (regs (on s w u)) (memory_write (mslot s m (on s w u))) (register_of (wslot s w u)) (calm_writeback m w u d t 4 flight.first_due flight.second_due dues (omega arith)) (quiet_memory s m (on s w u) (due s w u d) t 4 flight.second_due dues (omega arith) on2) (pc (on s m (on s w u))))
      (flight_on u d t w m fetched flight alive false issuing never never (on2, omega arith))

  -- a write of register 15 is no branch
  clash : (o : Option Instruction) → which is_branch o ≡ true → which writes_15 o ≡ true → false ≡ true
  clash None p q = p
  clash (Some i) p q = sym (branch_loads i.action p).1 ∙ q

  both : (x y : Bool) → (x && y) ≡ true → y ≡ true
  both true y h = h
  both false y h = absurd (false≢true h)

  not_taken : (u : World) → is_write_15 (ev s u).register ≡ true → taken_by (memory_at s u).pending ≡ None
  not_taken u h = no_target (taken_by (memory_at s u).pending) (of s u).taken
    where
      no_target : (o : Option ℕ) → (is_done (ev s u).kind && which is_branch (result_ok (held_at s (pc u)))) ≡ is_some o → o ≡ None
      no_target None e = refl
      no_target (Some x) e = absurd (false≢true (clash (result_ok (held_at s (pc u))) (both (is_done (ev s u).kind) _ e) (both (is_done (ev s u).kind) _ ((of s u).wrote15 ∙ h))))

  -- register 15 on its way
  some_value : (w : Option RegisterWrite) → is_write_15 w ≡ true → (v : ℕ) × (value_for_15 w ≡ Some v)
  some_value None h = never h
  some_value (Some w) h = (w.value, ap (λ b. cond b (Some w.value) None) h)

  from_redirect : (u : World) (d t : ℕ) (w m : Bool) (f : ℕ) → Flight s u d t w m (redirect f) → halted u ≡ false → Goes u d t w m (redirect f)
  from_redirect u d t w true f flight alive =
      let on2 = flight.front_right.0 in
      let alive' = flight.second_on refl in
      goes_on u d t w true (redirect f) alive alive' (hands_is true (on s w u) alive' ∙ on2) false (redirect f) None refl refl refl
      (waits15 s (regs (on s w u)) (memory_write (mslot s true (on s w u))) (register_of (wslot s w u)) (quiet_writeback s w u d t 2 flight.first_due (flight.second_due refl) (omega arith)) f (pc (next s (on s w u))) ((of s (on s w u)).ahead15 on2 ∙ flight.front_right.2))
      (flight_on u d t w true (redirect f) flight alive false (redirect f) never never (on2, omega (arith, flight.front_right.1), flight.front_right.2))
  from_redirect u d t true false f flight alive =
      let on2 = flight.front_right.0 in
      let value = some_value (ev s u).register flight.front_right.2 in
      let there : pc (next s u) ≡ value.0 = (of s u).next on2 ∙ (λ i. goes_to (pc u) (not_taken u flight.front_right.2 i) (value.1 i)) in
      goes_on u d t true false (redirect f) alive on2 refl false idle None refl refl refl
      (subst (Leads s (regs (next s u)) None (ev s u).register None None None f idle) (sym there) (returns15 s (regs (next s u)) None (ev s u).register value.0 f value.1))
      (flight_on u d t true false (redirect f) flight alive false idle never never (on2, omega (arith, flight.front_right.1)))
  from_redirect u d t false false f flight alive = never flight.front_right.2

  -- tests on three flags
  only_second : (x y z : Bool) → (x || y) ≡ true → (x && z) ≡ false → z ≡ true → (y && z) ≡ true
  only_second true y z p q r = absurd (false≢true (sym q ∙ r))
  only_second false y z p q r = (λ i. p i && r i)

  not_second : (x z : Bool) → z ≡ false → (x && z) ≡ false
  not_second true z h = h
  not_second false z h = refl

  done_goes_on : (k : Kind) → is_done k ≡ true → is_stop k ≡ false
  done_goes_on Done h = refl
  done_goes_on Skipped h = never h
  done_goes_on (Stopped why) h = never h

  left_of : (x y : Bool) → (x && y) ≡ true → x ≡ true
  left_of true y h = refl
  left_of false y h = never h

  -- an instruction in Execute, which v is the world of
  module _ (u : World) (d t : ℕ) (w m : Bool) (flight : Flight s u d t w m issuing) (alive : halted u ≡ false) where
    abbrev v : World
    v = on s m (on s w u)

    abbrev a : ℕ
    a = pc v

    abbrev mw : Option RegisterWrite
    mw = memory_write (mslot s m (on s w u))

    abbrev ww : Option RegisterWrite
    ww = register_of (wslot s w u)

    abbrev issue : Option ExecuteSlot
    issue = Some (issue_at s (regs u) a)

    on2 : halted v ≡ false
    on2 = flight.front_right.0

    dues : due s m (on s w u) (due s w u d) ≡ t + 3
    dues = flight.front_right.1

    alive' : halted (on s w u) ≡ false
    alive' = live_memory m (on s w u) flight.second_on on2

    calm_w : is_write_15 ww ≡ false
    calm_w = calm_writeback m w u d t 3 flight.first_due flight.second_due dues (omega arith)

    quiet_m : is_write_15 mw ≡ false
    quiet_m = quiet_memory s m (on s w u) (due s w u d) t 3 flight.second_due dues (omega arith) on2

    -- Execute hands the instruction on; what is left is where the front leads
    passes : (ahead : Front) (taken : Option ℕ) → taken_by (memory_at s v).pending ≡ taken → Leads s (regs (on s w u)) mw ww taken issue (in_decode_of s issuing a) (fetch_of s issuing a) ahead (pc (next s v)) → FrontRight s ahead (on s w u) m true (due s w u d) (t + 1) → Goes u d t w m issuing
    passes ahead taken e leads right =
        let x = executes_right s w m u d t flight.long flight.first_due flight.second_due dues on2 in
        goes_on u d t w m issuing alive alive' (hands_is m (on s w u) alive' ∙ on2) true ahead taken (x.taken ∙ e) (x.flags ∙ (of s v).flags) x.slot leads
        (flight_on u d t w m issuing flight alive true ahead (λ h. on2) (λ h. omega (arith, dues)) right)

    -- a stop: whatever stands behind it
    passes_stop : (taken : Option ℕ) → taken_by (memory_at s v).pending ≡ taken → halted (next s v) ≡ true → Goes u d t w m issuing
    passes_stop taken e end =
        passes (dead (execute_after s (regs (on s w u)) mw ww taken issue (in_decode_of s issuing a)) (decode_after s (regs (on s w u)) mw ww taken issue (in_decode_of s issuing a) (fetch_of s issuing a)) (fetch_after s (regs (on s w u)) mw ww taken issue (in_decode_of s issuing a) (fetch_of s issuing a))) taken e (record { execute = refl; decode = refl; fetch = refl }) (end, λ h. absurd (true≢false h))

    -- a taken branch
    passes_branch : (target : ℕ) → taken_by (memory_at s v).pending ≡ Some target → Goes u d t w m issuing
    passes_branch target e =
        let is = (of s v).taken ∙ ap is_some e in
        let on3 : halted (next s v) ≡ false = sym (of s v).stopped ∙ done_goes_on (ev s v).kind (left_of (is_done (ev s v).kind) _ is) in
        let there : pc (next s v) ≡ target = (of s v).next on3 ∙ ap (λ k. goes_to a k (value_for_15 (ev s v).register)) e in
        passes idle (Some target) e (subst (Leads s (regs (on s w u)) mw ww (Some target) issue (in_decode_of s issuing a) (fetch_of s issuing a) idle) (sym there) (branches s (regs (on s w u)) mw ww target issue (in_decode_of s issuing a) (fetch_of s issuing a)))
        (on3, omega (arith, dues, gap_taken s v is))

    module _ (e : taken_by (memory_at s v).pending ≡ None) (on3 : halted (next s v) ≡ false) where
      there : pc (next s v) ≡ goes_to a None (value_for_15 (ev s v).register)
      there = (of s v).next on3 ∙ ap (λ k. goes_to a k (value_for_15 (ev s v).register)) e

      -- register 15 will be written, if the instruction is done
      passes_writer : writes s a ≡ true → Goes u d t w m issuing
      passes_writer wr = by15 (is_write_15 (ev s v).register) refl
        where
          leads : (ahead : Front) → None ≡ in_execute_of s ahead (regs (on s w u)) (pc (next s v)) → None ≡ in_decode_of s ahead (pc (next s v)) → behind a ≡ fetch_of s ahead (pc (next s v)) → Leads s (regs (on s w u)) mw ww None issue (in_decode_of s issuing a) (fetch_of s issuing a) ahead (pc (next s v))
          leads ahead p q r = subst (λ b. Leads s (regs (on s w u)) mw ww None issue (cond b None (Some (slot s (behind a)))) (cond b (behind a) (behind (behind a))) ahead (pc (next s v))) (sym wr) (holds15 s (regs (on s w u)) mw ww calm_w quiet_m (regs u) a ahead (behind a) (pc (next s v)) wr p q r)

          by15 : (b : Bool) → is_write_15 (ev s v).register ≡ b → Goes u d t w m issuing
          by15 true done =
              passes (redirect (behind a)) None e (leads (redirect (behind a)) refl refl refl)
              (on3, omega (arith, dues, gap_written s v ((of s v).wrote15 ∙ done)), done)
          by15 false skipped =
              passes idle None e (leads idle refl refl (sym (there ∙ ap (goes_to a None) (no_value (ev s v).register skipped))))
              (on3, omega (arith, dues, gap_skipped s v (only_second (is_done (ev s v).kind) (is_skipped (ev s v).kind) _ ((of s v).ends on3) ((of s v).wrote15 ∙ skipped) (which_15 (held_at s a) ∙ wr))))

      -- any other instruction
      passes_plain : writes s a ≡ false → Goes u d t w m issuing
      passes_plain wr = by_stall (stalls (awaited issue) (Some (held_at s (behind a)))) refl
        where
          no15 : is_write_15 (ev s v).register ≡ false
          no15 = sym (of s v).wrote15 ∙ not_second (is_done (ev s v).kind) _ (which_15 (held_at s a) ∙ wr)

          behind_it : pc (next s v) ≡ behind a
          behind_it = there ∙ ap (goes_to a None) (no_value (ev s v).register no15)

          lost : gap s v ≡ 1 + bit (stalls (awaited issue) (Some (held_at s (behind a))))
          lost =
              gap_plain s v wr ((of s v).taken ∙ ap is_some e) ((of s v).ends on3)
              ∙ ap (λ b. 1 + bit b) (ap (λ p. needs (load_in (held_at s a)) (result_ok (held_at s p))) behind_it ∙ sym (stall_needs (load_in (held_at s a)) (held_at s (behind a))) ∙ ap (λ r. stalls r (Some (held_at s (behind a)))) (sym (issue_loads (regs u) a (held_at s a))))

          leads : (ahead : Front) → Leads s (regs (on s w u)) mw ww None issue (Some (slot s (behind a))) (behind (behind a)) ahead (behind a) → Leads s (regs (on s w u)) mw ww None issue (in_decode_of s issuing a) (fetch_of s issuing a) ahead (pc (next s v))
          leads ahead l =
              subst (λ b. Leads s (regs (on s w u)) mw ww None issue (cond b None (Some (slot s (behind a)))) (cond b (behind a) (behind (behind a))) ahead (pc (next s v))) (sym wr)
              (subst (Leads s (regs (on s w u)) mw ww None issue (Some (slot s (behind a))) (behind (behind a)) ahead) (sym behind_it) l)

          by_stall : (b : Bool) → stalls (awaited issue) (Some (held_at s (behind a))) ≡ b → Goes u d t w m issuing
          by_stall true st =
              passes fetched None e (leads fetched (stays_back s (regs (on s w u)) mw ww calm_w quiet_m (regs u) a wr st))
              (on3, omega (arith, dues, lost ∙ ap (λ b. 1 + bit b) st))
          by_stall false st =
              passes issuing None e (leads issuing (follows s (regs (on s w u)) mw ww calm_w quiet_m (regs u) a wr st))
              (on3, omega (arith, dues, lost ∙ ap (λ b. 1 + bit b) st))

    -- the cases together
    by_write : (b : Bool) → writes s a ≡ b → taken_by (memory_at s v).pending ≡ None → halted (next s v) ≡ false → Goes u d t w m issuing
    by_write true wr e on3 = passes_writer e on3 wr
    by_write false wr e on3 = passes_plain e on3 wr

    by_stop : (b : Bool) → halted (next s v) ≡ b → (o : Option ℕ) → taken_by (memory_at s v).pending ≡ o → Goes u d t w m issuing
    by_stop true end o e = passes_stop o e end
    by_stop false on3 (Some target) e = passes_branch target e
    by_stop false on3 None e = by_write (writes s a) refl e on3

    from_issuing : Goes u d t w m issuing
    from_issuing = by_stop (halted (next s v)) refl (taken_by (memory_at s v).pending) refl

  -- a stop ahead
  from_dead : (u : World) (d t : ℕ) (w m : Bool) (x : Option ExecuteSlot) (y : Option DecodeSlot) (f : ℕ) → Flight s u d t w m (dead x y f) → halted u ≡ false → Goes u d t w m (dead x y f)
  from_dead u d t w true x y f flight alive = stops_next u d t w (dead x y f) flight alive (flight.second_on refl) flight.front_right.0
  from_dead u d t w false x y f flight alive = stops_here u d t w (dead x y f) flight alive flight.front_right.0

  -- one clock of a core that has not stopped
  pub one_clock : (u : World) (d t : ℕ) (w m : Bool) (front : Front) → Flight s u d t w m front → halted u ≡ false → Goes u d t w m front
  one_clock u d t w m idle flight alive = from_idle u d t w m flight alive
  one_clock u d t w m fetched flight alive = from_fetched u d t w m flight alive
  one_clock u d t w m issuing flight alive = from_issuing u d t w m flight alive
  one_clock u d t w m (redirect f) flight alive = from_redirect u d t w m f flight alive
  one_clock u d t w m (dead x y f) flight alive = from_dead u d t w m x y f flight alive
