-- What a run writes into its list, and the clocks that it is. Assumes nothing.
use Rattle.std.proofs.Common.{◌≡◌, ℕ, suc, ◌+◌, ◌<◌, ◌≤◌, false, eqb, leb, List, ◌∷◌, ◌++◌, length, take, drop, Some, None, Option, sym, refl, ap, ◌∙◌, ⊎_elim, append_assoc, add-zero, add-one, arith, length-append, length-drop, take-append-drop}
use Rattle.std.specs.Option.{option_to_list}
use Rattle.std.proofs.lemmas.List.{set_split, take_at, drop_at, drop-drop}
use Rattle.std.proofs.lemmas.Bool.{both_ways, cases_lt, cond_both, cond-false, eqb-false, leb-false}
use Rattle.std.proofs.lemmas.Bool.Decides.{nat_tests}
use Rattle.stepper.specs.Step.{Setting}
use Rattle.memory.specs.Meaning.{Words}
use Rattle.pipeline.specs.Clock.{Machine, Clocked, stamped, retired, behind_writeback, clocked}
use Rattle.pipeline.specs.MemoryStage.{to_writeback}
use Rattle.pipeline.specs.Writeback.{handed_out, hands_out_stop}
use Rattle.pipeline.specs.Calls.{most_clocks, tick, handed_by, onward, handed_on, stop_in, placed, end_of, end_after, Runs}
use Rattle.pipeline.specs.declared.calls.Reason.{Reason}
use Rattle.pipeline.specs.declared.clock.Handed.{Handed}
use Rattle.pipeline.specs.declared.state.Core.{Core}
use Rattle.pipeline.specs.declared.slots.WritebackSlot.{WritebackSlot}
use Rattle.stepper.specs.declared.event.Event.{Event}

-- the list after one place is written, or none
abbrev put_in : {A : Type 0} → List A → ℕ → Option A → List A
put_in xs i o = take i xs ++ (option_to_list o ++ drop (i + length (option_to_list o)) xs)

put_in_lem : (xs : List Handed) (i : ℕ) (o : Option Handed) → i < length xs → placed xs i o ≡ put_in xs i o
put_in_lem xs i None h = sym (take-append-drop i xs) ∙ ap (λ n. take i xs ++ drop n xs) (sym (add-zero i))
put_in_lem xs i (Some x) h = set_split xs i x h ∙ ap (λ n. take i xs ++ x ∷ drop n xs) (sym (add-one i))

-- no reason to end: none of the four applies
pub no_end : (places budget written made : ℕ) (c : Core) (o : Option Event) → end_of places budget written made c o ≡ None → (o ≡ None) × (eqb written places ≡ false) × (eqb made budget ≡ false) × (leb most_clocks c.clocks ≡ false)
no_end places budget written made c (Some e) p = let z : ◌≡◌ {A = ℕ} 0 1 = cc in absurd (omega arith)
no_end places budget written made c None p = grind (arith, nat_tests)

-- a clock that hands out no stop does not stop the core
still_live : (w : Option WritebackSlot) (n : ℕ) → stop_in (stamped n (handed_out w)) ≡ None → hands_out_stop w ≡ false
still_live None n e = refl
still_live (Some x) n e = grind (arith, nat_tests)

module _ (s : Setting) where
  handed_is : (c : Core) (words : Words) → (behind_writeback s c words).handed ≡ stamped c.clocks (handed_out c.slots.writeback)
  handed_is c words =
      let due = stamped c.clocks (handed_out c.slots.writeback) in
      cond_both (hands_out_stop c.slots.writeback) _ _ (λ (x : Clocked). x.handed ≡ due) (λ e. refl) (λ e. cond_both (hands_out_stop (to_writeback words s.data_tags s.writable c.slots.memory)) _ _ (λ (x : Clocked). x.handed ≡ due) (λ e. refl) (λ e. refl))

  stays_live : (m : Machine) → m.core.stopped ≡ false → stop_in (clocked s m).handed ≡ None → (clocked s m).machine.core.stopped ≡ false
  stays_live m live e =
      let c = retired m.core in
      let none = still_live c.slots.writeback c.clocks (ap stop_in (sym (handed_is c m.words)) ∙ e) in
      cond_both (hands_out_stop c.slots.writeback) _ _ (λ (x : Clocked). x.machine.core.stopped ≡ false) (λ t. absurd (both_ways _ none t)) (λ f. cond_both (hands_out_stop (to_writeback m.words s.data_tags s.writable c.slots.memory)) _ _ (λ (x : Clocked). x.machine.core.stopped ≡ false) (λ t. live) (λ t. live))

module _ (s : Setting) (before : Machine) (budget : ℕ) (list : List Handed) where
  -- a run in progress: so many clocks are made and so many events written, and no reason to end has come
  pub record Sofar (made written : ℕ) (m : Machine) (filled : List Handed) : Type 0 where
    pub under : made < budget
    pub stands : m ≡ onward s before made
    pub count : written ≡ length (handed_on s before made)
    pub fills : filled ≡ handed_on s before made ++ drop written list
    pub room : written < length list
    pub live : m.core.stopped ≡ false
    pub left : m.core.clocks < most_clocks
    pub earlier : (n : ℕ) → n ≤ made → end_after s before budget list n ≡ None

  -- what one more clock leaves, whether the run then ends or not; o is what it handed out
  pub record Then (made written : ℕ) (m : Machine) (filled : List Handed) (o : Option Handed) : Type 0 where
    pub stands : m ≡ onward s before (suc made)
    pub hands : o ≡ handed_by s (onward s before made)
    pub count : written ≡ length (handed_on s before (suc made))
    pub fills : filled ≡ handed_on s before (suc made) ++ drop written list
    pub room : written ≤ length list
    pub live : stop_in o ≡ None → m.core.stopped ≡ false
    pub earlier : (n : ℕ) → n ≤ made → end_after s before budget list n ≡ None

  one_at_most : (o : Option Handed) → length (option_to_list o) ≤ 1
  one_at_most None = omega arith
  one_at_most (Some h) = omega arith

  -- the list after a clock
  refill : (p : List Handed) (written : ℕ) (o : Option Handed) → written ≡ length p → put_in (p ++ drop written list) written o ≡ (p ++ option_to_list o) ++ drop (written + length (option_to_list o)) list
  refill p written o e =
      let q = drop written list in
      let k = length (option_to_list o) in
      (λ i. take_at p q written (sym e) i ++ (option_to_list o ++ (sym (drop-drop k written (p ++ q)) ∙ ap (drop k) (drop_at p q written (sym e)) ∙ drop-drop k written list) i))
      ∙ sym (append_assoc p (option_to_list o) (drop (written + k) list))

  pub clock_more : (made written : ℕ) (m m' : Machine) (filled filled' : List Handed) (o : Option Handed) (written' : ℕ) → Sofar made written m filled → m' ≡ (clocked s m).machine → o ≡ (clocked s m).handed → filled' ≡ placed filled written o → written' ≡ written + length (option_to_list o) → Then made written' m' filled' o
  clock_more made written m m' filled filled' o written' st pm po pf pw =
      let on = st.stands in
      let there : written < length filled = omega (arith, ap length st.fills, length-append (handed_on s before made) (drop written list), length-drop written list, st.count, st.room) in
      let goes : tick s (onward s before made) ≡ m' = sym (ap (tick s) on) ∙ cond-false m.core.stopped m (clocked s m).machine st.live ∙ sym pm in
      let hands : handed_by s (onward s before made) ≡ o = sym (ap (handed_by s) on) ∙ cond-false m.core.stopped None (clocked s m).handed st.live ∙ sym po in
      let more : handed_on s before (suc made) ≡ handed_on s before made ++ option_to_list o = ap (λ x. handed_on s before made ++ option_to_list x) hands in
      record {
        stands = sym goes;
        hands = sym hands;
        count = omega (arith, pw, st.count, ap length more, length-append (handed_on s before made) (option_to_list o));
        fills = pf ∙ put_in_lem filled written o there ∙ ap (λ l. put_in l written o) st.fills ∙ refill (handed_on s before made) written o st.count ∙ (λ i. sym more i ++ drop (sym pw i) list);
        room = omega (arith, pw, st.room, one_at_most o);
        live = λ e. ap (λ x. x.core.stopped) pm ∙ stays_live s m st.live (ap stop_in (sym po) ∙ e);
        earlier = st.earlier;
      }

  -- what is known of the end after the clock just made
  told : (made written : ℕ) (m : Machine) (filled : List Handed) (o : Option Handed) (r : Option Reason) → Then made written m filled o → end_of (length list) budget written (made + 1) m.core (stop_in o) ≡ r → end_after s before budget list (suc made) ≡ r
  told made written m filled o r st e =
      (λ i. end_of (length list) budget (sym st.count i) (sym (add-one made) i) (sym st.stands i).core (stop_in (sym st.hands i))) ∙ e

  -- why it goes on, and why it ends
  pub again : (made written : ℕ) (m : Machine) (filled : List Handed) (o : Option Handed) → made < budget → Then made written m filled o → end_of (length list) budget written (made + 1) m.core (stop_in o) ≡ None → Sofar (made + 1) written m filled
  again made written m filled o h st e =
      let p = no_end (length list) budget written (made + 1) m.core (stop_in o) e in
      let one = sym (add-one made) in
      record {
        under = omega (arith, eqb-false (made + 1) budget p.2);
        stands = st.stands ∙ ap (onward s before) one;
        count = st.count ∙ ap (λ n. length (handed_on s before n)) one;
        fills = st.fills ∙ ap (λ n. handed_on s before n ++ drop written list) one;
        room = omega (arith, st.room, eqb-false written (length list) p.1);
        live = st.live p.0;
        left = omega (arith, leb-false most_clocks m.core.clocks p.3);
        earlier = λ n q. ⊎_elim (λ lt. st.earlier n (omega arith)) (λ ge. let last : n ≡ suc made = omega arith in ap (end_after s before budget list) last ∙ told made written m filled o None st e) (cases_lt n (made + 1));
      }

  pub ends : (made written : ℕ) (m : Machine) (filled : List Handed) (o : Option Handed) (reason : Reason) → made < budget → Then made written m filled o → end_of (length list) budget written (made + 1) m.core (stop_in o) ≡ Some reason → Runs s before budget list (record { clocks = made + 1; events = written; reason = reason }) m filled
  ends made written m filled o reason h st e =
      let one = sym (add-one made) in
      record {
        some = omega arith;
        within = omega arith;
        goes = st.stands ∙ ap (onward s before) one;
        written = st.count ∙ ap (λ n. length (handed_on s before n)) one;
        fills = st.fills ∙ ap (λ n. handed_on s before n ++ drop written list) one;
        room = st.room;
        ends = ap (end_after s before budget list) (add-one made) ∙ told made written m filled o (Some reason) st e;
        earlier = λ n q. st.earlier n (omega arith);
      }
