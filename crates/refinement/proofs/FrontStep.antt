-- What a clock makes of Execute, Decode and the fetch address, case by case. Assumes nothing.
use Rattle.std.proofs.Common.{◌≡◌, ℕ, Bool, true, false, cond, ◌||◌, List, Some, None, Option, refl, ap, ◌∙◌}
use Rattle.std.proofs.Math.Bool.{or-false}
use Rattle.stepper.specs.Step.{Setting, behind}
use Rattle.stepper.specs.declared.event.RegisterWrite.{RegisterWrite}
use Rattle.pipeline.specs.Slots.{changed}
use Rattle.pipeline.specs.DecodeStage.{held_in, awaited, stalls, passing, to_execute}
use Rattle.pipeline.specs.FetchStage.{in_decode, is_pending, is_write_15, value_for_15, onward, to_decode}
use Rattle.pipeline.specs.declared.slots.Change.TheVariants.{Empty, Fill}
use Rattle.pipeline.specs.declared.slots.DecodeSlot.{DecodeSlot}
use Rattle.pipeline.specs.declared.slots.ExecuteSlot.{ExecuteSlot}
use Rattle.refinement.proofs.Stages.{no_load, issue_writes, no_value}
use Rattle.refinement.proofs.View.{Front, idle, fetched, issuing, redirect, slot, held_at, writes, issue_at, in_execute_of, in_decode_of, fetch_of}

emptied_or_filled : {T : Type 0} (b : Bool) (x : T) (old : Option T) → changed (cond b Empty (Fill x)) old ≡ cond b None (Some x)
emptied_or_filled true x old = refl
emptied_or_filled false x old = refl

module _ (s : Setting) (values : List ℕ) (memory writeback : Option RegisterWrite) where
  -- the three after a clock in which no stop is passed on
  abbrev pub execute_after : Option ℕ → Option ExecuteSlot → Option DecodeSlot → Option ExecuteSlot
  execute_after taken x d = changed (to_execute taken (stalls (awaited x) (held_in d)) (passing values d (held_in d))) x

  abbrev pub decode_after : Option ℕ → Option ExecuteSlot → Option DecodeSlot → ℕ → Option DecodeSlot
  decode_after taken x d f = changed (to_decode taken (value_for_15 writeback) (stalls (awaited x) (held_in d)) (is_pending (held_in d) x memory) (slot s f)) d

  abbrev pub fetch_after : Option ℕ → Option ExecuteSlot → Option DecodeSlot → ℕ → ℕ
  fetch_after taken x d f = onward taken (value_for_15 writeback) (stalls (awaited x) (held_in d)) (is_pending (held_in d) x memory) f

  -- they are those of a front at the address a
  pub record Leads (taken : Option ℕ) (x : Option ExecuteSlot) (d : Option DecodeSlot) (f : ℕ) (front : Front) (a : ℕ) : Type 0 where
    pub execute : execute_after taken x d ≡ in_execute_of s front values a
    pub decode : decode_after taken x d f ≡ in_decode_of s front a
    pub fetch : fetch_after taken x d f ≡ fetch_of s front a

  -- a taken branch
  pub branches : (target : ℕ) (x : Option ExecuteSlot) (d : Option DecodeSlot) (f : ℕ) → Leads (Some target) x d f idle target
  branches target x d f = record { execute = refl; decode = refl; fetch = refl }

  -- register 15 written back, with nothing behind it
  pub returns15 : (v f : ℕ) → value_for_15 writeback ≡ Some v → Leads None None None f idle v
  returns15 v f e =
      record {
        execute = refl;
        decode = λ i. changed (to_decode None (e i) false (is_write_15 memory) (slot s f)) None;
        fetch = λ i. onward None (e i) false (is_write_15 memory) f;
      }

  module _ (calm : is_write_15 writeback ≡ false) where
    still : value_for_15 writeback ≡ None
    still = no_value writeback calm

    -- a write of register 15 in Memory
    pub waits15 : (f a : ℕ) → is_write_15 memory ≡ true → Leads None None None f (redirect f) a
    waits15 f a e =
        record {
          execute = refl;
          decode = λ i. changed (to_decode None (still i) false (e i) (slot s f)) None;
          fetch = λ i. onward None (still i) false (e i) f;
        }

    module _ (quiet : is_write_15 memory ≡ false) where
      -- an empty front
      pub fetches : (a : ℕ) → Leads None None None a fetched a
      fetches a =
          record {
            execute = refl;
            decode = λ i. changed (to_decode None (still i) false (quiet i) (slot s a)) None;
            fetch = λ i. onward None (still i) false (quiet i) a;
          }

      -- an instruction in Decode
      pub issues : (a : ℕ) → Leads None None (Some (slot s a)) (behind a) issuing a
      issues a =
          let held = held_at s a in
          let free = no_load (Some held) in
          let only : is_pending (Some held) None memory ≡ writes s a = ap (λ b. in_decode (Some held) || (false || b)) quiet ∙ or-false (in_decode (Some held)) in
          record {
            execute = λ i. changed (to_execute None (free i) (passing values (Some (slot s a)) (Some held))) None;
            decode = (λ i. changed (to_decode None (still i) (free i) (only i) (slot s (behind a))) (Some (slot s a))) ∙ emptied_or_filled (writes s a) (slot s (behind a)) (Some (slot s a));
            fetch = λ i. onward None (still i) (free i) (only i) (behind a);
          }

      module _ (old : List ℕ) (a : ℕ) where
        -- an instruction in Execute that would write register 15
        pub holds15 : (front : Front) (f b : ℕ) → writes s a ≡ true → None ≡ in_execute_of s front values b → None ≡ in_decode_of s front b → f ≡ fetch_of s front b → Leads None (Some (issue_at s old a)) None f front b
        holds15 front f b w p q r =
            let waiting : is_pending None (Some (issue_at s old a)) memory ≡ true = (λ i. issue_writes old a (held_at s a) i || quiet i) ∙ or-false (writes s a) ∙ w in
            record {
              execute = p;
              decode = (λ i. changed (to_decode None (still i) false (waiting i) (slot s f)) None) ∙ q;
              fetch = (λ i. onward None (still i) false (waiting i) f) ∙ r;
            }

        module _ (plain : writes s a ≡ false) where
          only_decode : is_pending (Some (held_at s (behind a))) (Some (issue_at s old a)) memory ≡ writes s (behind a)
          only_decode =
              (λ i. in_decode (Some (held_at s (behind a))) || (issue_writes old a (held_at s a) i || quiet i))
              ∙ ap (λ b. in_decode (Some (held_at s (behind a))) || (b || false)) plain
              ∙ or-false (writes s (behind a))

          -- a load, and its use behind it
          pub stays_back : stalls (awaited (Some (issue_at s old a))) (Some (held_at s (behind a))) ≡ true → Leads None (Some (issue_at s old a)) (Some (slot s (behind a))) (behind (behind a)) fetched (behind a)
          stays_back st =
              record {
                execute = λ i. changed (to_execute None (st i) (passing values (Some (slot s (behind a))) (Some (held_at s (behind a))))) (Some (issue_at s old a));
                decode = λ i. changed (to_decode None (still i) (st i) (only_decode i) (slot s (behind (behind a)))) (Some (slot s (behind a)));
                fetch = λ i. onward None (still i) (st i) (only_decode i) (behind (behind a));
              }

          -- any other instruction behind it
          pub follows : stalls (awaited (Some (issue_at s old a))) (Some (held_at s (behind a))) ≡ false → Leads None (Some (issue_at s old a)) (Some (slot s (behind a))) (behind (behind a)) issuing (behind a)
          follows st =
              record {
                execute = λ i. changed (to_execute None (st i) (passing values (Some (slot s (behind a))) (Some (held_at s (behind a))))) (Some (issue_at s old a));
                decode = (λ i. changed (to_decode None (still i) (st i) (only_decode i) (slot s (behind (behind a)))) (Some (slot s (behind a)))) ∙ emptied_or_filled (writes s (behind a)) (slot s (behind (behind a))) (Some (slot s (behind a)));
                fetch = λ i. onward None (still i) (st i) (only_decode i) (behind (behind a));
              }
