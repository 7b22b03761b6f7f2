-- The calls of the core: what each answers, and what it leaves behind.
use Rattle.std.specs.Prelude.{◌≡◌, ℕ, zero, suc, ◌<◌, ◌≤◌, cond, ◌||◌, List, [], ◌++◌, length, drop, Some, None, Ok, Err, Option, Result, ◌==◌, nat_le, nat_lt, slice_set}
use Rattle.std.specs.Option.{option_map, option_to_list}
use Rattle.stepper.specs.Step.{Setting}
use Rattle.stepper.specs.declared.event.Event.{Event}
use Rattle.pipeline.specs.Clock.{Machine, clocked}
use Rattle.pipeline.specs.Writeback.{is_stop}
use Rattle.pipeline.specs.declared.calls.Ran.{Ran}
use Rattle.pipeline.specs.declared.calls.Reason.{Reason}
use Rattle.pipeline.specs.declared.calls.Reason.TheVariants.{Stop, ListFull, BudgetSpent, ClockLimit}
use Rattle.pipeline.specs.declared.calls.Refusal.{Refusal}
use Rattle.pipeline.specs.declared.calls.Refusal.TheVariants.{HasStopped, NoClocksLeft, BadBudget, BadList}
use Rattle.pipeline.specs.declared.calls.SlotAddresses.{SlotAddresses}
use Rattle.pipeline.specs.declared.clock.Handed.{Handed}
use Rattle.pipeline.specs.declared.clock.Tick.{Tick}
use Rattle.pipeline.specs.declared.state.Core.{Core}
use Rattle.pipeline.specs.declared.state.Slots.{Slots}

-- the most clocks between two resets
abbrev pub most_clocks : ℕ
most_clocks = 1000000000

-- the largest budget of a run, and the longest list
abbrev pub most_budget : ℕ
most_budget = 1000000

abbrev pub most_places : ℕ
most_places = 4096

-- the numbers by which users know a refusal and why a run ended
abbrev pub refusal_number : Refusal → ℕ
refusal_number HasStopped = 6
refusal_number NoClocksLeft = 7
refusal_number BadBudget = 8
refusal_number BadList = 9

abbrev pub reason_number : Reason → ℕ
reason_number (Stop event) = 1
reason_number ListFull = 2
reason_number BudgetSpent = 3
reason_number ClockLimit = 4

-- a stopped core makes no clock, nor does one that has made all it may
abbrev pub clock_refusal : Core → Option Refusal
clock_refusal c = cond c.stopped (Some HasStopped) (cond (nat_le most_clocks c.clocks) (Some NoClocksLeft) None)

abbrev pub run_refusal : ℕ → ℕ → Core → Option Refusal
run_refusal budget places c =
    cond (budget == 0 || nat_lt most_budget budget) (Some BadBudget) (cond (places == 0 || nat_lt most_places places) (Some BadList) (clock_refusal c))

-- the address in each slot that is full
abbrev pub addresses_in : Slots → SlotAddresses
addresses_in slots =
    record {
      decode = option_map (λ x. x.address) slots.decode;
      execute = option_map (λ x. x.address) slots.execute;
      memory = option_map (λ x. x.address) slots.memory;
      writeback = option_map (λ x. x.event.address) slots.writeback;
    }

module _ (s : Setting) where
  -- a clock, unless the core has stopped, and what it hands out
  abbrev pub tick : Machine → Machine
  tick m = cond m.core.stopped m (clocked s m).machine

  abbrev pub handed_by : Machine → Option Handed
  handed_by m = cond m.core.stopped None (clocked s m).handed

  -- the machine n clocks on, and all that they hand out
  abbrev pub onward : Machine → ℕ → Machine
  onward m zero = m
  onward m (suc n) = tick (onward m n)

  abbrev pub handed_on : Machine → ℕ → List Handed
  handed_on m zero = []
  handed_on m (suc n) = handed_on m n ++ option_to_list (handed_by (onward m n))

  -- what a call of clock promises
  abbrev pub answered : Option Refusal → Machine → Result Tick Refusal
  answered (Some why) m = Err why
  answered None m = Ok (record { handed = (clocked s m).handed; signals = (clocked s m).signals })

  abbrev pub unless_refused : Option Refusal → Machine → Machine → Machine
  unless_refused (Some why) before after = before
  unless_refused None before after = after

  pub record Clocks (before : Machine) (answer : Result Tick Refusal) (after : Machine) : Type 0 where
    pub answers : answer ≡ answered (clock_refusal before.core) before
    pub goes : after ≡ unless_refused (clock_refusal before.core) before (clocked s before).machine

-- the stop that a clock handed out, if it did
abbrev pub stop_in : Option Handed → Option Event
stop_in None = None
stop_in (Some h) = cond (is_stop h.event.kind) (Some h.event) None

-- a list after an event, if there is one, is written at a place
abbrev pub placed : List Handed → ℕ → Option Handed → List Handed
placed list place None = list
placed list place (Some h) = slice_set list place h

-- why a run ends after a clock, if it does: the first that applies
abbrev pub end_of : ℕ → ℕ → ℕ → ℕ → Core → Option Event → Option Reason
end_of places budget written made c (Some stop) = Some (Stop stop)
end_of places budget written made c None =
    cond (written == places) (Some ListFull)
    (cond (made == budget) (Some BudgetSpent)
    (cond (nat_le most_clocks c.clocks) (Some ClockLimit) None))

module _ (s : Setting) (before : Machine) (budget : ℕ) (list : List Handed) where
  -- why the run would end after n clocks
  abbrev pub end_after : ℕ → Option Reason
  end_after zero = None
  end_after (suc n) =
      end_of (length list) budget (length (handed_on s before (suc n))) (suc n) (onward s before (suc n)).core (stop_in (handed_by s (onward s before n)))

  -- what an accepted run promises: it is exactly that many clocks, and no reason to end came before the last of them
  pub record Runs (answer : Ran) (after : Machine) (filled : List Handed) : Type 0 where
    pub some : 1 ≤ answer.clocks
    pub within : answer.clocks ≤ budget
    pub goes : after ≡ onward s before answer.clocks
    pub written : answer.events ≡ length (handed_on s before answer.clocks)
    pub fills : filled ≡ handed_on s before answer.clocks ++ drop answer.events list
    pub room : answer.events ≤ length list
    pub ends : end_after answer.clocks ≡ Some answer.reason
    pub earlier : (n : ℕ) → n < answer.clocks → end_after n ≡ None

  -- a refused run changes nothing
  abbrev pub RunAnswers : Result Ran Refusal → Machine → List Handed → Type 0
  RunAnswers (Ok answer) after filled = (run_refusal budget (length list) before.core ≡ None) × Runs answer after filled
  RunAnswers (Err why) after filled = (run_refusal budget (length list) before.core ≡ Some why) × (after ≡ before) × (filled ≡ list)
