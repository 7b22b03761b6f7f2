-- A list of calls that is performed for a client: the requests, the answers, and that they are what the calls promise.
use Rattle.std.specs.Prelude.{◌≡◌, List, ◌++◌, map, length, vec_items, Result, MatchResult}
use Rattle.std.specs.List.{flat_map}
use Rattle.stepper.specs.Step.{Setting}
use Rattle.pipeline.specs.Clock.{Machine}
use Rattle.pipeline.specs.declared.clock.Handed.{Handed}
use Rattle.refinement.specs.CallLists.{Made, ClockMade, RunMade, RegisterMade, FlagsMade, SlotsMade, Promised, handed_in, Leads}
use Rattle.refinement.specs.declared.perform.Answer.{Answer}
use Rattle.refinement.specs.declared.perform.Answer.TheVariants.{Clock as ClockAnswer, Run as RunAnswer, Register as RegisterAnswer, Flags as FlagsAnswer, Slots as SlotsAnswer}
use Rattle.refinement.specs.declared.perform.Performance.{Performance}
use Rattle.refinement.specs.declared.perform.Call.{Call}
use Rattle.refinement.specs.declared.perform.Call.TheVariants.{Clock, Run, Register, Flags, Slots}

-- what was asked for, a run's list by its length, and what was answered
abbrev pub asked_by : Made → Call
asked_by (ClockMade answer) = Clock
asked_by (RunMade budget list answer filled) = Run budget (length list)
asked_by (RegisterMade number answer) = Register number
asked_by (FlagsMade answer) = Flags
asked_by (SlotsMade answer) = Slots

abbrev pub told_by : Made → Answer
told_by (ClockMade answer) = ClockAnswer answer
told_by (RunMade budget list answer filled) = RunAnswer answer
told_by (RegisterMade number answer) = RegisterAnswer answer
told_by (FlagsMade answer) = FlagsAnswer answer
told_by (SlotsMade answer) = SlotsAnswer answer

-- one call was made as it was asked for; its events are put behind those that were there
pub record Performed (s : Setting) (before : Machine) (call : Call) (answer : Answer) (there there' : List Handed) (after : Machine) : Type 0 where
  pub made : Made
  pub asked : asked_by made ≡ call
  pub told : told_by made ≡ answer
  pub handed : there' ≡ there ++ handed_in made
  pub promised : Promised s before made after

-- a whole list of calls was made as it was asked for
pub record AllPerformed (s : Setting) (start : Machine) (calls : List Call) (answers : List Answer) (handed : List Handed) (after : Machine) : Type 0 where
  pub made : List Made
  pub asked : map asked_by made ≡ calls
  pub told : map told_by made ≡ answers
  pub handed_out : flat_map handed_in made ≡ handed
  pub leads : Leads s start made after

-- some calls were made before the rest was given up
pub record GivenUp (s : Setting) (start after : Machine) : Type 0 where
  pub made : List Made
  pub leads : Leads s start made after

-- a call that was made, or given up for want of memory to keep what it answered
abbrev pub Tried : {E : Type 0} → Setting → Machine → Call → List Handed → List Handed → Machine → Result Answer E → Type 0
Tried s before call there there' after result =
    MatchResult result (λ answer. Performed s before call answer there there' after) (λ _. GivenUp s before after)

-- and a whole list of them
abbrev pub AllTried : {E : Type 0} → Setting → Machine → List Call → Machine → Result Performance E → Type 0
AllTried s start calls after result =
    MatchResult result (λ p. AllPerformed s start calls (vec_items p.answers) (vec_items p.handed) after) (λ _. GivenUp s start after)
