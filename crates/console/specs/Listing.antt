-- The listing of a core's next clocks.
use Rattle.std.specs.Prelude.{ℕ, zero, suc, List, [], ◌++◌, Some, None, Option}
use Rattle.stepper.specs.Step.{Setting}
use Rattle.pipeline.specs.Calls.{addresses_in, clock_refusal, unless_refused}
use Rattle.pipeline.specs.Clock.{Machine, clocked}
use Rattle.pipeline.specs.declared.calls.Refusal.{Refusal}
use Rattle.report.specs.ListingLine.{line_text}

module _ (s : Setting) where
  -- the machine after n calls of clock, of which the last may be refused
  abbrev pub after_calls : Machine → ℕ → Machine
  after_calls m zero = m
  after_calls m (suc n) =
      unless_refused s (clock_refusal (after_calls m n).core) (after_calls m n) (clocked s (after_calls m n)).machine

  -- the line of a clock, and no text where it is refused
  abbrev pub line_unless : Option Refusal → Machine → List ℕ
  line_unless (Some why) m = []
  line_unless None m =
      line_text (clocked s m).machine.core.clocks (addresses_in (clocked s m).machine.core.slots) (clocked s m).handed

  -- the lines of n calls
  abbrev pub listing : Machine → ℕ → List ℕ
  listing m zero = []
  listing m (suc n) = listing m n ++ line_unless (clock_refusal (after_calls m n).core) (after_calls m n)
