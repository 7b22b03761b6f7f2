-- A clock and its line: what the call answers, and what it leaves in the buffer.
use Rattle.std.specs.Prelude.{◌≡◌, ℕ, List, Ok, Err, Result}
use Rattle.pipeline.specs.Calls.{addresses_in}
use Rattle.pipeline.specs.declared.calls.Refusal.{Refusal}
use Rattle.pipeline.specs.declared.clock.Tick.{Tick}
use Rattle.pipeline.specs.declared.state.Core.{Core}
use Rattle.report.specs.Buffer.{BeginsWith}
use Rattle.report.specs.ListingLine.{line_text}
use Rattle.report.specs.declared.clocking.Listed.{Listed}

-- what the clock alone answers
abbrev pub tick_in : Result Listed Refusal → Result Tick Refusal
tick_in (Ok listed) = Ok listed.tick
tick_in (Err why) = Err why

-- the line of the clock that a core has just made
abbrev pub line_after : Core → Tick → List ℕ
line_after core tick = line_text core.clocks (addresses_in core.slots) tick.handed

-- a refused clock leaves the buffer as it was
abbrev pub LineMade : Result Listed Refusal → Core → List ℕ → List ℕ → Type 0
LineMade (Ok listed) core before after = BeginsWith (line_after core listed.tick) listed.length before after
LineMade (Err why) core before after = after ≡ before
