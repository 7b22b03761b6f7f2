-- The signals of a clock.
use Rattle.std.specs.Prelude.{ℕ, false}
use Rattle.pipeline.specs.declared.signals.Forwarding.{Forwarding}
use Rattle.pipeline.specs.declared.signals.Forwarding.TheVariants.{Register, Writeback, Memory}
use Rattle.pipeline.specs.declared.signals.Signals.{Signals}

-- the code by which users know where a source value comes from
abbrev pub forwarding_number : Forwarding → ℕ
forwarding_number Register = 0
forwarding_number Writeback = 1
forwarding_number Memory = 2

abbrev pub quiet : Signals
quiet =
    record { stall = false; write_pending = false; branch_taken = false; pc_written = false; first = Register; second = Register }
