-- The numbers by which users know why an access is refused.
use Rattle.std.specs.Prelude.{ℕ}
use Rattle.memory.specs.declared.fault.Cause.{Cause}
use Rattle.memory.specs.declared.fault.Cause.TheVariants.{Unaligned, Unmapped, ReadOnly}

abbrev pub number : Cause → ℕ
number Unaligned = 10
number Unmapped = 11
number ReadOnly = 12
