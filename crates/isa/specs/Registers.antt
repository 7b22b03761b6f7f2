-- Registers by number.
use Rattle.std.specs.Prelude.{ℕ, ◌%◌}
use Rattle.std.proofs.Common.{arith}
use Rattle.isa.specs.declared.register.Register.{Register}

-- the register that the low four bits of a value name
abbrev pub register : ℕ → Register
register n = record { number = n % 16; ok = omega arith }
