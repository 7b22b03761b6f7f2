-- The condition flags as bits.
use Rattle.std.specs.Prelude.{ℕ, ◌+◌, ◌*◌, Bool, cond}
use Rattle.isa.specs.declared.flags.Flags.{Flags}

-- a flag as a bit
abbrev pub bit : Bool → ℕ
bit b = cond b 1 0

-- N is bit 3, Z bit 2, C bit 1 and V bit 0
abbrev pub flag_bits : Flags → ℕ
flag_bits f = bit f.n * 8 + bit f.z * 4 + bit f.c * 2 + bit f.v
