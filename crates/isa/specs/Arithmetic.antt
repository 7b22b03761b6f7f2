-- The arithmetic unit: the result of each operation, and the flags after it.
use Rattle.std.specs.Prelude.{ℕ, ◌+◌, ◌-◌, ◌/◌, ◌%◌, ◌^◌, Bool, not, ◌+ℤ◌, ◌-ℤ◌, ◌==◌, bit_and, bit_or, nat_le}
use Rattle.isa.specs.TwosComplement.{signed, fits_signed}
use Rattle.isa.specs.declared.flags.Flags.{Flags}
use Rattle.isa.specs.declared.operation.Operation.{Operation}
use Rattle.isa.specs.declared.operation.Operation.TheVariants.{And, Sub, Add, Cmp, Orr}

-- a difference modulo 2 ^ 32
abbrev pub difference : ℕ → ℕ → ℕ
difference a b = (a + (2 ^ 32 - b)) % 2 ^ 32

abbrev pub result_of : Operation → ℕ → ℕ → ℕ
result_of And a b = bit_and a b
result_of Sub a b = difference a b
result_of Add a b = (a + b) % 2 ^ 32
result_of Cmp a b = difference a b
result_of Orr a b = bit_or a b

-- the sum reaches 2 ^ 32; the difference needs no borrow
abbrev pub carry : Operation → ℕ → ℕ → Flags → Bool
carry And a b before = before.c
carry Sub a b before = nat_le b a
carry Add a b before = nat_le (2 ^ 32) (a + b)
carry Cmp a b before = nat_le b a
carry Orr a b before = before.c

-- the true sum or difference of the signed operands lies outside the signed range
abbrev pub overflow : Operation → ℕ → ℕ → Flags → Bool
overflow And a b before = before.v
overflow Sub a b before = not (fits_signed 32 (signed 32 a -ℤ signed 32 b))
overflow Add a b before = not (fits_signed 32 (signed 32 a +ℤ signed 32 b))
overflow Cmp a b before = not (fits_signed 32 (signed 32 a -ℤ signed 32 b))
overflow Orr a b before = before.v

-- N is bit 31 of the result, and Z that the result is 0
abbrev pub flags_after : Operation → ℕ → ℕ → Flags → Flags
flags_after op a b before =
    record {
      n = (result_of op a b / 2 ^ 31 % 2 == 1);
      z = (result_of op a b == 0);
      c = carry op a b before;
      v = overflow op a b before;
    }
