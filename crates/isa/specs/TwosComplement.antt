-- Integers in two's complement, at any width above 0.
use Rattle.std.specs.Prelude.{ℕ, ◌-◌, ◌%◌, ◌^◌, Bool, cond, ◌&&◌, ℤ, pos, negsuc, ◌-ℤ◌, neg_ℤ, int_le, int_lt, nat_lt}

-- a number below 2 ^ width, read with its highest bit as the sign
abbrev pub signed : ℕ → ℕ → ℤ
signed width n = cond (nat_lt n (2 ^ (width - 1))) (pos n) (pos n -ℤ pos (2 ^ width))

-- the lowest bits of an integer: its remainder by 2 ^ width, from 0 on
abbrev pub low_bits : ℕ → ℤ → ℕ
low_bits width (pos n) = n % 2 ^ width
low_bits width (negsuc n) = 2 ^ width - 1 - n % 2 ^ width

-- the integer lies in the signed range of that many bits
abbrev pub fits_signed : ℕ → ℤ → Bool
fits_signed width z = int_le (neg_ℤ (pos (2 ^ (width - 1)))) z && int_lt z (pos (2 ^ (width - 1)))
