-- Eight digits fit a word.
use Rattle.std.proofs.Common.{◌≡◌, ℕ, ◌+◌, ◌*◌, ◌^◌, ◌<◌, ◌≤◌, pow-suc, add-one, arith, lit<}
use native.Mathlib.Nat.{pow-le-pow_right}

-- a digit behind fewer than eight
pub record More (word digits digit : ℕ) : Type 0 where
  pub room : word * 16 + digit < 2 ^ 32
  pub fits : word * 16 + digit < 16 ^ (digits + 1)

pub digit_more : (word digits digit : ℕ) → word < 16 ^ digits → digit < 16 → digits < 8 → More word digits digit
digit_more word digits digit so_far small few =
    let next : 16 ^ (digits + 1) ≡ 16 ^ digits * 16 = rw add-one (pow-suc 16 digits) in
    let most : 16 ^ digits ≤ 16 ^ 7 = pow-le-pow_right (lit< tt) {i = digits} {j = 7} (omega arith) in
    record { room = omega arith; fits = omega arith }
