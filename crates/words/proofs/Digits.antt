-- The library's digits are those of the specification.
use Rattle.std.proofs.Common.{◌≡◌, ℕ, ◌+◌, ◌*◌, ◌^◌, ◌<◌, ◌≤◌, List, [], ◌∷◌, length, Some, None, Option, Result, Ok, Err, Bool, false, cond, ◌==◌, slice_index, drop, inl, inr, refl, sym, ap, ◌∙◌, subst, add-zero, arith, pow-add}
use Rattle.std.proofs.lemmas.Nat.{mul-add-lt}
use Rattle.std.proofs.lemmas.Bool.{cases_lt}
use Rattle.std.proofs.lemmas.Bool.Decides.{nat_tests}
use Rattle.std.specs.Char.{digit_value}
use Rattle.std.specs.Result.{OkIff, result_ok}
use Rattle.std.specs.Str.Parse.{AllDigits, IsNumeral, ParsesUnsigned, digits_value, digits_value_after, without_leading_plus}
use Rattle.isa.specs.Decoding.{and_then}
use Rattle.words.specs.Hexadecimal.{digit_of, number_on}

-- a byte is a digit or none
digit_in : (byte : ℕ) → digit_value byte < 16 → digit_of byte ≡ Some (digit_value byte)
digit_in byte h = grind (arith, nat_tests)

digit_out : (byte : ℕ) → 16 ≤ digit_value byte → digit_of byte ≡ None
digit_out byte h = grind (arith, nat_tests)

-- digits alone are a number, and other bytes are none
all_digits : (number : ℕ) (bytes : List ℕ) → AllDigits 16 bytes → number_on number bytes ≡ Some (digits_value_after 16 number bytes)
all_digits number [] all = refl
all_digits number (byte ∷ bytes) all =
    ap (λ o. and_then o (λ digit. number_on (number * 16 + digit) bytes)) (digit_in byte all.0)
    ∙ all_digits (number * 16 + digit_value byte) bytes all.1

not_all : (number : ℕ) (bytes : List ℕ) → ¬ (AllDigits 16 bytes) → number_on number bytes ≡ None
not_all number [] none = absurd (none tt)
not_all number (byte ∷ bytes) none =
    let next : ℕ → Option ℕ = λ digit. number_on (number * 16 + digit) bytes in
    elim (cases_lt (digit_value byte) 16) [
      | inl low ↦ ap (λ o. and_then o next) (digit_in byte low) ∙ not_all (number * 16 + digit_value byte) bytes (λ all. none (low, all))
      | inr high ↦ ap (λ o. and_then o next) (digit_out byte high)
    ]

-- n digits stay below 16 ^ n
below : (number n : ℕ) (bytes : List ℕ) → number < 16 ^ n → AllDigits 16 bytes → digits_value_after 16 number bytes < 16 ^ (n + length bytes)
below number n [] h all = rw add-zero h
below number n (byte ∷ bytes) h all =
    let room : number * 16 + digit_value byte < 16 ^ (n + 1) = omega (arith, mul-add-lt number 16 (digit_value byte) (16 ^ n) h all.0, pow-add 16 n 1) in
    subst (λ k. digits_value_after 16 (number * 16 + digit_value byte) bytes < 16 ^ k) (omega arith) (below (number * 16 + digit_value byte) (n + 1) bytes room all.1)

eight_digits :
    {E : Type 0} (bytes : List ℕ) (r : Result ℕ E) → length bytes ≡ 8
    → OkIff r (IsNumeral 16 bytes × (digits_value 16 bytes < 2 ^ 32)) (digits_value 16 bytes)
    → result_ok r ≡ number_on 0 bytes
eight_digits bytes (Ok number) eight p = ap Some p.1 ∙ sym (all_digits 0 bytes p.0.0.1)
eight_digits bytes (Err error) eight p =
    let fits : AllDigits 16 bytes → digits_value 16 bytes < 2 ^ 32 =
    λ all. subst (λ (n : ℕ). digits_value 16 bytes < 16 ^ (0 + n)) eight (below 0 0 bytes (omega arith) all) in
    sym (not_all 0 bytes (λ all. p ((omega arith, all), fits all)))

-- what the library parses of eight bytes, where no sign stands first
pub parsed :
    {E : Type 0} (bytes : List ℕ) (r : Result ℕ E) → length bytes ≡ 8 → false ≡ (slice_index bytes 0 == 43)
    → ParsesUnsigned 32 16 bytes r → result_ok r ≡ number_on 0 bytes
parsed bytes r eight no_sign p =
    let plain : without_leading_plus bytes ≡ bytes = sym (ap (λ (sign : Bool). drop (cond sign 1 0) bytes) no_sign) in
    eight_digits bytes r eight (subst (λ digits. OkIff r (IsNumeral 16 digits × (digits_value 16 digits < 2 ^ 32)) (digits_value 16 digits)) plain p)
