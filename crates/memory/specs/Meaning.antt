-- What a memory means, and what reading and writing make of that meaning.
-- A memory maps some addresses to words, and has a tag for every address; some mapped addresses are writable.
use Rattle.std.specs.Prelude.{◌≡◌, ℕ, ◌%◌, ◌^◌, ◌<◌, Bool, cond, Some, None, Ok, Err, Option, Result, ◌==◌}
use Rattle.memory.specs.declared.fault.Cause.{Cause}
use Rattle.memory.specs.declared.fault.Cause.TheVariants.{Unaligned, Unmapped, ReadOnly}
use Rattle.memory.specs.declared.fault.Fault.{Fault}

-- the word at each mapped address
abbrev pub Words : Type 0
Words = ℕ → Option ℕ

-- the tag of each address
abbrev pub Tags : Type 0
Tags = ℕ → ℕ

-- one tag at every address
abbrev pub one_tag : ℕ → Tags
one_tag tag a = tag

-- where a word can stand
pub record WordAddress (a : ℕ) : Type 0 where
  pub multiple : a % 4 ≡ 0
  pub below : a < 2 ^ 32

abbrev pub aligned : ℕ → Bool
aligned a = a % 4 == 0

abbrev pub refuse : {X : Type 0} → Cause → Tags → ℕ → Result X Fault
refuse why tags a = Err (record { cause = why; address = a; tag = tags a })

-- what is mapped is answered, and any other address refused as unmapped
abbrev pub answer : {X : Type 0} → Option X → Tags → ℕ → Result X Fault
answer (Some w) tags a = Ok w
answer None tags a = refuse Unmapped tags a

-- what is found at the address a, or why it cannot be reached
abbrev pub reached : {X : Type 0} → Option X → Tags → ℕ → Result X Fault
reached found tags a = cond (aligned a) (answer found tags a) (refuse Unaligned tags a)

-- what a read at the address a answers
abbrev pub reading : Words → Tags → ℕ → Result ℕ Fault
reading words tags a = reached (words a) tags a

abbrev pub permit : Option ℕ → Tags → Bool → ℕ → Result (Unit {0}) Fault
permit (Some w) tags may a = cond may (Ok tt) (refuse ReadOnly tags a)
permit None tags may a = refuse Unmapped tags a

-- what a write at the address a answers
abbrev pub writing : Words → Tags → (ℕ → Bool) → ℕ → Result (Unit {0}) Fault
writing words tags writable a = cond (aligned a) (permit (words a) tags (writable a) a) (refuse Unaligned tags a)

-- the map with the one word w put at the address a
abbrev pub put : Words → ℕ → ℕ → Words
put words a w = λ b. cond (b == a) (Some w) (words b)
