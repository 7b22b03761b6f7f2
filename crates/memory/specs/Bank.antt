-- What a bank means: lent words from a base address on, one every four bytes.
use Rattle.std.specs.Prelude.{ℕ, ◌+◌, ◌-◌, ◌*◌, ◌/◌, ◌^◌, Bool, true, cond, ◌||◌, List, length, is_ok, Some, None, Ok, Err, Option, Result, nat_le, nat_lt, slice_index, slice_set}
use Rattle.std.specs.Option.{option_map}
use Rattle.memory.specs.declared.bank.BankRefusal.{BankRefusal}
use Rattle.memory.specs.declared.bank.BankRefusal.TheVariants.{Count, Base, End}
use Rattle.memory.specs.declared.fault.Fault.{Fault}
use Rattle.memory.specs.Meaning.{Words, aligned, one_tag, reached}

-- the number by which users know the refusal of a bank's figures
abbrev pub refusal_number : BankRefusal → ℕ
refusal_number Count = 14
refusal_number Base = 14
refusal_number End = 14

-- whether `count` words can stand at `base`: 1 to 8,192 of them, from a multiple of four, ending at 2^32 at most
abbrev pub checked : ℕ → ℕ → Result (Unit {0}) BankRefusal
checked base count =
    cond (nat_lt count 1 || nat_lt 8192 count) (Err Count) (cond (aligned base) (cond (nat_le (base + 4 * count) (2 ^ 32)) (Ok tt) (Err End)) (Err Base))

-- the place of the word at the address a: 0 at the base, 1 four bytes on, and so to the last
abbrev pub index_of : ℕ → ℕ → ℕ → Option ℕ
index_of base count a =
    cond (is_ok (checked base count)) (cond (aligned a) (cond (nat_le base a) (cond (nat_lt a (base + 4 * count)) (Some ((a - base) / 4)) None) None) None) None

-- the words that a bank maps
abbrev pub bank_words : ℕ → List ℕ → Words
bank_words base words a = option_map (λ i. slice_index words i) (index_of base (length words) a)

-- where the word at the address a lies, or why it cannot be reached
abbrev pub placed : ℕ → ℕ → ℕ → ℕ → Result ℕ Fault
placed base count tag a = reached (index_of base count a) (one_tag tag) a

-- the lent words once w is written at the address a: one is replaced if a is served, none otherwise
abbrev pub replaced : List ℕ → Option ℕ → ℕ → List ℕ
replaced words (Some i) w = slice_set words i w
replaced words None w = words

abbrev pub stored : ℕ → List ℕ → ℕ → ℕ → List ℕ
stored base words a w = replaced words (index_of base (length words) a) w

-- all of a bank is writable
abbrev pub everywhere : ℕ → Bool
everywhere a = true
