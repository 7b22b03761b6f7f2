-- The kinds of worked examples, and what an example of each kind says.
use Rattle.std.specs.Prelude.{ℕ, Bool, true, false, List, [], ◌∷◌, map, is_some, Some, None, Option}
use Rattle.image.specs.FirstRefusal.{refusal_of}
use Rattle.image.specs.Images.{bytes_words}
use Rattle.image.specs.declared.refusal.Refusal.{Refusal}
use Rattle.image.specs.Serving.{served}
use Rattle.memory.specs.Bank.{bank_words, everywhere}
use Rattle.memory.specs.Meaning.{one_tag}
use Rattle.isa.specs.Arithmetic.{flags_after}
use Rattle.isa.specs.Decoding.{decoded}
use Rattle.isa.specs.StatusFlags.{flag_bits}
use Rattle.isa.specs.Syntax.{assembly_text}
use Rattle.isa.specs.declared.flags.Flags.{Flags}
use Rattle.isa.specs.declared.instruction.Instruction.{Instruction}
use Rattle.isa.specs.declared.operation.Operation.TheVariants.{Add, Cmp}
use Rattle.stepper.specs.Step.{Setting, setting}
use Rattle.stepper.specs.declared.event.Event.{Event}
use Rattle.pipeline.specs.declared.clock.Handed.{Handed}
use Rattle.refinement.specs.Lateness.{handed_out}
use Rattle.examples.specs.Blocks.{check_word, block_bytes}

pub data Example : Type 0 where
  -- a word, the instruction that it means, and the instruction's text
  Means : ℕ → Instruction → List ℕ → Example
  -- a word that means some instruction
  Inside : ℕ → Example
  -- a word that means none
  Outside : ℕ → Example
  -- two operands, and the flags after their sum as one number
  AddFlags : ℕ → ℕ → ℕ → Example
  -- two operands, and the flags after they are compared
  CmpFlags : ℕ → ℕ → ℕ → Example
  -- the words of an image of one block, and the block's check word
  CheckWord : List ℕ → ℕ → Example
  -- a program and its data, from address 0 on each, and what the core hands out in so many clocks: the address and the
  -- clock of each event
  Takes : List ℕ → List ℕ → ℕ → List (ℕ × ℕ) → Example
  -- a program and its data, and the event that the core hands out first, in that clock
  First : List ℕ → List ℕ → ℕ → Event → Example

-- no flag is set
abbrev pub clear : Flags
clear = record { n = false; z = false; c = false; v = false }

-- the program in an image, the data in a bank, tags 0
abbrev pub around : List ℕ → Setting
around program = setting (served program) (one_tag 0) (one_tag 0) everywhere

-- the text of what a word means, if it means anything
abbrev pub text_of : Option Instruction → List ℕ
text_of None = []
text_of (Some i) = assembly_text (record { address = 0; instruction = i })

-- what is found out about an example, and what should be
pub data Answer : Type 0 where
  Meaning : Option Instruction → List ℕ → Answer
  Truth : Bool → Answer
  Number : ℕ → Answer
  Block : ℕ → Option Refusal → List ℕ → Answer
  Marks : List (ℕ × ℕ) → Answer
  Events : List Handed → Answer

abbrev pub found : Example → Answer
found (Means word instruction text) = Meaning (decoded word) (text_of (decoded word))
found (Inside word) = Truth (is_some (decoded word))
found (Outside word) = Truth (is_some (decoded word))
found (AddFlags a b flags) = Number (flag_bits (flags_after Add a b clear))
found (CmpFlags a b flags) = Number (flag_bits (flags_after Cmp a b clear))
found (CheckWord words check) =
    Block (check_word words) (refusal_of (block_bytes words check)) (bytes_words (block_bytes words check))
found (Takes program words clocks marks) =
    Marks (map (λ h. (h.event.address, h.clock)) (handed_out (around program) (bank_words 0 words) clocks))
found (First program words clock event) = Events (handed_out (around program) (bank_words 0 words) clock)

abbrev pub expected : Example → Answer
expected (Means word instruction text) = Meaning (Some instruction) text
expected (Inside word) = Truth true
expected (Outside word) = Truth false
expected (AddFlags a b flags) = Number flags
expected (CmpFlags a b flags) = Number flags
expected (CheckWord words check) = Block check None words
expected (Takes program words clocks marks) = Marks marks
expected (First program words clock event) = Events (record { event = event; clock = clock } ∷ [])
