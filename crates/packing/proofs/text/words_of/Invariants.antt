use Rattle.std.proofs.Common.{◌≡◌, ◌≤◌, drop, vec_items}
use Rattle.packing.specs.Texts.{read_on, words_of}
use Rattle.packing.proofs.text.words_of.Given as goal

-- what is left gives the rest
abbrev pub invariant-loop-byte : goal.invariant-loop-byte
invariant-loop-byte l =
    (read_on (vec_items l.words) l.reading (drop l.byte-index l.text) ≡ words_of l.text)
    × (l.reading.ended ≤ l.byte-index)
