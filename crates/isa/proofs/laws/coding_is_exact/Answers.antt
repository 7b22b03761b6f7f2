use Rattle.isa.proofs.Returning.{words_return, instructions_return}
use Rattle.isa.proofs.Sources.{sources_stand_in_words}
use Rattle.isa.proofs.Tiling.{fields_return, words_are_fields}
use Rattle.isa.proofs.laws.coding_is_exact.Goals as goal

pub returns : goal.returns
returns c =
    record {
      words_return = words_return;
      instructions_return = instructions_return;
      fields_return = fields_return;
      words_are_fields = words_are_fields;
      sources = sources_stand_in_words;
    }
