use Rattle.packing.proofs.ReadBack.{examples, read_back}
use Rattle.packing.proofs.text.laws_hold.Goals as goal

pub returns : goal.returns
returns c = record { read_back = read_back; examples = examples }
