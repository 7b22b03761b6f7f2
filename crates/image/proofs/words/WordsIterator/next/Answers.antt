use Rattle.std.proofs.Common.{vec_items, arith}
use Rattle.std.proofs.lemmas.Bool.Decides.{nat_tests}
use Rattle.image.specs.ServedWords.{few}
use Rattle.image.proofs.Packed.{filled_few, filled_packed}
use Rattle.image.proofs.words.WordsIterator.next.Goals as goal

pub overflow_add-self : goal.overflow_add-self
overflow_add-self c =
    let image = c.args.self.now.image.now in
    let blocks = filled_few (vec_items image.blocks) image.full in
    let most = few (vec_items image.blocks) (filled_packed (vec_items image.blocks) image.full) in
    let found = c.in_ok-word.ensures in
    grind (arith, nat_tests)
