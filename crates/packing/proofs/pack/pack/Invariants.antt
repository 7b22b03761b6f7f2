use Rattle.std.proofs.Common.{◌≡◌, vec_items}
use Rattle.std.specs.Iterator.Adapters.{enumerate_count, enumerate_source}
use Rattle.std.specs.Slice.Iter.{chunks_rest, chunks_size}
use Rattle.packing.proofs.Growing.{Packing}
use Rattle.packing.proofs.pack.pack.Given as goal

abbrev pub invariant-loop-place : goal.invariant-loop-place
invariant-loop-place l =
    Packing l.words (enumerate_count l.place-iterator) (vec_items l.bytes) (chunks_rest (enumerate_source l.place-iterator))
    × (chunks_size (enumerate_source l.place-iterator) ≡ 126)
