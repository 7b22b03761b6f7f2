use Rattle.std.proofs.Common.{length, vec_items, min, sym, ap, ◌∙◌, arith}
use Rattle.std.proofs.lemmas.Bool.{eqb-false}
use Rattle.std.proofs.lemmas.Bool.Decides.{nat_tests}
use Rattle.std.specs.Iterator.Adapters.{enumerate_count, enumerate_source}
use Rattle.std.specs.Slice.Iter.{chunks_rest}
use Rattle.packing.proofs.Growing.{packing_more}
use Rattle.packing.proofs.pack.pack.Goals as goal

pub loop-place-preserved : goal.loop-place-preserved
loop-place-preserved c =
    let step = c.in-Some.ensures.steps in
    let chunk = step.0.1 in (
      packing_more
          c.args.words.now
          (enumerate_count c.loop-place.place-iterator)
          (vec_items c.loop-place.bytes)
          (chunks_rest (enumerate_source c.loop-place.place-iterator))
          c.in-Some.part.now
          (chunks_rest (enumerate_source c.next.new.self))
          (λ i. omega (arith, c.type_inv.words i))
          (omega arith)
          c.loop-place.invariant.0
          chunk.0
          (chunk.1 ∙ ap (λ n. min n (length (chunks_rest (enumerate_source c.loop-place.place-iterator)))) c.loop-place.invariant.1)
          chunk.2
          (c.new.ensures.place ∙ step.1)
          c.new.ensures.words
          step.2
          c.in_ok-push_onto.ensures,
      step.0.0 ∙ c.loop-place.invariant.1,
    )

pub returns-clause-refusal : goal.returns-clause-refusal
returns-clause-refusal c =
    let some = eqb-false (length c.args.words.now) 0 (sym c.is_empty.ensures ∙ c.if-is_empty.false) in
    grind (arith, nat_tests)
