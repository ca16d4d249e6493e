-- The loop goes through the part by 16 bytes: what is left leads to the state after all of them.
use Rattle.std.proofs.Common.{length, ◌<◌, ◌∙◌, ap, arith}
use Rattle.std.specs.Slice.Iter.{chunks_exact_rest, chunks_exact_size}
use Rattle.crc32.proofs.Passing.{sixteens_start, sixteens_on, sixteens_end}
use Rattle.crc32.proofs.rows.sixteens.Goals as goal

pub loop-bytes-init : goal.loop-bytes-init
loop-bytes-init c =
    let same = c.into_iter-bytes-iterator.ensures.into_iter_gives in record {
      size = ap chunks_exact_size same ∙ c.chunks_exact-bytes-items.ensures.size;
      passed = rw (ap chunks_exact_rest same ∙ c.chunks_exact-bytes-items.ensures.rest) sixteens_start;
    }

pub sixteen-c-requires : goal.sixteen-c-requires
sixteen-c-requires c = (c.fill.ensures, c.in-Some.ensures.steps.1.1 ∙ c.loop-bytes.invariant.size)

pub loop-bytes-preserved : goal.loop-bytes-preserved
loop-bytes-preserved c =
    let steps = c.in-Some.ensures.steps in
    let inv = c.loop-bytes.invariant in record {
      size = steps.0 ∙ inv.size;
      passed = sixteens_on _ _ inv.passed steps.1.0 (steps.1.1 ∙ inv.size) c.sixteen-c.ensures;
    }

pub returns : goal.returns
returns c =
    let inv = c.loop-bytes.invariant in
    let few : length (chunks_exact_rest c.loop-bytes.bytes-iterator) < 16 = rw inv.size at c.in-None.ensures.steps.1.0 in
    (omega arith, sixteens_end inv.passed few)
