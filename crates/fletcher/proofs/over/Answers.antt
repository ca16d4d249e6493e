-- `over` meets its contract: the words that are left, from here on, lead to the sums of them all.
use Rattle.std.proofs.Common.{length, ◌<◌, ◌∙◌, ap}
use Rattle.std.specs.Slice.Iter.{chunks_exact_rest, chunks_exact_size}
use Rattle.rules.specs.Bytes.{number_at}
use Rattle.fletcher.proofs.Words.{words_start, words_on, words_end}
use Rattle.fletcher.proofs.over.Goals as goal

pub loop-word-init : goal.loop-word-init
loop-word-init c =
    let same = c.into_iter-word-iterator.ensures.into_iter_gives in record {
      size = ap chunks_exact_size same ∙ c.chunks_exact-words.ensures.size;
      summed = rw (ap chunks_exact_rest same ∙ c.chunks_exact-words.ensures.rest) words_start;
    }

pub loop-word-preserved : goal.loop-word-preserved
loop-word-preserved c =
    let steps = c.in-Some.ensures.steps in
    let inv = c.loop-word.invariant in record {
      size = steps.0 ∙ inv.size;
      summed = words_on _ _ inv.summed steps.1.0 (steps.1.1 ∙ inv.size) (rw c.eight.ensures at c.with-s.ensures);
    }

pub returns : goal.returns
returns c =
    let inv = c.loop-word.invariant in
    let few : length (chunks_exact_rest c.loop-word.word-iterator) < 8 = rw inv.size at c.in-None.ensures.steps.1.0 in
    let left = c.eight-2.ensures ∙ ap (number_at 0 8) (c.remainder-rest.ensures ∙ c.chunks_exact-words.ensures.remainder) in
    words_end inv.summed few left c.with.ensures c.with-2.ensures
