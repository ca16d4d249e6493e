use Rattle.std.proofs.Common.{◌≡◌}
use Rattle.std.specs.Slice.Iter.{chunks_exact_rest, chunks_exact_size}
use Rattle.fletcher.proofs.Words.{SummingWords}
use Rattle.fletcher.proofs.over.Given as goal

abbrev pub invariant-loop-word : goal.invariant-loop-word
invariant-loop-word l = record {
  size : chunks_exact_size l.word-iterator ≡ 8;
  summed : SummingWords l.initial.s l.bytes (chunks_exact_rest l.word-iterator) l.s;
}
