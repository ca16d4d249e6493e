use Rattle.std.proofs.Common.{◌≡◌}
use Rattle.std.specs.Slice.Iter.{chunks_exact_rest, chunks_exact_size}
use Rattle.crc32.proofs.Passing.{Sixteens}
use Rattle.crc32.proofs.rows.sixteens.Given as goal

abbrev pub invariant-loop-bytes : goal.invariant-loop-bytes
invariant-loop-bytes l = record {
  size : chunks_exact_size l.bytes-iterator ≡ 16;
  passed : Sixteens l.fn.state l.part (chunks_exact_rest l.bytes-iterator) l.c;
}
