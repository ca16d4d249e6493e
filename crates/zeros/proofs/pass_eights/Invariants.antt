use Rattle.std.proofs.Common.{◌≡◌}
use Rattle.std.specs.Slice.Exact.{rchunks_exact_rest, rchunks_exact_remainder, rchunks_exact_size}
use Rattle.zeros.proofs.Dropped.{Passing}
use Rattle.zeros.proofs.pass_eights.Given as goal

abbrev pub invariant-loop-word : goal.invariant-loop-word
invariant-loop-word l =
    (rchunks_exact_size l.word-iterator ≡ 8) × Passing l.s (rchunks_exact_remainder l.word-iterator) (rchunks_exact_rest l.word-iterator) l.n
