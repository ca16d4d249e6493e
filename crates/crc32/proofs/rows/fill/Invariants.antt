use Rattle.crc32.specs.Rows.{Rows}
use Rattle.crc32.proofs.rows.fill.Given as goal

abbrev pub invariant-loop-k : goal.invariant-loop-k
invariant-loop-k l = Rows l.rows l.k
