-- The entries below k are right, and a turn makes the one at k so: `rows_step`.
use Rattle.crc32.specs.Rows.{Entry}
use Rattle.crc32.proofs.FilledRows.{rows_start, rows_step, before_first, before_later}
use borrow.Author.Rules.{rules}
use Rattle.crc32.proofs.rows.fill.Goals as goal
use Rattle.crc32.proofs.rows.fill.Goals.{then-k-lt256, else-k-lt256}

pub loop-k-init : goal.loop-k-init
loop-k-init c = rows_start (search rules)

pub loop-k-preserved : goal.loop-k-preserved
loop-k-preserved c =
    let l = c.loop-k in
    let x = c.if-k-lt256.before in
    let before : Entry 0 l.k x = elim c.if-k-lt256.branch [
      | then-k-lt256 w ↦ before_first l.k x (search rules) (search rules)
      | else-k-lt256 w ↦ before_later l.rows l.k x l.invariant (search rules) (search rules)
    ] in
    rows_step l.rows l.k x _ (search rules) l.invariant before c.step.ensures
