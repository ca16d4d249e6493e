-- The rule of the rows at an index.
use Prim.Native.Nat.{◌%◌, ◌<◌}
use Rattle.crc32.proofs.FilledRows.{entry_found}
use borrow.Author.Rules.{rules}
use Rattle.crc32.proofs.rows.row_entry.Goals as goal

pub returns : goal.returns
returns c =
    let a = c.args in
    let h : a.x % 256 < 256 = search rules in
    entry_found c.requires.0 a.r (a.x % 256) (search rules) h
