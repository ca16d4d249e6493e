-- A word by its bytes, each by its row: `by_bytes`.
use mathlib.Core.Path.{sym}
use Rattle.crc32.proofs.Words.{by_bytes}
use borrow.Author.Rules.{rules}
use Rattle.crc32.proofs.rows.word.Goals as goal

pub returns : goal.returns
returns c =
    let a = c.args in
    rw (c.row_entry.ensures, c.row_entry-2.ensures, c.row_entry-3.ensures, c.row_entry-4.ensures)
    (sym (by_bytes a.k a.x (search rules)))
