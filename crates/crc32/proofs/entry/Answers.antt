-- The table's rule at an index.
use mathlib.Core.Path.{refl}
use Prim.Native.Nat.{◌%◌, ◌<◌}
use Rattle.crc32.specs.declared.table.TheConstants.{TABLE}
use Rattle.crc32.specs.Table.{right}
use Rattle.crc32.proofs.TableEntries.{entry_right}
use borrow.Author.Rules.{rules}
use Rattle.crc32.proofs.entry.Goals as goal

pub returns : goal.returns
unfolding right
returns c = let h : c.args.x % 256 < 256 = search rules in entry_right TABLE refl _ h
