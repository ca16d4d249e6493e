-- One byte goes through the table: the table's law.
use mathlib.Core.Path.{sym}
use lib.Bits.{bit_xor}
use Rattle.rules.specs.Checksum.{crc_byte}
use Rattle.crc32.proofs.Linear.{by_table}
use Rattle.crc32.proofs.step.Goals as goal

pub returns : goal.returns
unfolding crc_byte
returns c = rw c.entry.ensures (sym (by_table (bit_xor c.args.b c.args.state)))
