use Prim.Native.Nat.{◌*◌}
use lib.ListN.{drop}
use Rattle.std.specs.Prelude.{IfSome}
use Rattle.output.proofs.Loops.{Left}
use Rattle.rules.specs.Names.{units}
use Rattle.rules.specs.Strings.{string_text}
use Rattle.utf16.specs.Carry.{IsHigh}
use Rattle.utf16.proofs.Carry.{text_from}
use Rattle.utf16.proofs.put_bytes.Given as goal

abbrev pub invariant-loop-i : goal.invariant-loop-i
invariant-loop-i g l =
    IfSome l.carry IsHigh
    × Left (string_text (units (g.B.Bytes.bytes l.src))) l.initial.out l.at (text_from l.carry (units (drop (2 * l.i) (g.B.Bytes.bytes l.src)))) l.out l.place
