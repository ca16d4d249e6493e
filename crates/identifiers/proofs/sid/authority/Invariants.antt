use mathlib.Core.Path.{◌≡◌}
use Prim.Native.Nat.{◌^◌, ◌<◌}
use mathlib.Core.List.{reverse}
use lib.ListN.{take}
use Rattle.rules.specs.Bytes.{number}
use Rattle.identifiers.proofs.sid.authority.Given as goal

abbrev pub invariant-loop-b : goal.invariant-loop-b
invariant-loop-b l = (l.a < 256 ^ l.b-index) × (l.a ≡ number (reverse (take l.b-index l.bytes)))
