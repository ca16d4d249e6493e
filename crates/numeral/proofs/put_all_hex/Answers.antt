-- `put_all_hex` meets its contract: two digits a byte.
use mathlib.Core.Path.{◌≡◌}
use Prim.Native.Nat.{◌+◌, ◌*◌}
use lib.ListN.{length, take}
use Rattle.rules.specs.Numerals.{all_hex}
use native.Mathlib.Omega.{arith}
use Rattle.numeral.proofs.put_all_hex.Goals as goal

pub returns : goal.returns
unfolding all_hex
returns c =
    let s = take 8 c.args.src.now in
    let w : 2 * c.width.result ≡ length s + length s = omega (arith, c.width.ensures) in
    rw (w, c.number_of.ensures) at c.put_hex.ensures
