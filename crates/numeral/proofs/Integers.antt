-- Signed integers, once over the width in bytes.
--     signed_low, signed_high : the text of a signed integer, by its bits n and the largest number of its width
use mathlib.Core.Path.{◌≡◌, ap}
use mathlib.Core.List.{List, ◌++◌}
use Prim.Native.Nat.{ℕ, suc, ◌+◌, ◌*◌, ◌-◌, ◌/◌, ◌^◌, ◌≤◌, ◌<◌}
use native.Mathlib.Nat.{pow-le-pow_right}
use native.Mathlib.Numerals.{add-one}
use native.Mathlib.Omega.{arith}
use borrow.Author.Tests.{lt-ltb, le-ltb}
use lib.Dec.{lit<}
use lib.ListN.{length, take, length-take}
use Rattle.octets.proofs.Numbers.{Bytes, number_below, bytes_take}
use Rattle.rules.specs.Bytes.{number, ascii}
use Rattle.rules.specs.Numerals.{decimal, signed}

-- the width of a number that is read from the front of s
pub width_most : (s : List ℕ) → length (take 8 s) ≤ 8
width_most s = rw length-take (omega arith)

pub in_width : (s : List ℕ) → Bytes s → (n top : ℕ) → n ≡ number (take 8 s) → top + 1 ≡ 256 ^ length (take 8 s) → n ≤ top
in_width s bytes n top is range = omega (arith, number_below (take 8 s) (bytes_take 8 s bytes), is)

-- a signed integer by its bits n, where top is the largest number of its width: the upper half is below 0
module _ (b : List ℕ) (n top : ℕ) (is : n ≡ number b) (range : top + 1 ≡ 256 ^ length b) where
  pub signed_low : n ≤ top / 2 → signed b ≡ decimal n
  unfolding signed
  signed_low h = rw (← is, ← range, lt-ltb (n + n) (top + 1) (omega arith))

  pub signed_high : top / 2 < n → n ≤ top → signed b ≡ ascii "-" ++ decimal (top - n + 1)
  unfolding signed
  signed_high h g = rw (← is, ← range, le-ltb (n + n) (top + 1) (omega arith))
      (ap (λ (m : ℕ). ascii "-" ++ decimal m) (let e : top + 1 - n ≡ top - n + 1 = omega arith in e))

-- a byte more at the top of the largest number
pub larger : (top i : ℕ) → top + 1 ≡ 256 ^ i → i < 8 → (top * 256 + 255 + 1 ≡ 256 ^ (i + 1)) × (top * 256 + 255 < 2 ^ 64)
larger top i e h =
    let p : 256 ^ suc i ≤ 256 ^ 8 = pow-le-pow_right {n = 256} (lit< tt) {j = 8} (omega arith) in
    (rw (add-one i) (omega arith), omega arith)
