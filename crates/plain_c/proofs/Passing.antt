-- The first 2a, found by passing other bytes. The idea: i bytes that were passed, and those before the first 2a of the rest, are those before the
-- first 2a of all.
use mathlib.Core.Path.{◌≡◌}
use mathlib.Core.List.{List}
use Prim.Native.Nat.{ℕ, ◌+◌, ◌≤◌, ◌<◌}
use native.Mathlib.Numerals.{add-one}
use native.Mathlib.Omega.{arith}
use borrow.Author.Tests.{eq-eqb, ne_eqb}
use lib.ListN.{length, drop, get_or, drop_of_length-le}
use lib.Seq.{drop-cons}
use Rattle.plain_c.specs.First.{before_star}

-- i bytes have been passed
pub record Passed (bytes : List ℕ) (i : ℕ) : Type 0 where
  pub high : i ≤ length bytes
  pub rest : i + before_star (drop i bytes) ≡ before_star bytes

module _ {bytes : List ℕ} where
  pub passed_none : Passed bytes 0
  passed_none = record { high = omega arith; rest = omega arith }

  module _ {i : ℕ} (p : Passed bytes i) where
    pub passed_more : i < length bytes → (get_or bytes i 0 ≡ 0x2a → ⊥) → Passed bytes (i + 1)
    unfolding before_star
    passed_more h f =
        let here = rw (drop-cons bytes i 0 h, before_star, ne_eqb (get_or bytes i 0) 0x2a f) at p.rest in
        record { high = omega arith; rest = rw add-one (omega (arith, here)) }

    pub star_here : i < length bytes → get_or bytes i 0 ≡ 0x2a → i ≡ before_star bytes
    unfolding before_star
    star_here h e = omega (arith, rw (drop-cons bytes i 0 h, before_star, eq-eqb (get_or bytes i 0) 0x2a e) at p.rest)

    pub star_none : length bytes ≤ i → i ≡ before_star bytes
    unfolding before_star
    star_none h = omega (arith, rw (drop_of_length-le bytes {i = i} h) at p.rest)
