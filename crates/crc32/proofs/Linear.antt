-- The state after a byte, by a table of the states after each byte: what lies above the low byte only moves down.
--     by_table : crc_bits 8 x ≡ bit_xor (crc_bits 8 (x % 256)) (x / 256)
-- The idea: one bit's step is linear, crc_bit (a xor b) is crc_bit a xor crc_bit b, and x is its low byte xor what lies above it.
use mathlib.Core.Path.{◌≡◌, refl, ap, ap₂, sym, ◌∙◌}
use Prim.Native.Nat.{ℕ, zero, suc, ◌+◌, ◌*◌, ◌^◌, ◌/◌, ◌%◌, ◌<◌}
use native.Mathlib.Nat.{div-add-mod', mod-lt}
use native.Mathlib.Omega.{arith}
use borrow.Author.Tests.{eq-eqb, ne_eqb}
use lib.Arith.{bin_ind}
use lib.Bits.{differ, bit_xor, xor_step, xor_zero_r, xor_comm, xor_self, xor_shifted, shifted_half, shifted_even}
use Rattle.rules.specs.Checksum.{crc_bit, crc_bits}

differ_assoc : (p q r : ℕ) → p < 2 → q < 2 → r < 2 → differ (differ p q) r ≡ differ p (differ q r)
differ_assoc zero q r hp hq hr = refl
differ_assoc (suc zero) zero r hp hq hr = refl
differ_assoc (suc zero) (suc zero) zero hp hq hr = refl
differ_assoc (suc zero) (suc zero) (suc zero) hp hq hr = refl
differ_assoc (suc zero) (suc zero) (suc (suc r)) hp hq hr = absurd (omega arith)
differ_assoc (suc zero) (suc (suc q)) r hp hq hr = absurd (omega arith)
differ_assoc (suc (suc p)) q r hp hq hr = absurd (omega arith)

differ_lt : (p q : ℕ) → p < 2 → q < 2 → differ p q < 2
differ_lt zero q hp hq = hq
differ_lt (suc zero) zero hp hq = omega arith
differ_lt (suc zero) (suc zero) hp hq = omega arith
differ_lt (suc zero) (suc (suc q)) hp hq = absurd (omega arith)
differ_lt (suc (suc p)) q hp hq = absurd (omega arith)

-- the half and the last bit of a xor b
module _ (a b : ℕ) where
  last : differ (a % 2) (b % 2) < 2
  last = differ_lt (a % 2) (b % 2) (mod-lt a (omega arith)) (mod-lt b (omega arith))

  pub xor_half : bit_xor a b / 2 ≡ bit_xor (a / 2) (b / 2)
  xor_half = let h = last in omega (arith, xor_step a b)

  pub xor_odd : bit_xor a b % 2 ≡ differ (a % 2) (b % 2)
  xor_odd = let h = last in omega (arith, xor_step a b)

pub xor_assoc : (a b c : ℕ) → bit_xor (bit_xor a b) c ≡ bit_xor a (bit_xor b c)
xor_assoc = bin_ind (λ (n : ℕ). (b c : ℕ) → bit_xor (bit_xor n b) c ≡ bit_xor n (bit_xor b c)) (λ b c. refl) step
  where
    step : (a : ℕ) → ((b c : ℕ) → bit_xor (bit_xor (a / 2) b) c ≡ bit_xor (a / 2) (bit_xor b c)) → (b c : ℕ) → bit_xor (bit_xor a b) c ≡ bit_xor a (bit_xor b c)
    step a ih b c =
        xor_step (bit_xor a b) c
        ∙ ap₂ (λ (x y : ℕ). x * 2 + y)
        (ap (λ (x : ℕ). bit_xor x (c / 2)) (xor_half a b) ∙ ih (b / 2) (c / 2) ∙ ap (bit_xor (a / 2)) (sym (xor_half b c)))
        (ap (λ (x : ℕ). differ x (c % 2)) (xor_odd a b)
        ∙ differ_assoc (a % 2) (b % 2) (c % 2) (mod-lt a (omega arith)) (mod-lt b (omega arith)) (mod-lt c (omega arith))
        ∙ ap (differ (a % 2)) (sym (xor_odd b c)))
        ∙ sym (xor_step a (bit_xor b c))

module _ (x y p : ℕ) where
  past : bit_xor (bit_xor x y) p ≡ bit_xor (bit_xor x p) y
  past = xor_assoc x y p ∙ ap (bit_xor x) (xor_comm y p) ∙ sym (xor_assoc x p y)

  twice : bit_xor x y ≡ bit_xor (bit_xor x p) (bit_xor y p)
  twice =
      sym (xor_zero_r (bit_xor x y))
      ∙ ap (bit_xor (bit_xor x y)) (sym (xor_self p))
      ∙ sym (xor_assoc (bit_xor x y) p p)
      ∙ ap (λ (z : ℕ). bit_xor z p) past
      ∙ xor_assoc (bit_xor x p) y p

polynomial : ℕ
polynomial = 0xedb8_8320

bit_even : (c : ℕ) → c % 2 ≡ 0 → crc_bit c ≡ c / 2
unfolding crc_bit
bit_even c e = rw (eq-eqb (c % 2) 0 e)

bit_odd : (c : ℕ) → c % 2 ≡ 1 → crc_bit c ≡ bit_xor (c / 2) polynomial
unfolding crc_bit polynomial
bit_odd c e = rw (ne_eqb (c % 2) 0 (λ z. omega arith))

bit_linear : (a b : ℕ) → crc_bit (bit_xor a b) ≡ bit_xor (crc_bit a) (crc_bit b)
bit_linear a b = go (a % 2) (b % 2) refl refl
  where
    odd : (p q : ℕ) → a % 2 ≡ p → b % 2 ≡ q → bit_xor a b % 2 ≡ differ p q
    odd p q ea eb = xor_odd a b ∙ ap₂ differ ea eb

    go : (p q : ℕ) → a % 2 ≡ p → b % 2 ≡ q → crc_bit (bit_xor a b) ≡ bit_xor (crc_bit a) (crc_bit b)
    go zero zero ea eb = bit_even (bit_xor a b) (odd 0 0 ea eb) ∙ xor_half a b ∙ sym (ap₂ bit_xor (bit_even a ea) (bit_even b eb))
    go (suc zero) zero ea eb =
        bit_odd (bit_xor a b) (odd 1 0 ea eb)
        ∙ ap (λ (x : ℕ). bit_xor x polynomial) (xor_half a b)
        ∙ past (a / 2) (b / 2) polynomial
        ∙ sym (ap₂ bit_xor (bit_odd a ea) (bit_even b eb))
    go zero (suc zero) ea eb =
        bit_odd (bit_xor a b) (odd 0 1 ea eb)
        ∙ ap (λ (x : ℕ). bit_xor x polynomial) (xor_half a b)
        ∙ xor_assoc (a / 2) (b / 2) polynomial
        ∙ sym (ap₂ bit_xor (bit_even a ea) (bit_odd b eb))
    go (suc zero) (suc zero) ea eb =
        bit_even (bit_xor a b) (odd 1 1 ea eb) ∙ xor_half a b ∙ twice (a / 2) (b / 2) polynomial ∙ sym (ap₂ bit_xor (bit_odd a ea) (bit_odd b eb))
    go (suc (suc p)) q ea eb = let h = mod-lt a {m = 2} (omega arith) in absurd (omega arith)
    go zero (suc (suc q)) ea eb = let h = mod-lt b {m = 2} (omega arith) in absurd (omega arith)
    go (suc zero) (suc (suc q)) ea eb = let h = mod-lt b {m = 2} (omega arith) in absurd (omega arith)

pub bits_linear : (k a b : ℕ) → crc_bits k (bit_xor a b) ≡ bit_xor (crc_bits k a) (crc_bits k b)
unfolding crc_bits
bits_linear zero a b = refl
bits_linear (suc k) a b = ap (crc_bits k) (bit_linear a b) ∙ bits_linear k (crc_bit a) (crc_bit b)

-- zero bits that go out leave what lies above them
pub bits_shifted : (k y : ℕ) → crc_bits k (y * 2 ^ k) ≡ y
unfolding crc_bits
bits_shifted zero y = omega arith
bits_shifted (suc k) y = ap (crc_bits k) (bit_even (y * 2 ^ suc k) (shifted_even y k) ∙ shifted_half y k) ∙ bits_shifted k y

-- the law of the table
pub by_table : (x : ℕ) → crc_bits 8 x ≡ bit_xor (crc_bits 8 (x % 256)) (x / 256)
by_table x =
    ap (crc_bits 8) (sym (xor_shifted (x / 256) 8 (x % 256) (mod-lt x (omega arith)) ∙ div-add-mod' x 256))
    ∙ bits_linear 8 (x / 256 * 2 ^ 8) (x % 256)
    ∙ ap (λ (y : ℕ). bit_xor y (crc_bits 8 (x % 256))) (bits_shifted 8 (x / 256))
    ∙ xor_comm (x / 256) (crc_bits 8 (x % 256))
