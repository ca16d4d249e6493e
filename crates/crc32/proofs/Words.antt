-- The state after several bytes at once. The idea: a bit's step is linear (Linear), so each byte, and each word of 4 bytes, can go through by
-- itself, with as many zeros behind it as there are bits behind it, and what they leave is added.
--     bits_more : some bits, and then more
--     by_bytes : the state after a word, and k bytes of zero behind it, by the word's bytes
--     over_number : the state after some bytes is the state after all bits of their number, added to the state before
--     over_sixteen : the state after 16 bytes, by the numbers in each 4 of them
use mathlib.Core.Path.{◌≡◌, refl, ap, ap₂, sym, ◌∙◌}
use mathlib.Core.List.{List, [], ◌∷◌, ◌++◌}
use Prim.Native.Nat.{ℕ, zero, suc, ◌+◌, ◌*◌, ◌^◌, ◌/◌, ◌%◌, ◌≤◌, ◌<◌}
use native.Mathlib.Nat.{add-zero, add-suc}
use native.Mathlib.Omega.{arith}
use lib.Bits.{bit_xor, xor_zero_r, xor_comm, xor_shifted}
use lib.ListN.{length, take, drop, get_or, length-drop}
use lib.Seq.{take_all, take-add, drop-drop, get_or-drop}
use Rattle.rules.specs.Bytes.{number, number_at}
use Rattle.rules.specs.Checksum.{crc_bit, crc_bits, crc_byte, crc_over}
use Rattle.crc32.proofs.Linear.{xor_assoc, bits_linear, bits_shifted, by_table}
use Rattle.crc32.proofs.Parts.{over_append}

pub bits_more : (m n x : ℕ) → crc_bits (m + n) x ≡ crc_bits m (crc_bits n x)
unfolding crc_bits
bits_more m zero x = rw add-zero refl
bits_more m (suc n) x = rw add-suc (bits_more m n (crc_bit x))

-- the low byte goes through by itself
lowest : (n k x : ℕ) → n ≡ 8 * (k + 1) → crc_bits n x ≡ bit_xor (crc_bits (8 * k) (x / 256)) (crc_bits (8 * (k + 1)) (x % 256))
lowest n k x e =
    let z : 8 * (k + 1) ≡ 8 * k + 8 = omega arith in
    ap (λ (m : ℕ). crc_bits m x) (e ∙ z)
    ∙ bits_more (8 * k) 8 x
    ∙ ap (crc_bits (8 * k)) (by_table x)
    ∙ bits_linear (8 * k) (crc_bits 8 (x % 256)) (x / 256)
    ∙ xor_comm (crc_bits (8 * k) (crc_bits 8 (x % 256))) (crc_bits (8 * k) (x / 256))
    ∙ ap (bit_xor (crc_bits (8 * k) (x / 256))) (sym (bits_more (8 * k) 8 (x % 256)) ∙ ap (λ (m : ℕ). crc_bits m (x % 256)) (sym z))

pub by_bytes : (k x : ℕ) → x < 2 ^ 32
    → crc_bits (8 * k + 32) x ≡ bit_xor
    (bit_xor (bit_xor (crc_bits (8 * (k + 1)) (x / 256 / 256 / 256 % 256)) (crc_bits (8 * (k + 1 + 1)) (x / 256 / 256 % 256)))
    (crc_bits (8 * (k + 2 + 1)) (x / 256 % 256))) (crc_bits (8 * (k + 3 + 1)) (x % 256))
by_bytes k x h =
    let z : x / 256 / 256 / 256 ≡ x / 256 / 256 / 256 % 256 = omega arith in
    lowest (8 * k + 32) (k + 3) x (omega arith)
    ∙ ap (λ (y : ℕ). bit_xor y (crc_bits (8 * (k + 3 + 1)) (x % 256)))
    (lowest (8 * (k + 3)) (k + 2) (x / 256) (omega arith)
    ∙ ap (λ (y : ℕ). bit_xor y (crc_bits (8 * (k + 2 + 1)) (x / 256 % 256)))
    (lowest (8 * (k + 2)) (k + 1) (x / 256 / 256) (omega arith)
    ∙ ap (λ (y : ℕ). bit_xor y (crc_bits (8 * (k + 1 + 1)) (x / 256 / 256 % 256))) (ap (crc_bits (8 * (k + 1))) z)))

-- the low byte of a number that is added to a state goes through as the byte does
byte_out : (c b n : ℕ) → b < 256 → crc_bits 8 (bit_xor c (b + 256 * n)) ≡ bit_xor (crc_byte c b) n
unfolding crc_byte
byte_out c b n h =
    let z : b + 256 * n ≡ n * 2 ^ 8 + b = omega arith in
    ap (λ (y : ℕ). crc_bits 8 (bit_xor c y)) (z ∙ sym (xor_shifted n 8 b h))
    ∙ ap (crc_bits 8) (xor_comm c (bit_xor (n * 2 ^ 8) b) ∙ xor_assoc (n * 2 ^ 8) b c)
    ∙ bits_linear 8 (n * 2 ^ 8) (bit_xor b c)
    ∙ ap (λ (y : ℕ). bit_xor y (crc_bits 8 (bit_xor b c))) (bits_shifted 8 n)
    ∙ xor_comm n (crc_bits 8 (bit_xor b c))

over_number : (n : ℕ) (s : List ℕ) → n ≤ length s → ((j : ℕ) → get_or s j 0 < 256) → (c : ℕ)
    → crc_over c (take n s) ≡ crc_bits (8 * n) (bit_xor c (number (take n s)))
unfolding crc_over crc_bits
over_number zero s h bytes c = sym (xor_zero_r c)
over_number (suc n) [] h bytes c = absurd (omega arith)
over_number (suc n) (b ∷ s) h bytes c =
    let z : 8 * n + 8 ≡ 8 * suc n = omega arith in
    over_number n s (omega arith) (λ j. bytes (suc j)) (crc_byte c b)
    ∙ ap (crc_bits (8 * n)) (sym (byte_out c b (number (take n s)) (bytes 0)))
    ∙ sym (bits_more (8 * n) 8 (bit_xor c (b + 256 * number (take n s))))
    ∙ ap (λ (k : ℕ). crc_bits k (bit_xor c (b + 256 * number (take n s)))) z

module _ (s : List ℕ) (bytes : (j : ℕ) → get_or s j 0 < 256) where
  -- the first word of a stretch goes through by itself, and the rest from a state of zero
  word_out : (k n c : ℕ) → k + 4 + n ≤ length s
      → crc_over c (take (4 + n) (drop k s)) ≡ bit_xor (crc_over 0 (take n (drop (k + 4) s))) (crc_bits (8 * n + 32) (bit_xor c (number_at k 4 s)))
  word_out k n c h =
      let r : List ℕ = take n (drop (k + 4) s) in
      let x = bit_xor c (number_at k 4 s) in
      let rest = over_number n (drop (k + 4) s) (rw length-drop (omega arith)) (λ j. rw get_or-drop (bytes (k + 4 + j))) in
      ap (crc_over c) (take-add 4 n (drop k s) ∙ ap (λ (l : List ℕ). take 4 (drop k s) ++ take n l) (drop-drop 4 k s))
      ∙ sym (over_append c (take 4 (drop k s)) r)
      ∙ ap (λ (y : ℕ). crc_over y r) (over_number 4 (drop k s) (rw length-drop (omega arith)) (λ j. rw get_or-drop (bytes (k + j))) c)
      ∙ rest (crc_bits 32 x)
      ∙ bits_linear (8 * n) (crc_bits 32 x) (number r)
      ∙ xor_comm (crc_bits (8 * n) (crc_bits 32 x)) (crc_bits (8 * n) (number r))
      ∙ ap₂ bit_xor (sym (rest 0)) (sym (bits_more (8 * n) 32 x))

  pub over_sixteen : (c : ℕ) → length s ≡ 16
      → crc_over c s ≡ bit_xor (bit_xor (bit_xor (crc_bits 32 (number_at 12 4 s)) (crc_bits 64 (number_at 8 4 s))) (crc_bits 96 (number_at 4 4 s)))
      (crc_bits 128 (bit_xor c (number_at 0 4 s)))
  unfolding crc_over
  over_sixteen c h =
      ap (crc_over c) (sym (take_all 16 s (omega arith)))
      ∙ word_out 0 12 c (omega arith)
      ∙ ap (λ (y : ℕ). bit_xor y (crc_bits 128 (bit_xor c (number_at 0 4 s))))
      (word_out 4 8 0 (omega arith)
      ∙ ap (λ (y : ℕ). bit_xor y (crc_bits 96 (number_at 4 4 s)))
      (word_out 8 4 0 (omega arith) ∙ ap (λ (y : ℕ). bit_xor y (crc_bits 64 (number_at 8 4 s))) (word_out 12 0 0 (omega arith))))
