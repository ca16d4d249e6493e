-- CRC-32, the ISO 3309 one, bit by bit: reflected polynomial 0xEDB88320, start and final inversion all ones.
use Rattle.std.specs.Prelude.{List, [], ◌∷◌, ℕ, zero, suc, ◌/◌, ◌%◌, eqb, if◌then◌else◌}
use Rattle.std.specs.Int.Bits.{bit_xor}

abbrev pub all_ones : ℕ
all_ones = 0xffff_ffff

-- one bit: the state goes right by one, and the polynomial is added if the bit that falls out is 1
unfoldable pub crc_bit : ℕ → ℕ
crc_bit c = if eqb (c % 2) 0 then c / 2 else bit_xor (c / 2) 0xedb8_8320

unfoldable pub crc_bits : ℕ → ℕ → ℕ
crc_bits zero c = c
crc_bits (suc k) c = crc_bits k (crc_bit c)

-- one byte: it is added to the state, and its eight bits go through, lowest first
unfoldable pub crc_byte : ℕ → ℕ → ℕ
crc_byte c b = crc_bits 8 (bit_xor b c)

-- the state after some more bytes
unfoldable pub crc_over : ℕ → List ℕ → ℕ
crc_over c [] = c
crc_over c (b ∷ bs) = crc_over (crc_byte c b) bs

unfoldable pub crc32 : List ℕ → ℕ
crc32 bytes = bit_xor (crc_over all_ones bytes) all_ones
