-- Fletcher's checksum of bytes, over words of 64 bits.
--     with_number : the two sums after one more number
--     summed : the sums after some more bytes
use Rattle.std.specs.Prelude.{ℕ, zero, suc, ◌+◌, ◌-◌, ◌/◌, ◌%◌, ◌^◌, List, length}
use Rattle.rules.specs.Bytes.{number_at}
use Rattle.fletcher.specs.declared.Sums.{Sums}

-- one number more goes into the first sum, and the first sum into the second, modulo 2^64
abbrev pub with_number : Sums → ℕ → Sums
with_number s n = record { first = (s.first + n) % 2 ^ 64; second = (s.second + (s.first + n) % 2 ^ 64) % 2 ^ 64 }

-- the sums after so many words of eight bytes from offset i on
abbrev pub over_words : ℕ → ℕ → List ℕ → Sums → Sums
over_words zero i bytes s = s
over_words (suc k) i bytes s = over_words k (i + 8) bytes (with_number s (number_at i 8 bytes))

-- the sums after some more bytes: over their full words, what is left of them as one number, and their length
unfoldable pub summed : Sums → List ℕ → Sums
summed s bytes =
    let n = length bytes in
    with_number (with_number (over_words (n / 8) 0 bytes s) (number_at (n - n % 8) 8 bytes)) n
