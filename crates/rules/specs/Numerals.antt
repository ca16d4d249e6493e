-- Decimal and hexadecimal numbers as text.
use Rattle.std.specs.Prelude.{true, false, List, [], ◌∷◌, ◌++◌, ℕ, zero, suc, ◌+◌, ◌-◌, ◌^◌, ◌/◌, ◌%◌, ltb, length, if◌then◌else◌}
use Rattle.rules.specs.Bytes.{number, Text, ascii}

-- a digit; hex digits are lower case unless said
abbrev pub lower : ℕ → ℕ
lower d = if ltb d 10 then 48 + d else 87 + d

-- an upper-case digit
abbrev pub upper : ℕ → ℕ
upper d = if ltb d 10 then 48 + d else 55 + d

-- the digits of n before `after`, as few as there can be; k, at least n, bounds their number
unfoldable pub digits : ℕ → ℕ → ℕ → Text → Text
digits base zero n after = lower n ∷ after
digits base (suc k) n after = elim (ltb n base) [ true ↦ lower n ∷ after | false ↦ digits base k (n / base) (lower (n % base) ∷ after) ]

-- shortest decimal
unfoldable pub decimal : ℕ → Text
decimal n = digits 10 n n []

-- `0x` and shortest lower-case hex
unfoldable pub short_hex : ℕ → Text
short_hex n = ascii "0x" ++ digits 16 n n []

-- the last k digits of n
unfoldable pub last_digits : (ℕ → ℕ) → ℕ → ℕ → ℕ → Text
last_digits digit base zero n = []
last_digits digit base (suc k) n = last_digits digit base k (n / base) ++ (digit (n % base) ∷ [])

-- k decimal digits
abbrev pub padded : ℕ → ℕ → Text
padded k n = last_digits lower 10 k n

-- k upper-case hex digits
abbrev pub upper_hex : ℕ → ℕ → Text
upper_hex k n = last_digits upper 16 k n

-- an unsigned integer, of any width
unfoldable pub unsigned : List ℕ → Text
unsigned b = decimal (number b)

-- a signed integer (two's complement), of any width: `-` if below 0
unfoldable pub signed : List ℕ → Text
signed b =
    let n = number b in
    let range = 256 ^ length b in
    if ltb (n + n) range then decimal n else ascii "-" ++ decimal (range - n)

-- `0x` and all hex digits of the bits
unfoldable pub all_hex : List ℕ → Text
all_hex b = ascii "0x" ++ last_digits lower 16 (length b + length b) (number b)

-- hex pairs, upper case
unfoldable pub hex_pairs : List ℕ → Text
hex_pairs [] = []
hex_pairs (x ∷ b) = upper_hex 2 x ++ hex_pairs b
