-- Bytes and the numbers that they hold. A list of bytes is a list of numbers; all numbers in the files are little-endian.
use Rattle.std.specs.Prelude.{Bool, true, false, ◌&&◌, List, [], ◌∷◌, ℕ, ◌+◌, ◌*◌, ◌<◌, eqb, take, drop, get_or}
use Prim.Native.Char.{code}
use Prim.Native.String.{String}

-- the number that these bytes hold, little-endian
abbrev pub number : List ℕ → ℕ
number [] = 0
number (x ∷ xs) = x + 256 * number xs

-- n bytes, from offset p on
abbrev pub part : ℕ → ℕ → List ℕ → List ℕ
part p n l = take n (drop p l)

-- the number in the n bytes at offset p
abbrev pub number_at : ℕ → ℕ → List ℕ → ℕ
number_at p n l = number (part p n l)

-- the two lists hold the same bytes
abbrev pub same : List ℕ → List ℕ → Bool
same [] [] = true
same [] (y ∷ ys) = false
same (x ∷ xs) [] = false
same (x ∷ xs) (y ∷ ys) = eqb x y && same xs ys

-- the first list holds the first bytes of the second
abbrev pub begins : List ℕ → List ℕ → Bool
begins [] ys = true
begins (x ∷ xs) [] = false
begins (x ∷ xs) (y ∷ ys) = eqb x y && begins xs ys

-- every number of the list is a byte
abbrev pub Octets : List ℕ → Type 0
Octets b = (i : ℕ) → get_or b i 0 < 256

-- bytes of UTF-8
abbrev pub Text : Type 0
Text = List ℕ

-- a text that is written out in these definitions, in ASCII
abbrev pub ascii : String → Text
ascii String.[] = []
ascii (String.◌∷◌ c s) = code c ∷ ascii s
