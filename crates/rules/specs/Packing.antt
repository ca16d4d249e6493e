-- "Fields packed most significant bit first" (document 02, request Three), over the list of their widths in bits. (`number` of Bytes is
-- little-endian.)
use Rattle.std.specs.Prelude.{List, [], ◌∷◌, ℕ, ◌+◌, ◌*◌, ◌^◌, ◌/◌, ◌%◌, length, replicate}

-- how many bits fields of these widths have together
abbrev pub bits : List ℕ → ℕ
bits [] = 0
bits (w ∷ ws) = w + bits ws

-- fields of these widths as one number: the first is its most significant bits
unfoldable pub joined : List ℕ → List ℕ → ℕ
joined [] vs = 0
joined (w ∷ ws) [] = 0
joined (w ∷ ws) (v ∷ vs) = v * 2 ^ bits ws + joined ws vs

-- the fields of these widths in one number
unfoldable pub fields : List ℕ → ℕ → List ℕ
fields [] n = []
fields (w ∷ ws) n = n / 2 ^ bits ws ∷ fields ws (n % 2 ^ bits ws)

-- n bytes are n fields of 8 bits
abbrev pub bytewise : ℕ → List ℕ
bytewise n = replicate n 8

-- fields of these widths packed into bytes
unfoldable pub packed : List ℕ → List ℕ → List ℕ
packed ws vs = fields (bytewise (bits ws / 8)) (joined ws vs)

-- the fields of these widths that bytes hold
unfoldable pub unpacked : List ℕ → List ℕ → List ℕ
unpacked ws b = fields ws (joined (bytewise (length b)) b)
