-- Which words are record numbers.
use Rattle.std.specs.Prelude.{Bool, true, ◌&&◌, ◌||◌, not, List, [], ◌∷◌, Option, Some, None, ℕ, ◌+◌, ◌*◌, ◌-◌, min, leb, eqb, length, if◌then◌else◌}

-- 30 to 39 are the digits
abbrev pub is_digit : ℕ → Bool
is_digit b = leb 0x30 b && leb b 0x39

abbrev pub all_digits : List ℕ → Bool
all_digits [] = true
all_digits (b ∷ bs) = is_digit b && all_digits bs

-- what digits stand for, the most significant first, behind those that stand for n
abbrev pub worth_after : ℕ → List ℕ → ℕ
worth_after n [] = n
worth_after n (d ∷ ds) = worth_after (10 * n + (d - 0x30)) ds

-- a number, or the largest of 64 bits if it is larger: no entry of an index has that
abbrev pub capped : ℕ → ℕ
capped n = min n 0xffff_ffff_ffff_ffff

-- a number with one digit more at its end
abbrev pub with_digit : ℕ → ℕ → ℕ
with_digit n d = capped (10 * n + (d - 0x30))

-- one or more digits, and nothing else, are a number
unfoldable pub number_in : List ℕ → Option ℕ
number_in w = if eqb (length w) 0 || not (all_digits w) then None else Some (capped (worth_after 0 w))
