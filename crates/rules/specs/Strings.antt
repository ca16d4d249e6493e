-- Strings: UTF-16 to UTF-8, with the characters of XML escaped.
use Rattle.std.specs.Prelude.{Bool, ◌&&◌, ◌||◌, List, [], ◌∷◌, ◌++◌, ℕ, ◌+◌, ◌*◌, ◌-◌, ◌/◌, ◌%◌, leb, ltb, eqb, if◌then◌else◌}
use Rattle.rules.specs.Bytes.{Text, ascii}

abbrev pub is_high : ℕ → Bool
is_high u = leb 0xd800 u && leb u 0xdbff

abbrev pub is_low : ℕ → Bool
is_low u = leb 0xdc00 u && leb u 0xdfff

-- the character of a surrogate pair
abbrev pub of_pair : ℕ → ℕ → ℕ
of_pair h l = 0x1_0000 + 0x400 * (h - 0xd800) + (l - 0xdc00)

-- the characters of UTF-16 units: a high unit with a low one behind it is a pair and one character; any other unit stands for itself
unfoldable pub characters : List ℕ → List ℕ
characters [] = []
characters (u ∷ []) = u ∷ []
characters (h ∷ l ∷ us) = if is_high h && is_low l then of_pair h l ∷ characters us else h ∷ characters (l ∷ us)

-- a character in UTF-8
unfoldable pub utf8 : ℕ → Text
utf8 c =
    if ltb c 0x80 then c ∷ []
    else if ltb c 0x800 then (0xc0 + c / 0x40) ∷ (0x80 + c % 0x40) ∷ []
    else if ltb c 0x1_0000 then (0xe0 + c / 0x1000) ∷ (0x80 + c / 0x40 % 0x40) ∷ (0x80 + c % 0x40) ∷ []
    else (0xf0 + c / 0x4_0000) ∷ (0x80 + c / 0x1000 % 0x40) ∷ (0x80 + c / 0x40 % 0x40) ∷ (0x80 + c % 0x40) ∷ []

-- the characters of XML 1.0 (its production 2)
abbrev pub is_xml : ℕ → Bool
is_xml c = eqb c 9 || eqb c 10 || eqb c 13 || (leb 0x20 c && leb c 0xd7ff) || (leb 0xe000 c && leb c 0xfffd) || (leb 0x1_0000 c && leb c 0x10_ffff)

-- `& < > " '`, and 9, 10 and 13, with what they become
unfoldable pub escapes : List (ℕ × Text)
escapes =
    (38, ascii "&amp;")
    ∷ (60, ascii "&lt;")
    ∷ (62, ascii "&gt;")
    ∷ (34, ascii "&quot;")
    ∷ (39, ascii "&apos;")
    ∷ (9, ascii "&#9;")
    ∷ (10, ascii "&#10;")
    ∷ (13, ascii "&#13;")
    ∷ []

-- what stands beside c in the table, else t
abbrev pub beside_or : Text → ℕ → List (ℕ × Text) → Text
beside_or t c [] = t
beside_or t c (e ∷ es) = if eqb c e.0 then e.1 else beside_or t c es

-- a character as it is written; a unit or pair that is no XML 1.0 character becomes U+FFFD
unfoldable pub shown : ℕ → Text
shown c = beside_or (utf8 (if is_xml c then c else 0xfffd)) c escapes

unfoldable pub all_shown : List ℕ → Text
all_shown [] = []
all_shown (c ∷ cs) = shown c ++ all_shown cs

-- the text of a string, of all its units
unfoldable pub string_text : List ℕ → Text
string_text us = all_shown (characters us)

-- u before units of which the zeros at the end were dropped: a zero with nothing behind it is dropped too
abbrev pub unless_zero_last : ℕ → List ℕ → List ℕ
unless_zero_last u [] = if eqb u 0 then [] else u ∷ []
unless_zero_last u (v ∷ us) = u ∷ v ∷ us

-- Document 02, Two: zero units at the end are dropped; a zero inside stays.
unfoldable pub without_zeros : List ℕ → List ℕ
without_zeros [] = []
without_zeros (u ∷ us) = unless_zero_last u (without_zeros us)
