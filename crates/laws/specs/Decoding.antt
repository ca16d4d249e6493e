-- UTF-16 is read as the characters that it stands for, UTF-8 as it is written decodes to the characters meant, and CRC-32 has its
-- published check value.
--     utf16_back : Scalars cs → characters (in_utf16 cs) ≡ cs
--     utf8_back : Below cs → decode (length cs) (encoded cs) ≡ cs
--     check_value : crc32 (ascii "123456789") ≡ 0xcbf4_3926
-- The decoder is the usual one, by the first byte; what it gives is the character, by arithmetic in each of the four lengths.
use Rattle.std.specs.Prelude.{◌≡◌, refl, Bool, true, false, ◌&&◌, ◌||◌, List, [], ◌∷◌, ◌++◌, ℕ}
use Rattle.std.specs.Prelude.{zero, suc, ◌+◌, ◌*◌, ◌-◌, ◌/◌, ◌%◌, ◌<◌, ltb, length, drop, get_or, if◌then◌else◌}
use Rattle.std.proofs.Common.{ap, ap₂, ◌∙◌, arith, ltb-true, ltb-false, le-leb, lt-ltb, le-ltb}
use Rattle.std.proofs.Math.Nat.{div-div-eq-div-mul}
use Rattle.std.proofs.Math.Seq.{drop-append_seam}
use Rattle.rules.specs.Bytes.{Text, ascii}
use Rattle.rules.specs.Strings.{is_high, is_low, of_pair, characters, utf8}
use Rattle.rules.specs.Opened.{opened}
use Rattle.rules.specs.Checksum.{crc32}

-- the six bits of a continuation byte, at i
abbrev pub six : Text → ℕ → ℕ
six t i = get_or t i 0 - 0x80

-- the character at the front, and how many bytes it takes, by its first byte
abbrev pub first_of : Text → ℕ × ℕ
first_of t =
    if ltb (get_or t 0 0) 0x80 then (get_or t 0 0, 1)
    else if ltb (get_or t 0 0) 0xe0 then ((get_or t 0 0 - 0xc0) * 0x40 + six t 1, 2)
    else if ltb (get_or t 0 0) 0xf0 then ((get_or t 0 0 - 0xe0) * 0x1000 + six t 1 * 0x40 + six t 2, 3)
    else ((get_or t 0 0 - 0xf0) * 0x4_0000 + six t 1 * 0x1000 + six t 2 * 0x40 + six t 3, 4)

-- the first k characters
unfoldable pub decode : ℕ → Text → List ℕ
decode zero t = []
decode (suc k) t = (first_of t).0 ∷ decode k (drop (first_of t).1 t)

-- characters in UTF-8
abbrev pub encoded : List ℕ → Text
encoded [] = []
encoded (c ∷ cs) = utf8 c ++ encoded cs

-- every one of them is a character
abbrev pub Below : List ℕ → Type 0
Below [] = Unit {0}
Below (c ∷ cs) = (c < 0x11_0000) × Below cs

one : (c : ℕ) (t : Text) → c < 0x11_0000 → first_of (utf8 c ++ t) ≡ (c, length (utf8 c))
unfolding utf8
one c t h = go (ltb c 0x80) (ltb c 0x800) (ltb c 0x1_0000) refl refl refl
  where
    go : (x y z : Bool) → ltb c 0x80 ≡ x → ltb c 0x800 ≡ y → ltb c 0x1_0000 ≡ z → first_of (utf8 c ++ t) ≡ (c, length (utf8 c))
    go true y z ex ey ez = rw (ex, ex)
    go false true z ex ey ez =
        let h₁ = ltb-false c 0x80 ex in
        let h₂ = ltb-true c 0x800 ey in
        rw (ex, ey, le-ltb (0xc0 + c / 0x40) 0x80 (omega arith), lt-ltb (0xc0 + c / 0x40) 0xe0 (omega arith)) (ap (λ (i : ℕ). (i, 2)) (omega arith))
    go false false true ex ey ez =
        let h₁ = ltb-false c 0x800 ey in
        let h₂ = ltb-true c 0x1_0000 ez in
        rw (
          ex,
          ey,
          ez,
          le-ltb (0xe0 + c / 0x1000) 0x80 (omega arith),
          le-ltb (0xe0 + c / 0x1000) 0xe0 (omega arith),
          lt-ltb (0xe0 + c / 0x1000) 0xf0
              (omega arith),
        )
        (ap (λ (i : ℕ). (i, 3)) (omega arith))
    go false false false ex ey ez =
        let h₁ = ltb-false c 0x1_0000 ez in
        rw (
          ex,
          ey,
          ez,
          le-ltb (0xf0 + c / 0x4_0000) 0x80 (omega arith),
          le-ltb (0xf0 + c / 0x4_0000) 0xe0 (omega arith),
          le-ltb (0xf0 + c / 0x4_0000) 0xf0
              (omega arith),
        )
        (ap (λ (i : ℕ). (i, 4)) (omega (arith, div-div-eq-div-mul c 0x1000 0x40, div-div-eq-div-mul c 0x40 0x40)))

-- UTF-8 written decodes to the characters meant
pub utf8_back : (cs : List ℕ) → Below cs → decode (length cs) (encoded cs) ≡ cs
unfolding decode
utf8_back [] h = refl
utf8_back (c ∷ cs) h = rw (one c (encoded cs) h.0, drop-append_seam (utf8 c) (encoded cs)) (ap (c ∷◌) (utf8_back cs h.1))

-- a character in UTF-16
abbrev pub utf16 : ℕ → List ℕ
utf16 c = if ltb c 0x1_0000 then c ∷ [] else (0xd800 + (c - 0x1_0000) / 0x400) ∷ (0xdc00 + (c - 0x1_0000) % 0x400) ∷ []

abbrev pub in_utf16 : List ℕ → List ℕ
in_utf16 [] = []
in_utf16 (c ∷ cs) = utf16 c ++ in_utf16 cs

-- a character that is no surrogate
pub record Scalar (c : ℕ) : Type 0 where
  pub below : c < 0x11_0000
  pub plain : is_high c || is_low c ≡ false

abbrev pub Scalars : List ℕ → Type 0
Scalars [] = Unit {0}
Scalars (c ∷ cs) = Scalar c × Scalars cs

not_high : (c : ℕ) → is_high c || is_low c ≡ false → is_high c ≡ false
not_high c e = go (is_high c) (is_low c) e
  where
    go : (s t : Bool) → s || t ≡ false → s ≡ false
    go true t e = e
    go false t e = refl

-- a high unit with a low one behind it is a pair
pub a_pair : (h l : ℕ) (us : List ℕ) → is_high h ≡ true → is_low l ≡ true → characters (h ∷ l ∷ us) ≡ of_pair h l ∷ characters us
unfolding characters
a_pair h l us high low = rw (high, low)

-- a unit that is not high stands for itself
pub one_unit : (u : ℕ) (us : List ℕ) → is_high u ≡ false → characters (u ∷ us) ≡ u ∷ characters us
unfolding characters
one_unit u [] e = refl
one_unit u (v ∷ us) e = rw e

-- and so does a high unit that has no low one behind it
pub high_alone : (h u : ℕ) (us : List ℕ) → is_low u ≡ false → characters (h ∷ u ∷ us) ≡ h ∷ characters (u ∷ us)
unfolding characters
high_alone h u us e = go (is_high h)
  where
    go : (t : Bool) → (if t && is_low u then of_pair h u ∷ characters us else h ∷ characters (u ∷ us)) ≡ h ∷ characters (u ∷ us)
    go true = rw e
    go false = refl

-- a character above U+FFFF is a pair
above : (x : ℕ) → x < 0x10_0000 → (us : List ℕ) → characters ((0xd800 + x / 0x400) ∷ (0xdc00 + x % 0x400) ∷ us) ≡ (0x1_0000 + x) ∷ characters us
above x h us =
    let high : is_high (0xd800 + x / 0x400) ≡ true = rw (le-leb 0xd800 (0xd800 + x / 0x400) (omega arith), le-leb (0xd800 + x / 0x400) 0xdbff (omega arith)) in
    let low : is_low (0xdc00 + x % 0x400) ≡ true = rw (le-leb 0xdc00 (0xdc00 + x % 0x400) (omega arith), le-leb (0xdc00 + x % 0x400) 0xdfff (omega arith)) in
    a_pair (0xd800 + x / 0x400) (0xdc00 + x % 0x400) us high low ∙ ap (◌∷ characters us) (omega arith)

-- UTF-16 is read as the characters that it stands for
pub utf16_back : (cs : List ℕ) → Scalars cs → characters (in_utf16 cs) ≡ cs
unfolding characters
utf16_back [] h = refl
utf16_back (c ∷ cs) h = go (ltb c 0x1_0000) refl (utf16_back cs h.1)
  where
    go : (t : Bool) → ltb c 0x1_0000 ≡ t → characters (in_utf16 cs) ≡ cs → characters (in_utf16 (c ∷ cs)) ≡ c ∷ cs
    go true e ih = rw e (one_unit c (in_utf16 cs) (not_high c h.0.plain) ∙ ap (c ∷◌) ih)
    go false e ih =
        let g = ltb-false c 0x1_0000 e in
        let z : 0x1_0000 + (c - 0x1_0000) ≡ c = omega arith in
        rw e (above (c - 0x1_0000) (omega (arith, h.0.below)) (in_utf16 cs) ∙ ap₂ (λ (i : ℕ) (l : List ℕ). i ∷ l) z ih)

-- the check value of CRC-32, over the ASCII digits 1 to 9
pub check_value : crc32 (ascii "123456789") ≡ 0xcbf4_3926
unfolding opened
check_value = refl
