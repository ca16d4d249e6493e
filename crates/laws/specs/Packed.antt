-- Packing and reading back, once over the widths of the fields.
--     read-back : Fit ws vs → bits ws ≡ 8 * n → unpacked ws (packed ws vs) ≡ vs
--     pack_back : Octets b → bits ws ≡ 8 * length b → packed ws (unpacked ws b) ≡ b
--     packed_more : bits ws ≡ 8 * m → v < 2 ^ (8 * a) → Fit ws vs → packed (8 * a ∷ ws) (v ∷ vs) ≡ fields (bytewise a) v ++ packed ws vs
--     unpacked_more : bits ws ≡ 8 * m → length b ≡ a + m → Octets b → unpacked (8 * a ∷ ws) b ≡ joined (bytewise a) (take a b) ∷ unpacked ws (drop a b)
--     joined_last, fields_last : one byte more of a number that is read, and of one that is written
-- The idea: fields that fit are read back from their number (`fields_joined`), and a number is made of its fields (`joined_fields`), in any
-- widths and so in bytes. Where a field ends at a byte, the number falls into two (`fields_append`, `joined_append`).
use Rattle.std.specs.Prelude.{◌≡◌, List, [], ◌∷◌, ◌++◌, take, drop}
use Rattle.std.proofs.Math.Path.{refl}
use Rattle.std.proofs.Common.{ap, ap₂, sym, ◌∙◌, mod-lt, div-one, add-mul, mul_assoc}
use Rattle.std.proofs.Common.{add_assoc, add_comm, length-drop, take-append-drop, pow-add, pow_pos, shr_lt, shr-shr, length-take-le}
use Prim.Native.Nat.{ℕ, zero, suc, ◌+◌, ◌*◌, ◌^◌, ◌/◌, ◌%◌, ◌<◌}
use Rattle.std.proofs.Math.Nat.{pow-zero}
use native.Mathlib.Omega.{arith}
use Rattle.std.proofs.Math.Arith.{digits_lt}
use Rattle.std.proofs.Math.ListN.{length, length-replicate}
use Rattle.std.proofs.lemmas.List.{replicate-append-replicate}
use Rattle.std.proofs.Math.Pow.{split, high, low}
use Rattle.std.proofs.lemmas.Nat.{mod-pow-add}
use Rattle.rules.specs.Bytes.{Octets}
use Rattle.rules.specs.Packing.{bits, joined, fields, bytewise, packed, unpacked}
use Rattle.laws.specs.Octets.{octets_drop}

-- each of the fields has its width
pub data Fit : List ℕ → List ℕ → Type 0 where
  none : Fit [] []
  more : {w v : ℕ} {ws vs : List ℕ} → v < 2 ^ w → Fit ws vs → Fit (w ∷ ws) (v ∷ vs)

-- fields as one number are below 2 to all their bits
joined_below : {ws vs : List ℕ} → Fit ws vs → joined ws vs < 2 ^ bits ws
unfolding joined
joined_below none = rw pow-zero (omega arith)
joined_below (more {w} {v} {ws} {vs} h f) = rw (pow-add 2 w (bits ws)) (digits_lt h (joined_below f))

-- fields are read back from their number
fields_joined : {ws vs : List ℕ} → Fit ws vs → fields ws (joined ws vs) ≡ vs
unfolding joined fields
fields_joined none = refl
fields_joined (more {w} {v} {ws} {vs} h f) =
    let b = joined_below f in
    ap₂ (λ (x : ℕ) (l : List ℕ). x ∷ l) (high v (bits ws) b) (ap (fields ws) (low v (bits ws) b) ∙ fields_joined f)

-- and a number is made of its fields
joined_fields : (ws : List ℕ) (n : ℕ) → n < 2 ^ bits ws → joined ws (fields ws n) ≡ n
unfolding joined fields
joined_fields [] n h = omega (arith, rw pow-zero at h)
joined_fields (w ∷ ws) n h =
    ap (n / 2 ^ bits ws * 2 ^ bits ws +◌) (joined_fields ws (n % 2 ^ bits ws) (mod-lt n (pow_pos (bits ws)))) ∙ split n (bits ws)

pub fields_length : (ws : List ℕ) (n : ℕ) → length (fields ws n) ≡ length ws
unfolding fields
fields_length [] n = refl
fields_length (w ∷ ws) n = ap suc (fields_length ws (n % 2 ^ bits ws))

-- n bytes have 8 * n bits
pub bits_bytes : (n : ℕ) → bits (bytewise n) ≡ 8 * n
bits_bytes zero = refl
bits_bytes (suc n) = omega (arith, bits_bytes n)

-- bytes fit their widths
bytes_fit : (b : List ℕ) → Octets b → Fit (bytewise (length b)) b
bytes_fit [] o = none
bytes_fit (x ∷ b) o = more (o 0) (bytes_fit b (λ i. o (suc i)))

-- and n of them are a number below 2 ^ (8 * n)
pub bytes_below : (n : ℕ) (b : List ℕ) → length b ≡ n → Octets b → joined (bytewise n) b < 2 ^ (8 * n)
bytes_below n b l o = rw (← l, ← bits_bytes (length b)) (joined_below (bytes_fit b o))

module _ (ws : List ℕ) where
  -- what was packed is read back
  pub read_back : (vs : List ℕ) (n : ℕ) → Fit ws vs → bits ws ≡ 8 * n → unpacked ws (packed ws vs) ≡ vs
  unfolding packed unpacked
  read_back vs n f e =
      let k : bits ws / 8 ≡ n = omega arith in
      let number : ℕ = joined ws vs in
      let h : number < 2 ^ bits (bytewise n) = rw (bits_bytes n, ← e) (joined_below f) in
      rw (k, fields_length, length-replicate, joined_fields (bytewise n) number h) (fields_joined f)

  -- and what was read packs to the same bytes
  pub pack_back : (b : List ℕ) → Octets b → bits ws ≡ 8 * length b → packed ws (unpacked ws b) ≡ b
  unfolding packed unpacked
  pack_back b o e =
      let k : bits ws / 8 ≡ length b = omega arith in
      rw (k, joined_fields ws (joined (bytewise (length b)) b) (rw e (bytes_below (length b) b refl o))) (fields_joined (bytes_fit b o))

  -- what is packed has this many bytes
  pub packed_length : (vs : List ℕ) → length (packed ws vs) ≡ bits ws / 8
  unfolding packed
  packed_length vs = fields_length (bytewise (bits ws / 8)) (joined ws vs) ∙ length-replicate (bits ws / 8) 8

-- bytes and bytes are bytes
bytewise_append : (a m : ℕ) → bytewise (a + m) ≡ bytewise a ++ bytewise m
bytewise_append a m = sym (replicate-append-replicate a m 8)

bits_append : (us ws : List ℕ) → bits (us ++ ws) ≡ bits us + bits ws
bits_append [] ws = omega arith
bits_append (u ∷ us) ws = omega (arith, bits_append us ws)

-- the fields of a number whose upper part and lower part are told apart where a field ends
fields_append : (us ws : List ℕ) (v r : ℕ) → v < 2 ^ bits us → r < 2 ^ bits ws → fields (us ++ ws) (v * 2 ^ bits ws + r) ≡ fields us v ++ fields ws r
unfolding fields
fields_append [] ws v r h k =
    let z : v ≡ 0 = omega (arith, rw pow-zero at h) in
    let n : v * 2 ^ bits ws + r ≡ r = rw z (omega arith) in
    ap (fields ws) n
fields_append (u ∷ us) ws v r h k =
    let n : ℕ = v * 2 ^ bits ws + r in
    let top = high v (bits ws) k in
    let first : n / 2 ^ bits (us ++ ws) ≡ v / 2 ^ bits us =
    rw (bits_append, add_comm (bits us), ← shr-shr n (bits ws) (bits us), top) in
    let rest : n % 2 ^ bits (us ++ ws) ≡ v % 2 ^ bits us * 2 ^ bits ws + r =
    rw (bits_append, mod-pow-add n (bits us) (bits ws), top, low v (bits ws) k) in
    ap₂ (λ (x : ℕ) (l : List ℕ). x ∷ l) first
    (ap (fields (us ++ ws)) rest ∙ fields_append us ws (v % 2 ^ bits us) r (mod-lt v (pow_pos (bits us))) k)

-- fields, and fields behind them, as one number
joined_append : (us ws xs ys : List ℕ) → length us ≡ length xs → joined (us ++ ws) (xs ++ ys) ≡ joined us xs * 2 ^ bits ws + joined ws ys
unfolding joined
joined_append [] ws [] ys e = omega arith
joined_append [] ws (x ∷ xs) ys e = absurd (omega arith)
joined_append (u ∷ us) ws [] ys e = absurd (omega arith)
joined_append (u ∷ us) ws (x ∷ xs) ys e =
    let all : 2 ^ bits (us ++ ws) ≡ 2 ^ bits us * 2 ^ bits ws = rw bits_append (pow-add 2 (bits us) (bits ws)) in
    ap₂ (λ (p q : ℕ). x * p + q) all (joined_append us ws xs ys (omega arith)) ∙ simp (add-mul, mul_assoc, add_assoc)

-- A field of whole bytes stands before the bytes of the others.
pub packed_more : (a m v : ℕ) (ws vs : List ℕ) → bits ws ≡ 8 * m → v < 2 ^ (8 * a) → Fit ws vs
    → packed (8 * a ∷ ws) (v ∷ vs) ≡ fields (bytewise a) v ++ packed ws vs
unfolding packed joined
packed_more a m v ws vs e h f =
    let k : (8 * a + bits ws) / 8 ≡ a + m = omega arith in
    let k' : bits ws / 8 ≡ m = omega arith in
    let low_bits : bits ws ≡ bits (bytewise m) = e ∙ sym (bits_bytes m) in
    rw (k, k', bytewise_append a m, low_bits)
    (fields_append (bytewise a) (bytewise m) v (joined ws vs) (rw (bits_bytes a) h) (rw (← low_bits) (joined_below f)))

-- A field of whole bytes is the number in them, most significant first, and the others are read behind it.
pub unpacked_more : (a m : ℕ) (ws b : List ℕ) → bits ws ≡ 8 * m → length b ≡ a + m → Octets b
    → unpacked (8 * a ∷ ws) b ≡ joined (bytewise a) (take a b) ∷ unpacked ws (drop a b)
unfolding unpacked fields
unpacked_more a m ws b e l o =
    let la : length (bytewise a) ≡ length (take a b) = length-replicate a 8 ∙ sym (length-take-le a b (omega arith)) in
    let lm : length (drop a b) ≡ m = length-drop a b ∙ omega arith in
    let top : ℕ = joined (bytewise a) (take a b) in
    let rest : ℕ = joined (bytewise m) (drop a b) in
    let all : joined (bytewise (length b)) b ≡ top * 2 ^ bits ws + rest =
    ap₂ joined (ap bytewise l ∙ bytewise_append a m) (sym (take-append-drop a b))
    ∙ joined_append (bytewise a) (bytewise m) (take a b) (drop a b) la ∙ rw (bits_bytes m, e) in
    let below : rest < 2 ^ bits ws = rw e (bytes_below m (drop a b) lm (octets_drop a b o)) in
    rw (all, high top (bits ws) below, low top (bits ws) below, lm)

-- one byte more of a number that is read
pub joined_last : (i : ℕ) (b : List ℕ) (x : ℕ) → length b ≡ i → joined (bytewise (i + 1)) (b ++ x ∷ []) ≡ joined (bytewise i) b * 256 + x
unfolding joined
joined_last i b x l =
    ap (λ (us : List ℕ). joined us (b ++ x ∷ [])) (bytewise_append i 1)
    ∙ joined_append (bytewise i) (bytewise 1) b (x ∷ []) (length-replicate i 8 ∙ sym l) ∙ omega arith

-- and of one that is written
pub fields_last : (i n : ℕ) → n < 2 ^ (8 * (i + 1)) → fields (bytewise (i + 1)) n ≡ fields (bytewise i) (n / 256) ++ n % 256 ∷ []
unfolding fields
fields_last i n h =
    let two : 8 * (i + 1) ≡ 8 * i + 8 = omega arith in
    let top : n / 256 < 2 ^ bits (bytewise i) = rw (bits_bytes i) (shr_lt (8 * i) 8 (rw two at h)) in
    ap₂ (λ (us : List ℕ) (m : ℕ). fields us m) (bytewise_append i 1) (sym (split n 8))
    ∙ fields_append (bytewise i) (bytewise 1) (n / 256) (n % 256) top (mod-lt n (pow_pos 8)) ∙ rw div-one
