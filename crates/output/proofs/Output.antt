-- Laws of text that is written into memory that may be too small.
--     wrote_more : one text and then another are the two as one
--     in_turn room & v & w & .. : any number of texts in turn
--     emit_fits : text that fits stands in its place, with what was there before it and after it
use mathlib.Core.Path.{◌≡◌, refl, ap, ◌∙◌, sym}
use mathlib.Core.Bool.{Bool, true, false}
use mathlib.Core.List.{List, [], ◌∷◌, ◌++◌}
use Prim.Native.Nat.{ℕ, zero, suc, ◌+◌, ◌*◌, ◌≤◌, ◌<◌, ◌^◌}
use native.Mathlib.Nat.{add-zero, add-suc, suc-add}
use native.Mathlib.Omega.{arith}
use borrow.Author.Tests.{leb-true, leb-false}
use lib.Dec.{leb}
use lib.ListN.{length, take, drop, set, length-append}
use lib.Seq.{sets, length-sets, sets-eq, set_out}
use Rattle.output.specs.Output.{emit, top, adv, Wrote}

pub length_emit : (out : List ℕ) (at : ℕ) (text : List ℕ) → length (emit out at text) ≡ length out
unfolding emit
length_emit out at text = length-sets out at text

sets_more : (s t out : List ℕ) (at : ℕ) → sets (sets out at s) (at + length s) t ≡ sets out at (s ++ t)
sets_more [] t out at = rw add-zero
sets_more (x ∷ s) t out at = rw (add-suc, ← suc-add) (sets_more s t (set out at x) (suc at))

-- past the end nothing is stored
pub emit_past : (out : List ℕ) (at : ℕ) (text : List ℕ) → length out ≤ at → emit out at text ≡ out
unfolding emit
emit_past out at [] h = refl
emit_past out at (x ∷ text) h = rw (set_out out at x h) (emit_past out (suc at) text (omega arith))

pub top_none : top 0 ≡ 2 ^ 63
unfolding top
top_none = refl

pub top_some : (room : ℕ) → 0 < room → room < 2 ^ 63 → top room ≡ room + 1
unfolding top
top_some zero h g = absurd (omega arith)
top_some (suc n) h g = omega arith

pub top_high : (room : ℕ) → 2 ^ 63 ≤ room → top room ≡ 2 ^ 63
unfolding top
top_high zero h = absurd (omega arith)
top_high (suc n) h = omega arith

pub top_covers : (room : ℕ) → room < 2 ^ 63 → room < top room
unfolding top
top_covers zero h = omega arith
top_covers (suc n) h = omega arith

module _ (room at : ℕ) where
  pub adv_none : adv room at 0 ≡ at
  unfolding adv
  adv_none = omega arith

  pub adv_more : (m n : ℕ) → adv room (adv room at m) n ≡ adv room at (m + n)
  unfolding adv
  adv_more m n = omega arith

  pub adv_low : (n : ℕ) → at + n ≤ top room → adv room at n ≡ at + n
  unfolding adv
  adv_low n h = omega arith

  pub adv_high : (n : ℕ) → top room ≤ at → adv room at n ≡ at
  unfolding adv
  adv_high n h = omega arith

  pub adv_end : (n : ℕ) → at ≤ top room → top room ≤ at + n → adv room at n ≡ top room
  unfolding adv
  adv_end n h g = omega arith

  -- what fits is counted whole, and what is counted within the room fits
  pub adv_fits : (n : ℕ) → room < 2 ^ 63 → at + n ≤ room → adv room at n ≡ at + n
  adv_fits n h g = let c = top_covers room h in adv_low n (omega arith)

  pub adv_within : (n : ℕ) → room < 2 ^ 63 → adv room at n ≤ room → adv room at n ≡ at + n
  unfolding adv
  adv_within n h g = let c = top_covers room h in omega arith

  pub adv_short : (n : ℕ) → adv room at n ≤ at + n
  unfolding adv
  adv_short n = omega arith

emit_adv : (out : List ℕ) (at : ℕ) (s t : List ℕ) → length out < 2 ^ 63 → emit (emit out at s) (adv (length out) at (length s)) t ≡ emit out at (s ++ t)
unfolding emit adv
emit_adv out at s t room = go (leb (at + length s) (top (length out))) refl
  where
    go : (b : Bool) → leb (at + length s) (top (length out)) ≡ b → emit (emit out at s) (adv (length out) at (length s)) t ≡ emit out at (s ++ t)
    go true e = rw (adv_low (length out) at (length s) (leb-true (at + length s) (top (length out)) e)) (sets_more s t out at)
    go false e =
        let h = leb-false (at + length s) (top (length out)) e in
        let l = length_emit out at s in
        let c = top_covers (length out) room in
        emit_past (emit out at s) (adv (length out) at (length s)) t (omega arith)
        ∙ sym (emit_past (emit out at s) (at + length s) t (omega arith))
        ∙ sets_more s t out at

pub wrote_nil : (out : List ℕ) (at : ℕ) → Wrote out at [] out at
unfolding emit
wrote_nil out at = record { bytes = refl; count = sym (adv_none (length out) at) }

pub wrote_length : {out out' : List ℕ} {at at' : ℕ} {s : List ℕ} → Wrote out at s out' at' → length out' ≡ length out
wrote_length {out} {out'} {at} {at'} {s} w = ap length w.bytes ∙ length_emit out at s

-- one text, and then another
pub wrote_more : {out out' out'' : List ℕ} {at at' at'' : ℕ} {s t : List ℕ} → length out < 2 ^ 63 → Wrote out at s out' at' → Wrote out' at' t out'' at''
    → Wrote out at (s ++ t) out'' at''
wrote_more {out} {out'} {out''} {at} {at'} {at''} {s} {t} room v w =
    record {
      bytes = w.bytes ∙ rw (v.bytes, v.count) (emit_adv out at s t room);
      count = w.count ∙ rw (wrote_length v, v.count, length-append s t) (adv_more (length out) at (length s) (length t));
    }

-- any number of texts in turn: `in_turn room`, and `&` before each `Wrote`; `wrote` of the whole says that their join was written
pub record InTurn (out : List ℕ) (at : ℕ) (text out' : List ℕ) (at' : ℕ) : Type 0 where
  pub room : length out < 2 ^ 63
  pub wrote : Wrote out at text out' at'

pub in_turn : {out : List ℕ} {at : ℕ} → length out * 1 < 2 ^ 63 → InTurn out at [] out at
in_turn {out} {at} room = record { room = omega arith; wrote = wrote_nil out at }

infixl 20 ◌&◌
pub ◌&◌ : {out out' out'' s t : List ℕ} {at at' at'' : ℕ} → InTurn out at s out' at' → Wrote out' at' t out'' at'' → InTurn out at (s ++ t) out'' at''
r & w = record { room = r.room; wrote = wrote_more r.room r.wrote w }

-- a byte that fits, and text that starts past the end
pub wrote_in : (out : List ℕ) (at b : ℕ) → at < length out → length out * 1 < 2 ^ 63 → Wrote out at (b ∷ []) (set out at b) (at + 1)
unfolding emit
wrote_in out at b h room = record { bytes = refl; count = sym (adv_fits (length out) at 1 (omega arith) (omega arith)) }

pub wrote_past : (out : List ℕ) (at : ℕ) (text : List ℕ) (n : ℕ) → length out ≤ at → n ≡ adv (length out) at (length text) → Wrote out at text out n
wrote_past out at text n h e = record { bytes = sym (emit_past out at text h); count = e }

-- text from a place where it stops: nothing of it is stored or counted
pub wrote_stopped : (out : List ℕ) (at : ℕ) (text : List ℕ) → length out * 1 < 2 ^ 63 → top (length out) ≤ at → Wrote out at text out at
wrote_stopped out at text room h =
    let c = top_covers (length out) (omega arith) in
    wrote_past out at text at (omega arith) (sym (adv_high (length out) at (length text) h))

-- text that fits stands in its place
pub emit_fits : (out : List ℕ) (at : ℕ) (text : List ℕ) → at + length text ≤ length out → emit out at text ≡ take at out ++ text ++ drop (at + length text) out
unfolding emit
emit_fits out at text h = sets-eq text out at h
