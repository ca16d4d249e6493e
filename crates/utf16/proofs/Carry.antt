-- The characters of UTF-16 units one unit at a time, as the loop goes: a high surrogate is carried over to the next unit.
--     with_carry_lem : characters us ≡ with_carry None us
--     text_start, text_unit, text_end : a string's text from any unit on, with what was carried over
use mathlib.Core.Path.{◌≡◌, refl, ap, sym, ◌∙◌}
use mathlib.Core.Bool.{Bool, true, false}
use mathlib.Core.List.{List, [], ◌∷◌, ◌++◌, append_assoc, append-nil}
use Prim.Native.Nat.{ℕ, suc, ◌+◌, ◌*◌, ◌≤◌, ◌<◌}
use native.Mathlib.Numerals.{add-one, add-two}
use native.Mathlib.Omega.{arith}
use borrow.Author.Tests.{leb-true, le-leb, lt-leb}
use lib.ListN.{length, drop, get_or, length-drop}
use lib.Seq.{drop-cons}
use Rattle.std.specs.Prelude.{Option, Some, None, IfSome}
use Rattle.output.specs.Output.{Wrote}
use Rattle.output.proofs.Loops.{Left, left_step}
use Rattle.rules.specs.Bytes.{Text}
use Rattle.rules.specs.Names.{units}
use Rattle.rules.specs.Strings.{is_high, is_low, of_pair, characters, shown, all_shown, string_text}
use Rattle.laws.specs.Decoding.{a_pair, one_unit, high_alone}
use Rattle.laws.specs.Tests.{both}
use Rattle.utf16.specs.Carry.{carried, unless_high, completed, left_over, IsHigh}

-- the characters of what was carried over and the units
unfoldable pub with_carry : Option ℕ → List ℕ → List ℕ
with_carry carry [] = left_over carry
with_carry carry (u ∷ us) = completed carry u ++ with_carry (carried u) us

low_not_high : (u : ℕ) → is_low u ≡ true → is_high u ≡ false
low_not_high u e =
    let h = leb-true 0xdc00 u (both _ _ e).0 in
    rw (le-leb 0xd800 u (omega arith), lt-leb u 0xdbff (omega arith))

-- what is meant by a carry: the unit that was carried over stands before the others
record Meant (us : List ℕ) : Type 0 where
  without : with_carry None us ≡ characters us
  with_high : (h : ℕ) → is_high h ≡ true → with_carry (Some h) us ≡ characters (h ∷ us)

meant_next : (u : ℕ) (us : List ℕ) → Meant us → Meant (u ∷ us)
unfolding with_carry
meant_next u us m = record { without = alone; with_high = λ h high. after h high (is_low u) refl }
  where
    alone : with_carry None (u ∷ us) ≡ characters (u ∷ us)
    alone = go (is_high u) refl
      where
        go : (t : Bool) → is_high u ≡ t → with_carry None (u ∷ us) ≡ characters (u ∷ us)
        go true e = rw e (m.with_high u e)
        go false e = rw e (ap (u ∷◌) m.without ∙ sym (one_unit u us e))

    after : (h : ℕ) → is_high h ≡ true → (t : Bool) → is_low u ≡ t → with_carry (Some h) (u ∷ us) ≡ characters (h ∷ u ∷ us)
    after h high true e = rw (e, low_not_high u e) (ap (of_pair h u ∷◌) m.without ∙ sym (a_pair h u us high e))
    after h high false e = rw e (ap (h ∷◌) alone ∙ sym (high_alone h u us e))

meant : (us : List ℕ) → Meant us
unfolding with_carry characters
meant [] = record { without = refl; with_high = λ h high. refl }
meant (u ∷ us) = meant_next u us (meant us)

-- one unit at a time, the characters are those of the rule
pub with_carry_lem : (us : List ℕ) → characters us ≡ with_carry None us
with_carry_lem us = sym (meant us).without

pub carried_none : (u : ℕ) → is_high u ≡ false → (carried u ≡ None) × (unless_high u ≡ u ∷ [])
carried_none u e = (rw e, rw e)

-- what is carried over is a high surrogate
pub carried_high : (u : ℕ) → IfSome (carried u) IsHigh
carried_high u = go (is_high u) refl
  where
    go : (t : Bool) → is_high u ≡ t → IfSome (carried u) IsHigh
    go true e = let r = both _ _ e in rw e (record { least = leb-true 0xd800 u r.0; most = leb-true u 0xdbff r.1 })
    go false e = rw e tt

-- a unit with which nothing is carried over stands for itself
pub itself_none : (u : ℕ) → carried u ≡ None → unless_high u ≡ u ∷ []
itself_none u n = go (is_high u) refl
  where
    go : (t : Bool) → is_high u ≡ t → unless_high u ≡ u ∷ []
    go true e = absurd (let f : ◌≡◌ {A = Option ℕ} (Some u) None = rw e at n in (cc))
    go false e = rw e

pub none_high : (u h : ℕ) → carried u ≡ Some h → unless_high u ≡ []
none_high u h n = go (is_high u) refl
  where
    go : (t : Bool) → is_high u ≡ t → unless_high u ≡ []
    go true e = rw e
    go false e = absurd (let f : ◌≡◌ {A = Option ℕ} None (Some h) = rw e at n in (cc))

-- the text of the units from here on
unfoldable pub text_from : Option ℕ → List ℕ → Text
text_from carry us = all_shown (with_carry carry us)

pub text_start : (us : List ℕ) → string_text us ≡ text_from None us
unfolding string_text text_from
text_start us = ap all_shown (with_carry_lem us)

pub shown_append : (a b : List ℕ) → all_shown (a ++ b) ≡ all_shown a ++ all_shown b
unfolding all_shown
shown_append [] b = refl
shown_append (c ∷ a) b = ap (shown c ++◌) (shown_append a b) ∙ sym (append_assoc (shown c) (all_shown a) (all_shown b))

pub shown_one : (c : ℕ) → all_shown (c ∷ []) ≡ shown c
unfolding all_shown
shown_one c = append-nil (shown c)

pub text_unit : (carry next : Option ℕ) (u : ℕ) (us : List ℕ) → next ≡ carried u
    → text_from carry (u ∷ us) ≡ all_shown (completed carry u) ++ text_from next us
unfolding text_from with_carry
text_unit carry next u us e = shown_append (completed carry u) (with_carry (carried u) us) ∙ rw e

pub text_end : (carry : Option ℕ) → text_from carry [] ≡ all_shown (left_over carry)
unfolding text_from with_carry
text_end carry = refl

-- the unit at i, and those after it; fewer than two bytes are no unit
pub units_at : (s : List ℕ) (i : ℕ) → i + 1 < length s → units (drop i s) ≡ (get_or s i 0 + 256 * get_or s (i + 1) 0) ∷ units (drop (i + 2) s)
units_at s i h = rw (drop-cons s i 0 (omega arith), add-one i, drop-cons s (suc i) 0 (omega arith), add-two i)

short : (b : List ℕ) → length b ≤ 1 → units b ≡ []
short [] h = refl
short (x ∷ []) h = refl
short (x ∷ y ∷ b) h = absurd (omega arith)

pub units_none : (s : List ℕ) (i : ℕ) → length s ≤ i + 1 → units (drop i s) ≡ []
units_none s i h = short (drop i s) (rw length-drop (omega arith))

-- a turn of the loop: the unit u at i is written, and the next one begins two bytes behind it
pub unit_step : {whole out₀ out out' : List ℕ} {at₀ at at' : ℕ} (s : List ℕ) (i u j : ℕ) (carry next : Option ℕ) → i + 1 < length s
    → u ≡ get_or s i 0 + 256 * get_or s (i + 1) 0 → j ≡ i + 2 → next ≡ carried u
    → Left whole out₀ at₀ (text_from carry (units (drop i s))) out at → Wrote out at (all_shown (completed carry u)) out' at'
    → Left whole out₀ at₀ (text_from next (units (drop j s))) out' at'
unit_step s i u j carry next h is e to l w =
    rw e (left_step (rw (units_at s i h, ← is, text_unit carry next u (units (drop (i + 2) s)) to) at l) w)

-- a low surrogate makes a pair with the high one before it; any other unit and that one stand by themselves
module _ (h u : ℕ) where
  pub paired : is_low u ≡ true → all_shown (completed (Some h) u) ≡ shown (of_pair h u)
  paired e = rw e (shown_one (of_pair h u))

  pub apart : is_low u ≡ false → all_shown (completed (Some h) u) ≡ shown h ++ all_shown (unless_high u)
  unfolding all_shown
  apart e = rw e

pub low_bounds : (u : ℕ) → is_low u ≡ true → (0xdc00 ≤ u) × (u ≤ 0xdfff)
low_bounds u e = let r = both _ _ e in (leb-true 0xdc00 u r.0, leb-true u 0xdfff r.1)
