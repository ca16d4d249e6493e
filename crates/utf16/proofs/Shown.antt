-- Characters as they are written: which are written as themselves.
use mathlib.Core.Path.{◌≡◌, refl, sym, ◌∙◌}
use mathlib.Core.Bool.{Bool, true, false, not}
use mathlib.Core.List.{[], ◌∷◌}
use Prim.Native.Nat.{ℕ, ◌+◌, ◌≤◌, ◌<◌}
use native.Mathlib.Omega.{arith}
use borrow.Author.Tests.{leb-true, le-leb, lt-leb, lt-ltb, eqb-false, not-true}
use lib.Dec.{eqb}
use lib.ListN.{get_or}
use Rattle.std.specs.Prelude.{Option, Some, None, is_some}
use Rattle.laws.specs.Tables.{tabled_at}
use Rattle.rules.specs.Strings.{utf8, shown}
use Rattle.laws.specs.Tests.{both}
use Rattle.character.proofs.Escapes.{not_escaped, above}
use Rattle.utf16.proofs.Carry.{carried_none, shown_one}
use Rattle.utf16.specs.Shown.{Plainly, PlainlyIf, is_plain, bit, plain_table}

itself : (c : ℕ) → 32 ≤ c → c < 128 → (c ≡ 34 → ⊥) → (c ≡ 38 → ⊥) → (c ≡ 39 → ⊥) → (c ≡ 60 → ⊥) → (c ≡ 62 → ⊥) → shown c ≡ c ∷ []
unfolding utf8
itself c h g n₃₄ n₃₈ n₃₉ n₆₀ n₆₂ =
    not_escaped c n₃₈ n₆₀ n₆₂ n₃₄ n₃₉ (λ e. omega arith) (λ e. omega arith) (λ e. omega arith)
    ∙ rw (above c h, le-leb c 0xd7ff (omega arith), lt-ltb c 0x80 g)

-- a unit that is written as itself
pub plainly : (u : ℕ) → 32 ≤ u → u < 128 → (u ≡ 34 → ⊥) → (u ≡ 38 → ⊥) → (u ≡ 39 → ⊥) → (u ≡ 60 → ⊥) → (u ≡ 62 → ⊥) → Plainly None u
plainly u h g n₃₄ n₃₈ n₃₉ n₆₀ n₆₂ =
    let low = carried_none u (rw (lt-leb 0xd800 u (omega arith))) in
    record {
      none = refl;
      small = g;
      next = sym low.0;
      itself = rw low.1 (shown_one u ∙ itself u h g n₃₄ n₃₈ n₃₉ n₆₀ n₆₂);
    }

is_plain_lem : (u : ℕ) → is_plain u ≡ true → Plainly None u
is_plain_lem u e =
    let n₆₂ = both _ _ e in
    let n₆₀ = both _ _ n₆₂.0 in
    let n₃₉ = both _ _ n₆₀.0 in
    let n₃₈ = both _ _ n₃₉.0 in
    let n₃₄ = both _ _ n₃₈.0 in
    let range = both _ _ n₃₄.0 in
    let high = leb-true u 127 range.1 in
    plainly u (leb-true 32 u range.0) (omega arith) (not_it 34 n₃₄.1) (not_it 38 n₃₈.1) (not_it 39 n₃₉.1) (not_it 60 n₆₀.1)
    (not_it 62 n₆₂.1)
  where
    not_it : (c : ℕ) → not (eqb u c) ≡ true → u ≡ c → ⊥
    not_it c e = eqb-false u c (not-true (eqb u c) e)

pub not_some : (o : Option ℕ) → is_some o ≡ false → o ≡ None
not_some None e = refl
not_some (Some h) e = absurd (cc)

pub plain_entry : (u : ℕ) → u < 128 → PlainlyIf (eqb (get_or plain_table u 0) 49) None u
plain_entry u h = rw (tabled_at (λ k. 48 + bit (is_plain k)) 128 u 0 h) (go (is_plain u) refl)
  where
    go : (t : Bool) → is_plain u ≡ t → PlainlyIf (eqb (48 + bit t) 49) None u
    go true e = is_plain_lem u e
    go false e = tt
