-- What is carried over from one UTF-16 unit to the next: a high surrogate, if there is one.
use Rattle.std.specs.Prelude.{◌≡◌, Option, Some, None, List, [], ◌∷◌, ℕ, ◌+◌, ◌*◌, ◌≤◌, ◌<◌, get_or, if◌then◌else◌}
use Rattle.rules.specs.Strings.{is_high, is_low, of_pair}

-- a high surrogate is carried over to the next unit
abbrev pub carried : ℕ → Option ℕ
carried u = if is_high u then Some u else None

-- the unit, unless it is carried over
abbrev pub unless_high : ℕ → List ℕ
unless_high u = if is_high u then [] else u ∷ []

-- the characters that a unit completes, after what was carried over; a surrogate that has no partner stands for itself
abbrev pub completed : Option ℕ → ℕ → List ℕ
completed None u = unless_high u
completed (Some h) u = if is_low u then of_pair h u ∷ [] else h ∷ unless_high u

-- what was carried over, after the last unit
abbrev pub left_over : Option ℕ → List ℕ
left_over None = []
left_over (Some h) = h ∷ []

-- h is a high surrogate
pub record IsHigh (h : ℕ) : Type 0 where
  pub least : 0xd800 ≤ h
  pub most : h ≤ 0xdbff

-- u is the unit in the two bytes at i
abbrev pub IsUnit : List ℕ → ℕ → ℕ → Type 0
IsUnit b i u = (u ≡ get_or b i 0 + 256 * get_or b (i + 1) 0) × (u < 65_536)
