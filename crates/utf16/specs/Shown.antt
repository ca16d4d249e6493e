-- Characters as they are written: which are written as themselves.
use Rattle.std.specs.Prelude.{◌≡◌, Option, None, Bool, true, false, ◌&&◌, not, List, [], ◌∷◌, ℕ, ◌+◌, ◌<◌, eqb, leb}
use Rattle.laws.specs.Tables.{tabled}
use Rattle.rules.specs.Strings.{all_shown}
use Rattle.utf16.specs.Carry.{carried, completed}

-- the unit, with nothing carried over, is written as itself, and carries nothing over
pub record Plainly (carry : Option ℕ) (u : ℕ) : Type 0 where
  pub none : carry ≡ None
  pub small : u < 128
  pub next : carry ≡ carried u
  pub itself : all_shown (completed carry u) ≡ u ∷ []

abbrev pub PlainlyIf : Bool → Option ℕ → ℕ → Type 0
PlainlyIf true carry u = Plainly carry u
PlainlyIf false carry u = Unit {0}

-- whether a unit is written as itself
abbrev pub is_plain : ℕ → Bool
is_plain u = leb 32 u && leb u 127 && not (eqb u 34) && not (eqb u 38) && not (eqb u 39) && not (eqb u 60) && not (eqb u 62)

abbrev pub bit : Bool → ℕ
bit true = 1
bit false = 0

-- the units of ASCII: a digit 1 for each that is written as itself, and 0 for the others
abbrev pub plain_table : List ℕ
plain_table = tabled (λ k. 48 + bit (is_plain k)) 128
