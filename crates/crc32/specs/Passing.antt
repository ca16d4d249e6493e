-- A checksum's state that has passed i bytes of a part: what is left, gone through from here, makes the whole.
use Rattle.std.specs.Prelude.{◌≡◌, List, ℕ, drop}
use Rattle.rules.specs.Checksum.{crc_over}

pub record Passing (state : ℕ) (part : List ℕ) (c i : ℕ) : Type 0 where
  pub rest : crc_over c (drop i part) ≡ crc_over state part
