-- What a decimal with three places says. The law over it is `real_back` of proofs/RealText.
use Rattle.std.specs.Prelude.{◌≡◌, Bool, true, false, [], ◌++◌, ◌≢◌, ℕ, ◌+◌, ◌*◌, length}
use Rattle.rules.specs.Bytes.{Text, ascii}
use Rattle.laws.specs.Digits.{read_back}

-- a minus sign exactly if the sign bit is set and there are thousandths
pub data Sign (negative : Bool) (t : ℕ) : Text → Type 0 where
  minus : negative ≡ true → t ≢ 0 → Sign negative t (ascii "-")
  positive : negative ≡ false → Sign negative t []
  all_zero : t ≡ 0 → Sign negative t []

-- what a decimal with three places says of the sign bit and of the thousandths
pub record Places (negative : Bool) (t : ℕ) (text : Text) : Type 0 where
  pub sign : Text
  pub whole : Text
  pub places : Text
  pub is : text ≡ sign ++ whole ++ ascii "." ++ places
  pub signed : Sign negative t sign
  pub three : length places ≡ 3
  pub back : read_back 10 whole * 1_000 + read_back 10 places ≡ t
