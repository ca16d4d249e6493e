-- What the system knows an input by.
use Rattle.std.specs.Prelude.{ℕ, ltb, ℤ, pos, negsuc, if◌then◌else◌}

-- the system's descriptor of an input; where the number is none of its kind, -1, which no file has
abbrev pub descriptor_of : ℕ → ℤ
descriptor_of input = if ltb input 2_147_483_648 then pos input else negsuc 0
