-- What the system's answer to an opening is.
use Rattle.std.specs.Prelude.{Option, Some, None, ℕ, ℤ, pos, negsuc}

-- the input with a descriptor; none has one below 0
abbrev pub opened_at : ℤ → Option ℕ
opened_at (pos n) = Some n
opened_at (negsuc n) = None
