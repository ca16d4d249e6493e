-- What the calls on times answer and leave, against rules.Dates: a text that was written, and a time that is none.
use mathlib.Core.Path.{refl, ap}
use mathlib.Core.List.{List}
use mathlib.Core.Option.{none, some}
use Prim.Native.Nat.{ℕ}
use Rattle.output.specs.Output.{Wrote}
use Rattle.rules.specs.Bytes.{Text}
use Rattle.rules.specs.Answers.{value}
use Rattle.std.specs.Prelude.{Some, None}
use Rattle.calendar.specs.Times.{PutTime}

pub put_done : {out out' : List ℕ} {at at' : ℕ} {t : Text} → Wrote out at t out' at' → PutTime (some t) out at out' (Some at')
put_done w = record { meaning = ap value w.count; bytes = w.bytes }

pub put_wrong : {out : List ℕ} {at : ℕ} → PutTime none out at out None
put_wrong = record { meaning = refl; bytes = refl }
