-- What a call for the text of a value answers and leaves. The first run has no room, and writes into an empty part of the memory, `none`.
--     told_refused, told_long, told_fits : what the first run tells, and the second leaves
use mathlib.Core.Path.{◌≡◌, refl, ap, sym, ◌∙◌}
use mathlib.Core.List.{List, [], ◌∷◌, ◌++◌}
use Prim.Native.Nat.{ℕ, ◌*◌, ◌^◌, ◌≤◌, ◌<◌}
use native.Mathlib.Nat.{zero-add}
use native.Mathlib.Omega.{arith}
use borrow.Author.Tests.{le-leb, lt-leb}
use lib.ListN.{length}
use Rattle.output.specs.Output.{adv}
use Rattle.output.proofs.Output.{top_none, emit_fits}
use Rattle.rules.specs.Answers.{value, number_of, refusal, wrong_value, room_too_small, Answered}
use Rattle.rules.specs.Values.{Written, written, wrong_type, wrong_size, wrong_content}
use Rattle.calendar.specs.Times.{place_after}
use Rattle.std.specs.Prelude.{Result, Ok, Err}
use Rattle.refusal.specs.Refusals.{answer_number, answer_length}
use Rattle.refusal.specs.declared.Refusal.{Refusal}
use Rattle.refusal.specs.declared.Refusal.TheVariants as Refusal·
use Rattle.value.specs.Value.{text_in, PutValue}
use Rattle.value.specs.declared.WrongValue.{WrongValue}
use Rattle.value_c.specs.Call.{outcome}

empty : (o : List ℕ) → length o ≡ 0 → o ≡ []
empty [] h = refl
empty (x ∷ o) h = absurd (omega arith)

refused : (w : Written) (room : ℕ) → place_after 0 0 (text_in w) ≡ refusal wrong_value → outcome room w ≡ refusal wrong_value
refused (written t) room e = absurd (omega (arith, ap number_of e))
refused wrong_type room e = refl
refused wrong_size room e = refl
refused wrong_content room e = refl

-- a first run that is not refused has counted a text: it does not fit, or the second run leaves it
told : (w : Written) (out : List ℕ) {at : ℕ} → value at ≡ place_after 0 0 (text_in w)
    → (length out < at → Answered (outcome (length out) w) out out room_too_small 0)
    × ((out' : List ℕ) (r : Result ℕ WrongValue) → at ≤ length out → length out * 1 < 2 ^ 63 → PutValue w out 0 out' r
    → Answered (outcome (length out) w) out out' 0 at)
unfolding adv
told (written t) out {at} e =
    let free = top_none in
    let c : at ≡ adv 0 0 (length t) = cc in (
      (λ h. let long = lt-leb (length t) (length out) (omega arith) in record { number_is = rw long; length_is = rw long; memory = rw long }),
      λ out' r h room p.
          let n : at ≡ length t = omega arith in
          let fits = le-leb (length t) (length out) (omega arith) in
          record { number_is = rw fits; length_is = rw (fits, n); memory = rw fits (p.bytes ∙ emit_fits out 0 t (omega arith) ∙ rw zero-add) },
    )
told wrong_type out e = absurd (let z = ap number_of e in omega arith)
told wrong_size out e = absurd (let z = ap number_of e in omega arith)
told wrong_content out e = absurd (let z = ap number_of e in omega arith)

module _ {w : Written} {out none : List ℕ} (kept : length none ≡ 0) where
  pub told_refused : {cause : WrongValue} {r : Result ℕ Refusal} → PutValue w [] 0 none (Err cause) → r ≡ Err Refusal·.WrongValue
      → Answered (outcome (length out) w) out (none ++ out) (answer_number r) (answer_length r)
  told_refused first e = rw (empty none kept, e, refused w (length out) (sym first.meaning)) (record { number_is = refl; length_is = refl; memory = refl })

  module _ {at : ℕ} (first : PutValue w [] 0 none (Ok at)) where
    pub told_long : length out < at → Answered (outcome (length out) w) out (none ++ out) room_too_small 0
    told_long h = rw (empty none kept) ((told w out first.meaning).0 h)

    pub told_fits : {out' : List ℕ} {r : Result ℕ WrongValue} → at ≤ length out → length out * 1 < 2 ^ 63 → PutValue w (none ++ out) 0 out' r
        → Answered (outcome (length out) w) out out' 0 at
    told_fits h room p = (told w out first.meaning).1 _ _ h room (rw (empty none kept) at p)
