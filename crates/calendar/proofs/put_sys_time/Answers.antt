-- `put_sys_time` meets its contract: date, clock and milliseconds are tested in turn.
use mathlib.Core.Path.{◌∙◌, sym}
use borrow.Author.Tests.{lt-ltb, le-ltb, not-true, not-false}
use Rattle.rules.specs.Dates.{sys_time}
use Rattle.calendar.proofs.Times.{put_done, put_wrong}
use mathlib.Core.Path.{ap}
use mathlib.Core.Bool.{not}
use Rattle.calendar.proofs.put_sys_time.Goals as goal

pub returns-then-not-is_date : goal.returns-then-not-is_date
unfolding sys_time
returns-then-not-is_date c =
    let date = rw (c.number_at.ensures, c.number_at-2.ensures, c.number_at-3.ensures) at c.is_date.ensures in
    rw (sym date ∙ not-true _ (ap not c.if-not-is_date.true)) put_wrong

pub returns-then-not-is_clock : goal.returns-then-not-is_clock
unfolding sys_time
returns-then-not-is_clock c =
    let date = rw (c.number_at.ensures, c.number_at-2.ensures, c.number_at-3.ensures) at c.is_date.ensures in
    let clock = rw (c.number_at-4.ensures, c.number_at-5.ensures, c.number_at-6.ensures) at c.is_clock.ensures in
    rw (sym date ∙ not-false _ (ap not c.if-not-is_date.false), sym clock ∙ not-true _ (ap not c.if-not-is_clock.true)) put_wrong

pub returns-then-ms-ge1000 : goal.returns-then-ms-ge1000
unfolding sys_time
returns-then-ms-ge1000 c =
    let date = rw (c.number_at.ensures, c.number_at-2.ensures, c.number_at-3.ensures) at c.is_date.ensures in
    let clock = rw (c.number_at-4.ensures, c.number_at-5.ensures, c.number_at-6.ensures) at c.is_clock.ensures in
    rw (
      sym date ∙ not-false _ (ap not c.if-not-is_date.false),
      sym clock ∙ not-false _ (ap not c.if-not-is_clock.false),
      ← c.number_at-ms.ensures,
      le-ltb _ _ c.if-ms-ge1000.true,
    )
    put_wrong

pub returns : goal.returns
unfolding sys_time
returns c =
    let date = rw (c.number_at.ensures, c.number_at-2.ensures, c.number_at-3.ensures) at c.is_date.ensures in
    let clock = rw (c.number_at-4.ensures, c.number_at-5.ensures, c.number_at-6.ensures) at c.is_clock.ensures in
    rw (
      sym date ∙ not-false _ (ap not c.if-not-is_date.false),
      sym clock ∙ not-false _ (ap not c.if-not-is_clock.false),
      ← c.number_at-ms.ensures,
      lt-ltb _ _ c.if-ms-ge1000.false,
    )
    (put_done (rw (
      c.number_at.ensures,
      c.number_at-2.ensures,
      c.number_at-3.ensures,
      c.number_at-4.ensures,
      c.number_at-5.ensures,
      c.number_at-6.ensures,
    ) at c.put_time.ensures))
