-- `asks_for` meets its contract: each answer is that of the first test that holds.
use Rattle.std.proofs.Common.{refl}
use Rattle.rules.specs.Bytes.{ascii}
use Rattle.arguments.specs.Words.{asked}
use Rattle.arguments.proofs.Asking.{equals, starts}
use Rattle.arguments.proofs.asks_for.Goals as goal

pub returns-then-eq : goal.returns-then-eq
unfolding asked
returns-then-eq c = rw (equals c.args.bytes.now (ascii "-") c.as_slice.ensures c.eq.ensures c.if-eq.true) refl

pub returns-then-eq-2 : goal.returns-then-eq-2
unfolding asked
returns-then-eq-2 c =
    rw (
      equals c.args.bytes.now (ascii "-") c.as_slice.ensures c.eq.ensures c.if-eq.false,
      equals c.args.bytes.now (ascii "--help") c.as_slice-2.ensures c.eq-2.ensures c.if-eq-2.true,
    ) refl

pub returns-then-eq-3 : goal.returns-then-eq-3
unfolding asked
returns-then-eq-3 c =
    rw (
      equals c.args.bytes.now (ascii "-") c.as_slice.ensures c.eq.ensures c.if-eq.false,
      equals c.args.bytes.now (ascii "--help") c.as_slice-2.ensures c.eq-2.ensures c.if-eq-2.false,
      equals c.args.bytes.now (ascii "--version") c.as_slice-3.ensures c.eq-3.ensures c.if-eq-3.true,
    ) refl

pub returns-then-starts_with : goal.returns-then-starts_with
unfolding asked
returns-then-starts_with c =
    rw (
      equals c.args.bytes.now (ascii "-") c.as_slice.ensures c.eq.ensures c.if-eq.false,
      equals c.args.bytes.now (ascii "--help") c.as_slice-2.ensures c.eq-2.ensures c.if-eq-2.false,
      equals c.args.bytes.now (ascii "--version") c.as_slice-3.ensures c.eq-3.ensures c.if-eq-3.false,
      starts c.args.bytes.now (ascii "-") c.starts_with.ensures.value c.if-starts_with.true,
    ) refl

pub returns : goal.returns
unfolding asked
returns c =
    rw (
      equals c.args.bytes.now (ascii "-") c.as_slice.ensures c.eq.ensures c.if-eq.false,
      equals c.args.bytes.now (ascii "--help") c.as_slice-2.ensures c.eq-2.ensures c.if-eq-2.false,
      equals c.args.bytes.now (ascii "--version") c.as_slice-3.ensures c.eq-3.ensures c.if-eq-3.false,
      starts c.args.bytes.now (ascii "-") c.starts_with.ensures.value c.if-starts_with.false,
    ) refl
