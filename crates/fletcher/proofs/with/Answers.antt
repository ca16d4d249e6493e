-- `with` meets its contract: two additions modulo 2^64.
use Rattle.fletcher.proofs.Words.{with_number_lem}
use Rattle.fletcher.proofs.with.Goals as goal

pub returns : goal.returns
returns c = with_number_lem c.args.sums _ c.wrapping_add_u64-first.ensures.value c.wrapping_add_u64.ensures.value
