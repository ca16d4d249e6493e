-- `is_named` meets its contract: the name alone, or the end of a path.
use Rattle.std.proofs.Common.{refl}
use Rattle.arguments.proofs.Asking.{equals, ends}
use Rattle.arguments.proofs.is_named.Goals as goal

pub returns-else-eq : goal.returns-else-eq
returns-else-eq c =
    let a = c.args in
    rw (equals a.name.now a.known.now (refl {a = a.known.now}) c.eq.ensures c.if-eq.false) (ends a.name.now a.path.now c.ends_with.ensures.value)
