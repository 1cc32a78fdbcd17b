use Rattle.std.proofs.Common.{sym, arith}
use Rattle.term.proofs.Numbers.{nat_cmp-given}
use Rattle.term.proofs.node.NodeOrd.cmp.Goals as goal

pub returns : goal.returns
returns c =
    rw (← c.self.view_is, ← c.other.view_is, c.then.ensures, c.cmp.ensures, c.cmp-2.ensures)
    (sym (nat_cmp-given c.self.inside.name c.other.inside.name c.self.inside.creation c.other.inside.creation
    c.self.invariant.0 c.other.invariant.0 c.self.invariant.1 c.other.invariant.1 (omega (arith, c.self.invariant.2))
    (omega (arith, c.other.invariant.2))))
