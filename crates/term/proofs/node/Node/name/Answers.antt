use Rattle.std.proofs.Common.{◌-◌, sym, arith}
use Rattle.term.proofs.Numbers.{name_of-both}
use Rattle.term.proofs.node.Node.name.Goals as goal

pub returns : goal.returns
returns c =
    rw (← c.self.view_is)
    (sym (name_of-both c.self.inside.name (c.self.inside.creation - 1) c.self.invariant.0
    (omega (arith, c.self.invariant.2))))
