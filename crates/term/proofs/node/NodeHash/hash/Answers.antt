use Rattle.std.proofs.Common.{◌-◌, rules, arith}
use Rattle.term.proofs.Numbers.{text_in-both, creation_of-both}
use Rattle.term.proofs.node.NodeHash.hash.Goals as goal

pub returns : goal.returns
returns g c =
    rw (
      ← c.self.view_is,
      text_in-both c.self.inside.name (c.self.inside.creation - 1) c.self.invariant.0 (omega (arith, c.self.invariant.2)),
      creation_of-both c.self.inside.name c.self.inside.creation c.self.invariant.0 c.self.invariant.1 c.self.invariant.2,
    ) (search rules)
