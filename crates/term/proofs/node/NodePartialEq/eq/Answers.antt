use Rattle.std.proofs.Common.{Bool, ◌-◌, ◌==◌, ◌&&◌, ap, sym, ◌∙◌, arith}
use Rattle.term.proofs.Numbers.{both-eq}
use Rattle.term.proofs.node.NodePartialEq.eq.Goals as goal

pub returns-else-eq : goal.returns-else-eq
returns-else-eq c =
    rw (← c.self.view_is, ← c.other.view_is)
    (c.if-eq.false
    ∙ sym (both-eq c.self.inside.name c.other.inside.name (c.self.inside.creation - 1) (c.other.inside.creation - 1)
    c.self.invariant.0 c.other.invariant.0 (omega (arith, c.self.invariant.2)) (omega (arith, c.other.invariant.2))
    ∙ ap (λ (b : Bool). b && (c.self.inside.creation - 1 == c.other.inside.creation - 1)) (sym c.if-eq.ensures)))
