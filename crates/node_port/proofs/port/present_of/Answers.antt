use Rattle.std.proofs.Common.{◌==◌, Some, None, sym, ◌∙◌}
use Rattle.node_port.proofs.Beginnings.{present_found}
use Rattle.node_port.proofs.port.present_of.Goals as goal

pub returns-in-Some : goal.returns-in-Some
returns-in-Some c =
    c.copy-in-Some.ensures
    ∙ present_found c.args.node.now c.args.left.now c.args.name.now c.requires (Some c.in-Some.gone.now)
    (sym (c.eq.ensures ∙ (λ i. c.name.ensures i == c.name-2.ensures i)) ∙ c.if-eq.false) (sym c.in-Some.ensures)

pub returns-in-None : goal.returns-in-None
returns-in-None c =
    c.copy-in-None.ensures
    ∙ present_found c.args.node.now c.args.left.now c.args.name.now c.requires None
    (sym (c.eq.ensures ∙ (λ i. c.name.ensures i == c.name-2.ensures i)) ∙ c.if-eq.false) (sym c.in-None.ensures)
