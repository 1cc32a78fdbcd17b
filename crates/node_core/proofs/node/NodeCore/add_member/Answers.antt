use Rattle.std.proofs.Common.{sym, ◌∙◌}
use Rattle.node_core.proofs.Joining.{whole_with_member, has_member}
use Rattle.node_core.proofs.node.NodeCore.add_member.Goals as goal

pub invariant_of-self : goal.invariant_of-self
invariant_of-self g c =
    whole_with_member _ c.args.joiner.now c.with_within-self-inside.result c.self.invariant
    (sym c.reaches.ensures ∙ c.if-not-reaches.true) c.with_within-self-inside.ensures

pub returns-then-not-reaches-clause-turn : goal.returns-then-not-reaches-clause-turn
returns-then-not-reaches-clause-turn g c = λ made started.
    has_member _ c.args.joiner.now c.with_within-self-inside.result c.self.invariant
    (sym c.reaches.ensures ∙ c.if-not-reaches.true) c.with_within-self-inside.ensures c.args.self.now made
    c.self.view_is started
