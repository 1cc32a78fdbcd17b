use Rattle.std.proofs.Common.{◌≡◌, sym, ◌∙◌}
use Rattle.term.specs.NodeSets.{without_node}
use Rattle.term.proofs.NodeSets.{StandsAt, FitsAt, stands, would_stand, without_node-there, without_node-fits, without_node-set, set_of-fits}
use Rattle.term.proofs.node_set.NodeSet.remove.Goals as goal

others : (c : goal.After-remove) → c.remove.new.self.items ≡ without_node c.self.inside.nodes.items c.args.node.now
others c =
    let at : StandsAt c.self.inside.nodes.items c.in-Ok.place c.args.node.now =
    stands c.self.inside.nodes.items c.args.node.now c.in-Ok.place c.binary_search.result c.in-Ok.is
    (rw (← c.deref.ensures.0) (c.binary_search.ensures.position)) c.self.invariant.rising in
    c.remove.ensures.items ∙ without_node-there c.self.inside.nodes.items _ _ c.self.invariant.rising at

missing : (c : goal.In-Err) → FitsAt c.self.inside.nodes.items c.in-Err.field-0 c.args.node.now
missing c =
    would_stand c.self.inside.nodes.items c.args.node.now c.in-Err.field-0 c.binary_search.result c.in-Err.is
    (rw (← c.deref.ensures.0) (c.binary_search.ensures.position)) c.self.invariant.rising

pub returns-in-Ok-clause-others : goal.returns-in-Ok-clause-others
returns-in-Ok-clause-others c = rw (← c.self.view_is) (others c)

pub returns-in-Ok-clause-set : goal.returns-in-Ok-clause-set
returns-in-Ok-clause-set c = rw (others c) (without_node-set _ _ c.self.invariant)

pub returns-in-Err-clause-others : goal.returns-in-Err-clause-others
returns-in-Err-clause-others c = rw (← c.self.view_is) (without_node-fits _ _ _ (missing c))

pub returns-in-Err-clause-held : goal.returns-in-Err-clause-held
returns-in-Err-clause-held c = rw (← c.self.view_is) (sym (set_of-fits _ _ _ (missing c)))
