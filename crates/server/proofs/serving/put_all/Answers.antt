use Rattle.std.proofs.Common.{ℕ, get_or, ap, sym, ◌∙◌}
use Rattle.server.proofs.Gathering.{gathers_next}
use Rattle.server.proofs.serving.put_all.Goals as goal

pub loop-node-preserved : goal.loop-node-preserved
loop-node-preserved c =
    gathers_next c.args.set.now c.args.nodes.now c.loop-node.set c.insert.new.self c.loop-node.node-index
    c.first.result c.insert.result c.loop-node-test.true
    (c.first.ensures.node ∙ c.copy.ensures ∙ c.node-item.is
    ∙ ap (λ (n : ℕ). get_or c.args.nodes.now c.loop-node.node-index n) (sym (c.first.ensures.node ∙ c.copy.ensures)))
    c.insert.ensures.inserted c.insert.ensures.holds
    c.insert.ensures.refused c.loop-node.invariant
