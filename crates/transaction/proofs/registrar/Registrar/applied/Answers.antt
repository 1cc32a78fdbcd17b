use Rattle.std.proofs.Common.{ℕ, List, ap, sym, ◌∙◌}
use Rattle.term.specs.NodeSets.{without_node}
use Rattle.transaction.specs.Work.{Work}
use Rattle.transaction.proofs.Awaited.{without_node-other}
use Rattle.transaction.proofs.registrar.Registrar.applied.Goals as goal

pub returns-clause-unchanged : goal.returns-clause-unchanged
returns-clause-unchanged c = λ other.
    let w : Work = c.args.self.now in
    ap (λ (cs : List ℕ). record { queue = c.self.inside.queue; current = c.self.inside.current; awaited = cs })
    (c.remove.ensures.others ∙ ap (λ (v : Work). without_node v.awaited c.args.node.now) c.self.view_is
    ∙ without_node-other w.awaited c.args.node.now other ∙ ap (λ (v : Work). v.awaited) (sym c.self.view_is))
    ∙ c.self.view_is
