use Rattle.std.proofs.Common.{ap, sym, ◌∙◌}
use Rattle.protocol_model.specs.Letter.{Global, Letter as AnyLetter}
use Rattle.protocol_model.specs.Registrar.{registrar}
use Rattle.node_core.specs.CoreState.{CoreState}
use Rattle.node_core.proofs.Rounds.{asks_global}
use Rattle.node_core.proofs.Whole.{whole_asking}
use Rattle.node_core.proofs.node.NodeCore.ask_global.Goals as goal

pub invariant_of-self : goal.invariant_of-self
invariant_of-self g c = whole_asking _ c.begin.result c.self.invariant c.begin.ensures.nodes

pub returns-clause-turn : goal.returns-clause-turn
returns-clause-turn g c =
    asks_global _ _ _ _ _ _ c.begin.result c.self.view_is c.self.invariant.members c.boss.ensures.protocol
    (c.set_lock.ensures.says ∙ ap (λ (h : CoreState). AnyLetter.SetLock (Global h.name) (registrar h.name)) (sym c.self.view_is))
    c.begin.ensures.protocol
    c.send.ensures.made
