use Rattle.std.proofs.Common.{ap, sym, ◌∙◌}
use Rattle.std.specs.Prelude.{not, ◌&&◌}
use Rattle.term.specs.NodeSets.{set_of, with_older}
use Rattle.node_core.specs.CoreState.{CoreState}
use Rattle.node_core.proofs.Rounds.{asks_rest}
use Rattle.node_core.proofs.node.NodeCore.ask_rest.Goals as goal

pub returns-clause-turn : goal.returns-clause-turn
returns-clause-turn g c =
    asks_rest c.args.self.now c.args.turn.now _ _ _ _ c.rest.result c.beyond.result _ c.send_all.ensures.set
    c.requires.within c.rest.ensures.value c.rest.ensures.protocol
    (λ d. c.beyond.ensures d ∙ ap (λ (h : CoreState). set_of c.rest.result d && not (with_older h.told d)) c.self.view_is)
    (sym c.opens.ensures ∙ c.if-not-opens.false) c.send_all.ensures.letters
