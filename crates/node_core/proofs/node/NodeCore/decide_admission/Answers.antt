use Rattle.std.proofs.Common.{true, ◌≡◌, sym, subst, ◌∙◌}
use Rattle.std.proofs.lemmas.Result.{on_ok_weaker}
use Rattle.term.specs.NodeSets.{set_of, with_older}
use Rattle.node_core.specs.CoreState.{CoreState}
use Rattle.node_core.proofs.Gone.{stands}
use Rattle.node_core.proofs.Joining.{lets_pass}
use Rattle.node_core.proofs.node.NodeCore.decide_admission.Goals as goal

pub let_in-requires-clause-joiner : goal.let_in-requires-clause-joiner
let_in-requires-clause-joiner g c = subst (λ (h : CoreState). set_of h.world c.args.joiner ≡ true) c.self.view_is
    (stands c.self.inside.world c.self.inside.told c.args.joiner c.self.invariant.told
    (subst (λ (h : CoreState). with_older h.world c.args.joiner ≡ true) (sym c.self.view_is) c.requires.joiner)
    (sym c.reaches.ensures ∙ c.if-reaches.false))

pub returns-clause-turn : goal.returns-clause-turn
returns-clause-turn g c = λ pairs admitting settled.
    on_ok_weaker c.let_in.result
    (lets_pass _ c.args.self.now c.let_in.new.self c.args.turn.now c.let_in.new.turn c.args.asked c.args.joiner pairs
    c.args.settled.now c.self.view_is (sym c.reaches.ensures ∙ c.if-reaches.false) settled)
    (c.let_in.ensures.turn pairs admitting)
