use Rattle.std.proofs.Common.{true, ◌≡◌, ◌∙◌, ap, sym, subst}
use Rattle.term.specs.NodeSets.{IsNodeSet, set_of}
use Rattle.exchange.specs.Bodies.{welcome_letter}
use Rattle.node_core.specs.CoreState.{CoreState}
use Rattle.node_core.proofs.Joining.{room_for, welcomed_by}
use Rattle.node_core.proofs.node.NodeCore.send_welcome.Goals as goal

pub welcome_of-requires : goal.welcome_of-requires
welcome_of-requires g c =
    room_for c.self.inside.world c.self.inside.members c.args.joiner.now c.len-fits.ensures.set
    (subst (λ (h : CoreState). IsNodeSet h.members) (sym c.self.view_is) c.requires.members) c.self.invariant.members
    (subst (λ (h : CoreState). set_of h.world c.args.joiner.now ≡ true) (sym c.self.view_is) c.requires.joiner)

pub returns-clause-welcomed : goal.returns-clause-welcomed
returns-clause-welcomed g c =
    welcomed_by _ c.args.self.now c.args.joiner.now c.copy.result c.args.settled.now c.args.turn.now
    c.send.new.self _ c.self.view_is
    (ap welcome_letter c.in_ok-new.ensures.ok ∙ c.in_ok-welcome.ensures.letter) c.copy.ensures c.send.ensures.made
