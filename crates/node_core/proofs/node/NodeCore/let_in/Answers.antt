use Rattle.std.proofs.Common.{true, None, ◌≡◌, refl, ap, sym, subst}
use Rattle.term.specs.NodeSets.{IsNodeSet, set_of}
use Rattle.node_core.specs.CoreState.{CoreState, IsWithin}
use Rattle.node_core.specs.Joining.{TellsToAdmit, Welcomes}
use Rattle.node_core.proofs.Bounds.{of_world}
use Rattle.node_core.proofs.Gone.{more_within}
use Rattle.node_core.proofs.Joining.{lets_in}
use Rattle.node_core.proofs.Whole.{whole_writing}
use Rattle.node_core.proofs.node.NodeCore.let_in.Goals as goal

pub invariant_of-self : goal.invariant_of-self
invariant_of-self g c =
    whole_writing _ c.await_from.new.self c.with_within.result c.args.asked None c.self.invariant c.await_from.ensures
    (of_world c.self.inside.world c.with_within.result
    (more_within c.self.inside.world c.self.inside.members c.with_within.result c.args.joiner c.with_within.ensures))
    (subst (λ (h : CoreState). IsWithin h.world c.args.asked) (sym c.self.view_is) c.requires.within)

pub returns-clause-turn : goal.returns-clause-turn
returns-clause-turn g c = λ pairs admitting.
    let told = subst (λ (h : CoreState). TellsToAdmit h c.args.joiner c.args.settled.now c.enter_joined.new.turn
    c.tell_to_admit.new.turn) (sym c.self.view_is) c.in_ok-tell_to_admit.ensures.told in
    let welcome = subst (λ (h : CoreState). Welcomes h c.args.joiner c.args.settled.now c.tell_to_admit.new.turn
    c.send_welcome.new.turn) (sym c.self.view_is) c.in_ok-send_welcome.ensures.welcomed in
    lets_in _ c.args.self.now c.args.turn.now c.enter_joined.new.turn c.tell_to_admit.new.turn c.send_welcome.new.turn
    c.await_from.new.self c.args.asked c.with_within.result c.args.self.now.name c.args.joiner c.args.joiner c.args.joiner
    told.0 welcome.0 c.args.settled.now
    pairs c.self.view_is c.self.invariant
    (subst (λ (h : CoreState). set_of h.world c.args.joiner ≡ true) (sym c.self.view_is) c.requires.joiner)
    (subst (λ (h : CoreState). IsNodeSet h.members) (sym c.self.view_is) c.in_ok-tell_to_admit.ensures.set)
    c.with_within.ensures c.await_from.ensures refl (ap (λ (h : CoreState). h.name) (sym c.self.view_is))
    c.enter_joined.ensures.entered told.1 told.2 welcome.1 refl welcome.2 admitting
