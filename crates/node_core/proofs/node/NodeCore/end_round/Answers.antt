use Rattle.std.proofs.Common.{ℕ, ◌<◌, ap, sym, refl, subst, ◌∙◌}
use Rattle.std.specs.Prelude.{All}
use Rattle.std.proofs.lemmas.Result.{on_ok_weaker}
use Rattle.protocol_model.specs.Round.{ending}
use Rattle.term.specs.NodeSets.{set_of}
use Rattle.locker.specs.RoundState.{seen}
use Rattle.locker.specs.Ends.{EndsAs}
use Rattle.node_core.specs.CoreState.{CoreState, IsWhole}
use Rattle.node_events.specs.Seen.{unnumbered}
use Rattle.node_core.proofs.Rounds.{goes_on, ends_held, ends_failed, granted_within, round_within}
use Rattle.node_core.proofs.node.NodeCore.end_round.Goals as goal

pub returns-then-not-is_over-clause-turn : goal.returns-then-not-is_over-clause-turn
returns-then-not-is_over-clause-turn g c =
    let whole : IsWhole c.args.self.now = subst (λ (h : CoreState). IsWhole h) c.self.view_is c.self.invariant in
    goes_on c.args.self.now c.args.self.now c.args.turn.now c.in-Asking.round c.is_over.result refl
    (ap (λ (h : CoreState). h.phase) (sym c.self.view_is) ∙ c.in-Asking.is) whole.phase c.is_over.ensures.protocol
    c.if-not-is_over.true unnumbered

pub give_up-requires-clause-within : goal.give_up-requires-clause-within
give_up-requires-clause-within g c =
    let whole : IsWhole c.args.self.now = subst (λ (h : CoreState). IsWhole h) c.self.view_is c.self.invariant in
    granted_within c.args.self.now.world c.self.inside.members c.in-GiveBack.granted c.in-Asking.round
    c.finish.result
    (round_within c.args.self.now.world c.args.self.now.phase c.in-Asking.round
    (ap (λ (h : CoreState). h.phase) (sym c.self.view_is) ∙ c.in-Asking.is) whole.phase)
    c.finish.ensures.value c.in-GiveBack.is

pub returns-in-Held-clause-turn : goal.returns-in-Held-clause-turn
returns-in-Held-clause-turn g c = λ round is.
    let whole : IsWhole c.args.self.now = subst (λ (h : CoreState). IsWhole h) c.self.view_is c.self.invariant in
    on_ok_weaker c.held.result
    (λ w. ends_held c.args.self.now c.args.self.now c.args.turn.now c.in-Asking.round c.is_over.result refl
    (ap (λ (h : CoreState). h.phase) (sym c.self.view_is) ∙ c.in-Asking.is) whole.phase c.is_over.ensures.protocol
    whole.members c.finish.result
    (subst (λ (h : CoreState). (n : ℕ) → All (λ d. d < n) c.in-Asking.round.nodes → All (λ d. d < n) h.members
    → EndsAs c.finish.result (ending n (set_of h.members) (seen c.in-Asking.round))) c.self.view_is
    c.finish.ensures.protocol)
    c.held.new.self c.held.new.turn c.asked-asked.result c.if-not-is_over.false c.in-Held.is
    c.asked-asked.ensures.protocol unnumbered w round is)
    c.held.ensures.turn

pub returns-in-GiveBack-clause-turn : goal.returns-in-GiveBack-clause-turn
returns-in-GiveBack-clause-turn g c = λ round is.
    let whole : IsWhole c.args.self.now = subst (λ (h : CoreState). IsWhole h) c.self.view_is c.self.invariant in
    ends_failed c.args.self.now c.args.self.now c.args.turn.now c.in-Asking.round c.is_over.result refl
    (ap (λ (h : CoreState). h.phase) (sym c.self.view_is) ∙ c.in-Asking.is) whole.phase c.is_over.ensures.protocol
    whole.members c.finish.result
    (subst (λ (h : CoreState). (n : ℕ) → All (λ d. d < n) c.in-Asking.round.nodes → All (λ d. d < n) h.members
    → EndsAs c.finish.result (ending n (set_of h.members) (seen c.in-Asking.round))) c.self.view_is
    c.finish.ensures.protocol)
    c.give_up.new.self c.give_up.new.turn c.in-GiveBack.granted c.if-not-is_over.false c.in-GiveBack.is unnumbered
    c.give_up.ensures.turn round is
