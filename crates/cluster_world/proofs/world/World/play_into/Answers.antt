use Rattle.std.proofs.Common.{ℕ, [], ◌≤◌, ◌∙◌, ◌++◌, List, get_or, length, ap, sym, subst}
use Rattle.node_core.specs.declared.Answer.{Answer}
use Rattle.node_core.specs.CoreState.{CoreState}
use Rattle.node_core.specs.Rare.{most_answers}
use Rattle.world_events.specs.declared.events.WorldEvent.{WorldEvent}
use Rattle.cluster_world.specs.WorldState.{WorldState}
use Rattle.cluster_world.specs.Playing.{Played}
use Rattle.cluster_world.specs.Steps.{AreFew}
use Rattle.cluster_world.proofs.Running.{played_behind, appended, fits_behind}
use Rattle.cluster_world.proofs.world.World.play_into.Goals as goal

pub returns-clause-ok : goal.returns-clause-ok
returns-clause-ok g c =
    subst (Played c.args.event.now c.args.self.now c.accept.new.self c.args.answers.now.items)
    (ap (λ (l : List Answer). l ++ c.in_ok-given.given.items) (sym c.reserve.ensures.items)
    ∙ sym (appended c.append.result c.reserve.new.self.items c.in_ok-given.given.items (c.append.ensures.succeeds
    (fits_behind c.reserve.new.self.len c.reserve.new.self.cap c.most_answers.result c.in_ok-given.given.len
    c.in_ok-given.given.cap (most_answers c.index.result.now) (length c.in_ok-given.given.items)
    c.in_ok-given.given.ok.0 c.in_ok-given.given.ok.1 c.in_ok-given.given.small few c.most_answers.ensures
    c.in_ok-reserve.ensures.ok)))
    ∙ sym c.append.ensures.items)
    (played_behind c.args.event.now c.args.self.now c.accept.new.self c.args.answers.now.items
    c.in_ok-given.given.items (subst (λ (e : WorldEvent). Played e c.args.self.now c.accept.new.self [] c.in_ok-given.given.items)
    c.in_ok-admitted.ensures.event c.in_ok-given.ensures.ok))
  where
    few : length c.in_ok-given.given.items ≤ most_answers c.index.result.now
    few = subst (λ (k : CoreState). length c.in_ok-given.given.items ≤ most_answers k)
        (ap (λ (k : WorldState). get_or k.cores c.place.result c.index.result.now) (sym c.self.view_is)
        ∙ sym c.index.ensures)
        (subst (λ (p : ℕ). AreFew p c.args.self.now c.in_ok-given.given.items) (sym c.place.ensures) c.in_ok-given.ensures.few
        c.index.result.now)
