use Rattle.std.proofs.Common.{ℕ, suc, not, refl, sym, ap, subst, ◌∙◌}
use Rattle.node_loop.specs.Coming.{IsLoopOf}
use Rattle.node_seats.specs.Hosts.{Hosting}
use Rattle.node_seats.proofs.Going.{goes_on}
use Rattle.node_threads.proofs.Soundness.{ends_on, ends_behind, sound_on, sound_to_end}
use Rattle.node_threads.proofs.running.turns.Goals as goal

pub returns-then-is_closing-clause-sound : goal.returns-then-is_closing-clause-sound
returns-then-is_closing-clause-sound g c = ends_on c.args.node.now c.args.end.now c.loop.node c.loop.end c.loop.invariant.4

pub loop-init : goal.loop-init
loop-init g c = (tt, tt, refl, c.requires.came, λ o here. here, refl, c.requires.publishes, (0, refl), refl, refl)

pub show-next-requires-clause-publishes : goal.show-next-requires-clause-publishes
show-next-requires-clause-publishes g c = goes_on c.loop.publisher.publisher c.loop.node c.turn-outcome.new.node c.loop.invariant.6
    c.turn-outcome.ensures.comes (c.turn-outcome.ensures.owing _ c.loop.invariant.6.1)

pub show-next-requires-clause-book : goal.show-next-requires-clause-book
show-next-requires-clause-book g c =
    c.loop.invariant.8 ∙ (c.requires.book ∙ sym (ap (λ (h : Hosting). h.book) c.loop.invariant.9))

pub loop-preserved : goal.loop-preserved
loop-preserved g c = (
  tt,
  tt,
  ap (λ l. l.log.node) c.show-next.ensures.kept ∙ (c.turn-outcome.ensures.node ∙ c.loop.invariant.2),
  subst (λ (n : ℕ). IsLoopOf n c.show-next.new.node) (c.turn-outcome.ensures.node ∙ c.loop.invariant.2) c.show-next.ensures.came,
  λ o here. sound_on c.loop.node c.loop.end c.turn-outcome.new.node c.turn-outcome.new.end c.show-next.new.node c.show-next.ensures.kept
      c.turn-outcome.result c.turn-outcome.ensures.sound (c.is_err.ensures.negation ∙ ap not c.if-is_err.false) o (c.loop.invariant.4 o here),
  c.turn-outcome.ensures.same ∙ c.loop.invariant.5,
  c.show-next.ensures.publishes,
  (
    suc c.loop.invariant.7.0,
    (
      c.loop.node,
      c.loop.invariant.7.1,
      record {
        behind = c.turn-outcome.new.node;
        outcome = c.turn-outcome.result;
        turn = c.turn-outcome.ensures.came_to;
        went = c.is_err.ensures.negation ∙ ap not c.if-is_err.false;
        besides = c.show-next.ensures.kept;
      },
    ),
  ),
  c.show-next.ensures.book ∙ c.loop.invariant.8,
  c.rest.ensures ∙ (c.show-next.ensures.host ∙ c.loop.invariant.9),
)

pub returns-then-is_closing-clause-stops : goal.returns-then-is_closing-clause-stops
returns-then-is_closing-clause-stops g c = c.loop.invariant.7

pub returns-then-is_err-clause-stops : goal.returns-then-is_err-clause-stops
returns-then-is_err-clause-stops g c = (
  c.loop.invariant.7.0,
  c.loop.node,
  c.loop.invariant.7.1,
  record {
    behind = c.turn-outcome.new.node;
    outcome = c.turn-outcome.result;
    turn = c.turn-outcome.ensures.came_to;
    went = c.is_err.ensures.negation ∙ ap not c.if-is_err.true;
    besides = c.show-next.ensures.kept;
  },
)

pub returns-then-is_err-clause-sound : goal.returns-then-is_err-clause-sound
returns-then-is_err-clause-sound g c = ends_behind c.args.node.now c.args.end.now c.loop.node c.loop.end c.show-next.new.node c.turn-outcome.new.end
    c.loop.invariant.4
    (sound_to_end c.loop.node c.loop.end c.turn-outcome.new.node c.turn-outcome.new.end c.show-next.new.node c.show-next.ensures.kept
    c.turn-outcome.result c.turn-outcome.ensures.sound (c.is_err.ensures.negation ∙ ap not c.if-is_err.true))
