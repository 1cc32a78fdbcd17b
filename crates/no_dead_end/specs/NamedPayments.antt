-- What events other than deliveries may raise the work of a world of names by; a restart brings none. es: the events so far; w: the
-- world of names that they made.
use Rattle.std.specs.Prelude.{ℕ, ◌&&◌, ◌+◌, ◌≤◌, is_none, List, [], ◌∷◌}
use Rattle.named_events.specs.NodeNames.{NamedOpening}
use Rattle.named_events.specs.NamedWorld.{NamedWorld, NamedEvent, At, AtNode, present_node, named_refusal, happens_named, run_named, opening_named}
use Rattle.named_events.specs.WorldsOfNames.{is_named_delivery}
use Rattle.no_dead_end.specs.Weights.{when}
use Rattle.no_dead_end.specs.Payments.{event_pays}
use Rattle.no_dead_end.specs.NamedNoDeadEnd.{names_size, named_work}

module _ (o : NamedOpening) where
  abbrev pub named_pays : NamedWorld → NamedEvent → ℕ
  named_pays w (At x e) = event_pays (names_size o) (w.world.node (present_node o w x)) e
  named_pays w (AtNode n e) = event_pays (names_size o) (w.world.node n) e
  named_pays w _ = 0

  -- what the accepted ones of these events pay
  abbrev pub named_paid : NamedWorld → List NamedEvent → ℕ
  named_paid w [] = 0
  named_paid w (e ∷ es) = when (is_none (named_refusal o w e)) (named_pays w e) + named_paid (happens_named o w e) es

  -- how many deliveries of them are accepted
  abbrev pub named_delivered : NamedWorld → List NamedEvent → ℕ
  named_delivered w [] = 0
  named_delivered w (e ∷ es) = when (is_none (named_refusal o w e) && is_named_delivery e) 1 + named_delivered (happens_named o w e) es

-- The same as `EventsPay`
pub record NamedEventsPay (o : NamedOpening) (es : List NamedEvent) (w : NamedWorld) : Type 0 where
  pub raises : (e : NamedEvent) → named_work o (happens_named o w e) ≤ named_work o w + named_pays o w e
  pub runs : (fs : List NamedEvent) → named_delivered o w fs + named_work o (run_named o w fs) ≤ named_work o w + named_paid o w fs
  pub all : named_delivered o (opening_named o) es + named_work o w ≤ named_paid o (opening_named o) es
