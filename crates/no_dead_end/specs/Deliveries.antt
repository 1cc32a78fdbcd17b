-- Deliveries end: each lowers the work of a world, so a `settle` of as many deliveries as there is work leaves it quiet.
-- es: the events so far; w: the world that they made; f and t: the nodes of a link.
use Rattle.std.specs.Prelude.{ℕ, ◌≡◌, ◌<◌, ◌≤◌, None, List}
use Rattle.protocol_model.specs.World.{Opening, World, WorldEvent, Deliver, refusal, happens, run, deliveries_left}
use Rattle.named_events.specs.Worlds.{of_nodes, IsQuiet}
use Rattle.no_dead_end.specs.Work.{work}

module _ (o : Opening) (es : List WorldEvent) (w : World) where
  -- An accepted delivery lowers the work
  abbrev pub DeliveriesLower : Type 0
  DeliveriesLower = (f t : ℕ) → refusal o w (Deliver f t) ≡ None → work o (happens o w (Deliver f t)) < work o w

  -- A `settle` of as many deliveries as there is work, or more, leaves a quiet world
  abbrev pub SettlesInTime : Type 0
  SettlesInTime = (most : ℕ) → work o w ≤ most → IsQuiet (of_nodes o) (run o w (deliveries_left o most w))
