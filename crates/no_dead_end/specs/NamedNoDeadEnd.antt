-- Deliveries end where nodes have names and come back, too. At most one node of each name runs at once; nodes
-- that haven't started are left out of account, with the `Down`s that wait for them.
-- es: the events so far; w: the world that they made; x and y: names of nodes.
use Rattle.std.specs.Prelude.{ℕ, ◌*◌, ◌≡◌, ◌<◌, ◌≤◌, None, length, List}
use Rattle.registry_model.specs.Process.{nodes_of}
use Rattle.named_events.specs.NodeNames.{NamedOpening, is_name, opening_of}
use Rattle.named_events.specs.NamedWorld.{NamedWorld, NamedEvent, Deliver, named_refusal, happens_named, run_named, after_events}
use Rattle.named_events.specs.NamedScript.{SettleLimit, next_named, named_deliveries_left, settled}
use Rattle.named_events.specs.WorldsOfNames.{up}
use Rattle.no_dead_end.specs.Weights.{total}
use Rattle.no_dead_end.specs.Work.{work_weights, may_die}
use Rattle.no_dead_end.specs.Units.{all_units}

module _ (o : NamedOpening) where
  -- how many names there are
  abbrev pub names_size : ℕ
  names_size = length (nodes_of o.bound (is_name o))

  abbrev pub named_work : NamedWorld → ℕ
  named_work w = total (opening_of o).bound (work_weights names_size (may_die w.world)) (up o w) w.world

  abbrev pub named_units : NamedWorld → ℕ
  named_units w = all_units (opening_of o).bound (up o w) w.world

module _ (o : NamedOpening) (es : List NamedEvent) (w : NamedWorld) where
  -- Each delivery by names lowers the work, and a `settle` of as many as there is work, or more, leaves nothing to deliver
  pub record NamedDeliveriesLower : Type 0 where
    pub lowers : (x y : ℕ) → named_refusal o w (Deliver x y) ≡ None → named_work o (happens_named o w (Deliver x y))
        < named_work o w
    pub settles : (most : ℕ) → named_work o w ≤ most → next_named o (run_named o w (named_deliveries_left o most w)) ≡ None

  -- The work is at most 16 letters for each unit and name
  abbrev pub NamedWorkIsBounded : Type 0
  NamedWorkIsBounded = named_work o w ≤ named_units o w * (16 * names_size o)

  -- A `settle` of so many deliveries at most prints `settle_limit` only where there was more work
  abbrev pub LimitsAreWork : Type 0
  LimitsAreWork = (limit : ℕ) → settled o (next_named o (run_named o w (named_deliveries_left o limit w))) ≡ SettleLimit →
      limit < named_work o w

-- It is so behind all events
abbrev pub AlwaysNamed : ((o : NamedOpening) → List NamedEvent → NamedWorld → Type 0) → Type 0
AlwaysNamed Law = (o : NamedOpening) (es : List NamedEvent) → Law o es (after_events o es)
