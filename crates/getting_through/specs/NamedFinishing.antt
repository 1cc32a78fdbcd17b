-- How a world of names is finished: letters are delivered until none waits, and then the first node whose registrar was refused is
-- retried, and so on until there is none. es: the events so far; w: the world of names that they made; n: a node.
use Rattle.std.specs.Prelude.{ℕ, Bool, zero, suc, true, false, ◌≡◌, ◌<◌, ◌≤◌, Option, Some, None, find, filter, length, List, [], ◌∷◌, ◌++◌}
use Rattle.protocol_model.specs.Node.{Op, Current}
use Rattle.protocol_model.specs.Event.{Event, is_waiting}
use Rattle.no_dead_end.specs.NodeNames.{NamedOpening}
use Rattle.no_dead_end.specs.NamedWorld.{NamedWorld, NamedEvent, AtNode, running_nodes, happens_named, run_named}
use Rattle.no_dead_end.specs.NamedScript.{next_named, named_deliveries_left}
use Rattle.no_dead_end.specs.Restarts.{IsUp}
use Rattle.no_dead_end.specs.Worlds.{IsQuiet}
use Rattle.no_dead_end.specs.WorldsOfNames.{of_names}
use Rattle.no_dead_end.specs.NamedNoDeadEnd.{named_work}
use Rattle.getting_through.specs.Pending.{pending}
use Rattle.getting_through.specs.GettingFree.{LeadsOn}

module _ (o : NamedOpening) where
  -- the world behind a retry of n
  abbrev pub retried : NamedWorld → ℕ → NamedWorld
  retried w n = happens_named o w (AtNode n Event.Retry)

  -- the deliveries behind which no letter waits, and the world behind them
  abbrev pub settling : NamedWorld → List NamedEvent
  settling w = named_deliveries_left o (named_work o w) w

  abbrev pub settled_names : NamedWorld → NamedWorld
  settled_names w = run_named o w (settling w)

  -- the first running node whose registrar was refused
  abbrev pub first_refused : NamedWorld → Option ℕ
  first_refused w = find (λ n. is_waiting (w.world.node n).current) (running_nodes o w)

  -- deliveries until no letter waits, and a retry of that node, again and again; at most this many retries
  abbrev pub finishing : ℕ → NamedWorld → List NamedEvent
  finishing zero w = settling w
  finishing (suc most) w = settling w ++ elim (first_refused (settled_names w)) [
    | None ↦ []
    | Some n ↦ AtNode n Event.Retry ∷ finishing most (retried (settled_names w) n)
  ]

abbrev pub is_named_retry : NamedEvent → Bool
is_named_retry (AtNode n Event.Retry) = true
is_named_retry _ = false

-- how many of these are retries
abbrev pub named_retries : List NamedEvent → ℕ
named_retries fs = length (filter is_named_retry fs)

module _ (o : NamedOpening) (es : List NamedEvent) (w : NamedWorld) where
  -- A refused registrar is retried in a quiet world, and letters are delivered until none waits: less is pending
  abbrev pub NamedRetriesLower : Type 0
  NamedRetriesLower = (n : ℕ) (op : Op) (most : ℕ) → IsQuiet (of_names o) w → IsUp o w n →
      (w.world.node n).current ≡ Current.Waiting op → named_work o (retried o w n) ≤ most →
      pending (of_names o) (run_named o (retried o w n) (named_deliveries_left o most (retried o w n))) < pending (of_names o) w

  -- So many retries of the first refused node finish the world, each behind deliveries until no letter waits: no letter waits any
  -- more, no registrar is refused, and there were no more retries than was pending
  pub record NamesFinish (most : ℕ) : Type 0 where
    pub leads : LeadsOn (of_names o) es w (finishing o most w)
    pub quiet : next_named o (run_named o w (finishing o most w)) ≡ None
    pub free : first_refused o (run_named o w (finishing o most w)) ≡ None
    pub few : named_retries (finishing o most w) ≤ pending (of_names o) w

  abbrev pub FinishingEnds : Type 0
  FinishingEnds = (most : ℕ) → pending (of_names o) w ≤ most → NamesFinish most
