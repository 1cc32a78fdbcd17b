-- Registrars get free: from every world that events can reach some deliveries and retries lead on to one in which nothing waits
-- but lock calls. es: the events so far; w: the world that they made; fs: deliveries and retries behind them.
use Rattle.std.specs.Prelude.{ℕ, Bool, true, false, ◌≡◌, ◌≤◌, ◌+◌, filter, length, List, [], ◌∷◌, ◌++◌}
use Rattle.std.specs.List.{list_all}
use Rattle.protocol_model.specs.Node.{Op, Current}
use Rattle.protocol_model.specs.Event.{Event}
use Rattle.protocol_model.specs.World.{Opening, World, WorldEvent, At}
use Rattle.no_dead_end.specs.Worlds.{Worlds, of_nodes, steps_of, IsSettled}
use Rattle.no_dead_end.specs.Answering.{NameCallsAreAnswered}
use Rattle.getting_through.specs.Pending.{pending}
use Rattle.getting_through.specs.GettingThrough.{IsStorm}

-- so often a refused registrar is retried in a quiet world, beside any deliveries and other retries, until no letter waits again
pub data Storms (W : Worlds) : W.World → ℕ → Type 0 where
  Calm : (w : W.World) → Storms W w 0
  Storm : (w : W.World) (n a : ℕ) (op : Op) (xs ys : List W.Event) → W.Runs w a →
      ((W.nodes w).node a).current ≡ Current.Waiting op → IsStorm W w a xs ys →
      Storms W (W.run w (xs ++ W.at a Event.Retry ∷ ys)) n → Storms W w (n + 1)

module _ (W : Worlds) (es : List W.Event) (w : W.World) where
  -- No delivery and no retry raises what is pending
  abbrev pub PendingStays : Type 0
  PendingStays = (fs : List W.Event) → list_all W.is_delivery_or_retry fs ≡ true → pending W (W.run w fs) ≤ pending W w

  -- These deliveries and retries lead on to a settled world: each registrar that runs is free, with nothing queued, and has answered
  -- each name call and each join
  pub record LeadsOn (fs : List W.Event) : Type 0 where
    pub kinds : list_all W.is_delivery_or_retry fs ≡ true
    pub settled : IsSettled W (W.run w fs)
    pub free : (c : ℕ) → W.Runs (W.run w fs) c → ((W.nodes (W.run w fs)).node c).current ≡ Current.Free
    pub idle : (c : ℕ) → W.Runs (W.run w fs) c → ((W.nodes (W.run w fs)).node c).queue ≡ []
    pub answered : NameCallsAreAnswered (W.Runs (W.run w fs)) (steps_of W (es ++ fs))

  -- All registrars get free
  abbrev pub RegistrarsGetFree : Type 0
  RegistrarsGetFree = (fs : List W.Event) × LeadsOn fs

  -- Whichever refused registrars are retried so, one after the other, there are no more such retries than are pending
  abbrev pub StormsAreFew : Type 0
  StormsAreFew = (n : ℕ) → Storms W w n → n ≤ pending W w

-- a node is retried
abbrev pub is_retry : WorldEvent → Bool
is_retry (At a Event.Retry) = true
is_retry _ = false

-- how many of these are retries
abbrev pub retries : List WorldEvent → ℕ
retries fs = length (filter is_retry fs)

-- All registrars get free, after no more retries than are pending
abbrev pub FewRetriesFree : Opening → List WorldEvent → World → Type 0
FewRetriesFree o es w = (fs : List WorldEvent) × LeadsOn (of_nodes o) es w fs × (retries fs ≤ pending (of_nodes o) w)
