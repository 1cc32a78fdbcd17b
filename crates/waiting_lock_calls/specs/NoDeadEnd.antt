-- No dead end: from every world that events can reach some deliveries and retries lead on to one in which nothing waits but lock calls
-- that are held up. es: the events so far; w: the world that they made; fs: those that lead on; a and x: nodes; p: a process.
use mathlib.Core.Logic.{◌⊎◌}
use Rattle.std.specs.Prelude.{ℕ, true, ◌≡◌, Contains, List, [], ◌++◌}
use Rattle.std.specs.List.{list_all}
use Rattle.registry_model.specs.Process.{Process}
use Rattle.protocol_model.specs.Watch.{is_dead}
use Rattle.protocol_model.specs.Node.{Current, LockPhase, LockCall}
use Rattle.protocol_model.specs.World.{Opening, World, WorldEvent}
use Rattle.protocol_model.specs.Refusals.{HasOpenCall}
use Rattle.getting_through.specs.Worlds.{Worlds, events_of, steps_of, IsSettled}
use Rattle.getting_through.specs.Answering.{NameCallsAreAnswered}
use Rattle.waiting_lock_calls.specs.HeldUp.{HeldUp}

-- The call of p that its node a has accepted, and not answered yet, waits there and is held up
pub record IsHeldUpAt (o : Opening) (es : List WorldEvent) (w : World) (a : ℕ) (p : Process) (number : ℕ) : Type 0 where
  pub call : LockCall
  pub listed : Contains (w.node a).calls call
  pub its_holder : call.holder ≡ p
  pub its_number : call.number ≡ number
  pub waits : call.phase ≡ LockPhase.Waiting
  pub held_up : HeldUp o es w a call

module _ (W : Worlds) where
  -- Nothing waits but lock calls that are held up
  pub record IsFinished (es : List W.Event) (w : W.World) : Type 0 where
    -- no letter and no operation waits: each registrar that runs is free, with nothing queued
    pub settled : IsSettled W w
    pub free : (x : ℕ) → W.Runs w x → ((W.nodes w).node x).current ≡ Current.Free
    pub idle : (x : ℕ) → W.Runs w x → ((W.nodes w).node x).queue ≡ []
    -- each name call and each join of a running node has been answered
    pub answered : NameCallsAreAnswered (W.Runs w) (steps_of W es)
    -- and so has each lock call, unless its process is dead, or it is held up
    pub locks : (a : ℕ) (p : Process) → W.Runs w a → (C : HasOpenCall (steps_of W es) a p) →
        (is_dead ((W.nodes w).node a).watch p.serial ≡ true)
        ⊎ IsHeldUpAt W.opening (events_of W es) (W.nodes w) a p C.number

  module _ (es : List W.Event) (w : W.World) where
    -- These events, deliveries and retries, lead on to such a world
    pub record LeadsOn (fs : List W.Event) : Type 0 where
      pub kinds : list_all W.is_delivery_or_retry fs ≡ true
      pub finished : IsFinished (es ++ fs) (W.run w fs)

    -- There are such events
    abbrev pub NoDeadEnd : Type 0
    NoDeadEnd = (fs : List W.Event) × LeadsOn fs
