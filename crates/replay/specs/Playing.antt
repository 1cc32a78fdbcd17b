-- Steps that a world plays.
use Rattle.std.specs.Prelude.{ℕ, false, ◌≡◌, None, List, [], ◌∷◌, ◌++◌, map, length}
use Rattle.protocol_model.specs.World.{place}
use Rattle.cluster_world.specs.NodeNames.{NamedOpening}
use Rattle.cluster_world.specs.NamedWorld.{NamedWorld, opening_named, named_refusal, happens_named, named_answers, run_named, as_events}
use Rattle.node_log.specs.Events.{event_of}
use Rattle.node_log.specs.NodeEventsSeen.{answer_of}
use Rattle.node_log.specs.Entries.{Logged}
use Rattle.cluster_world.specs.WorldState.{WorldState}
use Rattle.cluster_world.specs.Seen.{names_of, opening_of, seen, named}
use Rattle.cluster_world.specs.Agreeing.{AgreesAfter}
use Rattle.cluster_world.specs.Locks.{LocksAfter}
use Rattle.replay.specs.Steps.{Step, happening, events_in, steps_of, is_restart}
use Rattle.replay.specs.Merging.{IsNext, RisesBehind}
use Rattle.cluster_world.specs.LeftoversOfWorlds.{NothingIsLeft}
use Rattle.cluster_world.specs.WorldsOfNames.{of_names}

-- The world takes the step: its event is one of its own node, it is accepted, and it is answered just as the log has it. Nodes that run
-- are never restarted, so a log with a restart is none of theirs
pub record Takes (o : NamedOpening) (w : NamedWorld) (s : Step) : Type 0 where
  pub own : place (event_of s.entry.event) ≡ s.node
  pub stays : is_restart s.entry.event ≡ false
  pub accepted : named_refusal o w (happening s) ≡ None
  pub answers : map answer_of s.entry.answers ≡ named_answers o w (happening s)

-- it takes these steps, one after the other
abbrev pub TakesAll : NamedOpening → NamedWorld → List Step → Type 0
TakesAll o w [] = Unit {0}
TakesAll o w (s ∷ ss) = Takes o w s × TakesAll o (happens_named o w (happening s)) ss

-- these steps, from its opening on, made the world what it is, and took place in it; behind them the headline and the
-- laws of clients' locks hold, and nothing is left over
pub record IsRun (ss : List Step) (h : WorldState) : Type 0 where
  pub takes : TakesAll (names_of h) (opening_named (names_of h)) ss
  pub agrees : AgreesAfter (events_in ss) h
  pub locks : LocksAfter (opening_of h) (as_events (names_of h) (events_in ss)) (seen h)
  pub leaves_nothing : NothingIsLeft (of_names (names_of h)) (events_in ss) (named h)

-- what a world that opened so is behind these steps
abbrev pub world_behind : NamedOpening → List Step → NamedWorld
world_behind o ss = run_named o (opening_named o) (events_in ss)

-- behind the steps before, each of these steps came next, its stamp rose in its log, and the world took it
abbrev pub AreTaken : List Logged → NamedOpening → List Step → List Step → Type 0
AreTaken logs o before [] = Unit {0}
AreTaken logs o before (s ∷ ss) = IsNext logs before s × RisesBehind logs before s × Takes o (world_behind o before) s
    × AreTaken logs o (before ++ s ∷ []) ss

-- Behind steps that were taken, entry k of node a's log comes next, and isn't: its stamp doesn't rise, or the world
-- doesn't take it
pub record IsStuck (logs : List Logged) (o : NamedOpening) (a k : ℕ) : Type 0 where
  pub steps : List Step
  pub taken : AreTaken logs o [] steps
  pub step : Step
  pub next : IsNext logs steps step
  pub whose : step.node ≡ a
  pub place : k ≡ length (steps_of a steps)
  pub refused : RisesBehind logs steps step → Takes o (world_behind o steps) step → ⊥
