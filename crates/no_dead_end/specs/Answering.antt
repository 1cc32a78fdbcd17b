-- A world that waits for nothing has answered its calls. ps: the accepted events, with what each brought; w: the world that they
-- made.
-- Up: which nodes run; a: a node; p: a process; k: the number of a call.
use Rattle.std.specs.Prelude.{ℕ, false, ◌-◌, ◌≡◌, ◌<◌, Contains, Some, List}
use Rattle.std.specs.List.{slice_get}
use Rattle.registry_model.specs.Process.{Text, Process}
use Rattle.registry_model.specs.Call.{Reply, True}
use Rattle.protocol_model.specs.Watch.{is_dead}
use Rattle.protocol_model.specs.Node.{Target}
use Rattle.protocol_model.specs.Event.{Call}
use Rattle.protocol_model.specs.World.{World}
use Rattle.protocol_model.specs.Course.{Played, answers_of}
use Rattle.protocol_model.specs.Fit.{Numbered, accepted_at}
use Rattle.protocol_model.specs.Answers.{answer_to, number_of, calls_at}
use Rattle.named_events.specs.Worlds.{Worlds, steps_of, IsQuiet, IsSettled}

-- call k of node a, which it accepted, is a `del_lock` of p
pub record IsDeletion (ps : List Played) (a k : ℕ) (p : Process) : Type 0 where
  pub resource : Text
  pub requester : Text
  pub target : Target
  pub positive : 0 < k
  pub accepted : slice_get (calls_at a ps) (k - 1) ≡ Some (Call.DelLock p resource requester target)

module _ (Up : ℕ → Type 0) (ps : List Played) where
  -- each `del_lock` is answered whose process isn't dead
  abbrev pub DeletionsAreAnswered : World → Type 0
  DeletionsAreAnswered w = (a k : ℕ) (p : Process) → Up a → IsDeletion ps a k p → is_dead (w.node a).watch p.serial ≡ false →
      Contains (answers_of ps) (answer_to a k True)

  -- each name call and each join is
  abbrev pub NameCallsAreAnswered : Type 0
  NameCallsAreAnswered = (a : ℕ) (call : Numbered) → Up a → Contains (accepted_at a ps) call →
      (reply : Reply) × Contains (answers_of ps) (answer_to a (number_of call) reply)

module _ (W : Worlds) (es : List W.Event) (w : W.World) where
  -- Once no letter waits each `del_lock` that a running node accepted has been answered, unless its process is dead
  abbrev pub QuietWorldsAnswer : Type 0
  QuietWorldsAnswer = IsQuiet W w → DeletionsAreAnswered (W.Runs w) (steps_of W es) (W.nodes w)

  -- Once no operation waits for a retry either, each name call and each join has
  abbrev pub SettledWorldsAnswer : Type 0
  SettledWorldsAnswer = IsSettled W w → NameCallsAreAnswered (W.Runs w) (steps_of W es)
