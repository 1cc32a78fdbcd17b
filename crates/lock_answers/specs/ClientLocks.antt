-- Clients' locks, in one record. es: the events so far; w: the world that they made; p: a process.
use Rattle.std.specs.Prelude.{true, false, ◌||◌, ◌≡◌, Some, None, List, []}
use Rattle.registry_model.specs.Process.{Process}
use Rattle.protocol_model.specs.World.{WorldEvent, refusal}
use Rattle.protocol_model.specs.Course.{standing, seen}
use Rattle.protocol_model.specs.Answers.{answers_under}
use Rattle.protocol_model.specs.ClientLocks.{waits_for_retry, is_no_more}
use Rattle.protocol_model.specs.LockAnswers.{Tries, tries_of, WaitsForRetry, LockAnswers}
use Rattle.leftovers.specs.Worlds.{Worlds, events_of, steps_of, IsQuiet, Excludes}
use Rattle.lock_answers.specs.QuietCalls.{QuietCallsAreTold, QuietCallsAreAnswered}

module _ (W : Worlds) (es : List W.Event) (w : W.World) where
  -- Who waits for a retry and who is no more, which tries and numbers read of the world, is as it is seen
  pub record ReadsTheSeen : Type 0 where
    -- of a process that waits for a retry
    pub refused : (p : Process) → waits_for_retry (W.nodes w) p ≡ true →
        WaitsForRetry W.opening (events_of W es) (W.nodes w) p
    -- in a quiet world a process that is still there waits for a retry, unless its last `set_lock` is answered
    pub waits : (p : Process) (t : Tries) → IsQuiet W w → is_no_more (W.nodes w) p ≡ false →
        tries_of W.opening (events_of W es) p ≡ Some t → answers_under p.node t.last.number (steps_of W es) ≡ [] →
        waits_for_retry (W.nodes w) p ≡ true
    -- a process is no more where its node has left, by the history, or shows that it is dead
    pub gone : (p : Process) → is_no_more (W.nodes w) p
        ≡ ((standing W.opening (steps_of W es)).registry.left p.node || (seen W.opening (W.nodes w)).dead p)

  -- Clients' locks exclude each other, they are counted by what is seen, and so is answered in the step of each event that the world
  -- of nodes would accept now; where the world is quiet, a `set_lock` with no retries is answered as the lock is free
  pub record ClientLocks : Type 0 where
    pub exclusion : Excludes W es w
    pub reads : ReadsTheSeen
    pub answers : (e : WorldEvent) → refusal W.opening (W.nodes w) e ≡ None →
        LockAnswers W.opening (events_of W es) (W.nodes w) e
    pub quiet : QuietCallsAreTold W es w
    pub answered : QuietCallsAreAnswered W es w
