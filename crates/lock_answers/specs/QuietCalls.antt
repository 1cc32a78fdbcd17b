-- What a `set_lock` with no retries is answered in a quiet world. es: the events so far; w: the world that they made.
use mathlib.Core.Logic.{◌⊎◌}
use Rattle.std.specs.Prelude.{ℕ, true, false, ◌+◌, ◌≡◌, ◌<◌, Contains, List, ◌∷◌}
use Rattle.std.specs.List.{list_all}
use Rattle.registry_model.specs.Process.{Text, Process, Nodes}
use Rattle.registry_model.specs.Call.{Reply, True, False}
use Rattle.protocol_model.specs.Round.{is_empty}
use Rattle.protocol_model.specs.Letter.{Client}
use Rattle.protocol_model.specs.LockTable.{last_count}
use Rattle.protocol_model.specs.Node.{Node, Target, Times, targets}
use Rattle.protocol_model.specs.Event.{Call, Event, Answer}
use Rattle.protocol_model.specs.World.{Opening, WorldEvent, all_answers}
use Rattle.protocol_model.specs.ClientLocks.{holds_count, Holds}
use Rattle.leftovers.specs.Worlds.{Worlds, events_of, IsQuiet}

-- A lock is free for p at these nodes, and there is one: nobody holds its resource there under another requester, and p holds
-- it less often than can be
pub record IsFree (o : Opening) (es : List WorldEvent) (p : Process) (r z : Text) (asks : Nodes) : Type 0 where
  pub somebody : is_empty o.bound asks ≡ false
  pub others : (c : ℕ) (q : Process) (y : Text) → asks c ≡ true → Holds o es q (Client r y) c → y ≡ z
  pub room : (c : ℕ) → asks c ≡ true → holds_count o es p (Client r z) c < last_count

-- the reply is `true` where this is so, and else `false`
abbrev pub Tells : Type 0 → Reply → Type 0
Tells So reply = ((reply ≡ True) × So) ⊎ ((reply ≡ False) × (So → ⊥))

-- one of these answers is to call k of node a
pub record IsAnswerTo (a k : ℕ) (given : List Answer) (s : Answer) : Type 0 where
  pub listed : Contains given s
  pub node : s.node ≡ a
  pub number : s.number ≡ k

-- p calls for a lock, to be tried once
abbrev pub called_once : (W : Worlds) → Process → Text → Text → Target → W.Event
called_once W p r z target = W.at p.node (Event.Calling (Call.SetLock p r z target (Times 0)))

module _ (W : Worlds) (es : List W.Event) (w : W.World) where
  -- in a quiet world p makes such a call, and then letters are delivered
  pub record IsQuietCall (p : Process) (r z : Text) (target : Target) (ds : List W.Event) : Type 0 where
    pub quiet : IsQuiet W w
    pub accepted : W.Accepts w (called_once W p r z target)
    pub delivered : list_all W.is_delivery ds ≡ true

  abbrev home : Process → Node
  home p = (W.nodes w).node p.node

  -- what answers the call in these steps
  abbrev pub AnswersIt : Process → Text → Text → Target → List W.Event → Answer → Type 0
  AnswersIt p r z target ds s = IsAnswerTo p.node ((home p).last_call + 1)
      (all_answers W.opening (W.nodes w) (W.played w (called_once W p r z target ∷ ds))) s

  -- The call is answered `true` where the lock is free for p at the members that it asks, and else `false`, whichever letters
  -- are delivered in whatever order
  abbrev pub QuietCallsAreTold : Type 0
  QuietCallsAreTold = (p : Process) (r z : Text) (target : Target) (ds : List W.Event) → IsQuietCall p r z target ds →
      (s : Answer) → AnswersIt p r z target ds s →
      Tells (IsFree W.opening (events_of W es) p r z (targets (home p).replica.members target)) s.reply

  -- and once no letter waits again it has been answered
  abbrev pub QuietCallsAreAnswered : Type 0
  QuietCallsAreAnswered = (p : Process) (r z : Text) (target : Target) (ds : List W.Event) →
      IsQuietCall p r z target ds → IsQuiet W (W.run w (called_once W p r z target ∷ ds)) →
      (s : Answer) × AnswersIt p r z target ds s
