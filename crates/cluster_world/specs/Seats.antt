-- What is played for a call at a lock holder's seat, and what answers the call.
use Rattle.std.specs.Prelude.{ℕ, zero, suc, Bool, true, false, ◌+◌, ◌==◌, ◌&&◌, ◌≡◌, ◌≤◌, ◌⊎◌, Option, Some, None, is_some, List, [], ◌∷◌, ◌++◌, map, Result, Ok, Err, if◌then◌else◌}
use Rattle.registry_model.specs.Process.{Process}
use Rattle.registry_model.specs.Call.{Reply as AnyReply, True, False}
use Rattle.protocol_model.specs.Event.{Event as AnyEvent, Answer as AnyAnswer}
use Rattle.protocol_model.specs.World.{World}
use Rattle.getting_through.specs.NodeNames.{NamedOpening}
use Rattle.getting_through.specs.NamedWorld.{NamedWorld, NamedEvent, named_refusal, happens_named, named_answers}
use Rattle.getting_through.specs.NamedScript.{next_named}
use Rattle.transaction.specs.Calls.{is_named}
use Rattle.transaction.specs.declared.reply.LockReply.{LockReply}
use Rattle.node_core.specs.declared.Answer.{Answer}
use Rattle.node_core.specs.declared.Call.{Call}
use Rattle.node_core.specs.declared.Call.TheVariants.{SetLock, DelLock}
use Rattle.node_core.specs.NodeEventsSeen.{answer_of, call_of}
use Rattle.world_events.specs.declared.events.LocalEvent.TheVariants.{Call as Calls}
use Rattle.world_events.specs.declared.events.WorldEvent.{WorldEvent}
use Rattle.world_events.specs.declared.events.WorldEvent.TheVariants.{At}
use Rattle.cluster_world.specs.declared.seat.WorldSeat.{WorldSeat}
use Rattle.cluster_world.specs.declared.seat.WorldSeatFault.{WorldSeatFault}
use Rattle.cluster_world.specs.declared.seat.WorldSeatFault.TheVariants.{Refused, NoMemory, NoAnswer}
use Rattle.cluster_world.specs.WorldState.{WorldState}
use Rattle.world_events.specs.declared.refusal.Refusal.{Refusal}
use Rattle.world_events.specs.Events.{named_event}
use Rattle.world_events.specs.Refusals.{is_memory, out_of_memory}
use Rattle.cluster_world.specs.Seen.{names_of, seen, named}
use Rattle.cluster_world.specs.Playing.{Played, RefusedWith, WentThrough, events_of}
use Rattle.cluster_world.specs.Agreeing.{Agrees}
use Rattle.cluster_world.specs.Locks.{LocksBehind}
use Rattle.cluster_world.specs.Leftovers.{LeavesNothing}
use Rattle.cluster_world.specs.Counting.{Counts}
use Rattle.term.specs.declared.limits.TheConstants.{MOST_EVENTS}

-- whether a lock call is granted, where this is a reply to one
abbrev pub verdict_of : AnyReply → Option Bool
verdict_of True = Some true
verdict_of False = Some false
verdict_of _ = None

-- whether call k of node a is granted, where this is the answer to it
abbrev pub verdict_to : ℕ → ℕ → AnyAnswer → Option Bool
verdict_to a k s = if (s.node == a) && (s.number == k) then verdict_of s.reply else None

-- the first such verdict among these answers
abbrev pub verdict_in : ℕ → ℕ → List AnyAnswer → Option Bool
verdict_in a k [] = None
verdict_in a k (s ∷ ss) = elim (verdict_to a k s) [ None ↦ verdict_in a k ss | Some granted ↦ Some granted ]

-- the number of the next numbered call of node a
abbrev pub next_number : ℕ → World → ℕ
next_number a w = (w.node a).last_call + 1

-- what a call of node a waits for: the delivery that `settle` makes next, and where all links are empty a retry of its
-- node
abbrev pub next_for : NamedOpening → ℕ → NamedWorld → NamedEvent
next_for o a w = elim (next_named o w) [ None ↦ NamedEvent.AtNode a AnyEvent.Retry | Some e ↦ e ]

-- it was played, and gave these answers
pub record PlaysNext (a : ℕ) (old new : WorldState) (given : List Answer) : Type 0 where
  pub event : WorldEvent
  pub next : named_event event ≡ next_for (names_of old) a (named old)
  pub played : Played event old new [] given

-- or it was refused
pub record RefusesNext (a : ℕ) (old : WorldState) (why : Refusal) : Type 0 where
  pub event : WorldEvent
  pub next : named_event event ≡ next_for (names_of old) a (named old)
  pub refused : RefusedWith why event old

-- that again and again, until call k is answered or that is refused; at most this many
abbrev pub awaiting : NamedOpening → ℕ → ℕ → ℕ → NamedWorld → List NamedEvent
awaiting o a k zero w = []
awaiting o a k (suc most) w =
    if is_some (named_refusal o w (next_for o a w))
    then []
    else next_for o a w ∷ (if is_some (verdict_in a k (named_answers o w (next_for o a w)))
    then []
    else awaiting o a k most (happens_named o w (next_for o a w)))

-- an event that makes call k of node a, and then what is played until that is answered; at most this many
abbrev pub until_answered : NamedOpening → ℕ → ℕ → ℕ → NamedWorld → NamedEvent → List NamedEvent
until_answered o a k most w e =
    e ∷ (if is_some (verdict_in a k (named_answers o w e)) then [] else awaiting o a k most (happens_named o w e))

-- these events, at most so many, were played while call k of node a wasn't answered, and this is what it was answered
-- then, if it was
pub record Waited (a k most : ℕ) (old new : WorldState) (verdict : Option Bool) : Type 0 where
  pub events : List WorldEvent
  pub given : List Answer
  pub played : WentThrough events old new [] given
  pub are : events_of events ≡ awaiting (names_of old) a k most (named old)
  pub answered : verdict_in a k (map answer_of given) ≡ verdict

-- what waiting comes to; where memory is refused, the events until then were played
abbrev pub HasWaited : ℕ → ℕ → WorldState → WorldState → Result Bool WorldSeatFault → Type 0
HasWaited a k old new (Ok granted) = Waited a k MOST_EVENTS old new (Some granted)
HasWaited a k old new (Err NoAnswer) = Waited a k MOST_EVENTS old new None
HasWaited a k old new (Err (Refused r)) =
    (r ≡ out_of_memory) × (most : ℕ) × (most ≤ MOST_EVENTS) × Waited a k most old new None
HasWaited a k old new (Err NoMemory) = ⊥

-- A call was accepted at node a and played, and then what it waits for, at most so many events. This is what it was
-- answered, if it was, the headline and the laws of locks hold and nothing is left over behind all that was played, and a
-- lock call counts
pub record Called (a : ℕ) (c : Call) (most : ℕ) (old new : WorldState) (verdict : Option Bool) : Type 0 where
  pub events : List WorldEvent
  pub given : List Answer
  pub played : WentThrough events old new [] given
  pub are : events_of events ≡ until_answered (names_of old) a (next_number a (seen old)) most (named old)
      (NamedEvent.AtNode a (AnyEvent.Calling (call_of c)))
  pub answered : verdict_in a (next_number a (seen old)) (map answer_of given) ≡ verdict
  pub agrees : Agrees events given old new
  pub locks : LocksBehind events old new
  pub leaves_nothing : LeavesNothing events old new
  pub counts : Counts (call_of c) verdict events old new

-- whether a lock call names the nodes that it asks
abbrev pub names_nodes : Call → Bool
names_nodes (SetLock p id nodes retries) = is_named nodes
names_nodes (DelLock p id nodes) = is_named nodes
names_nodes _ = false

-- why the world refuses an event, if it does; where it has nothing against it, only memory may be refused
abbrev pub IsWhyRefused : Option Refusal → WorldEvent → WorldState → Type 0
IsWhyRefused None e old = RefusedWith out_of_memory e old
IsWhyRefused (Some r) e old = RefusedWith r e old

-- why a call isn't played that there was no memory to make, by why the world refuses it, if it does
abbrev pub unmade : Option Refusal → WorldSeatFault
unmade None = NoMemory
unmade (Some r) = Refused r

-- memory was refused before a call of node a was played, and nothing was; or while it waits, and what was played until then
-- stands
abbrev pub HasBegun : ℕ → Call → WorldState → WorldState → Type 0
HasBegun a c old new =
    (named new ≡ named old) ⊎ ((most : ℕ) × (most ≤ MOST_EVENTS) × Called a c most old new None)

-- an event wasn't played: the world refused it, which changes nothing, or memory was refused
abbrev pub IsUnplayed : WorldEvent → WorldState → WorldState → WorldSeatFault → Type 0
IsUnplayed e old new (Refused r) = RefusedWith r e old × (is_memory r ≡ false → new ≡ old) × (named new ≡ named old)
IsUnplayed e old new _ = ⊥

-- why a call got no reply: it was refused as the protocol refuses it, which changes nothing; or it was accepted, and
-- memory was refused; or it names nodes and there was no memory to make it, and the world had nothing against it; or no
-- answer came
abbrev pub Unanswered : ℕ → Call → WorldState → WorldState → WorldSeatFault → Type 0
Unanswered a c old new (Refused r) =
    RefusedWith r (At a (Calls c)) old × (is_memory r ≡ false → new ≡ old)
    × (is_memory r ≡ true → HasBegun a c old new)
Unanswered a c old new NoMemory = (new ≡ old) × (names_nodes c ≡ true) × RefusedWith out_of_memory (At a (Calls c)) old
Unanswered a c old new NoAnswer = Called a c MOST_EVENTS old new None

-- what a `set_lock` comes to
abbrev pub SetsLock : ℕ → Call → WorldState → WorldState → Result Bool WorldSeatFault → Type 0
SetsLock a c old new (Ok granted) = Called a c MOST_EVENTS old new (Some granted)
SetsLock a c old new (Err fault) = Unanswered a c old new fault

-- what a `del_lock` comes to
abbrev pub DeletesLock : ℕ → Call → WorldState → WorldState → Result Unit WorldSeatFault → Type 0
DeletesLock a c old new (Ok _) = (granted : Bool) × Called a c MOST_EVENTS old new (Some granted)
DeletesLock a c old new (Err fault) = Unanswered a c old new fault

-- whose seat it is, and the replies to its calls so far
abbrev pub holder_of : {N M : Type 0} → WorldSeat N M → Process
holder_of s = s.holder

abbrev pub replies_of : {N M : Type 0} → WorldSeat N M → List LockReply
replies_of s = s.replies.items

-- behind a call the seat is the same holder's over the same world, with these replies more
pub record Grows {N M : Type 0} (s t : WorldSeat N M) (more : List LockReply) : Type 0 where
  pub replies : replies_of t ≡ replies_of s ++ more
  pub holder : holder_of t ≡ holder_of s
  pub same_world : t.world.ghost_name ≡ s.world.ghost_name
