-- The steps of a node's loop.
use Rattle.std.specs.Prelude.{ℕ, false, ◌≡◌, ◌<◌, ◌+◌, ◌-◌, ◌^◌, ◌⊎◌, max, Option, None, Result, Ok, Err, List, [], ◌∷◌, ◌++◌, length, MatchResult}
use Rattle.std.specs.Option.{option_map}
use Rattle.node_log.specs.declared.Answer.{Answer}
use Rattle.node_log.specs.NodeEvents.{Event as NodeEvent}
use Rattle.node_log.specs.NodeEvents.TheVariants.{FromPeer}
use Rattle.node_log.specs.NodeEventsSeen.{fault_of, is_memory}
use Rattle.node_core.specs.CoreState.{CoreState}
use Rattle.node_core.specs.Made.{Made as Turn}
use Rattle.node_core.specs.Steps.{Steps, IsAsBefore, refusal_of}
use Rattle.node_log.specs.declared.LocalEvent.{LocalEvent}
use Rattle.node_log.specs.declared.WorldEvent.{WorldEvent}
use Rattle.node_log.specs.declared.WorldEvent.TheVariants.{At, Deliver}
use Rattle.node_log.specs.Events.{node_event}
use Rattle.node_log.specs.Entries.{SeatedEntry}
use Rattle.node_log.specs.Logs.{answered}
use Rattle.node_loop.specs.declared.item.Stamped.{Stamped}
use Rattle.node_loop.specs.declared.item.Ticket.{Ticket}
use Rattle.node_loop.specs.declared.fault.TurnFault.{TurnFault}
use Rattle.node_loop.specs.declared.fault.TurnFault.TheVariants.{StampsSpent, Memory}
use Rattle.node_loop.specs.declared.stepping.Tried.{Tried}
use Rattle.node_loop.specs.declared.stepping.Tried.TheVariants.{Made, Refused, Ended}
use Rattle.node_loop.specs.declared.waiting.Course.{Course}
use Rattle.node_loop.specs.declared.waiting.Course.TheVariants.{AtOnce}
use Rattle.node_loop.specs.Waiting.{course_of}
use Rattle.node_loop.specs.Desks.{Kept, Begins, settled}
use Rattle.node_loop.specs.Held.{Looping, with_letters, PutsSome}
use Rattle.node_loop.specs.declared.edit.Note.{Note}
use Rattle.node_loop.specs.Editions.{Notes}
use Rattle.node_loop.specs.Owing.{with_note, KeepsOwing}

-- What a step is made for: the event, as the core and the log have it, whose it is, how it is answered, and the stamp of
-- the letter that is read, or 0
pub record Cause : Type 0 where
  pub event : NodeEvent
  pub logged : WorldEvent
  pub own : Option Ticket
  pub course : Course
  pub seen : ℕ

-- an event of this node
abbrev pub by_event : Option Ticket → LocalEvent → Looping → Cause
by_event own e a = record {
  event = node_event e;
  logged = At a.core.name e;
  own = own;
  course = course_of e;
  seen = 0;
}

-- a letter from another
abbrev pub by_letter : ℕ → Stamped → Looping → Cause
by_letter from l a = record {
  event = FromPeer from l.letter;
  logged = Deliver from a.log.node;
  own = None;
  course = AtOnce;
  seen = l.stamp;
}

-- above the last step's and the letter's
abbrev pub stamp_of : Cause → Looping → ℕ
stamp_of k a = max a.stamp k.seen + 1

abbrev pub entry_of : Cause → Looping → List Answer → SeatedEntry
entry_of k a answers = record {
  stamp = stamp_of k a;
  seat = option_map (λ t. t.seat) k.own;
  event = k.logged;
  answers = answers;
}

-- the desk behind the step
abbrev pub desk_of : Cause → Looping → CoreState → List Answer → Kept
desk_of k a core answers = settled (stamp_of k a) k.course k.own core answers a.desk

-- what a step changes of what the node shows is noted, and owed as the last of so many steps besides what was owed
pub record IsNoted (k : Cause) (a b : Looping) : Type 0 where
  pub note : Note
  pub noted : Notes k.event note a.core
  pub owed : b.owed ≡ with_note note (length b.log.entries) a.owed

-- The core's step is made: its entry is last in the log, its letters are last in the tray, its answers are told, and what it changes is owed
-- to readers. Its stamp is one that there is
pub record Makes (k : Cause) (a b : Looping) : Type 0 where
  pub fits : stamp_of k a < 2 ^ 64
  pub turn : Turn
  pub step : Steps k.event a.core b.core turn
  pub log : b.log ≡ record a.log { entries = a.log.entries ++ entry_of k a turn.answers ∷ [] }
  pub stamp : b.stamp ≡ stamp_of k a
  pub tray : b.tray ≡ with_letters (stamp_of k a) turn.letters a.tray
  pub desk : b.desk ≡ desk_of k a b.core turn.answers
  pub noted : IsNoted k a b
  pub owing : KeepsOwing a b
  pub wait : b.wait ≡ a.wait
  pub world : b.world ≡ a.world
  pub left : b.left ≡ a.left
  pub worked : b.worked ≡ a.worked

-- the step isn't made, and nothing changed, as the protocol sees it
pub record Rests (a b : Looping) : Type 0 where
  pub core : IsAsBefore a.core b.core
  pub others : b ≡ record a { core = b.core }

-- The core's step is made and stands in the log, and what it changes is owed to readers. The first of its letters, if not all, are last
-- in the tray, and the first of those are told who are to be
pub record Begun (k : Cause) (due : CoreState → List Answer → Kept) (a b : Looping) : Type 0 where
  pub turn : Turn
  pub step : Steps k.event a.core b.core turn
  pub log : b.log ≡ record a.log { entries = a.log.entries ++ entry_of k a turn.answers ∷ [] }
  pub tray : PutsSome (stamp_of k a) turn.letters a.tray b.tray
  pub replies : Begins b.desk.replies (due b.core turn.answers).replies
  pub noted : IsNoted k a b
  pub owing : KeepsOwing a b

-- no stamp is left for a step: that would be above the greatest `u64`
abbrev pub IsSpent : Cause → Looping → Type 0
IsSpent k a = max a.stamp k.seen ≡ 2 ^ 64 - 1

-- The thread ends within a step. Where no stamp is left for it nothing changed. Where one is, memory was refused, before the step was
-- made or behind that
abbrev pub Ends : TurnFault → Cause → (CoreState → List Answer → Kept) → Looping → Looping → Type 0
Ends StampsSpent k due a b = IsSpent k a × (b ≡ a)
Ends Memory k due a b = (IsSpent k a → ⊥) × (Rests a b ⊎ Begun k due a b)

-- what comes of a turn: the thread goes on, or ends for this cause
abbrev pub Outcome : Type 0
Outcome = Result (Unit {0}) TurnFault

-- a step is made, or the thread ends within it
abbrev pub Goes : Cause → Looping → Outcome → Looping → Type 0
Goes k a (Ok _) b = Makes k a b
Goes k a (Err why) b = Ends why k (desk_of k a) a b

-- so, or the core refuses the event and nothing changes
abbrev pub Tries : Option Ticket → LocalEvent → Looping → Tried → Looping → Type 0
Tries own e a Made b = Makes (by_event own e a) a b × (b.owed ≡ a.owed)
Tries own e a (Refused fault) b =
    (b ≡ a) × (is_memory fault ≡ false) × (refusal_of (node_event e) a.core ≡ fault_of fault)
Tries own e a (Ended why) b = Ends why (by_event own e a) (desk_of (by_event own e a) a) a b

-- behind a step that was logged without its answers
pub record Concludes {E : Type 0} (given : ℕ) (own : Option Ticket) (course : Course) (turn : Turn) (a : Looping) (result : Result (Unit {0}) E) (b : Looping) : Type 0 where
  pub core : b.core ≡ a.core
  pub world : b.world ≡ a.world
  pub log : b.log ≡ record a.log { entries = answered turn.answers a.log.entries }
  pub stamp : b.stamp ≡ given
  pub owed : b.owed ≡ a.owed
  pub wait : b.wait ≡ a.wait
  pub left : b.left ≡ a.left
  pub worked : b.worked ≡ a.worked
  pub told : MatchResult result
      (λ _. (b.desk ≡ settled given course own a.core turn.answers a.desk) × (b.tray ≡ with_letters given turn.letters a.tray))
      (λ _. Begins b.desk.replies (settled given course own a.core turn.answers a.desk).replies
      × PutsSome given turn.letters a.tray b.tray)
