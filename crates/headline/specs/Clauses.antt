-- The clauses of the headline, each by itself, of every opening and every list of events.
use mathlib.Core.Logic.{◌⊎◌}
use Rattle.std.specs.Prelude.{ℕ, true, ◌≡◌, IsTrue, Contains, fold, Some, None, option_map, filter, flat_map, List, [], ◌∷◌, ◌++◌, if◌then◌else◌}
use Rattle.registry_model.specs.Process.{Process}
use Rattle.registry_model.specs.Call.{Look, Yes, Joined, Pid, seen_in}
use Rattle.registry_model.specs.History.{Entry, Standing, is_free, is_holding, old, after}
use Rattle.registry_model.specs.Legal.{IsLegal}
use Rattle.protocol_model.specs.Event.{Call, Event, Answer, HoldsLock}
use Rattle.protocol_model.specs.World.{Opening, in_cluster, World, WorldEvent, At, opening_world, run}
use Rattle.protocol_model.specs.Course.{Played, Seen, entries_of, course, seen}
use Rattle.protocol_model.specs.Fit.{IsPrefix, IsMadeIn, Fits}
use Rattle.protocol_model.specs.Answers.{answer_to, answers_at, entered_at, is_unnumbered, AnswersInTime, LooksUpOnce, IsNextProcess, AnswersCalls, JoinerIsAnswered}
use Rattle.protocol_model.specs.Refusals.{MayLookUp, SaysWhy}
use Rattle.protocol_model.specs.Headline.{standing, Shows, IsRunning, GroupShows, DecidedUnderLock, EachStep}

module _ (o : Opening) (es : List WorldEvent) where
  -- the world after these events, what is seen of it, the events that it accepted, and what their history comes to
  abbrev pub world : World
  world = run o (opening_world o) es

  abbrev pub now : Seen
  now = seen o world

  abbrev pub events : List Played
  events = course o (opening_world o) es

  abbrev pub so_far : Standing
  so_far = standing o events

-- it holds behind all events, of worlds of nodes
abbrev pub Always : (Opening → List WorldEvent → World → Type 0) → Type 0
Always Law = (o : Opening) (es : List WorldEvent) → Law o es (world o es)

-- the history grows at its end only, event by event
abbrev pub HistoryGrows : Type 0
HistoryGrows = (o : Opening) (es : List WorldEvent) → (now o es).history ≡ entries_of (events o es)

-- it is legal: the protocol is one sequential registry
abbrev pub HistoryIsLegal : Type 0
HistoryIsLegal = (o : Opening) (es : List WorldEvent) → IsLegal (in_cluster o) (now o es).history

-- it fits the events
abbrev pub HistoryFits : Type 0
HistoryFits = (o : Opening) (es : List WorldEvent) → Fits (events o es)

-- at each node the answers to its name calls and joins are those of its entries, in their order, each once
abbrev pub AnswersAreEntries : Type 0
AnswersAreEntries = (o : Opening) (es : List WorldEvent) (a : ℕ) →
    IsPrefix (answers_at a (events o es)) (flat_map (entered_at a) (entries_of (events o es)))

-- in each step they come in time
abbrev pub AnswersComeInTime : Type 0
AnswersComeInTime = (o : Opening) (es : List WorldEvent) →
    EachStep (events o es) (λ before p. AnswersInTime (standing o before) p (fold after (standing o before) p.entries))

-- each entry is made by the node of its step; what is decided, refused or done is so by a letter
abbrev pub EntriesAreMadeAtHome : Type 0
EntriesAreMadeAtHome = (o : Opening) (es : List WorldEvent) (p : Played) (e : Entry) → Contains (events o es) p
    → Contains p.entries e → IsMadeIn p e

-- where a step decides an operation, every running node of the group has given the global lock to its node, and to no other
abbrev pub IsDecidedUnderLock : Type 0
IsDecidedUnderLock = (o : Opening) (es : List WorldEvent) → DecidedUnderLock o (events o es) (now o es)

-- a look-up is entered once and answered once, with the reply of its entry
abbrev pub EachLookUpOnce : Type 0
EachLookUpOnce = (o : Opening) (es : List WorldEvent) (p : Played) → Contains (events o es) p → LooksUpOnce p

-- a look-up is answered what its node shows; that of notices, where the process was spawned
abbrev pub LookUpsReadTheTable : Type 0
LookUpsReadTheTable = (o : Opening) (es : List WorldEvent) (a : ℕ) (look : Look) → IsRunning o (so_far o es) a →
    MayLookUp (events o es) a look →
    filter is_unnumbered ((now o es).answers (At a (Event.Calling (Call.LookUp look))))
    ≡ answer_to a 0 (seen_in ((now o es).node a) look) ∷ []

-- a `spawn` gives the next process
abbrev pub SpawnsGiveTheNext : Type 0
SpawnsGiveTheNext = (o : Opening) (es : List WorldEvent) (a : ℕ) (q : Process) →
    Contains ((now o es).answers (At a (Event.Calling Call.Spawn))) (answer_to a 0 (Pid q)) →
    IsNextProcess (events o es) (now o es).dead a q

-- who was let exit is dead from that step on
abbrev pub ExitsKillAtOnce : Type 0
ExitsKillAtOnce = (o : Opening) (es : List WorldEvent) (p : Played) (a : ℕ) (q : Process) → Contains (events o es) p →
    p.event ≡ At a (Event.Exiting q) → (now o es).dead q ≡ true

-- each numbered call is answered at most once, at its node and by a reply that it may have
abbrev pub CallsAreAnsweredOnce : Type 0
CallsAreAnsweredOnce = (o : Opening) (es : List WorldEvent) → AnswersCalls (events o es)

-- where a step ends an admission, its joiner was answered `joined` before, or has left
abbrev pub JoinersAreAnswered : Type 0
JoinersAreAnswered = (o : Opening) (es : List WorldEvent) →
    EachStep (events o es) (λ before p. JoinerIsAnswered before (standing o before) p)

-- while no operation of its group holds, a running node shows the registry
abbrev pub ShowsWhenFree : Type 0
ShowsWhenFree = (o : Opening) (es : List WorldEvent) (a : ℕ) → IsRunning o (so_far o es) a
    → IsTrue (is_free (so_far o es) a) →
    Shows (so_far o es).registry a (now o es)

-- while one holds, with that operation or without it
abbrev pub ShowsWhenHeld : Type 0
ShowsWhenHeld = (o : Opening) (es : List WorldEvent) (a : ℕ) → IsRunning o (so_far o es) a →
    Shows (so_far o es).registry a (now o es) ⊎ Shows (old (so_far o es) a) a (now o es)

-- in a step that answers `yes`, every running node of the group shows the registry
abbrev pub YesIsWritten : Type 0
YesIsWritten = (o : Opening) (es : List WorldEvent) (before : List Played) (p : Played) (s : Answer) →
    events o es ≡ before ++ p ∷ [] → Contains p.answers s → s.reply ≡ Yes → GroupShows o (so_far o es) s.node (now o es)

-- in a step that answers `joined` the joiner shows the registry
abbrev pub JoinedIsWelcomed : Type 0
JoinedIsWelcomed = (o : Opening) (es : List WorldEvent) (before : List Played) (p : Played) (s : Answer) →
    events o es ≡ before ++ p ∷ [] → Contains p.answers s → s.reply ≡ Joined → Shows (so_far o es).registry s.node (now o es)

-- a leave is refused exactly while an operation of that node holds
abbrev pub LeaveWaits : Type 0
LeaveWaits = (o : Opening) (es : List WorldEvent) (a : ℕ) → IsRunning o (so_far o es) a →
    (now o es).refusal (At a Event.Leave) ≡ (if is_holding (so_far o es) a then Some HoldsLock else None)

-- each refusal stands for its reason
abbrev pub RefusalsInWords : Type 0
RefusalsInWords = (o : Opening) (es : List WorldEvent) → SaysWhy o (events o es) (now o es)

-- the holder of the lock is the node of the operation that holds in the cluster
abbrev pub HolderHolds : Type 0
HolderHolds = (o : Opening) (es : List WorldEvent) → (now o es).holder ≡ option_map (λ h. h.node) (so_far o es).held
