-- The headline: all answers to name calls and joins are those of one sequential registry that takes the granted operations
-- in lock order, and whenever the lock is free, the replicas are that registry's.
use mathlib.Core.Logic.{◌⊎◌}
use Rattle.std.specs.Prelude.{ℕ, true, ◌==◌, ◌≡◌, IsTrue, Contains, fold, Some, None, option_map, filter, flat_map, List, [], ◌∷◌, ◌++◌, if◌then◌else◌}
use Rattle.registry_model.specs.Call.{Look, Yes, Joined, Pid, seen_in}
use Rattle.registry_model.specs.Process.{Process}
use Rattle.registry_model.specs.Registry.{Registry, in_group, replica_of}
use Rattle.registry_model.specs.History.{Entry, Standing, is_free, is_holding, old, after}
use Rattle.registry_model.specs.HistoryLaws.{decided_by}
use Rattle.registry_model.specs.Legal.{IsLegal}
use Rattle.protocol_model.specs.Event.{Call, Event, Answer, HoldsLock}
use Rattle.protocol_model.specs.World.{Opening, in_cluster, At}
use Rattle.protocol_model.specs.Course.{Played, Seen, entries_of}
pub use Rattle.protocol_model.specs.Course.{standing, IsRunning}
use Rattle.protocol_model.specs.Fit.{IsPrefix, IsMadeIn, Fits}
use Rattle.protocol_model.specs.Answers.{answer_to, answers_at, entered_at, is_unnumbered, AnswersInTime, LooksUpOnce, IsNextProcess, AnswersCalls, JoinerIsAnswered}
use Rattle.protocol_model.specs.Refusals.{MayLookUp, SaysWhy}

-- node a shows all that the registry has for it: its table, its members, whom it was told has left, whether it is joined, and what
-- its processes were sent
abbrev pub Shows : Registry → ℕ → Seen → Type 0
Shows r a now = now.node a ≡ replica_of r a

-- all running nodes of the group of a show the registry
abbrev pub GroupShows : Opening → Standing → ℕ → Seen → Type 0
GroupShows o t a now = (c : ℕ) → in_group t.registry a c ≡ true → IsRunning o t c → Shows t.registry c now

-- every running node of the group of a has given the global lock to a, and to no other
abbrev pub HasTheLock : Opening → Standing → ℕ → Seen → Type 0
HasTheLock o t a now = (c b : ℕ) → in_group t.registry a c ≡ true → IsRunning o t c → now.given c b ≡ (b == a)

-- where the last of these steps decides an operation, its node has the global lock behind it; the group is that before the entry
abbrev pub DecidedUnderLock : Opening → List Played → Seen → Type 0
DecidedUnderLock o ps now = (before : List Played) (p : Played) (earlier later : List Entry) (e : Entry) (a : ℕ) →
    ps ≡ before ++ p ∷ [] → p.entries ≡ earlier ++ e ∷ later → decided_by e ≡ Some a →
    HasTheLock o (fold after (standing o before) earlier) a now

-- each event of a course, behind those before it
abbrev pub EachStep : List Played → (List Played → Played → Type 0) → Type 0
EachStep ps P = (before : List Played) (p : Played) (later : List Played) → ps ≡ before ++ p ∷ later → P before p

-- What stands after the accepted events ps of a world that opened so, where `now` is seen of it
pub record Headline (o : Opening) (ps : List Played) (now : Seen) : Type 0 where
  -- the history is what the events added, each at its end; it is legal, and fits them
  pub history : now.history ≡ entries_of ps
  pub legal : IsLegal (in_cluster o) now.history
  pub fits : Fits ps
  -- at each node the answers to its name and join calls are those of its entries, in their order, each once
  pub replies : (a : ℕ) → IsPrefix (answers_at a ps) (flat_map (entered_at a) (entries_of ps))
  -- they come in time
  pub in_time : EachStep ps (λ before p. AnswersInTime (standing o before) p (fold after (standing o before) p.entries))
  -- each entry is made by the node of its step, and by a letter where it needs one
  pub made : (p : Played) (e : Entry) → Contains ps p → Contains p.entries e → IsMadeIn p e
  -- where the last step decides an operation, its node has the global lock behind it
  pub decided : DecidedUnderLock o ps now
  -- a look-up is entered once and answered once
  pub looks : (p : Played) → Contains ps p → LooksUpOnce p
  -- and it is answered what its node shows; that of notices, where the process was spawned
  pub reads : (a : ℕ) (look : Look) → IsRunning o (standing o ps) a → MayLookUp ps a look →
      filter is_unnumbered (now.answers (At a (Event.Calling (Call.LookUp look))))
      ≡ answer_to a 0 (seen_in (now.node a) look) ∷ []
  -- a `spawn` gives the next process
  pub spawns : (a : ℕ) (q : Process) → Contains (now.answers (At a (Event.Calling Call.Spawn))) (answer_to a 0 (Pid q)) →
      IsNextProcess ps now.dead a q
  -- who was let exit is dead from that step on
  pub exited : (p : Played) (a : ℕ) (q : Process) → Contains ps p → p.event ≡ At a (Event.Exiting q) → now.dead q ≡ true
  -- each numbered call is answered at most once, by a reply that it may have
  pub answered : AnswersCalls ps
  -- where a step ends an admission, its joiner was answered `joined`, or has left
  pub joiner : EachStep ps (λ before p. JoinerIsAnswered before (standing o before) p)
  -- while no operation of its group holds, a running node shows the registry
  pub free : (a : ℕ) → IsRunning o (standing o ps) a → IsTrue (is_free (standing o ps) a) → Shows (standing o ps).registry a now
  -- while one holds, it shows the registry with or without that operation
  pub held : (a : ℕ) → IsRunning o (standing o ps) a →
      Shows (standing o ps).registry a now ⊎ Shows (old (standing o ps) a) a now
  -- in a step that answers `yes`, every running node of that group has carried out the write
  pub written : (before : List Played) (p : Played) (s : Answer) → ps ≡ before ++ p ∷ [] → Contains p.answers s → s.reply ≡ Yes →
      GroupShows o (standing o ps) s.node now
  -- in a step that answers `joined` the joiner shows the registry
  pub welcomed : (before : List Played) (p : Played) (s : Answer) → ps ≡ before ++ p ∷ [] → Contains p.answers s →
      s.reply ≡ Joined → Shows (standing o ps).registry s.node now
  -- a leave is refused exactly while an operation of that node holds
  pub leave : (a : ℕ) → IsRunning o (standing o ps) a →
      now.refusal (At a Event.Leave) ≡ (if is_holding (standing o ps) a then Some HoldsLock else None)
  -- each refusal stands for its reason
  pub refusals : SaysWhy o ps now
  -- the holder is the node of the operation that holds in the cluster
  pub holder : now.holder ≡ option_map (λ h. h.node) (standing o ps).held
