-- The logs of nodes, merged into one run.
use Rattle.std.specs.Prelude.{ℕ, zero, suc, Bool, true, false, ◌≡◌, ◌==◌, ◌<◌, ◌&&◌, ◌||◌, nat_lt, Option, Some, None, map, filter, length, List, [], ◌∷◌, ◌++◌}
use Rattle.std.specs.List.{slice_get}
use Rattle.protocol_model.specs.World.{Opening, World, WorldEvent, place, refusal, happens, answers, opening_world, run}
use Rattle.closings.specs.Alone.{LogEntry}

-- a step: whose it is, and its entry in that node's log
pub record Step : Type 0 where
  pub node : ℕ
  pub entry : LogEntry

-- the entries of node a among these steps, in order
abbrev pub steps_of : ℕ → List Step → List LogEntry
steps_of a ss = map (λ s. s.entry) (filter (λ s. s.node == a) ss)

-- what node a's log has next, behind these steps
abbrev pub next_of : ℕ → (ℕ → List LogEntry) → List Step → Option LogEntry
next_of a logs ss = slice_get (logs a) (length (steps_of a ss))

-- steps are ordered by their stamps, and those of one stamp by their nodes
abbrev pub is_before : Step → Step → Bool
is_before s t = nat_lt s.entry.stamp t.entry.stamp || ((s.entry.stamp == t.entry.stamp) && nat_lt s.node t.node)

-- each step is before the next
abbrev pub IsInOrder : List Step → Type 0
IsInOrder [] = Unit {0}
IsInOrder (s ∷ []) = Unit {0}
IsInOrder (s ∷ t ∷ ss) = (is_before s t ≡ true) × IsInOrder (t ∷ ss)

-- in order, each node's steps are those of its log
pub record IsMerged (logs : ℕ → List LogEntry) (ss : List Step) : Type 0 where
  pub order : IsInOrder ss
  pub whole : (a : ℕ) → steps_of a ss ≡ logs a

-- behind these steps this one comes next: it is the next of its node's log, and no log has an earlier one
pub record IsNext (logs : ℕ → List LogEntry) (ss : List Step) (s : Step) : Type 0 where
  pub head : next_of s.node logs ss ≡ Some s.entry
  pub least : (t : Step) → next_of t.node logs ss ≡ Some t.entry → is_before t s ≡ false

-- behind the steps before, each of these came next
abbrev pub AreNext : (ℕ → List LogEntry) → List Step → List Step → Type 0
AreNext logs before [] = Unit {0}
AreNext logs before (s ∷ ss) = IsNext logs before s × AreNext logs (before ++ s ∷ []) ss

-- the stamp of entry k of this log is above that of the entry before it, if there is one
abbrev pub Rises : List LogEntry → ℕ → Type 0
Rises es zero = Unit {0}
Rises es (suc k) = (d e : LogEntry) → slice_get es k ≡ Some d → slice_get es (suc k) ≡ Some e → d.stamp < e.stamp

-- behind these steps the stamp of this one rises in its log
abbrev pub RisesBehind : (ℕ → List LogEntry) → List Step → Step → Type 0
RisesBehind logs ss s = Rises (logs s.node) (length (steps_of s.node ss))

-- the event of a step
abbrev pub happening : Step → WorldEvent
happening s = s.entry.event

-- the events of steps
abbrev pub events_in : List Step → List WorldEvent
events_in ss = map happening ss

-- what a world that opened so is behind these steps
abbrev pub world_behind : Opening → List Step → World
world_behind o ss = run o (opening_world o) (events_in ss)

-- the world takes the step: its event is one of its own node, it is accepted, and it is answered just as the log has it
pub record Takes (o : Opening) (w : World) (s : Step) : Type 0 where
  pub own : place (happening s) ≡ s.node
  pub accepted : refusal o w (happening s) ≡ None
  pub answers : s.entry.answers ≡ answers o w (happening s)

-- it takes these steps, one after the other
abbrev pub TakesAll : Opening → World → List Step → Type 0
TakesAll o w [] = Unit {0}
TakesAll o w (s ∷ ss) = Takes o w s × TakesAll o (happens o w (happening s)) ss
