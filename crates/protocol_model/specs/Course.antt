-- What is seen of a world from outside: the events that it accepted, with what each brought, and what it shows now.
-- Here and in Fit, Answers, Headline and Check o is the opening, w a world, e an event or an entry, ps the steps so far
-- and p one of them, t and u how things stand before and behind it, s an answer, a to d, j, m and n nodes (j a joiner,
-- m its contact, d one that left), k the number of a call.
use Rattle.std.specs.Prelude.{ℕ, Bool, true, false, ◌≡◌, Option, is_none, flat_map, List, [], ◌∷◌, ◌++◌, if◌then◌else◌}
use Rattle.std.specs.List.{list_any}
use Rattle.registry_model.specs.Process.{Process, Nodes}
use Rattle.registry_model.specs.Registry.{Replica}
use Rattle.registry_model.specs.History.{Entry, Standing, standing_of}
use Rattle.protocol_model.specs.Letter.{Global, is_id, Letter, is_down}
use Rattle.protocol_model.specs.LockTable.{Locks}
use Rattle.protocol_model.specs.Watch.{is_dead}
use Rattle.protocol_model.specs.Event.{Answer, Refusal}
use Rattle.protocol_model.specs.World.{Opening, in_world, in_cluster, World, WorldEvent, Deliver, refusal, happens, answers, turn_of, holder}

-- an accepted event: its answers, what it added to the history, and whether it delivered a `Down`
pub record Played : Type 0 where
  pub event : WorldEvent
  pub answers : List Answer
  pub entries : List Entry
  pub down : Bool

-- what a world shows of itself; given c a: node c has given the global lock to a; dead p: p is dead at its node; refusal e:
-- why it would refuse e now, if it would; answers e: what it would answer in the step of e now
pub record Seen : Type 0 where
  pub history : List Entry
  pub node : ℕ → Replica
  pub given : ℕ → Nodes
  pub dead : Process → Bool
  pub holder : Option ℕ
  pub refusal : WorldEvent → Option Refusal
  pub answers : WorldEvent → List Answer

-- the history that these events made
abbrev pub entries_of : List Played → List Entry
entries_of ps = flat_map (λ p. p.entries) ps

-- how things stand behind these events
abbrev pub standing : Opening → List Played → Standing
standing o ps = standing_of (in_cluster o) (entries_of ps)

-- node a is of the world and hasn't left
abbrev pub IsRunning : Opening → Standing → ℕ → Type 0
IsRunning o t a = (in_world o a ≡ true) × (t.registry.left a ≡ false)

-- all answers, in order
abbrev pub answers_of : List Played → List Answer
answers_of ps = flat_map (λ p. p.answers) ps

-- the oldest letter is a `Down`
abbrev pub is_down_first : List Letter → Bool
is_down_first [] = false
is_down_first (l ∷ ls) = is_down l

-- the event delivers a `Down`
abbrev pub delivers_down : World → WorldEvent → Bool
delivers_down w (Deliver f t) = is_down_first (w.links.queue f t)
delivers_down w _ = false

-- what an accepted event brings
abbrev pub played : Opening → World → WorldEvent → Played
played o w e =
    record { event = e; answers = answers o w e; entries = (turn_of o w e).entries; down = delivers_down w e }

-- the accepted ones of these events
abbrev pub course : Opening → World → List WorldEvent → List Played
course o w [] = []
course o w (e ∷ es) = (if is_none (refusal o w e) then played o w e ∷ [] else []) ++ course o (happens o w e) es

-- to whom a node has given the global lock, by its lock table
abbrev pub global_given : Locks → Nodes
global_given locks a = list_any (λ g. is_id g.id (Global a)) locks

-- what a world shows
abbrev pub seen : Opening → World → Seen
seen o w = record {
  history = w.history;
  node = λ a. (w.node a).replica;
  given = λ c. global_given (w.node c).locks;
  dead = λ p. is_dead (w.node p.node).watch p.serial;
  holder = holder o w;
  refusal = refusal o w;
  answers = answers o w;
}
