-- Clients' locks: how often a process holds a lock at a node, as events and answers tell it.
use Rattle.std.specs.Prelude.{ℕ, Bool, true, false, ◌&&◌, ◌||◌, ◌==◌, ◌+◌, ◌-◌, ◌≡◌, ◌<◌, Option, Some, None, is_none, List, [], ◌∷◌, if◌then◌else◌}
use Rattle.std.specs.List.{list_any}
use Rattle.registry_model.specs.Process.{Text, Process, is_process, Nodes}
use Rattle.registry_model.specs.Call.{True, is_reply}
use Rattle.protocol_model.specs.Letter.{Id, Client, is_id}
use Rattle.protocol_model.specs.Watch.{is_dead}
use Rattle.protocol_model.specs.Node.{Target, call_of, targets}
use Rattle.protocol_model.specs.Event.{Call, Event, Answer, is_waiting_call}
use Rattle.protocol_model.specs.World.{Opening, in_world, World, left, WorldEvent, At, opening_world, refusal, happens, answers}

-- a try of a `set_lock`: the number and the id of the call, whom it names, and the nodes that this try has to ask
pub record Try : Type 0 where
  pub number : ℕ
  pub id : Id
  pub target : Target
  pub asks : Nodes

-- a try has to ask those of its target that are members when it begins
abbrev pub try_of : Nodes → ℕ → Id → Target → Try
try_of members k id target = record { number = k; id = id; target = target; asks = targets members target }

-- the same call is tried again
abbrev pub tried_again : Nodes → Option Try → Option Try
tried_again members None = None
tried_again members (Some t) = Some (try_of members t.number t.id t.target)

-- the lock call of p was refused, and waits for a retry
abbrev pub waits_for_retry : World → Process → Bool
waits_for_retry w p = elim (call_of p (w.node p.node).calls) [ None ↦ false | Some c ↦ is_waiting_call c.phase ]

-- the last try of p, which was t before this accepted event: its `set_lock` begins one, and so does a retry where it was refused
abbrev pub last_try : World → WorldEvent → Process → Option Try → Option Try
last_try w e p t = elim e [
  | At a (Event.Calling (Call.SetLock q r z target retries)) ↦
      if is_process q p
      then Some (try_of (w.node a).replica.members ((w.node a).last_call + 1) (Client r z) target)
      else t
  | At a Event.Retry ↦ if (a == p.node) && waits_for_retry w p then tried_again (w.node a).replica.members t else t
  | _ ↦ t
]

-- the answer is `true` to this try of p
abbrev pub is_true_to : Process → Try → Answer → Bool
is_true_to p t s = (s.node == p.node) && (s.number == t.number) && is_reply s.reply True

-- these answers give p the lock of this id at c
abbrev pub is_won : Process → Id → ℕ → List Answer → Option Try → Bool
is_won p id c given None = false
is_won p id c given (Some t) = is_id t.id id && t.asks c && list_any (is_true_to p t) given

-- the event is a `del_lock` of this id by p that goes to c
abbrev pub gives : World → WorldEvent → Process → Id → ℕ → Bool
gives w e p id c = elim e [
  | At a (Event.Calling (Call.DelLock q r z target)) ↦
      is_process q p && is_id (Client r z) id && targets (w.node a).replica.members target c
  | _ ↦ false
]

-- p is no more: it is dead at its node, or its node has left
abbrev pub is_no_more : World → Process → Bool
is_no_more w p = left w p.node || is_dead (w.node p.node).watch p.serial

-- how often p holds a lock at a node, and its last try
pub record Tally : Type 0 where
  pub number : ℕ
  pub last : Option Try

-- what an accepted event makes of a count n, where t is p's last try: one more where its `set_lock` is answered `true` and the
-- try had to ask c, one less where its `del_lock` goes to c, and none for good where it is gone
abbrev pub next_count : Opening → World → WorldEvent → Process → Id → ℕ → Option Try → ℕ → ℕ
next_count o w e p id c t n =
    if is_no_more (happens o w e) p
    then 0
    else (if is_won p id c (answers o w e) t then n + 1 else (if gives w e p id c then n - 1 else n))

-- behind an accepted event
abbrev pub tallied : Opening → World → WorldEvent → Process → Id → ℕ → Tally → Tally
tallied o w e p id c tally = record {
  number = next_count o w e p id c (last_try w e p tally.last) tally.number;
  last = last_try w e p tally.last;
}

-- a refused event changes nothing
abbrev pub tally_after : Opening → World → WorldEvent → Process → Id → ℕ → Tally → Tally
tally_after o w e p id c tally = if is_none (refusal o w e) then tallied o w e p id c tally else tally

-- behind these events
abbrev pub tally_from : Opening → World → List WorldEvent → Process → Id → ℕ → Tally → Tally
tally_from o w [] p id c tally = tally
tally_from o w (e ∷ es) p id c tally = tally_from o (happens o w e) es p id c (tally_after o w e p id c tally)

-- how often p holds the lock at c. It is a function of the opening and the events alone: they determine answers and members
abbrev pub holds_count : Opening → List WorldEvent → Process → Id → ℕ → ℕ
holds_count o es p id c = (tally_from o (opening_world o) es p id c (record { number = 0; last = None })).number

-- p holds the lock at c
abbrev pub Holds : Opening → List WorldEvent → Process → Id → ℕ → Type 0
Holds o es p id c = 0 < holds_count o es p id c

-- behind these events, of which the world is w, no resource is held under two requesters at a running node
abbrev pub ExclusionAfter : Opening → List WorldEvent → World → Type 0
ExclusionAfter o es w = (c : ℕ) → in_world o c ≡ true → left w c ≡ false → (p q : Process) (resource x y : Text) →
    Holds o es p (Client resource x) c → Holds o es q (Client resource y) c → x ≡ y
