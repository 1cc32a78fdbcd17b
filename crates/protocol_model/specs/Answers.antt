-- The answers to name calls and joins, and when they come.
use mathlib.Core.Logic.{◌⊎◌}
use Rattle.std.specs.Prelude.{ℕ, Bool, true, false, ◌&&◌, ◌==◌, ◌-◌, ◌≡◌, ◌<◌, Contains, Option, Some, None, filter, flat_map, fold, List, [], ◌∷◌, ◌++◌, if◌then◌else◌}
use Rattle.std.specs.List.{list_any, slice_get}
use Rattle.registry_model.specs.Process.{Process}
use Rattle.registry_model.specs.Call.{Register, ReRegister, Unregister, Look, Reply, Yes, No, Ok, UnknownNode, True, False, Joined, NotMember, ContactLeft, Pid, is_grant}
use Rattle.registry_model.specs.History.{Entry, Standing, Hold, hold_at, after}
use Rattle.protocol_model.specs.Event.{Call, Event, Answer}
use Rattle.protocol_model.specs.World.{At, place}
use Rattle.protocol_model.specs.Course.{Played, answers_of}
use Rattle.protocol_model.specs.Fit.{Numbered, NameAs, JoinAs, calls_in, accepted_at, is_read}

-- node a answers its call k
abbrev pub answer_to : ℕ → ℕ → Reply → Answer
answer_to a k reply = record { node = a; number = k; reply = reply }

-- the number of a name or join call
abbrev pub number_of : Numbered → ℕ
number_of (NameAs k call) = k
number_of (JoinAs k m) = k

-- the answer is to a name or join call of node a
abbrev pub is_answer_at : ℕ → List Numbered → Answer → Bool
is_answer_at a calls s = (s.node == a) && list_any (λ c. number_of c == s.number) calls

-- the answers that node a gave to its name and join calls, in order
abbrev pub answers_at : ℕ → List Played → List Answer
answers_at a ps = filter (is_answer_at a (accepted_at a ps)) (answers_of ps)

-- the answer that an entry has for a call of node a, if it decides one
abbrev pub entered_at : ℕ → Entry → List Answer
entered_at a (Entry.Name b k call reply) = if b == a then answer_to a k reply ∷ [] else []
entered_at a (Entry.Join j k m reply) = if j == a then answer_to a k reply ∷ [] else []
entered_at a _ = []

-- all answers to name calls come in the step of an entry, and so does `contact_left`
abbrev pub is_prompt : Answer → Bool
is_prompt s = elim s.reply [ Yes ↦ true | No ↦ true | Ok ↦ true | UnknownNode ↦ true | ContactLeft ↦ true | _ ↦ false ]

-- a name call that was written is answered when it is done; an admission has no answer of its own
abbrev pub due_when_done : Option Hold → List Answer
due_when_done None = []
due_when_done (Some hold) = elim hold.entry [ Entry.Name a k call reply ↦ answer_to a k reply ∷ [] | _ ↦ [] ]

-- what an entry has answered at once
abbrev pub due_of : Standing → Entry → List Answer
due_of t (Entry.Done a) = due_when_done (hold_at t a)
due_of t (Entry.Name a k call reply) = if is_grant reply then [] else answer_to a k reply ∷ []
due_of t (Entry.Join j k m ContactLeft) = answer_to j k ContactLeft ∷ []
due_of t _ = []

-- what these entries have answered at once, in order
abbrev pub due : Standing → List Entry → List Answer
due t [] = []
due t (e ∷ es) = due_of t e ++ due (after t e) es

-- the operation that holds is the admission that this answer tells of
abbrev pub is_admission_of : Answer → Option Hold → Bool
is_admission_of s None = false
is_admission_of s (Some hold) = elim hold.entry [ Entry.Join j k m Joined ↦ (j == s.node) && (k == s.number) | _ ↦ false ]

-- the answers under no number
abbrev pub is_unnumbered : Answer → Bool
is_unnumbered s = s.number == 0

-- the look-up is entered once and answered once, at its node and with the reply of its entry
pub record IsLookedUp (a : ℕ) (look : Look) (p : Played) : Type 0 where
  pub reply : Reply
  pub entered : filter is_read p.entries ≡ Entry.Read a look reply ∷ []
  pub answered : filter is_unnumbered p.answers ≡ answer_to a 0 reply ∷ []

-- the `spawn` is answered once, at its node and with a process of it
pub record IsSpawned (a : ℕ) (p : Played) : Type 0 where
  pub process : Process
  pub home : process.node ≡ a
  pub entered : filter is_read p.entries ≡ []
  pub answered : filter is_unnumbered p.answers ≡ answer_to a 0 (Pid process) ∷ []

-- no look-up is entered, and nothing is answered under number 0
pub record IsNoLookUp (p : Played) : Type 0 where
  pub entered : filter is_read p.entries ≡ []
  pub answered : filter is_unnumbered p.answers ≡ []

-- What a step enters of look-ups, and what it answers under number 0
abbrev pub LooksUpOnce : Played → Type 0
LooksUpOnce p = elim p.event [
  | At a (Event.Calling (Call.LookUp look)) ↦ IsLookedUp a look p
  | At a (Event.Calling Call.Spawn) ↦ IsSpawned a p
  | _ ↦ IsNoLookUp p
]

-- the step is a `spawn` that gives this process
pub record IsSpawnOf (p : Played) (q : Process) : Type 0 where
  pub event : p.event ≡ At q.node (Event.Calling Call.Spawn)
  pub answer : Contains p.answers (answer_to q.node 0 (Pid q))

-- one of these steps spawned this process
abbrev pub WasSpawned : List Played → Process → Type 0
WasSpawned ps q = (p : Played) × Contains ps p × IsSpawnOf p q

-- What a `spawn` at a may give behind these steps, where so many are dead at their nodes: its serial is above all that were
-- spawned there, it isn't dead, and each between them is
pub record IsNextProcess (ps : List Played) (dead : Process → Bool) (a : ℕ) (q : Process) : Type 0 where
  pub home : q.node ≡ a
  pub serial : 0 < q.serial
  pub alive : dead q ≡ false
  pub above : (spawned : Process) → spawned.node ≡ a → WasSpawned ps spawned → spawned.serial < q.serial
  pub between : (skipped : Process) → skipped.node ≡ a → 0 < skipped.serial → skipped.serial < q.serial →
      ((spawned : Process) → spawned.node ≡ a → WasSpawned ps spawned → spawned.serial < skipped.serial) → dead skipped ≡ true

-- the replies that a numbered call may have
abbrev pub may_have : Call → Reply → Bool
may_have (Call.OnName (Register pair)) reply = elim reply [ Yes ↦ true | No ↦ true | UnknownNode ↦ true | _ ↦ false ]
may_have (Call.OnName (ReRegister pair)) reply = elim reply [ Yes ↦ true | UnknownNode ↦ true | _ ↦ false ]
may_have (Call.OnName (Unregister x)) reply = elim reply [ Ok ↦ true | _ ↦ false ]
may_have (Call.SetLock p r q target retries) reply = elim reply [ True ↦ true | False ↦ true | _ ↦ false ]
may_have (Call.DelLock p r q target) reply = elim reply [ True ↦ true | _ ↦ false ]
may_have (Call.JoinBy m) reply = elim reply [ Joined ↦ true | NotMember ↦ true | ContactLeft ↦ true | _ ↦ false ]
may_have _ reply = false

-- the process that a lock call is made for
abbrev pub holder_in : Call → Option Process
holder_in (Call.SetLock p r q target retries) = Some p
holder_in (Call.DelLock p r q target) = Some p
holder_in _ = None

-- the numbered calls that node a accepted, the first of which has number 1
abbrev pub calls_at : ℕ → List Played → List Call
calls_at a ps = flat_map (calls_in a) ps

-- what node a answered under number k, in order
abbrev pub answers_under : ℕ → ℕ → List Played → List Answer
answers_under a k ps = filter (λ s. (s.node == a) && (s.number == k)) (answers_of ps)

-- The answers under number k at a node that accepted these calls: none yet, or one, which its call may have
pub data AtMostOne (calls : List Call) (a k : ℕ) : List Answer → Type 0 where
  NotYet : AtMostOne calls a k []
  Once : (call : Call) (reply : Reply) → slice_get calls (k - 1) ≡ Some call → may_have call reply ≡ true →
      AtMostOne calls a k (answer_to a k reply ∷ [])

-- Each step answers at its own node, and each numbered call is answered at most once, by a reply that it may have
pub record AnswersCalls (ps : List Played) : Type 0 where
  pub place : (p : Played) (s : Answer) → Contains ps p → Contains p.answers s → s.node ≡ place p.event
  pub once : (a k : ℕ) → 0 < k → AtMostOne (calls_at a ps) a k (answers_under a k ps)

-- Where a step ends the admission of j, which joined by its call k, j was answered `joined` before, or has left.
-- t: how things stand before the step; before: the steps before it
abbrev pub JoinerIsAnswered : List Played → Standing → Played → Type 0
JoinerIsAnswered before t p = (earlier later : List Entry) (hold : Hold) (j k m : ℕ) → p.entries ≡ earlier ++ Entry.Done m ∷ later →
    hold_at (fold after t earlier) m ≡ Some hold → hold.node ≡ m → hold.entry ≡ Entry.Join j k m Joined →
    ((fold after t earlier).registry.left j ≡ true) ⊎ Contains (answers_of before) (answer_to j k Joined)

-- The answers of a step p, which t stands before and u behind
pub record AnswersInTime (t : Standing) (p : Played) (u : Standing) : Type 0 where
  -- `yes` and `ok` come in the step of `Done`, all that is refused in the step of its entry
  pub prompt : filter is_prompt p.answers ≡ due t p.entries
  -- `joined` comes while the admission holds
  pub joined : (s : Answer) → Contains p.answers s → s.reply ≡ Joined →
      (is_admission_of s (hold_at t s.node) ≡ true) × (is_admission_of s (hold_at u s.node) ≡ true)
