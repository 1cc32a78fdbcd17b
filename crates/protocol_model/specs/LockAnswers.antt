-- What an answer to a lock call says. p is a process, w the world that the events es made, e the event that comes next, and v
-- the world behind it.
use mathlib.Core.Logic.{◌⊎◌}
use Rattle.std.specs.Prelude.{ℕ, Bool, true, false, not, ◌&&◌, ◌||◌, ◌==◌, ◌+◌, ◌-◌, ◌≡◌, ◌<◌, ◌≤◌, Contains, Option, Some, None, is_none, List, [], ◌∷◌, ◌++◌, if◌then◌else◌}
use Rattle.std.specs.List.{slice_get}
use Rattle.registry_model.specs.Process.{Text, Process, is_process, Nodes}
use Rattle.registry_model.specs.Call.{True, False}
use Rattle.protocol_model.specs.Round.{is_empty}
use Rattle.protocol_model.specs.Letter.{Id, Client, is_id, Letter}
use Rattle.protocol_model.specs.LockTable.{count, is_free_for}
use Rattle.protocol_model.specs.Node.{Retries, Times, targets}
use Rattle.protocol_model.specs.Event.{Call, Event, Answer}
use Rattle.protocol_model.specs.World.{Opening, in_world, World, left, WorldEvent, At, Deliver, opening_world, refusal, happens, answers, run}
use Rattle.protocol_model.specs.Course.{course, seen}
use Rattle.protocol_model.specs.Answers.{holder_in, calls_at, answers_under}
use Rattle.protocol_model.specs.ClientLocks.{Try, try_of, waits_for_retry, is_no_more, holds_count}

-- the last `set_lock` of a process: its last try, the retries that it was given, how often it was tried, and whether that try met
-- something for which it may fail
pub record Tries : Type 0 where
  pub last : Try
  pub retries : Retries
  pub tried : ℕ
  pub met : Bool

-- the first of these letters asks for this lock for p
abbrev pub is_asked_first : Id → Process → List Letter → Bool
is_asked_first id p (Letter.SetLock i q ∷ ls) = is_id i id && is_process q p
is_asked_first id p _ = false

-- a node that the try has to ask has left behind this event, or takes p's request for the lock from p's node and can't grant it
abbrev pub meets : Opening → World → WorldEvent → Process → Try → Bool
meets o w e p t =
    not (is_empty o.bound (λ c. t.asks c && left (happens o w e) c)) || elim e [
      | Deliver f c ↦
          (f == p.node) && t.asks c && is_asked_first t.id p (w.links.queue f c) && not (is_free_for t.id p (w.node c).locks)
      | _ ↦ false
    ]

-- the same try, behind one more event
abbrev pub watched : Opening → World → WorldEvent → Process → Option Tries → Option Tries
watched o w e p None = None
watched o w e p (Some t) = Some (record t { met = t.met || meets o w e p t.last })

-- the same call begins its next try
abbrev pub next_try : Opening → World → WorldEvent → Process → Nodes → Option Tries → Option Tries
next_try o w e p members None = None
next_try o w e p members (Some t) =
    let last = try_of members t.last.number t.last.id t.last.target in
    Some (record t { last = last; tried = t.tried + 1; met = meets o w e p last })

-- a call of p begins its first try
abbrev pub first_try : Opening → World → WorldEvent → Process → Try → Retries → Option Tries
first_try o w e p last retries = Some (record { last = last; retries = retries; tried = 1; met = meets o w e p last })

-- what an event makes of it: a `set_lock` of p begins its first try, and a retry the next one where it was refused
abbrev pub tries_in : Opening → World → WorldEvent → Process → Option Tries → WorldEvent → Option Tries
tries_in o w e p t (At a (Event.Calling (Call.SetLock q r z target retries))) =
    if is_process q p
    then first_try o w e p (try_of (w.node a).replica.members ((w.node a).last_call + 1) (Client r z) target) retries
    else watched o w e p t
tries_in o w e p t (At a Event.Retry) =
    if (a == p.node) && waits_for_retry w p then next_try o w e p (w.node a).replica.members t else watched o w e p t
tries_in o w e p t _ = watched o w e p t

-- what an accepted event makes of it
abbrev pub tries_by : Opening → World → WorldEvent → Process → Option Tries → Option Tries
tries_by o w e p t = tries_in o w e p t e

-- a refused event changes nothing
abbrev pub tries_after : Opening → World → WorldEvent → Process → Option Tries → Option Tries
tries_after o w e p t = if is_none (refusal o w e) then tries_by o w e p t else t

-- behind these events
abbrev pub tries_from : Opening → World → List WorldEvent → Process → Option Tries → Option Tries
tries_from o w [] p t = t
tries_from o w (e ∷ es) p t = tries_from o (happens o w e) es p (tries_after o w e p t)

-- behind these events of a world that opened so
abbrev pub tries_of : Opening → List WorldEvent → Process → Option Tries
tries_of o es p = tries_from o (opening_world o) es p None

-- the last `del_lock` of a process: its number, its id and the nodes that it went to
pub record Deletion : Type 0 where
  pub number : ℕ
  pub id : Id
  pub nodes : Nodes

-- what an accepted event makes of it
abbrev pub deletion_by : World → WorldEvent → Process → Option Deletion → Option Deletion
deletion_by w e p deletion = elim e [
  | At a (Event.Calling (Call.DelLock q r z target)) ↦
      if is_process q p
      then Some (record {
        number = (w.node a).last_call + 1;
        id = Client r z;
        nodes = targets (w.node a).replica.members target;
      })
      else deletion
  | _ ↦ deletion
]

abbrev pub deletion_after : Opening → World → WorldEvent → Process → Option Deletion → Option Deletion
deletion_after o w e p deletion = if is_none (refusal o w e) then deletion_by w e p deletion else deletion

abbrev pub deletion_from : Opening → World → List WorldEvent → Process → Option Deletion → Option Deletion
deletion_from o w [] p deletion = deletion
deletion_from o w (e ∷ es) p deletion = deletion_from o (happens o w e) es p (deletion_after o w e p deletion)

abbrev pub deletion_of : Opening → List WorldEvent → Process → Option Deletion
deletion_of o es p = deletion_from o (opening_world o) es p None

-- call k of a node is this one, among those that it accepted behind these events
abbrev pub IsCallOf : Opening → List WorldEvent → ℕ → ℕ → Call → Type 0
IsCallOf o es a k call = (0 < k) × (slice_get (calls_at a (course o (opening_world o) es)) (k - 1) ≡ Some call)

-- the step answers call k of p's node
pub record Answers (o : Opening) (w : World) (e : WorldEvent) (p : Process) (k : ℕ) (s : Answer) : Type 0 where
  pub given : Contains (answers o w e) s
  pub node : s.node ≡ p.node
  pub number : s.number ≡ k

-- the try has nobody to ask
abbrev pub AsksNobody : Try → Type 0
AsksNobody t = (c : ℕ) → t.asks c ≡ false

-- all retries that were given are used up
pub record AreUsedUp (t : Tries) : Type 0 where
  pub given : ℕ
  pub all : t.retries ≡ Times given
  pub used : t.tried ≡ given + 1

-- some node that the try has to ask isn't told of as departed
pub record AsksSomebody (w : World) (p : Process) (t : Try) : Type 0 where
  pub node : ℕ
  pub asked : t.asks node ≡ true
  pub stays : (w.node p.node).replica.told node ≡ false

module _ (o : Opening) (es : List WorldEvent) (w : World) (e : WorldEvent) where
  -- nobody answers a lock call of a process that is dead, or whose node has left, before the step or behind it
  abbrev pub AnswersTheLiving : Type 0
  AnswersTheLiving = (s : Answer) (call : Call) (p : Process) → Contains (answers o w e) s →
      IsCallOf o (es ++ e ∷ []) s.node s.number call → holder_in call ≡ Some p →
      (is_no_more w p ≡ false) × (is_no_more (happens o w e) p ≡ false)

  -- `false` is answered where all retries are used up, or where there is nobody to ask
  abbrev pub UsesAllRetries : Type 0
  UsesAllRetries = (p : Process) (t : Tries) (s : Answer) → tries_of o (es ++ e ∷ []) p ≡ Some t →
      Answers o w e p t.last.number s → s.reply ≡ False → AsksNobody t.last ⊎ AreUsedUp t

  -- and `true` within them
  abbrev pub UsesNoMore : Type 0
  UsesNoMore = (p : Process) (t : Tries) (s : Answer) (given : ℕ) → tries_of o (es ++ e ∷ []) p ≡ Some t →
      Answers o w e p t.last.number s → s.reply ≡ True → t.retries ≡ Times given → t.tried ≤ given + 1

  -- `false` is answered to a try for which a node that it had to ask had left, or took p's request while it couldn't grant p the
  -- lock; or where there is nobody to ask
  abbrev pub FailsForAReason : Type 0
  FailsForAReason = (p : Process) (t : Tries) (s : Answer) → tries_of o (es ++ e ∷ []) p ≡ Some t →
      Answers o w e p t.last.number s → s.reply ≡ False → AsksNobody t.last ⊎ (t.met ≡ true)

  -- where `true` is answered, some node that was asked isn't told of as departed
  abbrev pub IsHeldSomewhere : Type 0
  IsHeldSomewhere = (p : Process) (t : Tries) (s : Answer) → tries_of o (es ++ e ∷ []) p ≡ Some t →
      Answers o w e p t.last.number s → s.reply ≡ True → AsksSomebody (happens o w e) p t.last

  -- where a `del_lock` is answered, each running node that it went to has the lock for p as often as p holds it there
  abbrev pub IsGivenBack : Type 0
  IsGivenBack = (p : Process) (deletion : Deletion) (s : Answer) (c : ℕ) → deletion_of o (es ++ e ∷ []) p ≡ Some deletion →
      Answers o w e p deletion.number s → deletion.nodes c ≡ true → in_world o c ≡ true → left (happens o w e) c ≡ false →
      count deletion.id p ((happens o w e).node c).locks ≡ holds_count o (es ++ e ∷ []) p deletion.id c

  -- What the answers of this step say to those who called for locks
  pub record LockAnswers : Type 0 where
    pub living : AnswersTheLiving
    pub spent : UsesAllRetries
    pub within : UsesNoMore
    pub reason : FailsForAReason
    pub held : IsHeldSomewhere
    pub deleted : IsGivenBack

-- the call of these tries is a `set_lock` of p that was accepted, and that none of the events answers
pub record IsUnanswered (o : Opening) (es : List WorldEvent) (p : Process) (t : Tries) : Type 0 where
  pub resource : Text
  pub requester : Text
  pub id : t.last.id ≡ Client resource requester
  pub call : IsCallOf o es p.node t.last.number (Call.SetLock p resource requester t.last.target t.retries)
  pub unanswered : answers_under p.node t.last.number (course o (opening_world o) es) ≡ []

-- p isn't dead, and has a `set_lock` that isn't answered: its last try failed for a reason, another is left, and p's node accepts a
-- retry, unless it has left
pub record WaitsForRetry (o : Opening) (es : List WorldEvent) (w : World) (p : Process) : Type 0 where
  pub alive : (seen o w).dead p ≡ false
  pub tries : Tries
  pub last : tries_of o es p ≡ Some tries
  pub call : IsUnanswered o es p tries
  pub failed : tries.met ≡ true
  pub more : AreUsedUp tries → ⊥
  pub retry : is_no_more w p ≡ false → (seen o w).refusal (At p.node Event.Retry) ≡ None

-- whatever the opening, the events and the accepted one behind them
abbrev pub AtEachStep : (Opening → List WorldEvent → World → WorldEvent → Type 0) → Type 0
AtEachStep Law = (o : Opening) (es : List WorldEvent) (e : WorldEvent) → refusal o (run o (opening_world o) es) e ≡ None →
    Law o es (run o (opening_world o) es) e
