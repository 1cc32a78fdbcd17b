-- Where the owner of a leave is told that the node has left, the node's log has its leave: a loop's moves keep it so.
use Rattle.std.proofs.Common.{◌≡◌, ℕ, Bool, true, false, Option, Some, None, Ok, Err, List, [], ◌∷◌, ◌++◌, map, flat_map, refl, sym, ap, subst, ◌∙◌, eq-eqb}
use Rattle.std.specs.Prelude.{Result, Contains, if◌then◌else◌, ◌||◌}
use Rattle.std.specs.List.{list_any}
use Rattle.std.proofs.lemmas.Bool.{and_from, or_from, or_left, or_right, false≢true}
use Rattle.std.proofs.lemmas.List.Folds.{list_any-append, list_any_at}
use Rattle.registry_model.specs.Process.{Process}
use Rattle.protocol_model.specs.Event.{Answer as AnyAnswer}
use Rattle.node_log.specs.declared.Answer.{Answer}
use Rattle.node_log.specs.Entries.{SeatedEntry}
use Rattle.node_log.specs.NodeEventsSeen.{answer_of}
use Rattle.node_core.specs.CoreState.{CoreState}
use Rattle.node_loop.specs.declared.item.Ticket.{Ticket}
use Rattle.node_loop.specs.declared.replies.TaskFault.{TaskFault}
use Rattle.node_loop.specs.declared.waiting.Caller.{Caller}
use Rattle.node_loop.specs.declared.waiting.Course.{Course}
use Rattle.node_loop.specs.declared.waiting.Course.TheVariants.{AtOnce, Accepted, Numbered, OfHolder}
use Rattle.node_loop.specs.Told.{Came, Answered, Made, Left, Told, tell}
use Rattle.node_loop.specs.Waiting.{is_dropped}
use Rattle.node_loop.specs.Desks.{Kept, Begins, addressee, answered, all_answered, dead_told, drop_told, acceptance, awaiting, settled, left_by}
use Rattle.node_loop.specs.Held.{Looping, Written}
use Rattle.node_loop.specs.Steps.{Cause, stamp_of, entry_of, desk_of, Makes, Rests, Begun}
use Rattle.node_loop.specs.Items.{by_leave, Departs}
use Rattle.node_loop.specs.Coming.{HandsOut, HandsOver, IsLoopOf}
use Rattle.node_loop.proofs.Moving.{IsKept}
use Rattle.node_loop.proofs.Coming.{IsOfLoops, of_loop, of_loop_from}
use Rattle.node_loop.specs.Left.{is_leave_of, logs_leave, told_left, LeavesAreLogged, LeavesAreLoggedFrom}

-- by this outcome the node has left
abbrev says_left : Result Came TaskFault → Bool
says_left (Ok Left) = true
says_left _ = false

-- a reply says so
abbrev tells_left : Told → Bool
tells_left told = says_left told.outcome

-- one of these replies does
abbrev some_left : List Told → Bool
some_left replies = list_any tells_left replies

-- where none of those behind does, one of those before does
before : (told more : List Told) → some_left more ≡ false → some_left (told ++ more) ≡ true → some_left told ≡ true
before told more silent t = go (some_left told) (some_left more) silent (sym (list_any-append tells_left told more) ∙ t)
  where
    go : (x y : Bool) → y ≡ false → (x || y) ≡ true → x ≡ true
    go true y e h = refl
    go false y e h = cc

-- what a beginning says, the whole does
on_beginning : (some whole : List Told) → Begins some whole → some_left some ≡ true → some_left whole ≡ true
on_beginning some whole h t =
    ap (λ (l : List Told). some_left l) h.1 ∙ (list_any-append tells_left some h.0 ∙ or_left (some_left some) (some_left h.0) t)

-- what is told with another outcome doesn't say so
silent_tell : (t : Option Ticket) (outcome : Result Came TaskFault) → says_left outcome ≡ false → some_left (tell t outcome) ≡ false
silent_tell None outcome e = refl
silent_tell (Some t) outcome e = or_from (says_left outcome) false e refl

silent_each : {A : Type 0} (f : A → List Told) → ((x : A) → some_left (f x) ≡ false) → (xs : List A) → some_left (flat_map f xs) ≡ false
silent_each f silent [] = refl
silent_each f silent (x ∷ xs) =
    list_any-append tells_left (f x) (flat_map f xs)
    ∙ or_from (some_left (f x)) (some_left (flat_map f xs)) (silent x) (silent_each f silent xs)

silent_drop : (h : CoreState) (c : Caller) → some_left (drop_told h c) ≡ false
silent_drop h c = go (is_dropped h c) c.holder
  where
    go : (dropped : Bool) (holder : Option Process) → some_left (if dropped then dead_told holder c.ticket else []) ≡ false
    go true None = refl
    go true (Some p) = refl
    go false holder = refl

silent_acceptance : (course : Course) (own : Option Ticket) → some_left (acceptance course own) ≡ false
silent_acceptance AtOnce own = refl
silent_acceptance Accepted own = silent_tell own (Ok Made) refl
silent_acceptance Numbered own = refl
silent_acceptance (OfHolder p) own = refl

-- nor do answers
behind_answers : (stamp : ℕ) (own : Option Ticket) (answers : List AnyAnswer) (k : Kept)
    → some_left (all_answered stamp own answers k).replies ≡ true → some_left k.replies ≡ true
behind_answers stamp own [] k t = t
behind_answers stamp own (a ∷ rest) k t =
    before k.replies (tell (addressee own k.calls a) (Ok (Answered stamp a))) (silent_tell (addressee own k.calls a) (Ok (Answered stamp a)) refl)
    (behind_answers stamp own rest (answered stamp own a k) t)

-- nor does what is told of a step
behind_step : (stamp : ℕ) (course : Course) (own : Option Ticket) (h : CoreState) (answers : List Answer) (k : Kept)
    → some_left (settled stamp course own h answers k).replies ≡ true → some_left k.replies ≡ true
behind_step stamp course own h answers k t =
    before k.replies (acceptance course own) (silent_acceptance course own)
    (behind_answers stamp own (map answer_of answers) (awaiting course h.last_call own k)
    (before told.replies (flat_map (drop_told h) told.calls) (silent_each (drop_told h) (silent_drop h) told.calls) t))
  where
    told : Kept
    told = all_answered stamp own (map answer_of answers) (awaiting course h.last_call own k)

-- a leave stays in a log that gets an entry more
stays : (a b : Written) (e : SeatedEntry) → b ≡ record a { entries = a.entries ++ e ∷ [] } → logs_leave a ≡ true → logs_leave b ≡ true
stays a b e is t =
    ap (λ (l : Written). logs_leave l) is
    ∙ (list_any-append (λ (x : SeatedEntry). is_leave_of a.node x.event) a.entries (e ∷ []) ∙ or_left (logs_leave a) _ t)

-- it stands there where the entry is one
stands : (a b : Written) (e : SeatedEntry) → b ≡ record a { entries = a.entries ++ e ∷ [] } → is_leave_of a.node e.event ≡ true
    → logs_leave b ≡ true
stands a b e is t =
    ap (λ (l : Written). logs_leave l) is
    ∙ (list_any-append (λ (x : SeatedEntry). is_leave_of a.node x.event) a.entries (e ∷ [])
    ∙ or_right (logs_leave a) _ (or_left (is_leave_of a.node e.event) false t))

-- the log is the node's own, and has its leave where a reply says that it has left
record Logs (b : Looping) : Type 0 where
  named : b.log.node ≡ b.core.name
  leave : some_left b.desk.replies ≡ true → logs_leave b.log ≡ true

module _ (k : Cause) (a b : Looping) (h : Logs a) where
  still_named : (answers : List Answer) → b.log ≡ record a.log { entries = a.log.entries ++ entry_of k a answers ∷ [] }
      → b.core.name ≡ a.core.name → b.log.node ≡ b.core.name
  still_named answers log name = ap (λ (l : Written). l.node) log ∙ (h.named ∙ sym name)

  makes : Makes k a b → Logs b
  makes M = record {
    named = still_named M.turn.answers M.log M.step.name;
    leave = λ t. stays a.log b.log (entry_of k a M.turn.answers) M.log
        (h.leave (behind_step (stamp_of k a) k.course k.own b.core M.turn.answers a.desk (ap (λ (d : Kept). some_left d.replies) (sym M.desk) ∙ t)));
  }

  begun : Begun k (desk_of k a) a b → Logs b
  begun B = record {
    named = still_named B.turn.answers B.log B.step.name;
    leave = λ t. stays a.log b.log (entry_of k a B.turn.answers) B.log
        (h.leave (behind_step (stamp_of k a) k.course k.own b.core B.turn.answers a.desk
        (on_beginning b.desk.replies (desk_of k a b.core B.turn.answers).replies B.replies t)));
  }

rests : (a b : Looping) → Logs a → Rests a b → Logs b
rests a b h R = subst Logs (sym R.others) (record { named = h.named ∙ sym R.core.name; leave = h.leave })

-- the entry of a leave is the node's own
own : (a : Looping) → Logs a → (answers : List Answer) → is_leave_of a.log.node (entry_of (by_leave a) a answers).event ≡ true
own a h answers = and_from _ true (eq-eqb a.core.name a.log.node (sym h.named)) refl

departs : (a b : Looping) → Logs a → Departs a b → Logs b
departs a b h D = subst Logs (sym D.behind) (record {
  named = still_named (by_leave a) a D.stepped h D.step.turn.answers D.step.log D.step.step.name;
  leave = λ t. stands a.log D.stepped.log (entry_of (by_leave a) a D.step.turn.answers) D.step.log (own a h D.step.turn.answers);
})

departing : (a b : Looping) → Logs a → Begun (by_leave a) (λ core answers. left_by (desk_of (by_leave a) a core answers)) a b → Logs b
departing a b h B = record {
  named = still_named (by_leave a) a b h B.turn.answers B.log B.step.name;
  leave = λ t. stands a.log b.log (entry_of (by_leave a) a B.turn.answers) B.log (own a h B.turn.answers);
}

kept : IsKept Logs
kept = record {
  besides = λ a tray wait worked h. record { named = h.named; leave = h.leave };
  refuses = λ a ticket fault h. record {
    named = h.named;
    leave = λ t. h.leave (before a.desk.replies (tell ticket (Err fault)) (silent_tell ticket (Err fault) refl) t);
  };
  waits = λ a ticket h. record { named = h.named; leave = h.leave };
  makes = makes;
  rests = rests;
  begun = begun;
  departs = departs;
  departing = departing;
}

hands_out : (a b : Looping) → Logs a → HandsOut a b → Logs b
hands_out a b h H = subst Logs (sym H.rest) (record {
  named = h.named;
  leave = λ t. h.leave (ap (λ (l : List Told). some_left l) H.oldest ∙ or_right (tells_left H.told) (some_left b.desk.replies) t);
})

hands_over : (a b : Looping) → Logs a → HandsOver a b → Logs b
hands_over a b h e = subst Logs (sym e) (record { named = h.named; leave = h.leave })

of_loops : IsOfLoops Logs
of_loops = record {
  begins = λ stamp core. record { named = refl; leave = λ t. absurd (false≢true t) };
  kept = kept;
  hands_out = hands_out;
  hands_over = hands_over;
  replaces = λ older next a h. record { named = h.named; leave = h.leave };
}

module _ (name : ℕ) (b : Looping) (is : IsLoopOf name b) where
  logs : Logs b
  logs = of_loop Logs of_loops name b is

  -- where the next reply says so
  pub next_is_logged : (t : Ticket) (later : List Told) → b.desk.replies ≡ told_left t ∷ later → logs_leave b.log ≡ true
  next_is_logged t later e = logs.leave (ap (λ (l : List Told). some_left l) e)

-- where any does
some_logged : (b : Looping) → Logs b → (t : Ticket) → Contains b.desk.replies (told_left t) → logs_leave b.log ≡ true
some_logged b logs t c = logs.leave (list_any_at tells_left b.desk.replies c.0 (told_left t) c.1 (ap tells_left c.2))

pub told_leaves_are_logged : LeavesAreLogged
told_leaves_are_logged name b is = some_logged b (logs name b is)

pub told_leaves_are_logged_from : LeavesAreLoggedFrom
told_leaves_are_logged_from start core b is = some_logged b (of_loop_from Logs of_loops start core b is)
