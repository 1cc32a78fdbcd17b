-- Where who asked is told an answer, the node's log has the step that gives it: a loop's moves keep it so.
use Rattle.std.proofs.Common.{◌≡◌, ℕ, Bool, true, false, Option, Some, None, Ok, Err, List, [], ◌∷◌, ◌++◌, map, flat_map, refl, sym, subst, All}
use Rattle.std.specs.Prelude.{Result, Contains, if◌then◌else◌}
use Rattle.std.proofs.lemmas.List.Elements.{All-nil, All-cons, All-head, All-tail, All-rest, All-append, All-weaker, All-contains, All-contains_itself, Contains-append_left, Contains-push}
use Rattle.registry_model.specs.Process.{Process}
use Rattle.protocol_model.specs.Event.{Answer as AnyAnswer}
use Rattle.node_log.specs.declared.Answer.{Answer}
use Rattle.node_log.specs.declared.StepFault.TheVariants.{NotLive}
use Rattle.node_log.specs.Entries.{SeatedEntry}
use Rattle.node_log.specs.NodeEventsSeen.{answer_of}
use Rattle.node_core.specs.CoreState.{CoreState}
use Rattle.node_loop.specs.declared.item.Ticket.{Ticket}
use Rattle.node_loop.specs.declared.replies.TaskFault.{TaskFault}
use Rattle.node_loop.specs.declared.replies.TaskFault.TheVariants.{NodeLeft, Step}
use Rattle.node_loop.specs.declared.waiting.Caller.{Caller}
use Rattle.node_loop.specs.declared.waiting.Course.{Course}
use Rattle.node_loop.specs.declared.waiting.Course.TheVariants.{AtOnce, Accepted, Numbered, OfHolder}
use Rattle.node_loop.specs.Told.{Came, Answered, Made, Left, Told, tell}
use Rattle.node_loop.specs.Waiting.{is_dropped}
use Rattle.node_loop.specs.Desks.{Kept, Begins, addressee, answered, all_answered, dead_told, drop_told, acceptance, awaiting, settled, leave_refused, call_refused, leaves_told, left_by}
use Rattle.node_loop.specs.Held.{Looping, Written}
use Rattle.node_loop.specs.Steps.{Cause, stamp_of, entry_of, desk_of, Makes, Rests, Begun}
use Rattle.node_loop.specs.Items.{by_leave, Departs}
use Rattle.node_loop.specs.Coming.{HandsOut, HandsOver, IsLoopOf, IsLoopFrom}
use Rattle.node_loop.specs.Answers.{LogsAnswer, told_answer, AnswersAreLogged, AnswersAreLoggedFrom}
use Rattle.node_loop.proofs.Moving.{IsKept}
use Rattle.node_loop.proofs.Coming.{IsOfLoops, of_loop, of_loop_from}

-- the log has the answer that this outcome tells, if it tells one
abbrev Says : Written → Result Came TaskFault → Type 0
Says log (Ok (Answered stamp answer)) = LogsAnswer log stamp answer
Says log _ = Unit {0}

abbrev IsLogged : Written → Told → Type 0
IsLogged log told = Says log told.outcome

-- a beginning of what is told
front : {X : Type 0} (P : X → Type 0) (xs ys : List X) → All P (xs ++ ys) → All P xs
front P xs ys h = All-weaker (Contains xs) P (λ x c. All-contains P (xs ++ ys) x h (Contains-append_left xs ys x c)) xs (All-contains_itself xs)

-- an answer stays in a log that gets an entry more
stays : (a b : Written) (e : SeatedEntry) → b ≡ record a { entries = a.entries ++ e ∷ [] } → (told : Told) → IsLogged a told → IsLogged b told
stays a b e is told = go told.outcome
  where
    go : (outcome : Result Came TaskFault) → Says a outcome → Says b outcome
    go (Ok (Answered stamp answer)) l = record {
      entry = l.entry;
      logged = subst (λ (w : Written). Contains w.entries l.entry) (sym is) (Contains-append_left a.entries (e ∷ []) l.entry l.logged);
      stamped = l.stamped;
      given = l.given;
    }
    go (Ok Made) l = tt
    go (Ok Left) l = tt
    go (Err fault) l = tt

module _ (log : Written) where
  told_so : (ticket : Option Ticket) (outcome : Result Came TaskFault) → Says log outcome → All (IsLogged log) (tell ticket outcome)
  told_so None outcome h = All-nil (IsLogged log)
  told_so (Some t) outcome h = All-cons (IsLogged log) (record { ticket = t; outcome = outcome }) [] h (All-nil (IsLogged log))

  told_each : {A : Type 0} (f : A → List Told) → ((x : A) → All (IsLogged log) (f x)) → (xs : List A) → All (IsLogged log) (flat_map f xs)
  told_each f each [] = All-nil (IsLogged log)
  told_each f each (x ∷ xs) = All-append (IsLogged log) (f x) (flat_map f xs) (each x) (told_each f each xs)

  of_dropped : (h : CoreState) (c : Caller) → All (IsLogged log) (drop_told h c)
  of_dropped h c = go (is_dropped h c) c.holder
    where
      go : (dropped : Bool) (holder : Option Process) → All (IsLogged log) (if dropped then dead_told holder c.ticket else [])
      go true None = All-nil (IsLogged log)
      go true (Some p) = told_so (Some c.ticket) (Err (Step (NotLive p))) tt
      go false holder = All-nil (IsLogged log)

  of_accepted : (course : Course) (own : Option Ticket) → All (IsLogged log) (acceptance course own)
  of_accepted AtOnce own = All-nil (IsLogged log)
  of_accepted Accepted own = told_so own (Ok Made) tt
  of_accepted Numbered own = All-nil (IsLogged log)
  of_accepted (OfHolder p) own = All-nil (IsLogged log)

  of_leaves : (leaves : List (Option Ticket)) → All (IsLogged log) (leaves_told leaves)
  of_leaves [] = All-nil (IsLogged log)
  of_leaves (t ∷ ts) = All-append (IsLogged log) (tell t (Ok Left)) (flat_map leave_refused ts) (told_so t (Ok Left) tt)
      (told_each leave_refused (λ x. told_so x (Err NodeLeft) tt) ts)

  -- behind the step of a leave
  behind_leave : (k : Kept) → All (IsLogged log) k.replies → All (IsLogged log) (left_by k).replies
  behind_leave k h = All-append (IsLogged log) (k.replies ++ leaves_told k.leaves) (flat_map call_refused k.calls)
      (All-append (IsLogged log) k.replies (leaves_told k.leaves) h (of_leaves k.leaves))
      (told_each call_refused (λ c. told_so (Some c.ticket) (Err NodeLeft) tt) k.calls)

  module _ (stamp : ℕ) (own : Option Ticket) where
    behind_answers : (answers : List AnyAnswer) → All (LogsAnswer log stamp) answers → (k : Kept) → All (IsLogged log) k.replies
        → All (IsLogged log) (all_answered stamp own answers k).replies
    behind_answers [] given k h = h
    behind_answers (a ∷ rest) given k h =
        behind_answers rest (All-tail (LogsAnswer log stamp) a rest given) (answered stamp own a k)
        (All-append (IsLogged log) k.replies (tell (addressee own k.calls a) (Ok (Answered stamp a))) h
        (told_so (addressee own k.calls a) (Ok (Answered stamp a)) (All-head (LogsAnswer log stamp) a rest given)))

    -- behind a step whose answers are logged
    behind_step : (course : Course) (h : CoreState) (answers : List Answer) → All (LogsAnswer log stamp) (map answer_of answers) → (k : Kept)
        → All (IsLogged log) k.replies → All (IsLogged log) (settled stamp course own h answers k).replies
    behind_step course h answers given k before =
        All-append (IsLogged log) told.replies (flat_map (drop_told h) told.calls)
        (behind_answers (map answer_of answers) given (awaiting course h.last_call own k)
        (All-append (IsLogged log) k.replies (acceptance course own) before (of_accepted course own)))
        (told_each (drop_told h) (of_dropped h) told.calls)
      where
        told : Kept
        told = all_answered stamp own (map answer_of answers) (awaiting course h.last_call own k)

-- the log has each answer that is told
abbrev Logs : Looping → Type 0
Logs b = All (IsLogged b.log) b.desk.replies

module _ (k : Cause) (a b : Looping) (h : Logs a) (answers : List Answer) (log : b.log ≡ record a.log { entries = a.log.entries ++ entry_of k a answers ∷ [] }) where
  -- those of the step stand in its entry
  here : All (LogsAnswer b.log (stamp_of k a)) (map answer_of answers)
  here = All-weaker (Contains (map answer_of answers)) (LogsAnswer b.log (stamp_of k a)) (λ x c. record {
    entry = entry_of k a answers;
    logged = subst (λ (w : Written). Contains w.entries (entry_of k a answers)) (sym log) (Contains-push a.log.entries (entry_of k a answers));
    stamped = refl;
    given = c;
  }) (map answer_of answers) (All-contains_itself (map answer_of answers))

  due : (core : CoreState) → All (IsLogged b.log) (desk_of k a core answers).replies
  due core = behind_step b.log (stamp_of k a) k.own k.course core answers here a.desk
      (All-weaker (IsLogged a.log) (IsLogged b.log) (stays a.log b.log (entry_of k a answers) log) a.desk.replies h)

makes : (k : Cause) (a b : Looping) → Logs a → Makes k a b → Logs b
makes k a b h M = subst (λ (d : Kept). All (IsLogged b.log) d.replies) (sym M.desk) (due k a b h M.turn.answers M.log b.core)

-- what was told first of that is logged, too
first_told : (log : Written) (some whole : List Told) → Begins some whole → All (IsLogged log) whole → All (IsLogged log) some
first_told log some whole B h = front (IsLogged log) some B.0 (subst (All (IsLogged log)) B.1 h)

begun : (k : Cause) (a b : Looping) → Logs a → Begun k (desk_of k a) a b → Logs b
begun k a b h B = first_told b.log b.desk.replies _ B.replies (due k a b h B.turn.answers B.log b.core)

rests : (a b : Looping) → Logs a → Rests a b → Logs b
rests a b h R = subst Logs (sym R.others) h

departs : (a b : Looping) → Logs a → Departs a b → Logs b
departs a b h D = subst Logs (sym D.behind) (behind_leave D.stepped.log D.stepped.desk (makes (by_leave a) a D.stepped h D.step))

departing : (a b : Looping) → Logs a → Begun (by_leave a) (λ core answers. left_by (desk_of (by_leave a) a core answers)) a b → Logs b
departing a b h B = first_told b.log b.desk.replies _ B.replies
    (behind_leave b.log (desk_of (by_leave a) a b.core B.turn.answers) (due (by_leave a) a b h B.turn.answers B.log b.core))

kept : IsKept Logs
kept = record {
  besides = λ a tray wait worked h. h;
  refuses = λ a ticket fault h. All-append (IsLogged a.log) a.desk.replies (tell ticket (Err fault)) h (told_so a.log ticket (Err fault) tt);
  waits = λ a ticket h. h;
  makes = makes;
  rests = rests;
  begun = begun;
  departs = departs;
  departing = departing;
}

hands_out : (a b : Looping) → Logs a → HandsOut a b → Logs b
hands_out a b h H = subst Logs (sym H.rest) (All-rest (IsLogged a.log) H.told b.desk.replies a.desk.replies H.oldest h)

hands_over : (a b : Looping) → Logs a → HandsOver a b → Logs b
hands_over a b h e = subst Logs (sym e) h

of_loops : IsOfLoops Logs
of_loops = record {
  begins = λ stamp core. All-nil (IsLogged (record { node = core.name; entries = [] }));
  kept = kept;
  hands_out = hands_out;
  hands_over = hands_over;
  replaces = λ older next a h. h;
}

-- where the next reply tells it
next_logged : (b : Looping) → Logs b → (t : Ticket) (stamp : ℕ) (answer : AnyAnswer) (later : List Told)
    → b.desk.replies ≡ told_answer t stamp answer ∷ later → LogsAnswer b.log stamp answer
next_logged b logs t stamp answer later e =
    All-head (IsLogged b.log) (told_answer t stamp answer) later (subst (All (IsLogged b.log)) e logs)

pub next_is_logged : (name : ℕ) (b : Looping) → IsLoopOf name b → (t : Ticket) (stamp : ℕ) (answer : AnyAnswer) (later : List Told)
    → b.desk.replies ≡ told_answer t stamp answer ∷ later → LogsAnswer b.log stamp answer
next_is_logged name b is = next_logged b (of_loop Logs of_loops name b is)

pub next_is_logged_from : (start : ℕ) (core : CoreState) (b : Looping) → IsLoopFrom start core b → (t : Ticket) (stamp : ℕ) (answer : AnyAnswer)
    (later : List Told) → b.desk.replies ≡ told_answer t stamp answer ∷ later → LogsAnswer b.log stamp answer
next_is_logged_from start core b is = next_logged b (of_loop_from Logs of_loops start core b is)

-- where any does
some_logged : (b : Looping) → Logs b → (t : Ticket) (stamp : ℕ) (answer : AnyAnswer) → Contains b.desk.replies (told_answer t stamp answer)
    → LogsAnswer b.log stamp answer
some_logged b logs t stamp answer c = All-contains (IsLogged b.log) b.desk.replies (told_answer t stamp answer) logs c

pub told_answers_are_logged : AnswersAreLogged
told_answers_are_logged name b is = some_logged b (of_loop Logs of_loops name b is)

pub told_answers_are_logged_from : AnswersAreLoggedFrom
told_answers_are_logged_from start core b is = some_logged b (of_loop_from Logs of_loops start core b is)
