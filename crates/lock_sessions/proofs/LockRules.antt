-- Each rule keeps what is known of the global lock.
use mathlib.Core.Logic.{◌⊎◌}
use Rattle.std.proofs.Common.{ℕ, Bool, true, false, ◌==◌, ◌≡◌, Option, Some, None, List, [], ◌∷◌, ◌++◌, refl, sym, ap, ◌∙◌, subst, inl, inr}
use Rattle.std.specs.Prelude.{not, ◌&&◌, nat_lt, if◌then◌else◌}
use Rattle.std.proofs.lemmas.Bool.{cases_eq, eq-eqb, ne_eqb}
use Rattle.registry_model.specs.Process.{Process, is_process, Nodes, nodes_of, at}
use Rattle.registry_model.specs.Table.{StrikeOwner}
use Rattle.registry_model.specs.Call.{Reply, change_of}
use Rattle.protocol_model.specs.Round.{Mark, is_owes, asked, rest, opens, answer}
use Rattle.protocol_model.specs.Letter.{Id, Global, Client, Letter}
use Rattle.protocol_model.specs.Links.{posted}
use Rattle.protocol_model.specs.Watch.{is_live, is_issued, is_dead}
use Rattle.protocol_model.specs.Node.{Node, Op, Current, LockPhase, LockCall, call_of, targets}
use Rattle.protocol_model.specs.Turn.{Send, begun, keep_call, send_all, sent_to}
use Rattle.protocol_model.specs.Registrar.{registrar, done}
use Rattle.protocol_model.specs.Client.{is_spent, in_phase, close_call, give_lock}
use Rattle.protocol_model.specs.World.{Opening, World, left, opening_world}
use Rattle.moves.proofs.Rules.{Rule, Taken, taking, takes, turn_by, awaits, is_heard, is_heard_in, some_call, IsNew, IsRetried, May, effect}
use Rattle.registry_model.proofs.Updates.{by_test, at_same, at_other}
use Rattle.moves.proofs.Indices.{both, not_true}
use Rattle.moves.proofs.Sends.{to_each, sent_to-append}
use Rattle.moves.proofs.Invariants.{Each, IsUp, IsProper, Proper}
use Rattle.lock_sessions.proofs.Base.{not_both, is_leave, others, farewell, ran_before, letters_from, each-append, each-posted, each-all}
use Rattle.lock_sessions.proofs.LockTables.{Row, Nobody, grants_of, globals, is_global, share, drop_holder-row}
use Rattle.lock_sessions.proofs.Sessions.{Request, Stage, Free, Session, fits, answers_at, share_at, mark_in, request_in, answer_in, found, found-append, found-letters, AsRequester, requester_turn}
use Rattle.lock_sessions.proofs.Locking.{IsNamed, is_client, IsClients, AllClients, IsRound, asks_itself, Locks, call_of-client, put_call-clients, drop_call-clients, lock_turn}
use Rattle.lock_sessions.proofs.Rounds.{mark_stays, owes_answer}
use Rattle.lock_sessions.proofs.LockTurns.{Turned, QuietSends, QuietTaken, nothing_sent, quiet_one, quiet_all, quiet_taken, quietly, plainly, moved_to, begins, hears, marks_down, gives_back, asked_granted, asked_itself, hands_back}
use Rattle.lock_sessions.proofs.JudgeTurns.{named_front, judges, takes_back, is_told}

-- letters one after another have nothing to do with the lock
pub sends-append : (o : Opening) (a : ℕ) (w : World) (I : Proper o w) (L : Locks o w) (up : IsUp o w a)
    (xs ys : List Send)
    → QuietSends o a w I L up xs → QuietSends o a w I L up ys → QuietSends o a w I L up (xs ++ ys)
sends-append o a w I L up xs ys X Y = record {
  named = λ n run. subst (λ (ls : List Letter). Each (IsNamed a n) ls) (sym (sent_to-append n xs ys))
      (each-append (IsNamed a n) (sent_to n xs) (sent_to n ys) (X.named n run) (Y.named n run));
  no_request = λ x. ap (found request_in) (sent_to-append x xs ys)
      ∙ found-append request_in (sent_to x xs) (sent_to x ys)
      ∙ ap (λ (zs : List Request). zs ++ found request_in (sent_to x ys)) (X.no_request x) ∙ Y.no_request x;
  no_answer = λ x. ap (found answer_in) (sent_to-append x xs ys) ∙ found-append answer_in (sent_to x xs) (sent_to x ys)
      ∙ ap (λ (zs : List Bool). zs ++ found answer_in (sent_to x ys)) (X.no_answer x) ∙ Y.no_answer x;
}

-- a client's request is none of the registrar's
client_asks : (i : Id) (p : Process) → is_global i ≡ false → is_client p ≡ true → (f n : ℕ)
    → IsNamed f n (Letter.SetLock i p)
client_asks (Global b) p g c f n = cc
client_asks (Client s q) p g c f n = c

-- so it is no request for the global lock
client_asks_nothing : (i : Id) (p : Process) → is_global i ≡ false → request_in (Letter.SetLock i p) ≡ []
client_asks_nothing (Global b) p g = cc
client_asks_nothing (Client s q) p g = refl

-- a client gives back nothing of the registrar's
client_returns : (i : Id) (p : Process) (ack : Bool) → is_global i ≡ false → (f n : ℕ)
    → IsNamed f n (Letter.GiveBack i p ack)
client_returns (Global b) p ack g f n = cc
client_returns (Client s q) p ack g f n = tt

-- so it gives back no global lock
client_returns_nothing : (i : Id) (p : Process) (ack : Bool) → is_global i ≡ false
    → request_in (Letter.GiveBack i p ack) ≡ []
client_returns_nothing (Global b) p ack g = cc
client_returns_nothing (Client s q) p ack g = refl

-- an answer to a client is none to a registrar
client_answered : (i : Id) (p : Process) (granted : Bool) (f n : ℕ) → IsNamed f n (Letter.LockAnswer i p granted)
    → is_client p ≡ true → answer_in (Letter.LockAnswer i p granted) ≡ []
client_answered (Global b) p granted f n named c = absurd (not_both (is_client p) c (ap is_client named.1))
client_answered (Client s q) p granted f n named c = refl

-- who owes the registrar an answer is awaited
owes_heard : (f : ℕ) (c : Current) → is_owes (mark_in c f) ≡ true → is_heard f c ≡ true
owes_heard f (Current.Asking op r) e = e
owes_heard f (Current.Writing op asked awaited reply) e = go (asked f) e
  where
    go : (b : Bool) → is_owes (if b then Mark.Granted else Mark.Out) ≡ true → false ≡ true
    go true e = e
    go false e = e
owes_heard f _ e = e

-- a request is always awaited
unawaited : (a : ℕ) (v : Node) (f : ℕ) (l : Letter) → awaits a v f l ≡ false → request_in l ≡ []
unawaited a v f (Letter.SetLock id p) e = cc
unawaited a v f (Letter.GiveBack id p ack) e = cc
unawaited a v f _ e = refl

-- no node waits for an answer that isn't awaited
unheard : (a : ℕ) (v : Node) (f : ℕ) (l : Letter) → awaits a v f l ≡ false → IsNamed f a l
    → (s : Stage) (rest : List Bool)
    → answers_at s ≡ answer_in l ++ rest → fits s (mark_in v.current f) ≡ true → answer_in l ≡ []
unheard a v f (Letter.LockAnswer (Global b) p granted) e n s rest k fit =
    absurd (not_both (is_heard f v.current)
    (owes_heard f v.current (owes_answer s (mark_in v.current f) granted rest k fit)) shut)
  where
    is_registrar : is_process p (registrar a) ≡ true
    is_registrar = ap (λ (q : Process). is_process q (registrar a)) n.1 ∙ rw (eq-eqb a a refl) refl

    shut : is_heard f v.current ≡ false
    shut = sym (ap (λ (c : Bool). if c then is_heard f v.current else some_call (is_heard_in f) (call_of p v.calls))
        is_registrar) ∙ e
unheard a v f (Letter.LockAnswer (Client s q) p granted) e n st rest k fit = refl
unheard a v f _ e n s rest k fit = refl

module _ (o : Opening) (a : ℕ) (w : World) (I : Proper o w) (L : Locks o w) (up : IsUp o w a) where
  -- no letter at all
  none : QuietSends o a w I L up []
  none = nothing_sent o a w I L up

  -- no letter is taken
  untaken : QuietTaken o a w I L up None
  untaken = quiet_taken o a w I L up None tt refl refl

  -- a letter to one node that isn't about the lock
  one : (d : ℕ) (l : Letter) → ((n : ℕ) → IsNamed a n l) → request_in l ≡ [] → answer_in l ≡ []
      → QuietSends o a w I L up (record { to = d; letter = l } ∷ [])
  one = quiet_one o a w I L up

  -- the same letter to a set, that isn't about the lock
  all : (s : Nodes) (l : Letter) → ((n : ℕ) → IsNamed a n l) → request_in l ≡ [] → answer_in l ≡ []
      → QuietSends o a w I L up (to_each (nodes_of o.bound s) l)
  all = quiet_all o a w I L up

  -- the registrar waits for a contact, before or after: nobody is marked
  unmarked : (c e : Current) → (w.node a).current ≡ c → ((x : ℕ) → mark_in c x ≡ mark_in e x) → (x : ℕ) → IsUp o w x
      → (s : Stage)
      → fits s (mark_in (w.node a).current x) ≡ true → fits s (mark_in e x) ≡ true
  unmarked c e is same x ux s h = subst (λ (m : Mark). fits s m ≡ true)
      (ap (λ (y : Current). mark_in y x) is ∙ same x) h

  -- a new lock call is a client's
  new_client : (c : LockCall) → IsNew a (w.node a) c → IsClients c
  new_client c N = (
    ap is_global N.id,
    (both (c.holder.node == a) (is_client c.holder)
        (both ((c.holder.node == a) && is_client c.holder)
        (not (is_dead (w.node a).watch c.holder.serial)) N.live).0).1,
  )

  -- so is an open one
  open_client : (c : LockCall) → call_of c.holder (w.node a).calls ≡ Some c → IsClients c
  open_client c e = call_of-client c.holder (w.node a).calls c (L.calls a) e

  -- and one that is tried again
  tried_client : (c : LockCall) → IsNew a (w.node a) c ⊎ IsRetried (w.node a) c → IsClients c
  tried_client c (inl N) = new_client c N
  tried_client c (inr R) = (ap is_global (sym R.id) ∙ before.0, ap is_client (sym R.holder) ∙ before.1)
    where
      before : IsClients R.before
      before = call_of-client c.holder (w.node a).calls R.before (L.calls a) R.open_call

  -- who is spawned is a client
  issued_client : (p : Process) → is_issued a (w.node a).watch p ≡ true → is_client p ≡ true
  issued_client p e = (both (p.node == a) (is_client p)
      (both ((p.node == a) && is_client p) (not (nat_lt (w.node a).watch.last_serial p.serial)) e).0).1

  -- who lives is a client
  live_client : (p : Process) → is_live a (w.node a).watch p ≡ true → is_client p ≡ true
  live_client p e = (both (p.node == a) (is_client p)
      (both ((p.node == a) && is_client p) (not (is_dead (w.node a).watch p.serial)) e).0).1

  -- the operation is done
  done_turn : (op : Op) (asked awaited : Nodes) (reply : Option Reply)
      → (w.node a).current ≡ Current.Writing op asked awaited reply
      → Turned o a w I L up (done o.bound a op asked reply (begun (w.node a))) None
  done_turn op asked awaited reply cur = go op reply
    where
      fit : (x : ℕ) → IsUp o w x → (s : Stage) → fits s (mark_in (w.node a).current x) ≡ true
          → fits s (if asked x then Mark.Granted else Mark.Out) ≡ true
      fit x ux s h = subst (λ (c : Current). fits s (mark_in c x) ≡ true) cur h

      go : (op : Op) (reply : Option Reply) → Turned o a w I L up
          (done o.bound a op asked reply (begun (w.node a))) None
      go (Op.Name k call) (Some r) = hands_back o a w I L up asked fit _ _
      go _ reply = hands_back o a w I L up asked fit _ _

  -- each rule that isn't the last step of the node keeps what is known of the lock
  lock_rule : (r : Rule) → is_leave r ≡ false → May o a w r → Turned o a w I L up (turn_by o a w r) (takes o a r)
  lock_rule (Rule.Exits p) e m = plainly o a w I L up _ None untaken
      (all (w.node a).replica.members (Letter.ReleaseOf p) (λ n. issued_client p m.tested.0) refl refl)
      (drop_call-clients p (w.node a).calls (L.calls a)) refl refl
  lock_rule (Rule.Kills f l p receivers) e m = plainly o a w I L up _ None untaken
      (all receivers (Letter.ReleaseOf p) (λ n. live_client p m.tested.4) refl refl)
      (drop_call-clients p (w.node a).calls (L.calls a)) refl refl
  lock_rule (Rule.Begins op ops) e m = begins o a w I L up op ops (λ x. ap (λ (c : Current). mark_in c x) m.tested.0)
  lock_rule (Rule.BeginsStrike serial) e m = begins o a w I L up (Op.Strike (record { node = a; serial = serial }))
      (w.node a).queue (λ x. ap (λ (c : Current). mark_in c x) m.tested.0)
  lock_rule (Rule.Retries op) e m = begins o a w I L up op (w.node a).queue
      (λ x. ap (λ (c : Current). mark_in c x) m.tested)
  lock_rule (Rule.AsksJoin k c ops) e m = quietly o a w I L up _ None untaken
      (one c (Letter.JoinAsk (w.node a).replica.table) (λ n. tt) refl refl) (L.calls a) tt refl refl
      (unmarked Current.Free (Current.Joining k c) m.tested.0 (λ x. refl))
  lock_rule (Rule.HearsAnswer f id granted op r) e m = hears o a w I L up f id granted op r m.front m.tested.1
      m.tested.2 (opens f granted r) refl
  lock_rule (Rule.MarksDown d op r) e m = marks_down o a w I L up d op r m.tested.0 m.tested.1
  lock_rule (Rule.GivesUp op r granted) e m = gives_back o a w I L up op r granted m.tested.0 m.tested.1 m.tested.2
  lock_rule (Rule.Grants k call r) e m = quietly o a w I L up _ None untaken
      (all (w.node a).replica.members (Letter.Apply (change_of call)) (λ n. tt) refl refl) (L.calls a) tt
      (asked_itself o a w I L up (Op.Name k call) r m.tested.0) refl
      (asked_granted o a w I L up (Op.Name k call) r m.tested.0)
  lock_rule (Rule.Denies k call r) e m = hands_back o a w I L up (asked r)
      (asked_granted o a w I L up (Op.Name k call) r m.tested.0) _ _
  lock_rule (Rule.Strikes p r) e m = quietly o a w I L up _ None untaken
      (all (w.node a).replica.members (Letter.Apply (StrikeOwner p)) (λ n. tt) refl refl) (L.calls a) tt
      (asked_itself o a w I L up (Op.Strike p) r m.tested) refl (asked_granted o a w I L up (Op.Strike p) r m.tested)
  lock_rule (Rule.Admits j pairs r) e m = quietly o a w I L up _ None untaken
      (sends-append o a w I L up (to_each (nodes_of o.bound (w.node a).replica.members) _) (record { to = j; letter = _ } ∷ [])
      (all (w.node a).replica.members _ (λ n. tt) refl refl) (one j _ (λ n. tt) refl refl)) (L.calls a) tt
      (asked_itself o a w I L up (Op.Admission j pairs) r m.tested.0) refl
      (asked_granted o a w I L up (Op.Admission j pairs) r m.tested.0)
  lock_rule (Rule.Passes j pairs r) e m = hands_back o a w I L up (asked r)
      (asked_granted o a w I L up (Op.Admission j pairs) r m.tested.0) _ _
  lock_rule (Rule.CountsApplied f op asked awaited reply) e m =
      quietly o a w I L up _ (takes o a (Rule.CountsApplied f op asked awaited reply))
      (quiet_taken o a w I L up (taking f Letter.Applied) m.front refl refl)
      none (L.calls a) tt (sym (ap (asks_itself a) m.tested.1) ∙ L.writers a up) refl
      (unmarked (Current.Writing op asked awaited reply)
      (Current.Writing op asked (at awaited f false) reply) m.tested.1 (λ x. refl))
  lock_rule (Rule.CountsDown d op asked awaited reply) e m = quietly o a w I L up _ None untaken
      none (L.calls a) tt (sym (ap (asks_itself a) m.tested.1) ∙ L.writers a up) refl
      (unmarked (Current.Writing op asked awaited reply)
      (Current.Writing op asked (at awaited d false) reply) m.tested.1 (λ x. refl))
  lock_rule (Rule.Finishes op asked awaited reply) e m = done_turn op asked awaited reply m.tested.0
  lock_rule (Rule.Judges f id p) e m = judges o a w I L up f id p m.front
      (named_front o a w I L up f (Letter.SetLock id p) m.front)
  lock_rule (Rule.TakesBack f id p ack) e m = takes_back o a w I L up f id p ack m.front
      (named_front o a w I L up f (Letter.GiveBack id p ack) m.front)
  lock_rule (Rule.Releases f p) e m = plainly o a w I L up _ (taking f (Letter.ReleaseOf p))
      (quiet_taken o a w I L up (taking f (Letter.ReleaseOf p)) m.front refl refl) none (L.calls a) refl
      (drop_holder-row p (not_true (p.serial == 0) (named_front o a w I L up f (Letter.ReleaseOf p) m.front))
      (L.rows a up).0 (w.node a).locks (L.rows a up).1)
  lock_rule (Rule.Writes f change) e m = plainly o a w I L up _ (taking f (Letter.Apply change))
      (quiet_taken o a w I L up (taking f (Letter.Apply change)) m.front refl refl)
      (one f Letter.Applied (λ n. tt) refl refl) (L.calls a) refl refl
  lock_rule (Rule.RefusesJoin f pairs) e m = plainly o a w I L up _ (taking f (Letter.JoinAsk pairs))
      (quiet_taken o a w I L up (taking f (Letter.JoinAsk pairs)) m.front refl refl)
      (one f Letter.JoinRefused (λ n. tt) refl refl) (L.calls a) refl refl
  lock_rule (Rule.EndsJoin f k) e m = quietly o a w I L up _ (taking f Letter.JoinRefused)
      (quiet_taken o a w I L up (taking f Letter.JoinRefused) m.front refl refl) none (L.calls a) tt refl refl
      (unmarked (Current.Joining k f) Current.Free m.tested.1 (λ x. refl))
  lock_rule (Rule.IsAdmitted f j settled) e m = plainly o a w I L up _ (taking f (Letter.Admit j settled))
      (quiet_taken o a w I L up (taking f (Letter.Admit j settled)) m.front refl refl)
      (one f Letter.Applied (λ n. tt) refl refl) (L.calls a) refl refl
  lock_rule (Rule.IsWelcomed f k members pairs told fate) e m =
      quietly o a w I L up _ (taking f (Letter.Welcome members pairs told fate))
      (quiet_taken o a w I L up (taking f (Letter.Welcome members pairs told fate)) m.front refl refl)
      (one f Letter.Applied (λ n. tt) refl refl) (L.calls a) tt refl refl
      (unmarked (Current.Joining k f) Current.Free m.tested.1 (λ x. refl))
  lock_rule (Rule.IsTold f) e m = is_told o a w I L up f
      (subst (λ (ls : List Letter). Each (IsProper o w f a) ls) m.front.1.1 (I.letters f a up.1)).0.0 m.front
  lock_rule (Rule.LosesContact k c) e m = quietly o a w I L up _ None untaken none (L.calls a) tt refl refl
      (unmarked (Current.Joining k c) Current.Free m.tested.1 (λ x. refl))
  lock_rule (Rule.Ignores f l) e m = record {
    local = record {
      sends = λ n run. tt;
      calls = L.calls a;
      round = L.rounds a;
      writer = L.writers a up;
      row = L.rows a up;
    };
    moves = requester_turn o a w up (begun (w.node a)) (taking f l) m.front (λ x ux. refl)
        (λ x ux. found-letters request_in (taking f l) (unawaited a (w.node a) f l m.tested.1) x) refl move;
  }
    where
      stay : (x : ℕ) → IsUp o w x → (s : Stage) → Session w a x s → found answer_in (letters_from (taking f l) x) ≡ []
          → AsRequester o a w up (begun (w.node a)) (taking f l) m.front x s
      stay x ux s S heard = moved_to o a w I L up (begun (w.node a)) (taking f l) m.front x s s
          (mark_in (w.node a).current x) [] [] (mark_stays s (mark_in (w.node a).current x) S.mark) refl refl heard

      silent : (x : ℕ) → x ≡ f → (s : Stage) → Session w a x s → answer_in l ≡ []
      silent x k s S = unheard a (w.node a) f l m.tested.1 (named_front o a w I L up f l m.front) s
          (found answer_in m.front.1.0)
          (sym S.answers ∙ ap (λ (y : ℕ). found answer_in (w.links.queue y a)) k ∙ ap (found answer_in) m.front.1.1)
          (subst (λ (y : ℕ). fits s (mark_in (w.node a).current y) ≡ true) k S.mark)

      move : (x : ℕ) → IsUp o w x → (s : Stage) → Session w a x s
          → AsRequester o a w up (begun (w.node a)) (taking f l) m.front x s
      move x ux s S = elim (cases_eq x f) [
        | inl k ↦ stay x ux s S (found-letters answer_in (taking f l) (silent x k s S) x)
        | inr ne ↦ stay x ux s S (rw (ne_eqb x f ne) refl)
      ]
  lock_rule (Rule.Drops f l) e m = plainly o a w I L up _ (taking f l)
      (record {
        front = m.front;
        no_request = λ x ux. from_other request_in x ux;
        no_answer = λ x ux. from_other answer_in x ux;
      }) none (L.calls a) refl refl
    where
      from_other : {A : Type 0} (g : Letter → List A) (x : ℕ) → IsUp o w x → found g (letters_from (taking f l) x) ≡ []
      from_other g x ux = rw (ne_eqb x f
          (λ k. not_both (left w x) (subst (λ (y : ℕ). left w y ≡ true) (sym k) (I.told_left a f up.1 m.tested.0))
          ux.1)) refl
  lock_rule (Rule.AsksLock c) e m = plainly o a w I L up _ None untaken
      (one _ (Letter.SetLock c.id c.holder) (λ n. client_asks c.id c.holder C.0 C.1 a n)
      (client_asks_nothing c.id c.holder C.0) refl) (put_call-clients _ (w.node a).calls C (L.calls a)) refl refl
    where
      C : IsClients c
      C = tried_client c m.tested.0
  lock_rule (Rule.HearsLock f id granted c r) e m = go (opens f granted r)
    where
      C : IsClients c
      C = open_client c m.tested.2.call

      t : Option Taken
      t = taking f (Letter.LockAnswer id c.holder granted)

      T : QuietTaken o a w I L up t
      T = quiet_taken o a w I L up t m.front refl
          (client_answered id c.holder granted f a
          (named_front o a w I L up f (Letter.LockAnswer id c.holder granted) m.front) C.1)

      others : Nodes
      others x = rest r x && not ((w.node a).replica.told x)

      go : (b : Bool) → Turned o a w I L up
          (keep_call (in_phase (LockPhase.Asking (answer f granted r)) c)
          (if b then send_all o.bound others (Letter.SetLock c.id c.holder) (begun (w.node a)) else begun
          (w.node a))) t
      go true = plainly o a w I L up _ t T
          (all others (Letter.SetLock c.id c.holder) (λ n. client_asks c.id c.holder C.0 C.1 a n)
          (client_asks_nothing c.id c.holder C.0) refl)
          (put_call-clients _ (w.node a).calls C (L.calls a)) refl refl
      go false = plainly o a w I L up _ t T none (put_call-clients _ (w.node a).calls C (L.calls a)) refl refl
  lock_rule (Rule.MarksLockDown d c r) e m = plainly o a w I L up _ None untaken none
      (put_call-clients _ (w.node a).calls (open_client c m.tested.1.call) (L.calls a)) refl refl
  lock_rule (Rule.GivesUpLock c r granted) e m = go (is_spent c.retries)
    where
      C : IsClients c
      C = open_client c m.tested.0.call

      S : QuietSends o a w I L up (to_each (nodes_of o.bound granted) (Letter.GiveBack c.id c.holder false))
      S = all granted (Letter.GiveBack c.id c.holder false) (λ n. client_returns c.id c.holder false C.0 a n)
          (client_returns_nothing c.id c.holder false C.0) refl

      go : (b : Bool) → Turned o a w I L up
          (if b then close_call o.bound a c false (give_lock o.bound a c granted (begun (w.node a))) else keep_call
          (in_phase LockPhase.Waiting c) (give_lock o.bound a c granted (begun (w.node a)))) None
      go true = plainly o a w I L up _ None untaken S (drop_call-clients c.holder (w.node a).calls (L.calls a)) refl
          refl
      go false = plainly o a w I L up _ None untaken S (put_call-clients _ (w.node a).calls C (L.calls a)) refl refl
  lock_rule (Rule.DeletesLock c) e m = plainly o a w I L up _ None untaken
      (all (targets (w.node a).replica.members c.target) (Letter.GiveBack c.id c.holder true)
      (λ n. client_returns c.id c.holder true C.0 a n) (client_returns_nothing c.id c.holder true C.0) refl)
      (put_call-clients _ (w.node a).calls C (L.calls a)) refl refl
    where
      C : IsClients c
      C = new_client c m.tested.0
  lock_rule (Rule.FailsLock c) e m = plainly o a w I L up _ None untaken none
      (drop_call-clients c.holder (w.node a).calls (L.calls a)) refl refl
  lock_rule (Rule.WinsLock c r) e m = plainly o a w I L up _ None untaken none
      (drop_call-clients c.holder (w.node a).calls (L.calls a)) refl refl
  lock_rule (Rule.DeletesNothing c) e m = plainly o a w I L up _ None untaken none
      (drop_call-clients c.holder (w.node a).calls (L.calls a)) refl refl
  lock_rule (Rule.CountsGivenBack f c owing) e m = plainly o a w I L up _ (taking f (Letter.GivenBack c.holder))
      (quiet_taken o a w I L up (taking f (Letter.GivenBack c.holder)) m.front refl refl) none
      (put_call-clients _ (w.node a).calls (open_client c m.tested.1.call) (L.calls a)) refl refl
  lock_rule (Rule.EndsDeletion f c owing) e m = plainly o a w I L up _ (taking f (Letter.GivenBack c.holder))
      (quiet_taken o a w I L up (taking f (Letter.GivenBack c.holder)) m.front refl refl) none
      (drop_call-clients c.holder (w.node a).calls (L.calls a)) refl refl
  lock_rule (Rule.CountsLockDown d c owing) e m = plainly o a w I L up _ None untaken none
      (put_call-clients _ (w.node a).calls (open_client c m.tested.1.call) (L.calls a)) refl refl
  lock_rule (Rule.EndsDeletionDown d c owing) e m = plainly o a w I L up _ None untaken none
      (drop_call-clients c.holder (w.node a).calls (L.calls a)) refl refl
  lock_rule (Rule.QueuesJoin f pairs) e m = plainly o a w I L up _ (taking f (Letter.JoinAsk pairs))
      (quiet_taken o a w I L up (taking f (Letter.JoinAsk pairs)) m.front refl refl) none (L.calls a) refl refl
  lock_rule Rule.Leaves e m = cc
  lock_rule _ e m = plainly o a w I L up _ None untaken none (L.calls a) refl refl

  -- who isn't told yet that the node leaves goes on as before, and has one more letter that isn't about the lock
  leaves_lock : Locks o (effect o a Rule.Leaves w)
  leaves_lock = record {
    named = λ f n run. by_test a
        (λ n b. left after n ≡ false → Each (IsNamed f n) (if b then [] else (posted a out w.links).queue f n))
        (λ run. tt) (λ n ne run. each-posted (IsNamed f n) a out w.links f n (L.named f n (still n run))
        (λ e. each-all (IsNamed f n) o.bound (others o a) n Letter.Down (λ h. tt))) n run;
    calls = by_test a (λ n b. AllClients (if b then w.node a else w.node n).calls) (L.calls a) (λ n ne. L.calls n);
    rounds = by_test a (λ n b. IsRound (if b then w.node a else w.node n).current) (L.rounds a) (λ n ne. L.rounds n);
    writers = λ n run. by_test a (λ n b. IsUp o w n → asks_itself n (if b then w.node a else w.node n).current ≡ true)
        (λ r. L.writers a r) (λ n ne r. L.writers n r) n (run.0, still n run.1);
    rows = λ n run. by_test a
        (λ n b. IsUp o w n → (row : Row) × (globals (if b then w.node a else w.node n).locks ≡ grants_of row))
        (λ r. L.rows a r) (λ n ne r. L.rows n r) n (run.0, still n run.1);
    pairs = pair;
  }
    where
      after : World
      after = effect o a Rule.Leaves w

      out : ℕ → List Letter
      out = farewell o a

      still : (d : ℕ) → left after d ≡ false → left w d ≡ false
      still = ran_before o a w

      stays_here : (d : ℕ) → left after d ≡ false → d ≡ a → ⊥
      stays_here d h e = not_both (left after d)
          (subst (λ (y : ℕ). left after y ≡ true) (sym e) (at_same w.links.closed a true)) h

      node_same : (d : ℕ) → (d ≡ a → ⊥) → after.node d ≡ w.node d
      node_same d ne = at_other w.node a (w.node a) d ne

      link_same : (x y : ℕ) → (x ≡ a → ⊥) → (y ≡ a → ⊥) → after.links.queue x y ≡ w.links.queue x y
      link_same x y nx ny = rw (ne_eqb x a nx, ne_eqb y a ny) refl

      pair : (r x : ℕ) → IsUp o after r → IsUp o after x → (s : Stage) × Session after r x s
      pair r x ur ux = (
        P.0,
        record {
          mark = subst (λ (v : Node). fits P.0 (mark_in v.current x) ≡ true)
              (sym (node_same r (stays_here r ur.1))) P.1.mark;
          requests = ap (found request_in) (link_same r x (stays_here r ur.1) (stays_here x ux.1)) ∙ P.1.requests;
          answers = ap (found answer_in) (link_same x r (stays_here x ux.1) (stays_here r ur.1)) ∙ P.1.answers;
          share = subst (λ (v : Node). share r (globals v.locks) ≡ share_at P.0)
              (sym (node_same x (stays_here x ux.1))) P.1.share;
        },
      )
        where
          P : (s : Stage) × Session w r x s
          P = L.pairs r x (ur.0, still r ur.1) (ux.0, still x ux.1)

-- each rule keeps what is known of the global lock
pub locks_keeps : (o : Opening) (a : ℕ) (w : World) (r : Rule) → Proper o w → Locks o w → May o a w r
    → Locks o (effect o a r w)
locks_keeps o a w Rule.Leaves I L m = leaves_lock o a w I L (m.inside, m.running)
locks_keeps o a w r I L m = lock_turn o a w L (turn_by o a w r) (takes o a r) T.local T.moves
  where
    T : Turned o a w I L (m.inside, m.running) (turn_by o a w r) (takes o a r)
    T = lock_rule o a w I L (m.inside, m.running) r refl m

-- it holds at the opening
pub locks_opens : (o : Opening) → Locks o (opening_world o)
locks_opens o = record {
  named = λ f n run. tt;
  calls = λ n. tt;
  rounds = λ n. tt;
  writers = λ n run. refl;
  rows = λ n run. (Nobody, refl);
  pairs = λ r x ur ux. (Free, record { mark = refl; requests = refl; answers = refl; share = refl });
}
