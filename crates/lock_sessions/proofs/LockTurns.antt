-- Turns of a registrar: its round begins, hears an answer, ends, and its operation is done. And turns that leave the
-- lock alone.
use Rattle.std.proofs.Common.{ℕ, Bool, true, false, ◌≡◌, ◌<◌, Option, None, List, [], ◌∷◌, ◌++◌, refl, sym, ap, ◌∙◌, subst, inl, inr}
use Rattle.std.specs.Prelude.{not, ◌&&◌, nat_lt, if◌then◌else◌}
use Rattle.std.proofs.lemmas.Bool.{cases_eq, eq-eqb, ne_eqb, ltb-true}
use Rattle.registry_model.specs.Process.{Nodes, nodes_of, at}
use Rattle.registry_model.specs.History.{Entry}
use Rattle.protocol_model.specs.Round.{Round, Mark, greatest, is_out, is_granted, has_granted, asked, asked_too, marked, mark_down, rest, owes, opens, answer, down, is_over, GiveBack, ending}
use Rattle.protocol_model.specs.Letter.{Id, Global, Client, Letter}
use Rattle.protocol_model.specs.Node.{Op, Current, LockCall}
use Rattle.protocol_model.specs.Event.{Answer}
use Rattle.protocol_model.specs.Turn.{Turn, Send, begun, at_work, with_queue, send_all, sent_to}
use Rattle.protocol_model.specs.Registrar.{registrar, ask_global, give_up}
use Rattle.protocol_model.specs.World.{Opening, World, left}
use Rattle.moves.proofs.Rules.{Taken, taking, FrontTaken, IsHeld}
use Rattle.registry_model.proofs.Updates.{at_same, at_other}
use Rattle.moves.proofs.Indices.{both, greatest_in}
use Rattle.moves.proofs.Sends.{to_each, sent_to-one}
use Rattle.moves.proofs.Invariants.{Each, IsUp, Proper}
use Rattle.lock_sessions.proofs.Base.{not_both, after_turn, letters_from, each-one, each-all}
use Rattle.lock_sessions.proofs.LockTables.{globals}
use Rattle.lock_sessions.proofs.Sessions.{Request, Asks, Returns, Stage, HasGrant, HasRefusal, Session, fits, requests_at, answers_at, mark_in, request_in, answer_in, found, found-one, found-all, found-none, taken_as, found-letters, AsRequester, requester_turn, quiet_turn}
use Rattle.lock_sessions.proofs.Locking.{IsNamed, AllClients, BossFirst, IsRound, asks_itself, Locks, LocalTurn}
use Rattle.lock_sessions.proofs.Rounds.{owes_ungranted, Moved, asked_at, is_asked, mark_stays, is_heard, out_fits, held_fits, gives_up, asks_more, finishes, begin-first, down-first, answer-opens, answer-owed, opens-boss, answer-first, over-owes, HeldRound, ending-held, ending-given}

module _ (o : Opening) (a : ℕ) (w : World) (I : Proper o w) (L : Locks o w) (up : IsUp o w a) where
  -- each pair of running nodes stands at a stage after the turn too
  abbrev pub Moves : Turn → Option Taken → Type 0
  Moves u t = (r x : ℕ) → IsUp o w r → IsUp o w x → (s : Stage) → Session w r x s
      → (e : Stage) × Session (after_turn a w u t) r x e

  -- a turn that keeps all that is known of the lock
  pub record Turned (u : Turn) (t : Option Taken) : Type 0 where
    pub local : LocalTurn o a w u
    pub moves : Moves u t

  -- letters that have nothing to do with the global lock
  pub record QuietSends (ss : List Send) : Type 0 where
    pub named : (n : ℕ) → left w n ≡ false → Each (IsNamed a n) (sent_to n ss)
    pub no_request : (x : ℕ) → found request_in (sent_to x ss) ≡ []
    pub no_answer : (x : ℕ) → found answer_in (sent_to x ss) ≡ []

  -- no letter at all
  pub nothing_sent : QuietSends []
  nothing_sent = record { named = λ n run. tt; no_request = λ x. refl; no_answer = λ x. refl }

  -- one letter
  pub quiet_one : (d : ℕ) (l : Letter) → ((n : ℕ) → IsNamed a n l) → request_in l ≡ [] → answer_in l ≡ []
      → QuietSends (record { to = d; letter = l } ∷ [])
  quiet_one d l named e k = record {
    named = λ n run. each-one (IsNamed a n) n d l (λ h. named n);
    no_request = λ x. found-one request_in d l e x;
    no_answer = λ x. found-one answer_in d l k x;
  }

  -- the same letter to a set
  pub quiet_all : (s : Nodes) (l : Letter) → ((n : ℕ) → IsNamed a n l) → request_in l ≡ [] → answer_in l ≡ []
      → QuietSends (to_each (nodes_of o.bound s) l)
  quiet_all s l named e k = record {
    named = λ n run. each-all (IsNamed a n) o.bound s n l (λ h. named n);
    no_request = λ x. found-none request_in o.bound s l e x;
    no_answer = λ x. found-none answer_in o.bound s l k x;
  }

  -- the letter that is taken, if it comes from a node that runs, has nothing to do with the global lock
  pub record QuietTaken (t : Option Taken) : Type 0 where
    pub front : FrontTaken o a w t
    pub no_request : (x : ℕ) → IsUp o w x → found request_in (letters_from t x) ≡ []
    pub no_answer : (x : ℕ) → IsUp o w x → found answer_in (letters_from t x) ≡ []

  -- a letter that is neither a request nor an answer
  pub quiet_taken : (t : Option Taken) → FrontTaken o a w t → taken_as request_in t ≡ [] → taken_as answer_in t ≡ []
      → QuietTaken t
  quiet_taken t front e k =
      record {
        front = front;
        no_request = λ x ux. found-letters request_in t e x;
        no_answer = λ x ux. found-letters answer_in t k x;
      }

  -- a turn that leaves the lock alone
  pub quietly : (u : Turn) (t : Option Taken) → QuietTaken t → QuietSends u.sends → AllClients u.node.calls
      → IsRound u.node.current
      → asks_itself a u.node.current ≡ true → globals u.node.locks ≡ globals (w.node a).locks
      → ((x : ℕ) → IsUp o w x → (s : Stage) → fits s (mark_in (w.node a).current x) ≡ true
      → fits s (mark_in u.node.current x) ≡ true) → Turned u t
  quietly u t T S calls round writer same marks = record {
    local = record {
      sends = S.named;
      calls = calls;
      round = round;
      writer = writer;
      row = ((L.rows a up).0, same ∙ (L.rows a up).1);
    };
    moves = quiet_turn o a w up u t T.front (λ x ux. S.no_answer x)
        (λ x ux. S.no_request x) T.no_request T.no_answer same marks;
  }

  -- and the registrar's operation too
  pub plainly : (u : Turn) (t : Option Taken) → QuietTaken t → QuietSends u.sends → AllClients u.node.calls
      → u.node.current ≡ (w.node a).current → globals u.node.locks ≡ globals (w.node a).locks → Turned u t
  plainly u t T S calls e same = quietly u t T S calls (subst (λ (c : Current). IsRound c) (sym e) (L.rounds a))
      (ap (asks_itself a) e ∙ L.writers a up) same
      (λ x ux s h. subst (λ (c : Current). fits s (mark_in c x) ≡ true) (sym e) h)

  -- a requester's stage by its parts
  pub moved_to : (u : Turn) (t : Option Taken) (front : FrontTaken o a w t) (x : ℕ) (s e : Stage) (m : Mark)
      (sent : List Request) (heard : List Bool)
      → Moved s e m sent heard → mark_in u.node.current x ≡ m → found request_in (sent_to x u.sends) ≡ sent
      → found answer_in (letters_from t x) ≡ heard
      → AsRequester o a w up u t front x s
  moved_to u t front x s e m sent heard M mark requests answers = record {
    to = e;
    mark = subst (λ (y : Mark). fits e y ≡ true) (sym mark) M.mark;
    requests = ap (λ (zs : List Request). requests_at s ++ zs) requests ∙ M.requests;
    answers = M.answers ∙ ap (λ (zs : List Bool). zs ++ answers_at e) (sym answers);
    share = M.share;
  }

  -- a turn of a requester that changes nothing but what is current, and has sent no answer
  pub requesting : (u : Turn) (t : Option Taken) (front : FrontTaken o a w t)
      → ((n : ℕ) → left w n ≡ false → Each (IsNamed a n) (sent_to n u.sends))
      → ((x : ℕ) → found answer_in (sent_to x u.sends) ≡ []) → taken_as request_in t ≡ []
      → u.node.calls ≡ (w.node a).calls → IsRound u.node.current → asks_itself a u.node.current ≡ true
      → u.node.locks ≡ (w.node a).locks
      → ((x : ℕ) → IsUp o w x → (s : Stage) → Session w a x s → AsRequester o a w up u t front x s) → Turned u t
  requesting u t front named silent untaken calls round writer locks move = record {
    local = record {
      sends = named;
      calls = subst (λ (cs : List LockCall). AllClients cs) (sym calls) (L.calls a);
      round = round;
      writer = writer;
      row = ((L.rows a up).0, ap globals locks ∙ (L.rows a up).1);
    };
    moves = requester_turn o a w up u t front (λ x ux. silent x) (λ x ux. found-letters request_in t untaken x)
        (ap globals locks) move;
  }

  -- who runs is below the bound of the world
  pub below : (x : ℕ) → IsUp o w x → nat_lt x o.bound ≡ true
  below x ux = (both (nat_lt x o.bound) (o.nodes x) ux.0).0

  -- who runs isn't told to have left
  pub untold : (x : ℕ) → IsUp o w x → (w.node a).replica.told x ≡ false
  untold x ux = go ((w.node a).replica.told x) refl
    where
      go : (b : Bool) → (w.node a).replica.told x ≡ b → b ≡ false
      go true e = absurd (not_both (left w x) (I.told_left a x up.1 e) ux.1)
      go false e = refl

  -- the mark of node x by what is current
  pub now_fits : (c : Current) → (w.node a).current ≡ c → (x : ℕ) (s : Stage) → Session w a x s
      → fits s (mark_in c x) ≡ true
  now_fits c e x s S = subst (λ (y : Current). fits s (mark_in y x) ≡ true) e S.mark

  -- the registrar's round asks its boss first
  pub first_round : (op : Op) (r : Round) → (w.node a).current ≡ Current.Asking op r → BossFirst r
  first_round op r e = subst (λ (c : Current). IsRound c) e (L.rounds a)

  -- node a's registrar asks for the lock
  abbrev set_lock : Letter
  set_lock = Letter.SetLock (Global a) (registrar a)

  -- and gives it back
  abbrev hand_back : Letter
  hand_back = Letter.GiveBack (Global a) (registrar a) false

  -- a round begins
  pub begins : (op : Op) (ops : List Op) → ((x : ℕ) → mark_in (w.node a).current x ≡ Mark.Out)
      → Turned (ask_global o.bound a op (with_queue ops (begun (w.node a)))) None
  begins op ops idle = requesting (ask_global o.bound a op (with_queue ops (begun (w.node a)))) None tt
      (λ n run. each-one (IsNamed a n) n boss set_lock (λ e. (refl, refl)))
      (λ x. found-one answer_in boss set_lock refl x) refl
      refl (begin-first o.bound members) refl refl move
    where
      members : Nodes
      members = (w.node a).replica.members

      boss : ℕ
      boss = greatest o.bound members

      boss_in : members boss ≡ true
      boss_in = greatest_in o.bound members a (ltb-true a o.bound (below a up)) (I.itself a up)

      move : (x : ℕ) → IsUp o w x → (s : Stage) → Session w a x s
          → AsRequester o a w up (ask_global o.bound a op (with_queue ops (begun (w.node a)))) None tt x s
      move x ux s S = elim (cases_eq x boss) [
        | inl e ↦ moved_to _ None tt x s (asked_at s) Mark.Owes (Asks ∷ []) [] (is_asked s out)
            (rw (eq-eqb x boss e, subst (λ (y : ℕ). members y ≡ true) (sym e) boss_in) refl)
            (ap (found request_in) (sent_to-one x boss set_lock) ∙ rw (eq-eqb boss x (sym e)) refl) refl
        | inr ne ↦ other ne (members x) refl
      ]
        where
          out : fits s Mark.Out ≡ true
          out = subst (λ (m : Mark). fits s m ≡ true) (idle x) S.mark

          other : (x ≡ boss → ⊥) → (b : Bool) → members x ≡ b
              → AsRequester o a w up (ask_global o.bound a op (with_queue ops (begun (w.node a)))) None tt x s
          other ne true e = moved_to _ None tt x s s Mark.Later [] [] (mark_stays s Mark.Later (out_fits s out))
              (rw (e, ne_eqb x boss ne) refl)
              (ap (found request_in) (sent_to-one x boss set_lock) ∙ rw (ne_eqb boss x (λ k. ne (sym k))) refl) refl
          other ne false e = moved_to _ None tt x s s Mark.Out [] [] (mark_stays s Mark.Out out) (rw e refl)
              (ap (found request_in) (sent_to-one x boss set_lock) ∙ rw (ne_eqb boss x (λ k. ne (sym k))) refl) refl

  -- the registrar hears an answer; the boss's grant opens the round to the rest
  pub hears : (f : ℕ) (id : Id) (granted : Bool) (op : Op) (r : Round)
      → FrontTaken o a w (taking f (Letter.LockAnswer id (registrar a) granted))
      → (w.node a).current ≡ Current.Asking op r → owes r f ≡ true → (b : Bool) → opens f granted r ≡ b
      → Turned (at_work (Current.Asking op (answer f granted r))
      (if b then send_all o.bound (λ x. rest r x && not ((w.node a).replica.told x)) set_lock
      (begun (w.node a)) else begun (w.node a)))
      (taking f (Letter.LockAnswer id (registrar a) granted))
  hears f id granted op r front cur owed b = go b
    where
      letter : Letter
      letter = Letter.LockAnswer id (registrar a) granted

      t : Option Taken
      t = taking f letter

      of_lock : (i : Id) → IsNamed f a (Letter.LockAnswer i (registrar a) granted)
          → answer_in (Letter.LockAnswer i (registrar a) granted) ≡ granted ∷ []
      of_lock (Global c) n = refl
      of_lock (Client s q) n = cc

      is_answer : answer_in letter ≡ granted ∷ []
      is_answer = of_lock id (subst (λ (ls : List Letter). Each (IsNamed f a) ls) front.1.1 (L.named f a up.1)).0

      -- an answer of f's is on its way
      coming : (x : ℕ) → x ≡ f → (s : Stage) → Session w a x s → answers_at s ≡ granted ∷ found answer_in front.1.0
      coming x e s S = sym S.answers ∙ ap (λ (y : ℕ). found answer_in (w.links.queue y a)) e
          ∙ ap (found answer_in) front.1.1
          ∙ ap (λ (zs : List Bool). zs ++ found answer_in front.1.0) is_answer

      heard_here : (x : ℕ) → x ≡ f → found answer_in (letters_from t x) ≡ granted ∷ []
      heard_here x e = rw (eq-eqb x f e) (ap (λ (zs : List Bool). zs ++ []) is_answer)

      heard_other : (x : ℕ) → (x ≡ f → ⊥) → found answer_in (letters_from t x) ≡ []
      heard_other x ne = rw (ne_eqb x f ne) refl

      fit : (x : ℕ) (s : Stage) → Session w a x s → fits s (r.mark x) ≡ true
      fit x s S = now_fits (Current.Asking op r) cur x s S

      go : (b : Bool) → opens f granted r ≡ b
          → Turned (at_work (Current.Asking op (answer f granted r))
          (if b then send_all o.bound (λ x. rest r x && not ((w.node a).replica.told x)) set_lock
          (begun (w.node a)) else begun (w.node a))) t
      go false shut = requesting u t front (λ n run. tt) (λ x. refl) refl refl
          (answer-first f granted r owed (first_round op r cur)) refl refl move
        where
          u : Turn
          u = at_work (Current.Asking op (answer f granted r)) (begun (w.node a))

          is_marked : answer f granted r ≡ marked f (if granted then Mark.Granted else Mark.Refused) r
          is_marked = answer-owed f granted r shut owed

          move : (x : ℕ) → IsUp o w x → (s : Stage) → Session w a x s → AsRequester o a w up u t front x s
          move x ux s S = elim (cases_eq x f) [
            | inl e ↦ moved_to u t front x s (if granted then HasGrant else HasRefusal)
                (if granted then Mark.Granted else Mark.Refused) [] (granted ∷ [])
                (is_heard s granted (found answer_in front.1.0) (coming x e s S))
                (ap (λ (y : Round). y.mark x) is_marked
                ∙ ap (at r.mark f (if granted then Mark.Granted else Mark.Refused)) e
                ∙ at_same r.mark f (if granted then Mark.Granted else Mark.Refused))
                refl (heard_here x e)
            | inr ne ↦ moved_to u t front x s s (r.mark x) [] [] (mark_stays s (r.mark x) (fit x s S))
                (ap (λ (y : Round). y.mark x) is_marked
                ∙ at_other r.mark f (if granted then Mark.Granted else Mark.Refused) x ne) refl (heard_other x ne)
          ]
      go true opened = requesting u t front
          (λ n run. each-all (IsNamed a n) o.bound asks n set_lock (λ e. (refl, refl)))
          (λ x. found-none answer_in o.bound asks set_lock refl x) refl refl
          (answer-first f granted r owed (first_round op r cur)) refl refl move
        where
          asks : Nodes
          asks x = rest r x && not ((w.node a).replica.told x)

          u : Turn
          u = at_work (Current.Asking op (answer f granted r)) (send_all o.bound asks set_lock (begun (w.node a)))

          is_boss : f ≡ r.boss
          is_boss = (opens-boss f granted r opened).1

          is_marked : answer f granted r ≡ marked f Mark.Granted (record r { mark = λ x. asked_too (r.mark x) })
          is_marked = answer-opens f granted r opened

          sent : (x : ℕ) → IsUp o w x → found request_in (sent_to x u.sends) ≡ (if asks x then Asks ∷ [] else [])
          sent x ux = found-all request_in o.bound asks set_lock x (below x ux)

          asks_of : (x : ℕ) → IsUp o w x → (x ≡ f → ⊥) → asks x ≡ not (is_out (r.mark x))
          asks_of x ux ne = rw (untold x ux, ne_eqb x r.boss (λ e. ne (e ∙ sym is_boss)))
              (plain (not (is_out (r.mark x))))
            where
              plain : (b : Bool) → ((b && not false) && not false) ≡ b
              plain true = refl
              plain false = refl

          none_here : (x : ℕ) → IsUp o w x → x ≡ f → asks x ≡ false
          none_here x ux e = rw (eq-eqb x r.boss (e ∙ is_boss))
              (plain (not (is_out (r.mark x))) (not ((w.node a).replica.told x)))
            where
              plain : (b c : Bool) → ((b && not true) && c) ≡ false
              plain true c = refl
              plain false c = refl

          ungranted : has_granted (r.mark r.boss) ≡ false
          ungranted = subst (λ (y : ℕ). has_granted (r.mark y) ≡ false) is_boss (owes_ungranted (r.mark f) owed)

          move : (x : ℕ) → IsUp o w x → (s : Stage) → Session w a x s → AsRequester o a w up u t front x s
          move x ux s S = elim (cases_eq x f) [
            | inl e ↦ moved_to u t front x s (if granted then HasGrant else HasRefusal)
                (if granted then Mark.Granted else Mark.Refused) [] (granted ∷ [])
                (is_heard s granted (found answer_in front.1.0) (coming x e s S))
                (ap (λ (y : Round). y.mark x) is_marked ∙ ap (at (λ x. asked_too (r.mark x)) f Mark.Granted) e
                ∙ at_same (λ x. asked_too (r.mark x)) f Mark.Granted
                ∙ sym (ap (λ (g : Bool). if g then Mark.Granted else Mark.Refused) (opens-boss f granted r opened).0))
                (sent x ux ∙ ap (λ (b : Bool). if b then Asks ∷ [] else []) (none_here x ux e)) (heard_here x e)
            | inr ne ↦ more ne (asks_more s (r.mark x) (fit x s S)
                ((first_round op r cur).early ungranted x (λ e. ne (e ∙ sym is_boss))))
          ]
            where
              more : (x ≡ f → ⊥) → (e : Stage) × Moved s e (asked_too (r.mark x))
                  (if not (is_out (r.mark x)) then Asks ∷ [] else []) [] → AsRequester o a w up u t front x s
              more ne m = moved_to u t front x s m.0 (asked_too (r.mark x))
                  (if not (is_out (r.mark x)) then Asks ∷ [] else []) [] m.1
                  (ap (λ (y : Round). y.mark x) is_marked ∙ at_other (λ x. asked_too (r.mark x)) f Mark.Granted x ne)
                  (sent x ux ∙ ap (λ (b : Bool). if b then Asks ∷ [] else []) (asks_of x ux ne)) (heard_other x ne)

  -- the registrar's round is told of a departure
  pub marks_down : (d : ℕ) (op : Op) (r : Round) → (w.node a).replica.told d ≡ true
      → (w.node a).current ≡ Current.Asking op r
      → Turned (at_work (Current.Asking op (down d r)) (begun (w.node a))) None
  marks_down d op r told cur = requesting u None tt (λ n run. tt) (λ x. refl) refl refl
      (down-first d r (first_round op r cur)) refl refl move
    where
      u : Turn
      u = at_work (Current.Asking op (down d r)) (begun (w.node a))

      other : (x : ℕ) → IsUp o w x → x ≡ d → ⊥
      other x ux e = not_both (left w x) (subst (λ (y : ℕ). left w y ≡ true) (sym e) (I.told_left a d up.1 told)) ux.1

      move : (x : ℕ) → IsUp o w x → (s : Stage) → Session w a x s → AsRequester o a w up u None tt x s
      move x ux s S = moved_to u None tt x s s (r.mark x) [] []
          (mark_stays s (r.mark x) (now_fits (Current.Asking op r) cur x s S))
          (at_other r.mark d (mark_down (r.mark d)) x (other x ux)) refl refl

  -- the round is given up
  pub gives_back : (op : Op) (r : Round) (back : Nodes) → (w.node a).current ≡ Current.Asking op r
      → is_over o.bound r ≡ true
      → ending o.bound (w.node a).replica.members r ≡ GiveBack back
      → Turned (give_up o.bound a op back (begun (w.node a))) None
  gives_back op r back cur over ended = requesting u None tt
      (λ n run. each-all (IsNamed a n) o.bound back n hand_back (λ e. (refl, refl, refl)))
      (λ x. found-none answer_in o.bound back hand_back refl x) refl refl tt refl refl move
    where
      u : Turn
      u = give_up o.bound a op back (begun (w.node a))

      move : (x : ℕ) → IsUp o w x → (s : Stage) → Session w a x s → AsRequester o a w up u None tt x s
      move x ux s S = by (gives_up s (r.mark x) (now_fits (Current.Asking op r) cur x s S)
          (over-owes o.bound r (first_round op r cur) over x (ltb-true x o.bound (below x ux))))
        where
          by : (e : Stage) × Moved s e Mark.Out (if is_granted (r.mark x) then Returns ∷ [] else []) []
              → AsRequester o a w up u None tt x s
          by m = moved_to u None tt x s m.0 Mark.Out (if is_granted (r.mark x) then Returns ∷ [] else []) [] m.1 refl
              (found-all request_in o.bound back hand_back x (below x ux)
              ∙ ap (λ (b : Bool). if b then Returns ∷ [] else [])
              (ending-given o.bound (w.node a).replica.members back r ended x)) refl

  module _ (op : Op) (r : Round) (H : IsHeld o.bound (w.node a) op r) where
    -- what holds of it
    pub held_round : HeldRound o.bound (w.node a).replica.members r
    held_round = ending-held o.bound (w.node a).replica.members r H.held

    -- in a held round who runs and was asked has granted
    pub asked_granted : (x : ℕ) → IsUp o w x → (s : Stage) → fits s (mark_in (w.node a).current x) ≡ true
        → fits s (if asked r x then Mark.Granted else Mark.Out) ≡ true
    asked_granted x ux s f = held_fits s (r.mark x) (subst (λ (c : Current). fits s (mark_in c x) ≡ true) H.current f)
        (over-owes o.bound r (first_round op r H.current) H.over x inside) (held_round.unrefused x inside)
        ((first_round op r H.current).late held_round.boss x)
      where
        inside : x < o.bound
        inside = ltb-true x o.bound (below x ux)

    -- a node that holds its round has asked itself
    pub asked_itself : asked r a ≡ true
    asked_itself = held_round.grown a (ltb-true a o.bound (below a up)) (I.itself a up)

  -- who was asked gets the lock back
  pub hands_back : (given : Nodes)
      → ((x : ℕ) → IsUp o w x → (s : Stage) → fits s (mark_in (w.node a).current x) ≡ true
      → fits s (if given x then Mark.Granted else Mark.Out) ≡ true)
      → (es : List Entry) (rs : List Answer)
      → Turned (record {
        node = record (w.node a) { current = Current.Free };
        sends = to_each (nodes_of o.bound (λ c. given c && not ((w.node a).replica.told c))) hand_back;
        entries = es;
        answers = rs;
      }) None
  hands_back given fit es rs =
      requesting u None tt (λ n run. each-all (IsNamed a n) o.bound back n hand_back (λ e. (refl, refl, refl)))
      (λ x. found-none answer_in o.bound back hand_back refl x) refl refl tt refl refl move
    where
      back : Nodes
      back c = given c && not ((w.node a).replica.told c)

      u : Turn
      u = record {
        node = record (w.node a) { current = Current.Free };
        sends = to_each (nodes_of o.bound back) hand_back;
        entries = es;
        answers = rs;
      }

      back_of : (x : ℕ) → IsUp o w x → back x ≡ given x
      back_of x ux = rw (untold x ux) (plain (given x))
        where
          plain : (b : Bool) → (b && not false) ≡ b
          plain true = refl
          plain false = refl

      move : (x : ℕ) → IsUp o w x → (s : Stage) → Session w a x s → AsRequester o a w up u None tt x s
      move x ux s S = by (finishes s (given x) (fit x ux s S.mark))
        where
          by : (e : Stage) × Moved s e Mark.Out (if given x then Returns ∷ [] else []) []
              → AsRequester o a w up u None tt x s
          by m = moved_to u None tt x s m.0 Mark.Out (if given x then Returns ∷ [] else []) [] m.1 refl
              (found-all request_in o.bound back hand_back x (below x ux)
              ∙ ap (λ (b : Bool). if b then Returns ∷ [] else []) (back_of x ux)) refl
