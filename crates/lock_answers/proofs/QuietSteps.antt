-- The steps of one lock call alone in a quiet world: what each of its letters makes of the node that reads it.
use Rattle.std.proofs.Common.{ℕ, Bool, true, false, ◌≡◌, ◌<◌, Some, None, List, [], ◌∷◌, ◌++◌, refl, sym, ap, ◌∙◌, subst}
use Rattle.std.specs.Prelude.{not, ◌&&◌, if◌then◌else◌}
use Rattle.registry_model.specs.Process.{Process, is_process, Nodes, nodes_of}
use Rattle.registry_model.specs.Call.{True, False}
use Rattle.registry_model.proofs.Updates.{by_test}
use Rattle.protocol_model.specs.Letter.{Id, Letter}
use Rattle.protocol_model.specs.LockTable.{is_free_for}
use Rattle.protocol_model.specs.Round.{Mark, Out, Later, Owes, Granted, Refused, Lost, Gone, Round, is_owes, asked, rest, asked_too, opens, owes, answer, is_over, Ending, Held, GiveBack, ending}
use Rattle.protocol_model.specs.Node.{Node, LockPhase, LockCall, Retries, call_of, put_call, drop_call}
use Rattle.protocol_model.specs.Turn.{Turn, Send, begun, sent_to, send_all, keep_call}
use Rattle.protocol_model.specs.Registrar.{ask_rest}
use Rattle.protocol_model.specs.Client.{is_spent, in_phase, close_call, give_lock, end_lock_by, go_on_lock, hear_lock_in}
use Rattle.protocol_model.specs.Reading.{judge, take_back}
use Rattle.protocol_model.specs.Answers.{answer_to}
use Rattle.protocol_model.specs.World.{Opening, World}
use Rattle.moves.proofs.Invariants.{Each}
use Rattle.moves.proofs.Rules.{is_ordered}
use Rattle.leftovers.proofs.Base.{each-one, each-all, each-append}
use Rattle.moves.proofs.Sends
use Rattle.moves.proofs.Sends.{sent_to-append}
use Rattle.leftovers.proofs.Calls.{call_of-put, call_of-drop}
use Rattle.leftovers.proofs.Ids.{is_process_self}
use Rattle.leftovers.proofs.Rounds.{Rounded, mark_by, answer_opens, answer_owed, rounded_answer}
use Rattle.lock_answers.proofs.QuietBase.{Same, way_granted, way_back, grants, verdict, due_answer, IsMark, Ours, Near, Asking, Nothing, GoesOn, Ends, Step}
use Rattle.lock_answers.proofs.QuietTurns.{fails, holds}

-- a node so far, with these letters to be sent
abbrev pub saying : Node → List Send → Turn
saying v ss = record { node = v; sends = ss; entries = []; answers = [] }

module _ (o : Opening) (w : World) (p : Process) (id : Id) (k : ℕ) (asks : Nodes)
    (below : (x : ℕ) → asks x ≡ true → x < o.bound) where
  -- marks behind an answer
  marks_answer : (f : ℕ) (g : Bool) (r : Round) → owes r f ≡ true → grants o w p id k asks f ≡ g
      → ((x : ℕ) → IsMark o w p id k asks x (r.mark x)) → (x : ℕ) → IsMark o w p id k asks x ((answer f g r).mark x)
  marks_answer f g r owe same marks x = go (opens f g r) refl
    where
      mine : (m : Mark) → is_owes m ≡ true → IsMark o w p id k asks f m → asks f ≡ true
      mine Owes h i = i
      mine Out h i = cc h
      mine Later h i = cc h
      mine Granted h i = cc h
      mine Refused h i = cc h
      mine Lost h i = cc h
      mine Gone h i = cc h

      asked_f : asks f ≡ true
      asked_f = mine (r.mark f) owe (marks f)

      by : (b : Bool) → grants o w p id k asks f ≡ b → IsMark o w p id k asks f (mark_by b)
      by true e = (asked_f, e)
      by false e = (asked_f, e)

      too : (y : ℕ) (m : Mark) → IsMark o w p id k asks y m → IsMark o w p id k asks y (asked_too m)
      too y Later h = h
      too y Out h = h
      too y Owes h = h
      too y Granted h = h
      too y Refused h = h
      too y Lost h = h
      too y Gone h = h

      opening : opens f g r ≡ true → g ≡ true
      opening e = go g e
        where
          go : (b : Bool) → opens f b r ≡ true → b ≡ true
          go true h = refl
          go false h = cc h

      go : (b : Bool) → opens f g r ≡ b → IsMark o w p id k asks x ((answer f g r).mark x)
      go true e = subst (IsMark o w p id k asks x) (sym (answer_opens f g r e x))
          (by_test f (λ y t. IsMark o w p id k asks y (if t then Granted else asked_too (r.mark y)))
          (asked_f, same ∙ opening e) (λ y ne. too y (r.mark y) (marks y)) x)
      go false e = subst (IsMark o w p id k asks x) (sym (answer_owed f g r e owe x))
          (by_test f (λ y t. IsMark o w p id k asks y (if t then mark_by g else r.mark y)) (by g same)
          (λ y ne. marks y) x)

  module _ (Ready : Type 0) (v : World) (N : Near o w p id k asks v) (t : ℕ) where
    -- a node that differs in its locks and calls alone
    alike : (x : Node) → x.replica ≡ (v.node t).replica → x.watch ≡ (v.node t).watch → x.queue ≡ (v.node t).queue
        → x.current ≡ (v.node t).current → Same x (w.node t)
    alike x a b c d = record {
      replica = a ∙ (N.same t).replica;
      watch = b ∙ (N.same t).watch;
      queue = c ∙ (N.same t).queue;
      current = d ∙ (N.same t).current;
    }

    -- the answers of a turn that ends the call
    ended_by : t ≡ p.node → (c : LockCall) → c.number ≡ k → (b : Bool) → verdict o w p id k asks ≡ b
        → (record { node = t; number = c.number; reply = if b then True else False }) ∷ [] ≡ due_answer o w p id k asks
    ended_by home c number b e =
        ap (λ (n : ℕ). answer_to n c.number (if b then True else False) ∷ []) home
        ∙ ap (λ (n : ℕ). answer_to p.node n (if b then True else False) ∷ []) number
        ∙ ap (λ (x : Bool). answer_to p.node k (if x then True else False) ∷ []) (sym e)

    -- the call is found where it was put, and isn't where it ended
    put_found : (c : LockCall) → c.holder ≡ p → t ≡ p.node → (cs : List LockCall) → is_ordered t cs ≡ true
        → call_of p (put_call c cs) ≡ Some c
    put_found c own home cs sorted = call_of-put t p c cs (ap (λ (q : Process). q.node) own ∙ sym home) sorted
        ∙ ap (λ (b : Bool). if b then Some c else call_of p cs)
        (ap (λ (q : Process). is_process q p) own ∙ is_process_self p)

    drop_found : (c : LockCall) → c.holder ≡ p → (cs : List LockCall) → call_of p (drop_call c.holder cs) ≡ None
    drop_found c own cs = call_of-drop p c.holder cs
        ∙ ap (λ (b : Bool). if b then None else call_of p cs)
        (ap (λ (q : Process). is_process q p) own ∙ is_process_self p)

    -- the round goes on, and may be over
    pub go_on : Ready → (ss : List Send) → ((y : ℕ) → Each (Ours o w p id k asks t y) (sent_to y ss)) → t ≡ p.node
        → (c : LockCall) (r : Round) → Asking o w p id k asks (in_phase (LockPhase.Asking r) c) r
        → is_ordered t (v.node t).calls ≡ true → Rounded r
        → Step o w p id k asks Ready v t (go_on_lock o.bound t c r (saying (v.node t) ss))
    go_on ready ss sends home c r A sorted rounded = over (is_over o.bound r) refl
      where
        now : LockCall
        now = in_phase (LockPhase.Asking r) c

        u : Turn
        u = keep_call now (saying (v.node t) ss)

        ended : (b : Bool) → verdict o w p id k asks ≡ b → (more : List Send)
            → ((y : ℕ) → Each (Ours o w p id k asks t y) (sent_to y more))
            → Step o w p id k asks Ready v t (close_call o.bound t now b (record u { sends = more }))
        ended b e more each = record {
          same = alike _ refl refl refl refl;
          ways = N.ways t;
          sends = each;
          says = Ends home (drop_found now A.holder (put_call now (v.node t).calls)) (ended_by home now A.number b e);
        }

        back : (s : Nodes) (y : ℕ)
            → Each (Ours o w p id k asks t y)
            (sent_to y (ss ++ Sends.to_each (nodes_of o.bound s) (Letter.GiveBack now.id now.holder false)))
        back s y = subst (Each (Ours o w p id k asks t y))
            (sym (sent_to-append y ss (Sends.to_each (nodes_of o.bound s) (Letter.GiveBack now.id now.holder false))))
            (each-append (Ours o w p id k asks t y) (sent_to y ss)
            (sent_to y (Sends.to_each (nodes_of o.bound s) (Letter.GiveBack now.id now.holder false))) (sends y)
            (each-all (Ours o w p id k asks t y) o.bound s y (Letter.GiveBack now.id now.holder false)
            (λ h. (A.its_id, A.holder, refl))))

        ends : is_over o.bound r ≡ true → (e : Ending) → ending o.bound (asked r) r ≡ e
            → Step o w p id k asks Ready v t (end_lock_by o.bound t e now u)
        ends h Held i = ended true (holds o w p id k asks below r rounded A.marks h i) ss sends
        ends h (GiveBack s) i = subst
            (λ (x : Retries). Step o w p id k asks Ready v t (if is_spent x
            then close_call o.bound t now false (give_lock o.bound t now s u)
            else keep_call (in_phase LockPhase.Waiting now) (give_lock o.bound t now s u))) (sym A.retries)
            (ended false (fails o w p id k asks below r A.marks h s i)
            (ss ++ Sends.to_each (nodes_of o.bound s) (Letter.GiveBack now.id now.holder false)) (back s))

        over : (b : Bool) → is_over o.bound r ≡ b
            → Step o w p id k asks Ready v t (if b then end_lock_by o.bound t (ending o.bound (asked r) r) now u else u)
        over true h = ends h (ending o.bound (asked r) r) refl
        over false h = record {
          same = alike _ refl refl refl refl;
          ways = N.ways t;
          sends = sends;
          says = GoesOn ready now r home (put_found now A.holder home (v.node t).calls sorted) A refl;
        }

    -- an answer to the round
    pub hears : Ready → (c : LockCall) (r : Round) → Asking o w p id k asks c r → t ≡ p.node → (f : ℕ) (g : Bool)
        → grants o w p id k asks f ≡ g → is_ordered t (v.node t).calls ≡ true → Rounded r
        → Step o w p id k asks Ready v t (hear_lock_in o.bound t f g (LockPhase.Asking r) c (begun (v.node t)))
    hears ready c r A home f g same sorted rounded = go (owes r f) refl
      where
        next : Round
        next = answer f g r

        later : owes r f ≡ true → Asking o w p id k asks (in_phase (LockPhase.Asking next) c) next
        later h = record {
          phase = refl;
          holder = A.holder;
          its_id = A.its_id;
          number = A.number;
          retries = A.retries;
          marks = marks_answer f g r h same A.marks;
        }

        u : Turn
        u = begun (v.node t)

        l : Letter
        l = Letter.SetLock c.id c.holder

        on : owes r f ≡ true → (ss : List Send) → ((y : ℕ) → Each (Ours o w p id k asks t y) (sent_to y ss))
            → Step o w p id k asks Ready v t (go_on_lock o.bound t c next (saying (v.node t) ss))
        on h ss each = go_on ready ss each home c next (later h) sorted (rounded_answer f g r h rounded)

        asked_next : (s : Nodes) (y : ℕ) → Each (Ours o w p id k asks t y) (sent_to y (Sends.to_each (nodes_of o.bound s) l))
        asked_next s y = each-all (Ours o w p id k asks t y) o.bound s y l (λ h. (home, A.its_id, A.holder))

        rest_too : owes r f ≡ true → (b : Bool)
            → Step o w p id k asks Ready v t (go_on_lock o.bound t c next
            (if b then send_all o.bound (λ x. rest r x && not (u.node.replica.told x)) l u else u))
        rest_too h true = on h (Sends.to_each (nodes_of o.bound (λ x. rest r x && not ((v.node t).replica.told x))) l)
            (asked_next (λ x. rest r x && not ((v.node t).replica.told x)))
        rest_too h false = on h [] (λ y. tt)

        go : (b : Bool) → owes r f ≡ b
            → Step o w p id k asks Ready v t (if b then go_on_lock o.bound t c next (ask_rest o.bound t f g l r u) else u)
        go true h = rest_too h (opens f g r)
        go false h = record { same = N.same t; ways = N.ways t; sends = λ y. tt; says = Nothing refl refl }

    -- nothing to do
    pub idles : Step o w p id k asks Ready v t (begun (v.node t))
    idles = record { same = N.same t; ways = N.ways t; sends = λ y. tt; says = Nothing refl refl }

    -- a request, where the node's count is that of the quiet world
    pub judges : (number : ℕ → ℕ) (f : ℕ) → f ≡ p.node → is_free_for id p (v.node t).locks ≡ grants o w p id k asks t
        → Step o w p id k asks Ready v t (judge o.bound t number f id p (is_free_for id p (v.node t).locks) (begun (v.node t)))
    judges number f home same = go (is_free_for id p (v.node t).locks) (sym same)
      where
        sends : (b : Bool) → grants o w p id k asks t ≡ b → (y : ℕ)
            → Each (Ours o w p id k asks t y) (sent_to y (record { to = f; letter = Letter.LockAnswer id p b } ∷ []))
        sends b e y = each-one (Ours o w p id k asks t y) y f (Letter.LockAnswer id p b)
            (λ i. (sym i ∙ home, refl, refl, e))

        go : (b : Bool) → grants o w p id k asks t ≡ b
            → Step o w p id k asks Ready v t (judge o.bound t number f id p b (begun (v.node t)))
        go true e = record {
          same = alike _ refl refl refl refl;
          ways = way_granted id p (v.node t).locks ∙ N.ways t;
          sends = sends true e;
          says = Nothing refl refl;
        }
        go false e = record { same = N.same t; ways = N.ways t; sends = sends false e; says = Nothing refl refl }

    -- a grant is given back
    pub takes_back : (number : ℕ → ℕ) (f : ℕ)
        → Step o w p id k asks Ready v t (take_back o.bound t number f id p false (begun (v.node t)))
    takes_back number f = record {
      same = alike _ refl refl refl refl;
      ways = way_back id p (v.node t).locks ∙ N.ways t;
      sends = λ y. tt;
      says = Nothing refl refl;
    }
