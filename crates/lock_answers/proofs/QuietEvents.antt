-- One lock call alone in a quiet world: each delivery behind it is a step of the call, or changes nothing of it.
use Rattle.std.proofs.Common.{ℕ, Bool, true, false, ◌≡◌, ◌<◌, ◌+◌, Option, Some, None, List, [], ◌∷◌, ◌++◌, refl, sym, ap, ◌∙◌, subst, arith}
use Rattle.std.specs.Prelude.{not, ◌&&◌, ◌||◌, ◌==◌, if◌then◌else◌}
use Rattle.std.proofs.Math.Bool.{and-false}
use Rattle.registry_model.specs.Process.{Process, is_process, Nodes}
use Rattle.protocol_model.specs.Letter.{Id, Letter, is_down}
use Rattle.protocol_model.specs.Links.{is_nil}
use Rattle.protocol_model.specs.LockTable.{count, is_free_for}
use Rattle.protocol_model.specs.Round.{Round}
use Rattle.protocol_model.specs.Watch.{Watch, is_dead}
use Rattle.protocol_model.specs.Node.{LockPhase, LockCall, call_of}
use Rattle.protocol_model.specs.Event.{NoSuchNode, NodeLeft, EmptyLink, cause, first_cause}
use Rattle.protocol_model.specs.Turn.{Turn, begun}
use Rattle.protocol_model.specs.Registrar.{registrar, start}
use Rattle.protocol_model.specs.Client.{hear_lock, hear_lock_in}
use Rattle.protocol_model.specs.Deciding.{hear_answer}
use Rattle.protocol_model.specs.Reading.{judge, hear, take_back, read}
use Rattle.protocol_model.specs.ClientLocks.{is_no_more}
use Rattle.protocol_model.specs.World.{Opening, in_world, World, left, Deliver, join_number, heard, turn_of, refusal}
use Rattle.moves.proofs.Invariants.{Each, IsUp}
use Rattle.leftovers.proofs.Sessions
use Rattle.leftovers.proofs.Sessions.{Ask, Takes, Echo, View, Owed, view, settled, Live}
use Rattle.leftovers.proofs.SessionMoves.{take_front}
use Rattle.leftovers.proofs.Mail
use Rattle.leftovers.proofs.Clients.{Numbers, lives, IsLive, live_parts, lives_by, call_at, RoundedIn}
use Rattle.leftovers.proofs.Ids.{is_process_self}
use Rattle.leftovers.proofs.Started.{AllStarted}
use Rattle.lock_answers.proofs.Behind.{Known}
use Rattle.lock_answers.proofs.QuietBase.{starts_nothing, same_free, grants, Ours, Near, Asking, Step}
use Rattle.lock_answers.proofs.QuietSteps.{hears, idles, judges, takes_back}

-- what is known of a delivery that is accepted
record IsDelivered (o : Opening) (v : World) (f t : ℕ) : Type 0 where
  from : in_world o f ≡ true
  up : IsUp o v t
  some : is_nil (v.links.queue f t) ≡ false

is_delivered : (o : Opening) (v : World) (f t : ℕ) → refusal o v (Deliver f t) ≡ None → IsDelivered o v f t
is_delivered o v f t h =
    go (in_world o t) (in_world o f) (left v t) (is_nil (v.links.queue f t)) refl refl refl refl h
  where
    go : (a b c d : Bool) → in_world o t ≡ a → in_world o f ≡ b → left v t ≡ c → is_nil (v.links.queue f t) ≡ d
        → first_cause (cause (not a || not b) NoSuchNode ∷ cause c NodeLeft ∷ cause d EmptyLink ∷ []) ≡ None
        → IsDelivered o v f t
    go true true false false ia ib ic id e = record { from = ib; up = (ia, ic); some = id }
    go true true false true ia ib ic id e = cc e
    go true true true d ia ib ic id e = cc e
    go true false c d ia ib ic id e = cc e
    go false b c d ia ib ic id e = cc e

module _ (o : Opening) (w : World) (started : AllStarted w) (p : Process) (id : Id) (k : ℕ) (whom : Nodes)
    (below : (x : ℕ) → whom x ≡ true → x < o.bound) (living : lives o w p ≡ true) where
  -- p holds the lock as often as in the quiet world
  abbrev pub Unchanged : Numbers → Type 0
  Unchanged num = (x : ℕ) → IsUp o w x → num p id x ≡ count id p (w.node x).locks

  -- the call is open, or it isn't
  pub data Phase (v : World) (num : Numbers) : Bool → Type 0 where
    Open : (c : LockCall) (r : Round) → call_at v p ≡ Some c → Asking o w p id k whom c r → Unchanged num
        → Phase v num true
    Over : call_at v p ≡ None → Phase v num false

  -- what is known of a world behind the quiet one
  pub record Alone (v : World) (open_now : Bool) : Type 0 where
    pub num : Numbers
    pub known : Known o v num
    pub near : Near o w p id k whom v
    pub phase : Phase v num open_now

  module _ (v : World) (N : Near o w p id k whom v) where
    mine : IsLive o w p
    mine = live_parts o w p living

    alive : is_dead (v.node p.node).watch p.serial ≡ false
    alive = ap (λ (x : Watch). is_dead x p.serial) (N.same p.node).watch ∙ mine.alive

    -- p lives on
    lives_on : lives o v p ≡ true
    lives_on = lives_by o v p
        (record { inside = mine.inside; up = N.stay p.node ∙ mine.up; client = mine.client; alive = alive })

    -- nor is p gone
    pub not_gone : is_no_more v p ≡ false
    not_gone = rw (N.stay p.node ∙ mine.up, alive) refl

  module _ (v : World) (b : Bool) (A : Alone v b) where
    N : Near o w p id k whom v
    N = A.near

    -- where a request comes, the node has of the lock what it had in the quiet world
    free_same : (t : ℕ) → IsUp o v t → (ls : List Letter) → v.links.queue p.node t ≡ Letter.SetLock id p ∷ ls
        → is_free_for id p (v.node t).locks ≡ grants o w p id k whom t
    free_same t up ls front = same_free id p (v.node t).locks (w.node t).locks (N.ways t) counts
      where
        ups : Mail.asks p (v.links.queue p.node t) ≡ Takes id ∷ Mail.asks p ls
        ups = ap (Mail.asks p) front
            ∙ ap (λ (c : Bool). (if c then Takes id ∷ [] else []) ++ Mail.asks p ls) (is_process_self p)

        l : Live (view (call_at v p) t) (Mail.asks p (v.links.queue p.node t)) (Mail.echoes p (v.links.queue t p.node))
            (λ i. count i p (v.node t).locks) (λ i. A.num p i t)
        l = A.known.clients.sessions p t (lives_on v N) up

        was : (j : Id) × (view (call_at v p) t ≡ Owed j) × (id ≡ j) × (Mail.asks p ls ≡ [])
            × (Mail.echoes p (v.links.queue t p.node) ≡ [])
        was = take_front (view (call_at v p) t) id (Mail.asks p ls) (Mail.echoes p (v.links.queue t p.node))
            (subst (λ (us : List Ask). Sessions.fits (view (call_at v p) t) us (Mail.echoes p (v.links.queue t p.node)) ≡ true)
            ups l.fit)

        one : Mail.asks p (v.links.queue p.node t) ≡ Takes id ∷ []
        one = ups ∙ ap (λ (us : List Ask). Takes id ∷ us) was.3

        none : Sessions.due id (view (call_at v p) t) (Mail.echoes p (v.links.queue t p.node)) ≡ 0
        none = ap (λ (x : View). Sessions.due id x (Mail.echoes p (v.links.queue t p.node))) was.1
            ∙ ap (λ (es : List Echo). Sessions.due id (Owed was.0) es) was.4

        held : count id p (v.node t).locks ≡ A.num p id t
        held =
            let sum : settled id (Mail.asks p (v.links.queue p.node t)) (count id p (v.node t).locks)
            ≡ A.num p id t + Sessions.due id (view (call_at v p) t) (Mail.echoes p (v.links.queue t p.node)) = l.sum id in
            let left_over : settled id (Mail.asks p (v.links.queue p.node t)) (count id p (v.node t).locks)
            ≡ count id p (v.node t).locks =
            ap (λ (us : List Ask). settled id us (count id p (v.node t).locks)) one in
            omega (arith, sum, left_over, none)

        by : (c : Bool) → Phase v A.num c → A.num p id t ≡ count id p (w.node t).locks
        by true (Open c r e Q U) = U t (up.0, sym (N.stay t) ∙ up.1)
        by false (Over e) = cc (was.1, ap (λ (c : Option LockCall). view c t) e)

        counts : count id p (v.node t).locks ≡ count id p (w.node t).locks
        counts = held ∙ by b A.phase

    abbrev Stepped : ℕ → Turn → Type 0
    Stepped t u = Step o w p id k whom (Unchanged A.num) v t u

    -- an answer
    answer_step : (number : ℕ → ℕ) (f t : ℕ) (g : Bool) → t ≡ p.node → grants o w p id k whom f ≡ g
        → Stepped t (hear o.bound t number f p g (begun (v.node t)))
    answer_step number f t g home same = subst (λ (x : Bool). Stepped t (if x
        then hear_answer o.bound t number f g (v.node t).current (begun (v.node t))
        else hear_lock o.bound t f g (call_of p (v.node t).calls) (begun (v.node t)))) (sym client) (by b A.phase)
      where
        client : is_process p (registrar t) ≡ false
        client = ap (λ (x : Bool). (p.node == t) && x) (live_parts o w p living).client ∙ and-false (p.node == t)

        here : call_of p (v.node t).calls ≡ call_at v p
        here = ap (λ (x : ℕ). call_of p (v.node x).calls) home

        by : (c : Bool) → Phase v A.num c
            → Stepped t (hear_lock o.bound t f g (call_of p (v.node t).calls) (begun (v.node t)))
        by true (Open c r e Q U) =
            subst (λ (x : Option LockCall). Stepped t (hear_lock o.bound t f g x (begun (v.node t)))) (sym (here ∙ e))
            (subst (λ (x : LockPhase). Stepped t (hear_lock_in o.bound t f g x c (begun (v.node t)))) (sym Q.phase)
            (hears o w p id k whom below (Unchanged A.num) v N t U c r Q home f g same (A.known.ordered t)
            (subst RoundedIn Q.phase (A.known.clients.rounds p c e))))
        by false (Over e) =
            subst (λ (x : Option LockCall). Stepped t (hear_lock o.bound t f g x (begun (v.node t)))) (sym (here ∙ e))
            (idles o w p id k whom below (Unchanged A.num) v N t)

    -- a letter that is read
    letter_step : (number : ℕ → ℕ) (f t : ℕ) → IsUp o v t → (l : Letter) (ls : List Letter)
        → v.links.queue f t ≡ l ∷ ls → Ours o w p id k whom f t l
        → Stepped t (read o.bound t number f l (begun (v.node t)))
    letter_step number f t up (Letter.SetLock i q) ls front (home, ei, eq) =
        subst (λ (j : Id). Stepped t (judge o.bound t number f j q (is_free_for j q (v.node t).locks) (begun (v.node t))))
        (sym ei)
        (subst (λ (y : Process). Stepped t
        (judge o.bound t number f id y (is_free_for id y (v.node t).locks) (begun (v.node t)))) (sym eq)
        (judges o w p id k whom below (Unchanged A.num) v N t number f home (free_same t up ls first)))
      where
        first : v.links.queue p.node t ≡ Letter.SetLock id p ∷ ls
        first = ap (λ (x : ℕ). v.links.queue x t) (sym home) ∙ front
            ∙ ap (λ (j : Id). Letter.SetLock j q ∷ ls) ei ∙ ap (λ (y : Process). Letter.SetLock id y ∷ ls) eq
    letter_step number f t up (Letter.LockAnswer i q g) ls front (home, ei, eq, same) =
        subst (λ (y : Process). Stepped t (hear o.bound t number f y g (begun (v.node t)))) (sym eq)
        (answer_step number f t g home same)
    letter_step number f t up (Letter.GiveBack i q ack) ls front (ei, eq, ea) =
        subst (λ (j : Id). Stepped t (take_back o.bound t number f j q ack (begun (v.node t)))) (sym ei)
        (subst (λ (y : Process). Stepped t (take_back o.bound t number f id y ack (begun (v.node t)))) (sym eq)
        (subst (λ (c : Bool). Stepped t (take_back o.bound t number f id p c (begun (v.node t)))) (sym ea)
        (takes_back o w p id k whom below (Unchanged A.num) v N t number f)))
    letter_step number f t up l ls front ours = absurd ours

    -- a turn that a start ends
    start_step : (t : ℕ) (u : Turn) → Stepped t u → Stepped t (start o.bound t u)
    start_step t u S = subst (Stepped t) (sym (starts_nothing o.bound t u (w.node t) S.same (started t))) S

    -- a delivery
    pub delivery_step : (f t : ℕ) → refusal o v (Deliver f t) ≡ None → Stepped t (turn_of o v (Deliver f t))
    delivery_step f t h = go (v.links.queue f t) refl
      where
        D : IsDelivered o v f t
        D = is_delivered o v f t h

        go : (ls : List Letter) → v.links.queue f t ≡ ls → Stepped t (heard o.bound t v f ls)
        go [] e = cc (D.some, ap is_nil e)
        go (l ∷ ls) e = start_step t
            (if (v.node t).replica.told f && not (is_down l) then begun (v.node t)
            else read o.bound t (join_number v) f l (begun (v.node t)))
            (reads ((v.node t).replica.told f && not (is_down l)))
          where
            reads : (x : Bool) → Stepped t (if x then begun (v.node t)
                else read o.bound t (join_number v) f l (begun (v.node t)))
            reads true = idles o w p id k whom below (Unchanged A.num) v N t
            reads false = letter_step (join_number v) f t D.up l ls e
                (subst (Each (Ours o w p id k whom f t)) e (N.ours f t D.from D.up)).0
