-- A call of a retried node that no rival comes before, where its lock is free at the nodes that it asks. Letters are delivered between
-- its node and those nodes alone: then no rival is granted a lock there. For a rival with another boss asks it first, and the letters
-- to that one stay; and at a common boss the call's own request comes first.
-- w: the quiet world; a: the node; c: the call.
use Rattle.std.proofs.Common.{ℕ, Bool, true, false, ◌==◌, ◌≡◌, Option, Some, None, List, [], ◌∷◌, ◌++◌, drop, refl, sym, ap, subst, ◌∙◌}
use Rattle.std.specs.Prelude.{not, ◌&&◌, Contains, if◌then◌else◌}
use Rattle.std.specs.List.{list_all}
use Rattle.std.proofs.lemmas.Bool.{eq-eqb}
use Rattle.registry_model.specs.Process.{Text, Process, is_process}
use Rattle.registry_model.proofs.Updates.{by_test}
use Rattle.protocol_model.specs.Letter.{Id, Client, Letter}
use Rattle.protocol_model.specs.LockTable.{Locks, is_free_for, grant}
use Rattle.protocol_model.specs.Round.{Round, asked, rest, opens, answer}
use Rattle.protocol_model.specs.Node.{Node, LockPhase, LockCall}
use Rattle.protocol_model.specs.Turn.{begun, send, send_all, sent_to, with_locks, keep_call}
use Rattle.protocol_model.specs.Client.{in_phase}
use Rattle.protocol_model.specs.World.{Opening, in_world, World, left}
use Rattle.getting_through.proofs.Indices.{both, not_true}
use Rattle.getting_through.proofs.Invariants.{Each, IsUp}
use Rattle.getting_through.proofs.Rules
use Rattle.getting_through.proofs.Rules.{Rule, May, Taken}
use Rattle.getting_through.proofs.SendTests.{pass_sent}
use Rattle.walk.proofs.ChainKinds.{Hearing, suits}
use Rattle.walk.proofs.Orders.{effect-node}
use Rattle.getting_through.proofs.Base.{is_leave, effect-turn, after_turn, popped, popped_queue, each-one, each-all, each-popped, each-posted}
use Rattle.getting_through.proofs.Grounds.{Base}
use Rattle.getting_through.proofs.Ids.{is_process_same}
use Rattle.getting_through.proofs.GrantLists.{all_grants, all_filter, all_grant, all_give_back}
use Rattle.getting_through.proofs.Parts.{locks_by, parts}
use Rattle.getting_through.proofs.Requests.{is_apart, sends_apart}
use Rattle.getting_through.proofs.CallSteps.{AllCalls, calls_kept}
use Rattle.waiting_lock_calls.specs.Retried.{asks}
use Rattle.waiting_lock_calls.specs.HeldUp.{boss_of}
use Rattle.waiting_lock_calls.proofs.Rounds.{HasSuch, GoesOn, rounds_put, heard_round}
use Rattle.waiting_lock_calls.proofs.Unrivalled.{is_clear, is_heard, heard_suits}
use Rattle.waiting_lock_calls.proofs.Front.{is_own, is_in_front, none_own, front_drop, front_append, apart_other}

module _ (o : Opening) (w : World) (a : ℕ) (c : LockCall) (r z : Text) (of : c.id ≡ Client r z) (client : (c.holder.serial == 0) ≡ false)
    (unique : (b d : LockCall) → Contains (w.node a).calls b → Contains (w.node a).calls d → b.holder ≡ d.holder → b ≡ d)
    (clients : (b : LockCall) → Contains (w.node a).calls b → (b.holder.serial == 0) ≡ false)
    (listed : Contains (w.node a).calls c) (mine : asks w a c (boss_of o w a c) ≡ true) where
  abbrev boss : ℕ
  boss = boss_of o w a c

  -- a call b that waited asks for this lock; where that is in the call's way, at a node that it asks, it is at the common boss
  pub record IsAsked (t : ℕ) (id : Id) (q : Process) : Type 0 where
    pub call : LockCall
    pub waited : Contains (w.node a).calls call
    pub its_id : call.id ≡ id
    pub its_holder : call.holder ≡ q
    pub asked : asks w a call t ≡ true
    pub first : asks w a c t ≡ true → is_clear c id q ≡ false → t ≡ boss

  -- on the link from f to t
  abbrev pub Fits : ℕ → ℕ → Letter → Type 0
  Fits f t (Letter.SetLock id q) = (q.serial == 0) ≡ false → IsAsked t id q
  Fits f t (Letter.LockAnswer id q g) = asks w a c f ≡ true → g ≡ true → (b : LockCall) → Contains (w.node a).calls b
      → b.holder ≡ q → is_clear c b.id q ≡ true
  Fits f t l = Unit {0}

  -- a round of an open call is that of a call that waited
  pub record IsRoundOf (d : LockCall) (round : Round) : Type 0 where
    pub call : LockCall
    pub waited : Contains (w.node a).calls call
    pub its_id : call.id ≡ d.id
    pub its_holder : call.holder ≡ d.holder
    pub its_boss : round.boss ≡ boss_of o w a call
    pub asks_those : (x : ℕ) → asked round x ≡ true → asks w a call x ≡ true

  goes_on : GoesOn o w IsRoundOf
  goes_on d old new same top was = record {
    call = was.call;
    waited = was.waited;
    its_id = was.its_id;
    its_holder = was.its_holder;
    its_boss = top ∙ was.its_boss;
    asks_those = λ x k. was.asks_those x (sym (same x) ∙ k);
  }

  -- what is known of the world v behind it
  pub record IsOrdered (v : World) : Type 0 where
    pub stay : left v ≡ left w
    pub rounds : AllCalls (HasSuch o w IsRoundOf) v
    pub letters : (f t : ℕ) → in_world o f ≡ true → IsUp o v t → Each (Fits f t) (v.links.queue f t)
    pub front : is_in_front c (v.links.queue a boss) ≡ true
    pub ways : (x : ℕ) → asks w a c x ≡ true → all_grants (is_clear c) (v.node x).locks ≡ true

  -- letters apart from clients' locks
  each_fits : (f t : ℕ) (ls : List Letter) → list_all is_apart ls ≡ true → Each (Fits f t) ls
  each_fits f t [] h = tt
  each_fits f t (l ∷ ls) h = let p : (is_apart l ≡ true) × (list_all is_apart ls ≡ true) = both (is_apart l) (list_all is_apart ls) h in
      (one l p.0, each_fits f t ls p.1)
    where
      one : (l : Letter) → is_apart l ≡ true → Fits f t l
      one (Letter.SetLock id q) i = λ ne. cc (i, ne)
      one (Letter.LockAnswer id q g) i = cc i
      one l i = tt

  each_other : (ls : List Letter) → list_all is_apart ls ≡ true → Each (λ l. not (is_own c l) ≡ true) ls
  each_other [] h = tt
  each_other (l ∷ ls) h = let p : (is_apart l ≡ true) × (list_all is_apart ls ≡ true) = both (is_apart l) (list_all is_apart ls) h in
      (apart_other c l p.0, each_other ls p.1)

  all_each : (ls : List Letter) → Each (λ l. not (is_own c l) ≡ true) ls → none_own c ls ≡ true
  all_each [] h = refl
  all_each (l ∷ ls) h = rw (h.0, all_each ls h.1) refl

  -- a rule that hears only nodes that the call asks, and grants nothing in its way
  abbrev pub IsApt : ℕ → World → Rule → Type 0
  IsApt t v (Rules.HearsLock f id g d round) = asks w a c f ≡ true
  IsApt t v (Rules.Judges f id q) = asks w a c t ≡ true → is_clear c id q ≡ false → is_free_for id q (v.node t).locks ≡ false
  IsApt t v x = Unit {0}

  module _ (t : ℕ) (v : World) (B : Base o v) (K : IsOrdered v) where
    -- a round that hears an answer
    module _ (f : ℕ) (id : Id) (g : Bool) (d : LockCall) (round : Round) (m : May o t v (Rules.HearsLock f id g d round)) where
      its : IsRoundOf d round
      its = heard_round o w IsRoundOf t v B K.rounds K.stay f id g d round m

      -- one that opens is in nobody's way
      clear : asks w a c f ≡ true → g ≡ true → is_clear c d.id d.holder ≡ true
      clear k i = ap (λ (j : Id). is_clear c j d.holder) (sym its.its_id) ∙ (subst (Each (Fits f t)) m.front.1.1
          (K.letters f t m.front.0 (m.inside, m.running))).0 k i its.call its.waited its.its_holder

      rest_asked : (x : ℕ) → (rest round x && not ((v.node t).replica.told x)) ≡ true
          → (asked round x ≡ true) × ((x == round.boss) ≡ false)
      rest_asked x e = let one : (rest round x ≡ true) × (not ((v.node t).replica.told x) ≡ true) =
          both (rest round x) (not ((v.node t).replica.told x)) e in
          let two : (asked round x ≡ true) × (not (x == round.boss) ≡ true) = both (asked round x) (not (x == round.boss)) one.0 in
          (two.0, not_true (x == round.boss) two.1)

      -- and its letters aren't the call's, where they go to its boss
      other : (rest round boss && not ((v.node t).replica.told boss)) ≡ true → is_own c (Letter.SetLock d.id d.holder) ≡ false
      other e = go (not (d.holder.serial == 0) && is_process d.holder c.holder) refl
        where
          go : (b : Bool) → (not (d.holder.serial == 0) && is_process d.holder c.holder) ≡ b → b ≡ false
          go false i = refl
          go true i =
              let same : d.holder ≡ c.holder = is_process_same d.holder c.holder
              (both (not (d.holder.serial == 0)) (is_process d.holder c.holder) i).1 in
              let one : its.call ≡ c = unique its.call c its.waited listed (its.its_holder ∙ same) in
              cc (eq-eqb boss round.boss (sym (its.its_boss ∙ ap (boss_of o w a) one)), (rest_asked boss e).1)

    -- what is sent
    sent : (x : Rule) → suits Hearing x ≡ true → May o t v x → IsApt t v x → (y : ℕ)
        → Each (Fits t y) (sent_to y (Rules.turn_by o t v x).sends)
    sent (Rules.AsksLock d) h m k y = cc h
    sent (Rules.Judges f id q) h m k y = go (is_free_for id q (v.node t).locks) refl
      where
        front : Fits f t (Letter.SetLock id q)
        front = (subst (Each (Fits f t)) m.front.1.1 (K.letters f t m.front.0 (m.inside, m.running))).0

        -- who is granted a lock isn't in the way
        granted : is_free_for id q (v.node t).locks ≡ true → asks w a c t ≡ true → (b : LockCall) → Contains (w.node a).calls b
            → b.holder ≡ q → is_clear c b.id q ≡ true
        granted e k2 b i j =
            let A : IsAsked t id q = front (subst (λ (p : Process). (p.serial == 0) ≡ false) j (clients b i)) in
            let one : A.call ≡ b = unique A.call b A.waited i (A.its_holder ∙ sym j) in
            ap (λ (n : Id). is_clear c n q) (sym (ap (λ (n : LockCall). n.id) one) ∙ A.its_id) ∙ by (is_clear c id q) refl
          where
            by : (t2 : Bool) → is_clear c id q ≡ t2 → t2 ≡ true
            by true n = refl
            by false n = cc (k k2 n, e)

        go : (b : Bool) → is_free_for id q (v.node t).locks ≡ b → Each (Fits t y) (sent_to y (send f (Letter.LockAnswer id q b)
            (if b then with_locks (grant id q) (begun (v.node t)) else begun (v.node t))).sends)
        go true e = each-one (Fits t y) y f (Letter.LockAnswer id q true) (λ i k2 g. granted e k2)
        go false e = each-one (Fits t y) y f (Letter.LockAnswer id q false) (λ i k2 g. cc g)
    sent (Rules.HearsLock f id g d round) h m k y = go (opens f g round) refl
      where
        opening : (b : Bool) → opens f b round ≡ true → b ≡ true
        opening true e = refl
        opening false e = cc e

        go : (b : Bool) → opens f g round ≡ b → Each (Fits t y) (sent_to y (keep_call (in_phase (LockPhase.Asking (answer f g round)) d)
            (if b then send_all o.bound (λ x. rest round x && not ((v.node t).replica.told x)) (Letter.SetLock d.id d.holder)
            (begun (v.node t)) else begun (v.node t))).sends)
        go true e = each-all (Fits t y) o.bound (λ x. rest round x && not ((v.node t).replica.told x)) y
            (Letter.SetLock d.id d.holder) (λ i ne. record {
              call = (its f id g d round m).call;
              waited = (its f id g d round m).waited;
              its_id = (its f id g d round m).its_id;
              its_holder = (its f id g d round m).its_holder;
              asked = (its f id g d round m).asks_those y (rest_asked f id g d round m y i).0;
              first = λ n unclear. cc (clear f id g d round m k (opening g e), unclear);
            })
        go false e = tt
    sent x h m k y = each_fits t y (sent_to y (Rules.turn_by o t v x).sends)
        (pass_sent is_apart y (Rules.turn_by o t v x).sends (sends_apart o t v x refl))

    -- none of it is the call's own on the link to its boss
    own_sent : (x : Rule) → suits Hearing x ≡ true → May o t v x
        → Each (λ l. not (is_own c l) ≡ true) (sent_to boss (Rules.turn_by o t v x).sends)
    own_sent (Rules.AsksLock d) h m = cc h
    own_sent (Rules.Judges f id q) h m = go (is_free_for id q (v.node t).locks)
      where
        go : (b : Bool) → Each (λ l. not (is_own c l) ≡ true) (sent_to boss (send f (Letter.LockAnswer id q b)
            (if b then with_locks (grant id q) (begun (v.node t)) else begun (v.node t))).sends)
        go true = each-one (λ l. not (is_own c l) ≡ true) boss f (Letter.LockAnswer id q true) (λ i. refl)
        go false = each-one (λ l. not (is_own c l) ≡ true) boss f (Letter.LockAnswer id q false) (λ i. refl)
    own_sent (Rules.HearsLock f id g d round) h m = go (opens f g round)
      where
        go : (b : Bool) → Each (λ l. not (is_own c l) ≡ true) (sent_to boss (keep_call (in_phase (LockPhase.Asking (answer f g round)) d)
            (if b then send_all o.bound (λ x. rest round x && not ((v.node t).replica.told x)) (Letter.SetLock d.id d.holder)
            (begun (v.node t)) else begun (v.node t))).sends)
        go true = each-all (λ l. not (is_own c l) ≡ true) o.bound (λ x. rest round x && not ((v.node t).replica.told x)) boss
            (Letter.SetLock d.id d.holder) (λ e. ap not (other f id g d round m e))
        go false = tt
    own_sent x h m = each_other (sent_to boss (Rules.turn_by o t v x).sends)
        (pass_sent is_apart boss (Rules.turn_by o t v x).sends (sends_apart o t v x refl))

    -- the lock table
    ways_kept : (x : Rule) → May o t v x → IsApt t v x → asks w a c t ≡ true → all_grants (is_clear c) (v.node t).locks ≡ true
        → all_grants (is_clear c) (locks_by x (v.node t).locks) ≡ true
    ways_kept (Rules.Judges f id q) m k mine all = go (is_free_for id q (v.node t).locks) refl
      where
        by : is_free_for id q (v.node t).locks ≡ true → (b : Bool) → is_clear c id q ≡ b → b ≡ true
        by e true i = refl
        by e false i = cc (k mine i, e)

        go : (b : Bool) → is_free_for id q (v.node t).locks ≡ b
            → all_grants (is_clear c) (if b then grant id q (v.node t).locks else (v.node t).locks) ≡ true
        go true e = all_grant (is_clear c) id q (v.node t).locks (by e (is_clear c id q) refl) all
        go false e = all
    ways_kept (Rules.TakesBack f id q ack) m k mine all = all_give_back (is_clear c) id q (v.node t).locks all
    ways_kept (Rules.Releases f q) m k mine all = all_filter (λ g. is_clear c g.id g.holder) _ (v.node t).locks all
    ways_kept (Rules.IsTold f) m k mine all = all_filter (λ g. is_clear c g.id g.holder) _ (v.node t).locks all
    ways_kept x m k mine all = all

    pub ordered_keeps : (x : Rule) → is_heard x ≡ true → May o t v x → IsApt t v x → IsOrdered (Rules.effect o t x v)
    ordered_keeps x h m k = record {
      stay = ap left (sym same) ∙ K.stay;
      rounds = calls_kept o t v x B.ordered m (HasSuch o w IsRoundOf)
          (rounds_put o w IsRoundOf t v B K.rounds goes_on x (heard_suits x h) m) K.rounds;
      letters = λ f y inside up. subst (λ (u : World). Each (Fits f y) (u.links.queue f y)) same
          (each-posted (Fits f y) t (λ n. sent_to n (Rules.turn_by o t v x).sends) (popped t (Rules.takes o t x) v.links) f y
          (each-popped (Fits f y) t (Rules.takes o t x) v.links.queue f y (K.letters f y inside
          (subst (λ (u : World). IsUp o u y) (sym same) up)))
          (λ i. subst (λ (n : ℕ). Each (Fits n y) (sent_to y (Rules.turn_by o t v x).sends)) (sym i)
          (sent x (heard_suits x h) m k y)));
      front = subst (λ (u : World). is_in_front c (u.links.queue a boss) ≡ true) same
          (posted_front (a == t) (left v boss) (popped_front (Rules.takes o t x)));
      ways = λ y mine. subst (λ (f : ℕ → Node). all_grants (is_clear c) (f y).locks ≡ true) (sym (effect-node o t x v))
          (by_test t (λ n b. asks w a c n ≡ true
          → all_grants (is_clear c) (if b then (Rules.turn_by o t v x).node else v.node n).locks ≡ true)
          (λ i. subst (λ (ls : Locks). all_grants (is_clear c) ls ≡ true) (sym (parts o t v x).locks)
          (ways_kept x m k i (K.ways t i))) (λ n ne i. K.ways n i) y mine);
    }
      where
        same : after_turn t v (Rules.turn_by o t v x) (Rules.takes o t x) ≡ Rules.effect o t x v
        same = effect-turn o t v x (not_true (is_leave x) (both (suits Hearing x) (not (is_leave x)) h).1)

        popped_front : (l : Option Taken) → is_in_front c (popped_queue t l v.links.queue a boss) ≡ true
        popped_front None = K.front
        popped_front (Some l) = go (a == l.sender && (boss == t))
          where
            go : (b : Bool) → is_in_front c (if b then drop 1 (v.links.queue a boss) else v.links.queue a boss) ≡ true
            go true = front_drop c (v.links.queue a boss) K.front
            go false = K.front

        posted_front : (b d : Bool) → is_in_front c (popped_queue t (Rules.takes o t x) v.links.queue a boss) ≡ true
            → is_in_front c (if b && not d then popped_queue t (Rules.takes o t x) v.links.queue a boss
            ++ sent_to boss (Rules.turn_by o t v x).sends else popped_queue t (Rules.takes o t x) v.links.queue a boss) ≡ true
        posted_front true false i = front_append c (popped_queue t (Rules.takes o t x) v.links.queue a boss)
            (sent_to boss (Rules.turn_by o t v x).sends) i
            (all_each (sent_to boss (Rules.turn_by o t v x).sends) (own_sent x (heard_suits x h) m))
        posted_front true true i = i
        posted_front false d i = i
