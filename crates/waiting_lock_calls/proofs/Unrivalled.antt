-- A call that has no rival, where its lock is free at the nodes that it asks: along the deliveries behind the retry no grant of
-- another requester comes in its way there.
-- w: the quiet world; a: the node; c: the call.
use Rattle.std.proofs.Common.{ℕ, Bool, true, false, ◌==◌, ◌≡◌, Option, Some, None, List, [], ◌∷◌, ◌++◌, refl, sym, ap, subst, ◌∙◌}
use Rattle.std.specs.Prelude.{not, ◌&&◌, Contains, is_none, if◌then◌else◌}
use Rattle.std.specs.List.{list_all}
use Rattle.registry_model.specs.Process.{Text, Process}
use Rattle.registry_model.proofs.Updates.{by_test}
use Rattle.protocol_model.specs.Letter.{Id, Client, Letter, is_id, is_resource}
use Rattle.protocol_model.specs.LockTable.{Locks, is_free_for, grant}
use Rattle.protocol_model.specs.Round.{Round, asked, rest, opens, answer}
use Rattle.protocol_model.specs.Node.{Node, LockPhase, LockCall}
use Rattle.protocol_model.specs.Turn.{Turn, begun, send, send_all, sent_to, with_locks, keep_call}
use Rattle.protocol_model.specs.Client.{in_phase}
use Rattle.protocol_model.specs.Event.{Event, Refusal}
use Rattle.protocol_model.specs.World.{Opening, in_world, World, left, WorldEvent, At, Deliver, turn_of, refusal, accepted, happens}
use Rattle.protocol_model.specs.Fit.{is_delivery}
use Rattle.getting_through.proofs.Indices.{both, not_true}
use Rattle.getting_through.proofs.Invariants.{Each, IsUp}
use Rattle.getting_through.proofs.Rules
use Rattle.getting_through.proofs.Rules.{Rule, May, is_quiet}
use Rattle.getting_through.proofs.SendTests.{pass_sent}
use Rattle.walk.proofs.ChainKinds.{Hearing, suits}
use Rattle.walk.proofs.Walk.{OrderedWalk}
use Rattle.walk.proofs.Orders.{effect-node}
use Rattle.getting_through.proofs.Locking.{IsNamed}
use Rattle.getting_through.proofs.Base.{is_leave, effect-turn, after_turn, popped, each-one, each-all, each-map, each-popped, each-posted}
use Rattle.getting_through.proofs.Clients.{Numbers}
use Rattle.getting_through.proofs.Families.{Whole}
use Rattle.getting_through.proofs.Grounds.{Base}
use Rattle.getting_through.proofs.GrantLists.{all_grants, all_filter, all_grant, all_give_back}
use Rattle.getting_through.proofs.Ongoing.{asked_begin}
use Rattle.getting_through.proofs.Parts.{locks_by, parts}
use Rattle.getting_through.proofs.Requests.{is_apart, sends_apart}
use Rattle.getting_through.proofs.Told.{chain_of}
use Rattle.getting_through.proofs.Behind.{Known, walk_of, plain_hears}
use Rattle.getting_through.proofs.CallSteps.{AllCalls, calls_kept}
use Rattle.getting_through.proofs.Verdicts.{kept_in}
use Rattle.waiting_lock_calls.specs.Retried.{asks, IsRival}
use Rattle.waiting_lock_calls.proofs.Rounds.{HasSuch, GoesOn, rounds_put, heard_round, rounds_first}
use Rattle.waiting_lock_calls.proofs.Asked.{Asks, each_apart, Begins, begins_asks, Begun, retry_begun}
use Rattle.getting_through.specs.Worlds.{of_nodes, IsQuiet}

-- behind the first rule of a delivery none is an event's own
abbrev pub is_heard : Rule → Bool
is_heard r = suits Hearing r && not (is_leave r)

pub heard_suits : (r : Rule) → is_heard r ≡ true → suits Hearing r ≡ true
heard_suits r h = (both (suits Hearing r) (not (is_leave r)) h).0

quiet_stays : (r : Rule) → is_quiet r ≡ true → is_leave r ≡ false
quiet_stays Rules.Leaves h = cc h
quiet_stays r h = refl

all_heard : (rs : List Rule) → list_all (suits Hearing) rs ≡ true → list_all is_quiet rs ≡ true → list_all is_heard rs ≡ true
all_heard [] h q = refl
all_heard (r ∷ rs) h q =
    let one : (suits Hearing r ≡ true) × (list_all (suits Hearing) rs ≡ true) = both (suits Hearing r) (list_all (suits Hearing) rs) h in
    let two : (is_quiet r ≡ true) × (list_all is_quiet rs ≡ true) = both (is_quiet r) (list_all is_quiet rs) q in
    rw (one.0, quiet_stays r two.0, all_heard rs one.1 two.1) refl

pub letter_heard : (o : Opening) (t f : ℕ) (ls : List Letter) (rs : List Rule)
    → list_all (suits Hearing) (Rules.first_by_letter o t f ls ++ rs) ≡ true → list_all is_quiet rs ≡ true
    → list_all is_heard (Rules.first_by_letter o t f ls ++ rs) ≡ true
letter_heard o t f [] rs h q = all_heard rs h q
letter_heard o t f (Letter.Down ∷ ls) rs h q = all_heard rs h q
letter_heard o t f (l ∷ ls) rs h q = all_heard rs h q

-- a grant of this id is in nobody's way who asks for the call's lock
abbrev pub is_clear : LockCall → Id → Process → Bool
is_clear c i q = not (is_resource i c.id && not (is_id i c.id))

module _ (o : Opening) (w : World) (a : ℕ) (c : LockCall) (r z : Text) (of : c.id ≡ Client r z)
    (alone : (d : LockCall) → IsRival w a c d → ⊥) where
  -- a round of an open call asks whom a call that waited asks
  abbrev HasBegun : LockCall → Round → Type 0
  HasBegun d round = (b : LockCall) × Contains (w.node a).calls b × (b.id ≡ d.id)
      × ((x : ℕ) → asked round x ≡ true → asks w a b x ≡ true)

  goes_on : GoesOn o w HasBegun
  goes_on d old new same top was = (was.0, was.1, was.2, λ x k. was.3 x (sym (same x) ∙ k))

  -- what is known of the world v behind it
  pub record IsClear (v : World) : Type 0 where
    pub stay : left v ≡ left w
    pub rounds : AllCalls (HasSuch o w HasBegun) v
    pub letters : (f t : ℕ) → in_world o f ≡ true → IsUp o v t → Each (Asks w a t) (v.links.queue f t)
    pub ways : (x : ℕ) → asks w a c x ≡ true → all_grants (is_clear c) (v.node x).locks ≡ true

  -- who may ask for a lock at x stands in nobody's way there
  asked_clear : (x : ℕ) → asks w a c x ≡ true → (i : Id) (q : Process)
      → ((q.serial == 0) ≡ false → (d : LockCall) × Contains (w.node a).calls d × (d.id ≡ i) × (asks w a d x ≡ true))
      → ((s y : Text) → i ≡ Client s y → (q.serial == 0) ≡ false) → is_clear c i q ≡ true
  asked_clear x mine i q asked client = go (is_resource i c.id && not (is_id i c.id)) refl
    where
      is_client : (j : Id) → is_resource j c.id ≡ true → (s : Text) × (y : Text) × (j ≡ Client s y)
      is_client (Client s y) k = (s, y, refl)
      is_client (Id.Global b) k = cc (ap (is_resource (Id.Global b)) of, k)

      go : (b : Bool) → (is_resource i c.id && not (is_id i c.id)) ≡ b → not b ≡ true
      go false e = refl
      go true e =
          let parts : (is_resource i c.id ≡ true) × (not (is_id i c.id) ≡ true) = both (is_resource i c.id) (not (is_id i c.id)) e in
          let its : (s : Text) × (y : Text) × (i ≡ Client s y) = is_client i parts.0 in
          let by : (d : LockCall) × Contains (w.node a).calls d × (d.id ≡ i) × (asks w a d x ≡ true) =
          asked (client its.0 its.1 its.2) in
          absurd (alone by.0 (record {
            listed = by.1;
            resource = ap (λ (j : Id). is_resource j c.id) by.2 ∙ parts.0;
            requester = ap (λ (j : Id). is_id j c.id) by.2 ∙ not_true (is_id i c.id) parts.1;
            node = x;
            asked = mine;
            asked_too = by.3;
          }))

  -- Behind a rule
  module _ (t : ℕ) (v : World) (B : Base o v) (K : IsClear v) where
    -- what is sent
    sent : (x : Rule) → suits Hearing x ≡ true → May o t v x → (y : ℕ) → Each (Asks w a y) (sent_to y (Rules.turn_by o t v x).sends)
    sent (Rules.AsksLock d) h m y = cc h
    sent (Rules.Judges f id q) h m y = go (is_free_for id q (v.node t).locks)
      where
        go : (b : Bool) → Each (Asks w a y) (sent_to y (send f (Letter.LockAnswer id q b)
            (if b then with_locks (grant id q) (begun (v.node t)) else begun (v.node t))).sends)
        go true = each-one (Asks w a y) y f (Letter.LockAnswer id q true) (λ i. tt)
        go false = each-one (Asks w a y) y f (Letter.LockAnswer id q false) (λ i. tt)
    sent (Rules.HearsLock f id g d round) h m y = go (opens f g round)
      where
        was : HasBegun d round
        was = heard_round o w HasBegun t v B K.rounds K.stay f id g d round m

        asked_now : (x : ℕ) → (rest round x && not ((v.node t).replica.told x)) ≡ true → asked round x ≡ true
        asked_now x e = (both (asked round x) (not (x == round.boss))
            (both (rest round x) (not ((v.node t).replica.told x)) e).0).0

        go : (b : Bool) → Each (Asks w a y) (sent_to y (keep_call (in_phase (LockPhase.Asking (answer f g round)) d)
            (if b then send_all o.bound (λ x. rest round x && not ((v.node t).replica.told x)) (Letter.SetLock d.id d.holder)
            (begun (v.node t)) else begun (v.node t))).sends)
        go true = each-all (Asks w a y) o.bound (λ x. rest round x && not ((v.node t).replica.told x)) y
            (Letter.SetLock d.id d.holder) (λ e ne. (was.0, was.1, was.2, was.3 y (asked_now y e)))
        go false = tt
    sent x h m y = each_apart w a y (sent_to y (Rules.turn_by o t v x).sends)
        (pass_sent is_apart y (Rules.turn_by o t v x).sends (sends_apart o t v x refl))

    -- the lock table
    ways_kept : (x : Rule) → May o t v x → asks w a c t ≡ true → all_grants (is_clear c) (v.node t).locks ≡ true
        → all_grants (is_clear c) (locks_by x (v.node t).locks) ≡ true
    ways_kept (Rules.Judges f id q) m mine all = go (is_free_for id q (v.node t).locks)
      where
        front : Each (Asks w a t) (v.links.queue f t)
        front = K.letters f t m.front.0 (m.inside, m.running)

        clear : is_clear c id q ≡ true
        clear = asked_clear t mine id q ((subst (Each (Asks w a t)) m.front.1.1 front).0) client
          where
            named : IsNamed f t (Letter.SetLock id q)
            named = (subst (Each (IsNamed f t)) m.front.1.1 (B.all.locks.named f t m.running)).0

            client : (s y : Text) → id ≡ Client s y → (q.serial == 0) ≡ false
            client s y e = not_true (q.serial == 0) (subst (λ (i : Id). IsNamed f t (Letter.SetLock i q)) e named)

        go : (b : Bool) → all_grants (is_clear c) (if b then grant id q (v.node t).locks else (v.node t).locks) ≡ true
        go true = all_grant (is_clear c) id q (v.node t).locks clear all
        go false = all
    ways_kept (Rules.TakesBack f id q ack) m mine all = all_give_back (is_clear c) id q (v.node t).locks all
    ways_kept (Rules.Releases f q) m mine all = all_filter (λ g. is_clear c g.id g.holder) _ (v.node t).locks all
    ways_kept (Rules.IsTold f) m mine all = all_filter (λ g. is_clear c g.id g.holder) _ (v.node t).locks all
    ways_kept x m mine all = all

    pub clear_keeps : (x : Rule) → is_heard x ≡ true → May o t v x → IsClear (Rules.effect o t x v)
    clear_keeps x h m = record {
      stay = ap left (sym same) ∙ K.stay;
      rounds = calls_kept o t v x B.ordered m (HasSuch o w HasBegun)
          (rounds_put o w HasBegun t v B K.rounds goes_on x (heard_suits x h) m) K.rounds;
      letters = λ f y inside up. subst (λ (u : World). Each (Asks w a y) (u.links.queue f y)) same
          (each-posted (Asks w a y) t (λ n. sent_to n (Rules.turn_by o t v x).sends) (popped t (Rules.takes o t x) v.links) f y
          (each-popped (Asks w a y) t (Rules.takes o t x) v.links.queue f y (K.letters f y inside
          (subst (λ (u : World). IsUp o u y) (sym same) up)))
          (λ i. sent x (heard_suits x h) m y));
      ways = λ y mine. subst (λ (f : ℕ → Node). all_grants (is_clear c) (f y).locks ≡ true) (sym (effect-node o t x v))
          (by_test t (λ n b. asks w a c n ≡ true
          → all_grants (is_clear c) (if b then (Rules.turn_by o t v x).node else v.node n).locks ≡ true)
          (λ k. subst (λ (ls : Locks). all_grants (is_clear c) ls ≡ true) (sym (parts o t v x).locks)
          (ways_kept x m k (K.ways t k))) (λ n ne k. K.ways n k) y mine);
    }
      where
        same : after_turn t v (Rules.turn_by o t v x) (Rules.takes o t x) ≡ Rules.effect o t x v
        same = effect-turn o t v x (not_true (is_leave x) (both (suits Hearing x) (not (is_leave x)) h).1)

  -- and behind a delivery
  pub clear_next : (v : World) (num : Numbers) → Known o v num → Base o v → (d : WorldEvent) → is_delivery d ≡ true → IsClear v
      → IsClear (happens o v d)
  clear_next v num S B (At b e) k K = cc k
  clear_next v num S B (Deliver f t) k K = go (refusal o v (Deliver f t)) refl
    where
      go : (x : Option Refusal) → refusal o v (Deliver f t) ≡ x → IsClear (if is_none x then accepted o v (Deliver f t) else v)
      go (Some x) e = K
      go None e = subst IsClear W.walk.world (kept_in o t is_heard heard_suits IsClear
          (λ u x h m B k. clear_keeps t u B k x h m) (chain_of o v (Deliver f t) W.walk.rest) v
          (letter_heard o t f (v.links.queue f t) W.walk.rest
          (plain_hears o v num S (Deliver f t) W.walk.rest refl W.in_order) W.walk.quiet) W.walk.may B K)
        where
          W : OrderedWalk o v (Deliver f t)
          W = walk_of o v num S (Deliver f t) e

  -- at first, behind the retry
  module _ (W : Whole o w) (Q : IsQuiet (of_nodes o) w) (h : refusal o w (At a Event.Retry) ≡ None)
      (free : (x : ℕ) → asks w a c x ≡ true → all_grants (is_clear c) (w.node x).locks ≡ true) where
    abbrev u : Turn
    u = turn_of o w (At a Event.Retry)

    begun_turn : Begun w a o.bound u
    begun_turn = retry_begun w a o.bound

    pub clear_first : IsClear (accepted o w (At a Event.Retry))
    clear_first = record {
      stay = refl;
      rounds = rounds_first o w HasBegun a W Q (λ b i. (b, i, refl, λ x k. sym (asked_begin o.bound (asks w a b) x) ∙ k));
      letters = λ f y inside up. each-posted (Asks w a y) a (λ n. sent_to n u.sends) w.links f y
          (subst (Each (Asks w a y)) (sym (Q f y inside up)) tt)
          (λ i. each-map (Begins w a o.bound y) (Asks w a y) (begins_asks w a o.bound y) (sent_to y u.sends) (begun_turn.sends y));
      ways = λ y mine. by_test a (λ n b. asks w a c n ≡ true
          → all_grants (is_clear c) (if b then u.node else w.node n).locks ≡ true)
          (λ k. subst (λ (ls : Locks). all_grants (is_clear c) ls ≡ true) (sym begun_turn.locks) (free a k)) (λ n ne k. free n k) y mine;
    }
