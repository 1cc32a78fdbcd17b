-- Events are walked, so at a running node no resource is held under two requesters, after every list of events: by the
-- numbers that the rounds of open calls give.
use Rattle.std.proofs.Common.{ℕ, Bool, true, false, ◌==◌, ◌≡◌, ◌<◌, ◌+◌, Option, Some, None, List, [], ◌∷◌, refl, sym, ap, ◌∙◌, subst, arith}
use Rattle.std.specs.Prelude.{not, ◌&&◌, ◌||◌, is_none, if◌then◌else◌}
use Rattle.registry_model.specs.Process.{Process}
use Rattle.protocol_model.specs.Letter.{Id, is_id, is_resource}
use Rattle.protocol_model.specs.LockTable.{count}
use Rattle.protocol_model.specs.Watch.{is_dead}
use Rattle.protocol_model.specs.Event.{Answer, Refusal}
use Rattle.protocol_model.specs.ClientLocks.{is_no_more}
use Rattle.protocol_model.specs.World.{Opening, in_world, World, left, WorldEvent, place, opening_world, refusal, happens, accepted, answers, turn_of, run}
use Rattle.moves.proofs.Rules.{Rule, May, MayAll, Ordered, Walked, effect, effects, answers_by}
use Rattle.moves.proofs.Invariants.{Proper, IsUp}
use Rattle.walk.proofs.Receiving.{WelcomeWidens}
use Rattle.walk.proofs.Walk.{OrderedWalk, walked_in_order}
use Rattle.walk.proofs.Orders.{ordered_keeps, ordered_opens}
use Rattle.walk.proofs.Joins.{JoinsOnce, joins_once_opens, joins_once_keeps}
use Rattle.client_locks.proofs.RoundNumbers.{next_round_count, round_count_after, round_count_from, round_count}
use Rattle.client_locks.proofs.LockTables.{one_requester}
use Rattle.client_locks.proofs.Sessions.{Live, live_along, settled, settled_le, view, due}
use Rattle.client_locks.proofs.Mail.{asks, echoes}
use Rattle.client_locks.proofs.Clients.{Numbers, lives, call_at, Clients}
use Rattle.client_locks.proofs.Numbers.{nums_by, num_by}
use Rattle.client_locks.proofs.Keeping.{clients_keeps}
use Rattle.client_locks.proofs.Opening.{no_numbers, clients_opens}
use Rattle.client_locks.proofs.Growing.{Replying, replying_keeps, replying_opens}
use Rattle.client_locks.proofs.Numbering.{Numbered, numbered_opens}
use Rattle.client_locks.proofs.Told.{chain_of, told_by, Tied, tied}

-- What is taken of others: an invariant that knows of departures, and by which a node that is welcomed keeps its
-- members
pub record Grounds (o : Opening) (F : World → Type 0) : Type 0 where
  pub opens : F (opening_world o)
  pub keeps : (a : ℕ) (w : World) (r : Rule) → F w → Ordered w → May o a w r → F (effect o a r w)
  pub proper : (w : World) → F w → Proper o w
  pub wide : (w : World) → F w → JoinsOnce w → WelcomeWidens o w

-- the same numbers, told otherwise
pub clients_along : (o : Opening) (w : World) (num num2 : Numbers)
    → ((p : Process) (id : Id) (x : ℕ) → num2 p id x ≡ num p id x) → Clients o w num → Clients o w num2
clients_along o w num num2 e C = record {
  tables = C.tables;
  named = C.named;
  rounds = C.rounds;
  callers = C.callers;
  strangers = λ p id x h. e p id x ∙ C.strangers p id x h;
  sessions = λ p x h up. live_along (view (call_at w p) x) (view (call_at w p) x) (asks p (w.links.queue p.node x))
      (asks p (w.links.queue p.node x)) (echoes p (w.links.queue x p.node)) (echoes p (w.links.queue x p.node))
      (λ id. count id p (w.node x).locks) (λ id. count id p (w.node x).locks) (λ id. num p id x)
      (λ id. num2 p id x) refl refl refl (λ id. refl) (λ id. e p id x) (C.sessions p x h up);
}

-- who is gone doesn't live
gone_not_living : (o : Opening) (w : World) (p : Process) → is_no_more w p ≡ true → lives o w p ≡ false
gone_not_living o w p h = go (in_world o p.node) (left w p.node) (not (p.serial == 0))
    (is_dead (w.node p.node).watch p.serial) h
  where
    go : (a b c d : Bool) → (b || d) ≡ true → (a && (not b && (c && not d))) ≡ false
    go false b c d k = refl
    go true true c d k = refl
    go true false false d k = refl
    go true false true true k = refl
    go true false true false k = cc

module _ (o : Opening) (F : World → Type 0) (G : Grounds o F) where
  -- what holds behind each event
  pub record State (w : World) (num : Numbers) : Type 0 where
    pub family : F w
    pub once : JoinsOnce w
    pub ordered : Ordered w
    pub replying : Replying w
    pub numbered : Numbered o w
    pub clients : Clients o w num

  record Kept (w : World) (num : Numbers) : Type 0 where
    family : F w
    once : JoinsOnce w
    ordered : Ordered w
    replying : Replying w
    clients : Clients o w num

  chain_keeps : (a : ℕ) (rs : List Rule) (w : World) (num : Numbers) → MayAll o a rs w → Kept w num
      → Kept (effects o a rs w) (nums_by o a rs w num)
  chain_keeps a [] w num m k = k
  chain_keeps a (r ∷ rs) w num m k = chain_keeps a rs (effect o a r w) (num_by a r w num) m.1 (record {
    family = G.keeps a w r k.family k.ordered m.0;
    once = joins_once_keeps o a w r k.once m.0;
    ordered = ordered_keeps o a w r k.ordered m.0;
    replying = replying_keeps o a w r m.0 k.replying;
    clients = clients_keeps o a w num (G.proper w k.family) k.ordered k.clients r m.0;
  })

  -- an accepted event
  accepted_keeps : (w : World) (e : WorldEvent) (num : Numbers) → State w num → refusal o w e ≡ None
      → State (accepted o w e) (λ p id x. next_round_count o w e p id x (num p id x))
  accepted_keeps w e num S h = subst (λ (v : World). State v (λ p id x. next_round_count o w e p id x (num p id x))) W.world
      (record {
        family = K.family;
        once = K.once;
        ordered = K.ordered;
        replying = K.replying;
        numbered = T.numbered;
        clients = clients_along o end (nums_by o (place e) chain w num)
            (λ p id x. next_round_count o w e p id x (num p id x)) same K.clients;
      })
    where
      walked : OrderedWalk o w e
      walked = walked_in_order o w e S.ordered (G.wide w S.family S.once) h

      W : Walked o w e
      W = walked.walk

      chain : List Rule
      chain = chain_of o w e walked.walk.rest

      end : World
      end = effects o (place e) chain w

      K : Kept end (nums_by o (place e) chain w num)
      K = chain_keeps (place e) chain w num walked.walk.may (record
          { family = S.family; once = S.once; ordered = S.ordered; replying = S.replying; clients = S.clients })

      T : Tied o (ordered_keeps o) w num S.ordered S.replying S.numbered e walked.walk.rest
      T = tied o (ordered_keeps o) w num S.ordered S.replying S.numbered e walked.walk.rest walked.walk.may
          walked.in_order

      -- the event is accepted, and its answers are those of the chain
      happened : happens o w e ≡ end
      happened = ap (λ (r : Option Refusal). if is_none r then accepted o w e else w) h ∙ sym walked.walk.world

      answered : answers o w e ≡ answers_by o (place e) chain w
      answered = ap (λ (r : Option Refusal). if is_none r then (turn_of o w e).answers else []) h
          ∙ sym walked.walk.answers

      same : (p : Process) (id : Id) (x : ℕ) → next_round_count o w e p id x (num p id x) ≡ nums_by o
          (place e) chain w num p id x
      same p id x =
          ap (λ (v : World). if is_no_more v p then 0 else told_by w e (answers o w e) p id x (num p id x)) happened
          ∙ ap (λ (ss : List Answer). if is_no_more end p then 0 else told_by w e ss p id x (num p id x)) answered
          ∙ go (is_no_more end p) refl
        where
          go : (b : Bool) → is_no_more end p ≡ b → (if b then 0 else told_by w e (answers_by o (place e) chain w) p id x
              (num p id x)) ≡ nums_by o (place e) chain w num p id x
          go true k = sym (K.clients.strangers p id x (gone_not_living o end p k))
          go false k = sym (T.numbers p k id x)

  pub event_keeps : (w : World) (e : WorldEvent) (num : Numbers) → State w num
      → State (happens o w e) (λ p id x. round_count_after o w e p id x (num p id x))
  event_keeps w e num S = go (refusal o w e) refl
    where
      go : (r : Option Refusal) → refusal o w e ≡ r
          → State (if is_none r then accepted o w e else w) (λ p id x. if is_none r then next_round_count o w e p id x
          (num p id x) else num p id x)
      go None h = accepted_keeps w e num S h
      go (Some r) h = S

  pub run_state : (w : World) (es : List WorldEvent) (num : Numbers) → State w num
      → State (run o w es) (λ p id x. round_count_from o w es p id x (num p id x))
  run_state w [] num S = S
  run_state w (e ∷ es) num S = run_state (happens o w e) es (λ p id x. round_count_after o w e p id x (num p id x))
      (event_keeps w e num S)

  pub opening_state : State (opening_world o) no_numbers
  opening_state = record {
    family = G.opens;
    once = joins_once_opens o;
    ordered = ordered_opens o;
    replying =
        replying_opens o;
    numbered = numbered_opens o;
    clients = clients_opens o;
  }

  -- who holds a lock stands in the lock table
  stands : (w : World) (num : Numbers) → Clients o w num → (c : ℕ) → IsUp o w c → (p : Process) (i : Id)
      → 0 < num p i c → 0 < count i p (w.node c).locks
  stands w num C c up p i h = go (lives o w p) refl
    where
      go : (b : Bool) → lives o w p ≡ b → 0 < count i p (w.node c).locks
      go false e = absurd (omega (arith, C.strangers p i c e, h))
      go true e =
          let l : Live (view (call_at w p) c) (asks p (w.links.queue p.node c)) (echoes p (w.links.queue c p.node))
          (λ id. count id p (w.node c).locks) (λ id. num p id c) = C.sessions p c e up in
          let most : settled i (asks p (w.links.queue p.node c)) (count i p (w.node c).locks) ≡ num p i c + due i
          (view (call_at w p) c) (echoes p (w.links.queue c p.node)) = l.sum i in
          omega (arith, most, settled_le i (asks p (w.links.queue p.node c)) (count i p (w.node c).locks), h)

  pub excluded : (es : List WorldEvent) (c : ℕ) → in_world o c ≡ true → left (run o (opening_world o) es) c ≡ false →
      (p q : Process) (i j : Id) → 0 < round_count o es p i c → 0 < round_count o es q j c → is_resource i j ≡ true
      → is_id i j ≡ true
  excluded es c inside up p q i j hp hq r =
      let S : State (run o (opening_world o) es) (λ k id x. round_count o es k id x) = run_state
      (opening_world o) es no_numbers opening_state in
      one_requester ((run o (opening_world o) es).node c).locks (S.clients.tables c) i p j q
      (stands (run o (opening_world o) es) (λ k id x. round_count o es k id x) S.clients c (inside, up) p i hp)
      (stands (run o (opening_world o) es) (λ k id x. round_count o es k id x) S.clients c (inside, up) q j hq) r
