-- The tries of a call that waits where its node is retried, along the deliveries behind that.
-- xs: the events from the opening on.
use Rattle.std.proofs.Common.{ℕ, zero, suc, Bool, true, false, ◌==◌, ◌≡◌, ◌+◌, ◌-◌, Option, Some, None, List, [], ◌∷◌, ◌++◌, refl, sym, ap, subst, ◌∙◌, arith}
use Rattle.std.specs.Prelude.{◌&&◌, ◌||◌, Contains, is_none, if◌then◌else◌}
use Rattle.std.specs.List.{list_all}
use Rattle.std.proofs.lemmas.Bool.{eq-eqb}
use Rattle.std.proofs.lemmas.List.{append-nil, append_assoc}
use Rattle.registry_model.specs.Process.{Process, Nodes}
use Rattle.protocol_model.specs.Node.{LockPhase, LockCall, Retries, Times, Endless, call_of, targets}
use Rattle.protocol_model.specs.Event.{Event, Refusal, is_waiting_call}
use Rattle.protocol_model.specs.Client.{is_spent, one_less}
use Rattle.protocol_model.specs.ClientLocks.{Try, try_of, waits_for_retry}
use Rattle.protocol_model.specs.LockAnswers.{Tries, watched, next_try, tries_by, tries_after, tries_of, meets}
use Rattle.protocol_model.specs.World.{Opening, World, left, WorldEvent, At, Deliver, opening_world, refusal, accepted}
use Rattle.protocol_model.specs.Fit.{is_delivery}
use Rattle.getting_through.proofs.Indices.{both}
use Rattle.getting_through.proofs.Invariants.{IsUp}
use Rattle.walk.proofs.Calls.{all_open}
use Rattle.walk.proofs.Runs.{happens-accepted}
use Rattle.getting_through.proofs.Tied.{run-push}
use Rattle.walk.proofs.Events.{accepted_of}
use Rattle.getting_through.proofs.Calls.{home_of_call}
use Rattle.getting_through.proofs.Clients.{call_at}
use Rattle.getting_through.proofs.Families.{whole}
use Rattle.getting_through.proofs.Ongoing.{is_deleting}
use Rattle.getting_through.proofs.Tries.{IsTryOf}
use Rattle.getting_through.proofs.Behind.{is_plain, plain_tries}
use Rattle.getting_through.proofs.LastCalls.{known}
use Rattle.getting_through.proofs.LastTry.{last_of, tries_more, tries_behind}
use Rattle.getting_through.proofs.Nobody.{some_same}
use Rattle.getting_through.proofs.RetriesUsed.{spent}
use Rattle.getting_through.proofs.Spending.{AreLeft, IsSpending}
use Rattle.getting_through.proofs.QuietWorlds.{found_call, calls}
use Rattle.waiting_lock_calls.specs.Retried.{asks}
use Rattle.getting_through.specs.Worlds.{of_nodes, IsQuiet}
use Rattle.getting_through.specs.Clauses.{world}

-- what each event of some kind keeps holds behind all of them
pub along : (kind : WorldEvent → Bool) (P : List WorldEvent → Type 0)
    → ((xs : List WorldEvent) (d : WorldEvent) → kind d ≡ true → P xs → P (xs ++ d ∷ []))
    → (ds xs : List WorldEvent) → list_all kind ds ≡ true → P xs → P (xs ++ ds)
along kind P next [] xs k p = subst P (sym (append-nil xs)) p
along kind P next (d ∷ ds) xs k p =
    let parts : (kind d ≡ true) × (list_all kind ds ≡ true) = both (kind d) (list_all kind ds) k in
    subst P (append_assoc xs (d ∷ []) ds) (along kind P next ds (xs ++ d ∷ []) parts.1 (next xs d parts.0 p))

-- who is up stays so where nobody leaves
pub still_up : (o : Opening) (w v : World) → left v ≡ left w → (x : ℕ) → IsUp o w x → IsUp o v x
still_up o w v same x up = (up.0, ap (λ (s : Nodes). s x) same ∙ up.1)

-- what is left of a call's retries behind its next try
pub next_left : (given : Retries) (tried : ℕ) (now next : Retries) → is_spent now ≡ false → AreLeft given tried now
    → AreLeft given (tried + 1) next → next ≡ one_less now
next_left (Times g) t (Times zero) next s h k = cc s
next_left (Times g) t (Times (suc n)) (Times m) s h k = ap (λ (x : ℕ). Times x) (omega (arith, h, k))
next_left (Times g) t (Times (suc n)) Endless s h k = absurd k
next_left (Times g) t Endless next s h k = absurd h
next_left Endless t (Times n) next s h k = absurd h
next_left Endless t Endless (Times m) s h k = absurd k
next_left Endless t Endless Endless s h k = refl

-- nothing is, where that is the last
pub last_left : (given tried : ℕ) (now : Retries) → is_spent now ≡ false → AreLeft (Times given) tried now
    → tried + 1 ≡ given + 1 → is_spent (one_less now) ≡ true
last_left g t (Times zero) s h e = cc s
last_left g t (Times (suc n)) s h e = let none : suc n - 1 ≡ 0 = omega (arith, h, e) in
    subst (λ (m : ℕ). is_spent (Times m) ≡ true) (sym none) refl
last_left g t Endless s h e = absurd h

module _ (o : Opening) (es : List WorldEvent) (a : ℕ) (c : LockCall) (listed : Contains ((world o es).node a).calls c)
    (Q : IsQuiet (of_nodes o) (world o es)) (h : refusal o (world o es) (At a Event.Retry) ≡ None) where
  abbrev w : World
  w = world o es

  abbrev pub again : WorldEvent
  again = At a Event.Retry

  abbrev p : Process
  p = c.holder

  pub up : IsUp o w a
  up = ((accepted_of o w again h).place_inside, (accepted_of o w again h).running)

  -- the call waits, and no other of its process is open
  pub found : call_of p (w.node a).calls ≡ Some c
  found = found_call (w.node a).calls (w.node a).calls c (all_open a (w.node a).calls ((whole o es).base.ordered a)) listed

  pub home : p.node ≡ a
  home = home_of_call a p (w.node a).calls c ((whole o es).base.ordered a) found

  pub found_home : (v : World) (e : LockCall) → call_of p (v.node a).calls ≡ Some e → call_at v p ≡ Some e
  found_home v e here = ap (λ (x : ℕ). call_of p (v.node x).calls) home ∙ here

  pub there : call_at w p ≡ Some c
  there = found_home w c found

  pub phase : c.phase ≡ LockPhase.Waiting
  phase = calls o w (whole o es) Q a up c listed

  -- its tries so far
  before : (x : Tries) × (tries_of o es p ≡ Some x) × IsTryOf x.last c
  before = go (tries_of o es p) refl
    where
      own : (s : Try) × ((last_of (tries_of o es p) ≡ Some s) × IsTryOf s c)
      own = (known o p es).fits.own c there (ap is_deleting phase)

      go : (t : Option Tries) → tries_of o es p ≡ t → (x : Tries) × (tries_of o es p ≡ Some x) × IsTryOf x.last c
      go None i = cc (sym (ap last_of i) ∙ own.1.0)
      go (Some x) i = (
        x,
        i,
        subst (λ (s : Try). IsTryOf s c) (sym (some_same x.last own.0 (sym (ap last_of i) ∙ own.1.0))) own.1.1,
      )

  spending : IsSpending (tries_of o es p) c
  spending = (spent o es p).kept p c there refl (ap is_deleting phase)

  pub more : is_spent c.retries ≡ false
  more = spending.2.more (ap is_waiting_call phase)

  -- the tries behind these events, by which nobody left: one more, which asks whom the call asks now
  pub record AreTries (xs : List WorldEvent) : Type 0 where
    pub tries : Tries
    pub last : tries_of o xs p ≡ Some tries
    pub number : tries.last.number ≡ c.number
    pub id : tries.last.id ≡ c.id
    pub target : tries.last.target ≡ c.target
    pub asked : tries.last.asks ≡ asks w a c
    pub earlier : ℕ
    pub tried : tries.tried ≡ earlier + 1
    pub remaining : AreLeft tries.retries earlier c.retries
    pub stay : left (world o xs) ≡ left w

  abbrev pub behind : List WorldEvent
  behind = es ++ again ∷ []

  abbrev x : Tries
  x = before.0

  abbrev next : Try
  next = try_of (w.node a).replica.members x.last.number x.last.id x.last.target

  pub first : AreTries behind
  first = record {
    tries = record x { last = next; tried = x.tried + 1; met = meets o w again p next };
    last = tries_behind o p es again h ∙ ap (λ (t : Option Tries). tries_by o w again p t) before.1
        ∙ ap (λ (b : Bool). if b then next_try o w again p (w.node a).replica.members (Some x)
        else watched o w again p (Some x)) retried;
    number = before.2.number;
    id = before.2.id;
    target = before.2.target;
    asked = ap (targets (w.node a).replica.members) before.2.target;
    earlier = x.tried;
    tried = refl;
    remaining = subst (λ (t : Tries). AreLeft t.retries t.tried c.retries) (some_same spending.0 x (sym spending.1 ∙ before.1))
        spending.2.left;
    stay = ap left (run-push o (opening_world o) es again ∙ happens-accepted o w again h);
  }
    where
      retried : ((a == p.node) && waits_for_retry w p) ≡ true
      retried = ap (λ (b : Bool). b && waits_for_retry w p) (eq-eqb a p.node (sym home))
          ∙ ap (λ (k : Option LockCall). elim k [ None ↦ false | Some d ↦ is_waiting_call d.phase ]) there
          ∙ ap is_waiting_call phase

  pub first_met : first.tries.met ≡ meets o w again p first.tries.last
  unfolding first
  first_met = refl

  pub plain : (d : WorldEvent) → is_delivery d ≡ true → is_plain d ≡ true
  plain (At b e) k = cc k
  plain (Deliver f t) k = refl

  -- by a delivery nobody leaves
  none_leaves : (v : World) (d : WorldEvent) → is_delivery d ≡ true → left (accepted o v d) ≡ left v
  none_leaves v (At b e) k = cc k
  none_leaves v (Deliver f t) k = refl

  pub next_tries : (xs : List WorldEvent) (d : WorldEvent) → is_delivery d ≡ true → AreTries xs → AreTries (xs ++ d ∷ [])
  next_tries xs d k T = go (refusal o (world o xs) d) refl
    where
      v : World
      v = world o xs

      same : tries_of o (xs ++ d ∷ []) p ≡ tries_after o v d p (Some T.tries)
      same = tries_more o p xs d (opening_world o) None ∙ ap (tries_after o v d p) T.last

      go : (r : Option Refusal) → refusal o v d ≡ r → AreTries (xs ++ d ∷ [])
      go (Some r) i = record {
        tries = T.tries;
        last = same ∙ ap (λ (q : Option Refusal). if is_none q then tries_by o v d p (Some T.tries) else Some T.tries) i;
        number = T.number;
        id = T.id;
        target = T.target;
        asked = T.asked;
        earlier = T.earlier;
        tried = T.tried;
        remaining = T.remaining;
        stay = ap left (run-push o (opening_world o) xs d ∙ ap (λ (q : Option Refusal). if is_none q then accepted o v d else v) i)
            ∙ T.stay;
      }
      go None i = record {
        tries = record T.tries { met = T.tries.met || meets o v d p T.tries.last };
        last = same ∙ ap (λ (q : Option Refusal). if is_none q then tries_by o v d p (Some T.tries) else Some T.tries) i
            ∙ plain_tries o v p (Some T.tries) d (plain d k);
        number = T.number;
        id = T.id;
        target = T.target;
        asked = T.asked;
        earlier = T.earlier;
        tried = T.tried;
        remaining = T.remaining;
        stay = ap left (run-push o (opening_world o) xs d ∙ happens-accepted o v d i) ∙ none_leaves v d k ∙ T.stay;
      }
