-- Nothing of a node is anywhere until it starts.
use mathlib.Core.Logic.{inl, inr}
use Rattle.std.proofs.Common.{ℕ, Bool, true, false, ◌==◌, ◌≡◌, ◌+◌, ◌-◌, List, [], ◌∷◌, map, refl, sym, ap, subst, ◌∙◌, arith}
use Rattle.std.specs.Prelude.{◌⊎◌, Option, Some, None, is_none, ◌&&◌, if◌then◌else◌}
use Rattle.std.specs.List.{list_any}
use Rattle.std.proofs.lemmas.Bool.{eqb-true, false_from_ne_true}
use Rattle.std.proofs.lemmas.List.Elements.{All-contains, All-head, All-tail}
use Rattle.registry_model.specs.Process.{Text, Process, is_process, Nodes}
use Rattle.registry_model.specs.Table.{Table, get}
use Rattle.registry_model.specs.Registry.{Registry, view}
use Rattle.registry_model.specs.History.{registry_of}
use Rattle.registry_model.proofs.Lists.{is_process-true}
use Rattle.protocol_model.specs.Letter.{Id, Client, is_id}
use Rattle.protocol_model.specs.Node.{Target, targets}
use Rattle.protocol_model.specs.Event.{Call, Event, Answer, NoSuchNode}
use Rattle.protocol_model.specs.World.{in_cluster, World, left, WorldEvent, place, other, refusal, happens, answers, opening_world}
use Rattle.protocol_model.specs.ClientLocks.{Try, try_of, tried_again, waits_for_retry, last_try, is_true_to, is_won, gives, is_no_more, Tally, tallied, tally_after, tally_from}
use Rattle.creations.specs.NodeNames.{NamedOpening, opening_of}
use Rattle.creations.specs.NamedWorld.{NamedWorld, NamedEvent, NamedRefusal, Plain, opening_named, present_node, has_started, sender_to, waiting_for, next_node, plain_refusal, named_refusal, plain, plain_accepted, accepted_named, happens_named, run_named, plain_events, after_events}
use Rattle.creations.specs.Inherited.{NothingIsInherited}
use Rattle.creations.proofs.NamedRuns.{happens-plain, tally-append}
use Rattle.creations.proofs.Inside.{IsOwnedIn, OwnersIn, IsGrantIn}
use Rattle.creations.proofs.LocksInside.{targets_in}
use Rattle.creations.proofs.Apart.{unrefused_by, asked_in}
use Rattle.creations.proofs.Recorded.{view_in}
use Rattle.creations.proofs.Standing.{Sound, sound_opens, unrefused}
use Rattle.creations.proofs.Restarting.{may_restart, starts_later}
use Rattle.creations.proofs.Always.{always, happens_keeps}

-- who a table finds is on a node of the set
get_in : (S : Nodes) (x : Text) (t : Table) (p : Process) → get x t ≡ Some p → OwnersIn S t → S p.node ≡ true
get_in S x [] p e of = absurd (cc e)
get_in S x (pair ∷ t) p e of = go (pair.name == x) e (λ f. get_in S x t p f (All-tail (IsOwnedIn S) pair t of))
  where
    same : Some pair.owner ≡ Some p → pair.owner ≡ p
    same f = cc

    go : (b : Bool) → (if b then Some pair.owner else get x t) ≡ Some p → (get x t ≡ Some p → S p.node ≡ true) → S p.node ≡ true
    go true f more = ap (λ (q : Process). S q.node) (sym (same f)) ∙ All-head (IsOwnedIn S) pair t of
    go false f more = more f

module _ (o : NamedOpening) (n : ℕ) (id : Id) (p : Process) (c : ℕ) (here : (p.node ≡ n) ⊎ (c ≡ n)) where
  -- a last try that doesn't ask c
  abbrev PassesOver : Option Try → Type 0
  PassesOver last = (t : Try) → last ≡ Some t → t.asks c ≡ false

  -- the number is 0
  record IsNone (t : Tally) : Type 0 where
    pub number : t.number ≡ 0
    pub last : PassesOver t.last

  -- without a grant it stays
  stays_none : (b won given : Bool) (k : ℕ) → k ≡ 0 → won ≡ false
      → (if b then 0 else (if won then k + 1 else (if given then k - 1 else k))) ≡ 0
  stays_none true won given k e f = refl
  stays_none false false true k e f = omega arith
  stays_none false false false k e f = e
  stays_none false true given k e f = absurd (cc f)

  won_none : (given : List Answer) (last : Option Try) → PassesOver last → is_won p id c given last ≡ false
  won_none given None over = refl
  won_none given (Some t) over = false_from_ne_true (is_won p id c given (Some t)) (λ e. absurd (never e))
    where
      never : is_won p id c given (Some t) ≡ true → ⊥
      never e =
          let asks : t.asks c ≡ true = go (is_id t.id id) (t.asks c) (list_any (is_true_to p t) given) e in
          cc (asks, over t refl)
        where
          go : (a b d : Bool) → (a && b && d) ≡ true → b ≡ true
          go true true d f = refl
          go true false d f = cc
          go false b d f = cc

  tallied_none : (w : World) (e : WorldEvent) (t : Tally) → PassesOver (last_try w e p t.last) → IsNone t
      → IsNone (tally_after (opening_of o) w e p id c t)
  tallied_none w e t over N = go (is_none (refusal (opening_of o) w e))
    where
      go : (b : Bool) → IsNone (if b then tallied (opening_of o) w e p id c t else t)
      go true = record {
        number = stays_none (is_no_more (happens (opening_of o) w e) p)
            (is_won p id c (answers (opening_of o) w e) (last_try w e p t.last)) (gives w e p id c) t.number N.number
            (won_none (answers (opening_of o) w e) (last_try w e p t.last) over);
        last = over;
      }
      go false = N

  -- a delivery tries nothing
  deliveries_none : (ds : List ℕ) (m : ℕ) (w : World) (t : Tally) → IsNone t
      → IsNone (tally_from (opening_of o) w (map (λ d. WorldEvent.Deliver d m) ds) p id c t)
  deliveries_none [] m w t N = N
  deliveries_none (d ∷ ds) m w t N = deliveries_none ds m (happens (opening_of o) w (WorldEvent.Deliver d m))
      (tally_after (opening_of o) w (WorldEvent.Deliver d m) p id c t)
      (tallied_none w (WorldEvent.Deliver d m) t N.last N)

  module _ (w : NamedWorld) (s : Sound o w) (outside : has_started o w n ≡ false) where
    abbrev S : Nodes
    S = has_started o w

    -- a try of p at a node that has started doesn't ask c
    try_over : (a : ℕ) (target : Target) → S a ≡ true → S p.node ≡ true
        → targets (w.world.node a).replica.members target c ≡ false
    try_over a target i home = false_from_ne_true (targets (w.world.node a).replica.members target c) (λ e. elim here [
      | inl same ↦ absurd (cc (home, ap S same, outside))
      | inr same ↦ absurd (cc (targets_in S (w.world.node a).replica.members target (s.apart.inside a i).members c e, ap S same, outside))
    ])

    -- no event of nodes that have started makes another
    last_over : (e : WorldEvent) (last : Option Try) → S (place e) ≡ true → S (other e) ≡ true
        → refusal (opening_of o) w.world e ≡ None → PassesOver last → PassesOver (last_try w.world e p last)
    last_over (WorldEvent.Deliver f t) last i j r over = over
    last_over (WorldEvent.At a Event.Leave) last i j r over = over
    last_over (WorldEvent.At a (Event.Exiting q)) last i j r over = over
    last_over (WorldEvent.At a Event.Retry) last i j r over = go (a == p.node) (waits_for_retry w.world p) refl last over
      where
        go : (b d : Bool) → (a == p.node) ≡ b → (t : Option Try) → PassesOver t
            → PassesOver (if b && d then tried_again (w.world.node a).replica.members t else t)
        go true true e None v = λ t q. absurd (cc q)
        go true true e (Some u) v = λ t q.
            let k : targets (w.world.node a).replica.members u.target c ≡ false =
            try_over a u.target i (ap S (sym (eqb-true a p.node e)) ∙ i) in
            ap (λ (x : Try). x.asks c) (sym (same u t q)) ∙ k
          where
            same : (u t : Try) → Some (try_of (w.world.node a).replica.members u.number u.id u.target) ≡ Some t
                → try_of (w.world.node a).replica.members u.number u.id u.target ≡ t
            same u t q = cc
        go true false e t v = v
        go false d e t v = v
    last_over (WorldEvent.At a (Event.Calling Call.Spawn)) last i j r over = over
    last_over (WorldEvent.At a (Event.Calling (Call.LookUp look))) last i j r over = over
    last_over (WorldEvent.At a (Event.Calling (Call.OnName call))) last i j r over = over
    last_over (WorldEvent.At a (Event.Calling (Call.JoinBy m))) last i j r over = over
    last_over (WorldEvent.At a (Event.Calling (Call.DelLock q x z target))) last i j r over = over
    last_over (WorldEvent.At a (Event.Calling (Call.SetLock q x z target retries))) last i j r over = go (is_process q p) refl
      where
        home : S q.node ≡ true
        home = asked_in (opening_of o) S w.world a (Call.SetLock q x z target retries) i j
            (unrefused_by (opening_of o) w.world (WorldEvent.At a (Event.Calling (Call.SetLock q x z target retries))) r).2

        same : (u t : Try) → Some u ≡ Some t → u ≡ t
        same u t q = cc

        go : (b : Bool) → is_process q p ≡ b → PassesOver (if b
            then Some (try_of (w.world.node a).replica.members ((w.world.node a).last_call + 1)
            (Client x z) target) else last)
        go true e = λ t f. ap (λ (y : Try). y.asks c) (sym (same _ t f))
            ∙ try_over a target i (ap (λ (y : Process). S y.node) (sym (is_process-true q p e)) ∙ home)
        go false e = over

    at_node : (m : ℕ) (e : Event) (t : Tally) → IsNone t
        → (if has_started o w m then plain_refusal o w (WorldEvent.At m e) else Some (Plain NoSuchNode)) ≡ None
        → IsNone (tally_after (opening_of o) w.world (WorldEvent.At m e) p id c t)
    at_node m e t N r = go (has_started o w m) refl r
      where
        go : (b : Bool) → has_started o w m ≡ b
            → (if b then plain_refusal o w (WorldEvent.At m e) else Some (Plain NoSuchNode)) ≡ None
            → IsNone (tally_after (opening_of o) w.world (WorldEvent.At m e) p id c t)
        go true i q =
            let fits : (has_started o w (other (WorldEvent.At m e)) ≡ true)
            × (refusal (opening_of o) w.world (WorldEvent.At m e) ≡ None) = unrefused o w s (WorldEvent.At m e) q in
            tallied_none w.world (WorldEvent.At m e) t (last_over (WorldEvent.At m e) t.last i fits.0 fits.1 N.last) N
        go false i q = absurd (cc q)

    -- an event of named nodes
    event_none : (e : NamedEvent) (t : Tally) → IsNone t → named_refusal o w e ≡ None
        → IsNone (tally_from (opening_of o) w.world (plain o w e) p id c t)
    event_none (NamedEvent.At x e) t N r = at_node (present_node o w x) e t N r
    event_none (NamedEvent.AtNode m e) t N r = at_node m e t N r
    event_none (NamedEvent.Deliver f y) t N r =
        tallied_none w.world (WorldEvent.Deliver (sender_to o w f y) (present_node o w y)) t N.last N
    event_none (NamedEvent.Restart x) t N r = deliveries_none (waiting_for o w (next_node o w x)) (next_node o w x) w.world t N

    accepted_none : (e : NamedEvent) (t : Tally) → IsNone t
        → IsNone (tally_from (opening_of o) w.world (plain_accepted o w e) p id c t)
    accepted_none e t N = go (named_refusal o w e) refl
      where
        go : (r : Option NamedRefusal) → named_refusal o w e ≡ r
            → IsNone (tally_from (opening_of o) w.world (if is_none r then plain o w e else []) p id c t)
        go None q = event_none e t N q
        go (Some r) q = N

  -- who has started has started for good
  started_stays : (w : NamedWorld) → Sound o w → (e : NamedEvent) → has_started o w n ≡ true
      → has_started o (happens_named o w e) n ≡ true
  started_stays w s e i = go (named_refusal o w e) refl e refl
    where
      by : (e : NamedEvent) → named_refusal o w e ≡ None → has_started o (accepted_named o w e) n ≡ true
      by (NamedEvent.At x k) q = i
      by (NamedEvent.AtNode m k) q = i
      by (NamedEvent.Deliver f t) q = i
      by (NamedEvent.Restart x) q = starts_later o w s x (may_restart o w x q) n i

      go : (r : Option NamedRefusal) → named_refusal o w e ≡ r → (f : NamedEvent) → f ≡ e
          → has_started o (if is_none r then accepted_named o w e else w) n ≡ true
      go None q f k = by e q
      go (Some r) q f k = i

  not_yet : (w : NamedWorld) → Sound o w → (e : NamedEvent) → has_started o (happens_named o w e) n ≡ false
      → has_started o w n ≡ false
  not_yet w s e no_start = false_from_ne_true (has_started o w n) (λ i. absurd (cc (started_stays w s e i, no_start)))

  not_yet_all : (es : List NamedEvent) (w : NamedWorld) → Sound o w → has_started o (run_named o w es) n ≡ false
      → has_started o w n ≡ false
  not_yet_all [] w s q = q
  not_yet_all (e ∷ es) w s q = not_yet w s e (not_yet_all es (happens_named o w e) (happens_keeps o w e s) q)

  events_none : (es : List NamedEvent) (w : NamedWorld) (t : Tally) → Sound o w → has_started o (run_named o w es) n ≡ false
      → IsNone t → IsNone (tally_from (opening_of o) w.world (plain_events o w es) p id c t)
  events_none [] w t s q N = N
  events_none (e ∷ es) w t s q N =
      subst IsNone (sym (tally-append (opening_of o) p id c w.world (plain_accepted o w e) (plain_events o (happens_named o w e) es) t))
      (subst (λ (v : World). IsNone (tally_from (opening_of o) v (plain_events o (happens_named o w e) es) p id c
      (tally_from (opening_of o) w.world (plain_accepted o w e) p id c t)))
      (happens-plain o w e)
      (events_none es (happens_named o w e) (tally_from (opening_of o) w.world (plain_accepted o w e) p id c t)
      (happens_keeps o w e s) q
      (accepted_none w s (not_yet w s e (not_yet_all es (happens_named o w e) (happens_keeps o w e s) q)) e t N)))

  pub counts_none : (es : List NamedEvent) → has_started o (after_events o es) n ≡ false
      → (tally_from (opening_of o) (opening_world (opening_of o)) (plain_events o (opening_named o) es) p id c
      (record { number = 0; last = None })).number ≡ 0
  counts_none es q = (events_none es (opening_named o) (record { number = 0; last = None }) (sound_opens o) q
      (record { number = refl; last = λ t f. absurd (cc f) })).number

pub nothing_is_inherited : NothingIsInherited
nothing_is_inherited o es n q = record {
  names = λ c pair up i home. absurd (cc (
    All-contains (IsOwnedIn S) (w.world.node c).replica.table pair
        (s.apart.inside c up.started).table i,
    ap S home,
    q,
  ));
  grants = λ c g up i home. absurd (cc (
    All-contains (IsGrantIn S) (w.world.node c).locks g
        (s.apart.inside c up.started).grants i,
    ap S home,
    q,
  ));
  dead = λ p home. false_from_ne_true (r.dead p) (λ e. absurd (cc (s.recorded.dead p e, q)));
  notices = λ p home. s.recorded.notices p (ap S home ∙ q);
  owners = λ c x p e home. absurd (cc (get_in S x (view r c) p e (view_in S (left w.world) c r s.recorded), ap S home, q));
  untold = λ d. s.recorded.untold n d q;
  counts = λ id p c here. counts_none o n id p c here es q;
}
  where
    w : NamedWorld
    w = after_events o es

    s : Sound o w
    s = always o es

    S : Nodes
    S = has_started o w

    r : Registry
    r = registry_of (in_cluster (opening_of o)) w.world.history
