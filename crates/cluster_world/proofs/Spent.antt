-- What the numbers of a process become event by event, while a `del_lock` of it waits: its last try, whose call was answered
-- before, wins nothing more.
use Rattle.std.proofs.Common.{ℕ, Bool, true, false, ◌==◌, ◌≡◌, ◌≤◌, ◌-◌, Option, Some, None, List, [], ◌∷◌, refl, sym, ap, subst, ◌∙◌}
use Rattle.std.specs.Prelude.{◌&&◌, ◌||◌, not, is_none, if◌then◌else◌}
use Rattle.std.specs.List.{list_all}
use Rattle.std.proofs.lemmas.Bool.{and_parts}
use Rattle.registry_model.specs.Process.{Process}
use Rattle.protocol_model.specs.Letter.{Id, Global}
use Rattle.protocol_model.specs.Watch.{is_dead}
use Rattle.protocol_model.specs.Node.{LockCall, Target}
use Rattle.protocol_model.specs.Event.{Call, Event, is_waiting_call}
use Rattle.protocol_model.specs.ClientLocks.{Try, Tally, try_of, tried_again, waits_for_retry, last_try, is_won, gives, is_no_more, tally_after, tally_from}
use Rattle.protocol_model.specs.World.{Opening, World, WorldEvent, At, Deliver, in_world, left, refusal, happens, accepted, answers, run}
use Rattle.getting_through.proofs.Orders.{ordered_keeps}
use Rattle.getting_through.proofs.Answering.{any_true}
use Rattle.getting_through.proofs.Clients.{Numbers, call_at}
use Rattle.getting_through.proofs.RoundNumbers
use Rattle.getting_through.proofs.RoundNumbers.{round_count_after}
use Rattle.getting_through.proofs.Tallies.{accepted_tried}
use Rattle.getting_through.proofs.TriedEvents.{Tried}
use Rattle.getting_through.proofs.Tries.{Fits, lost_without}
use Rattle.getting_through.proofs.Walking.{event_keeps}
use Rattle.getting_through.proofs.Together.{All}
use Rattle.cluster_world.specs.Playing.{accepts_all}
use Rattle.getting_through.specs.NodeNames.{NamedOpening, opening_of as all_creations}
use Rattle.getting_through.specs.NamedWorld.{NamedWorld, NamedEvent, plain_events, named_refusal, happens_named}
use Rattle.cluster_world.proofs.OneEvent.{IsOne, one_more}
use Rattle.cluster_world.proofs.Winning.{is_plain, is_waited, is_named_waited, one_waited, waited_plain, waited_gives, grounds, Behind, happened, gone_before, counted_so, last_so, IsNow, now_up}

-- an event that begins no try leaves the last one its number
plain_last : (w : World) (e : WorldEvent) (p : Process) (t : Option Try) (s : Try) → is_plain e ≡ true
    → last_try w e p t ≡ Some s → (u : Try) × ((t ≡ Some u) × (u.number ≡ s.number))
plain_last w (Deliver f b) p t s h is = (s, (is, refl))
plain_last w (At a Event.Retry) p t s h is = go ((a == p.node) && waits_for_retry w p) t is
  where
    go : (b : Bool) (u : Option Try) → (if b then tried_again (w.node a).replica.members u else u) ≡ Some s
        → (v : Try) × ((u ≡ Some v) × (v.number ≡ s.number))
    go true None k = cc
    go true (Some u) k =
        let same : try_of (w.node a).replica.members u.number u.id u.target ≡ s = cc k in
        (u, (refl, ap (λ (y : Try). y.number) same))
    go false u k = (s, (k, refl))
plain_last w (At a (Event.Calling (Call.DelLock q r z target))) p t s h is = (s, (is, refl))
plain_last w (At a (Event.Calling Call.Spawn)) p t s h is = cc
plain_last w (At a (Event.Calling (Call.LookUp look))) p t s h is = cc
plain_last w (At a (Event.Calling (Call.OnName call))) p t s h is = cc
plain_last w (At a (Event.Calling (Call.SetLock q r z target retries))) p t s h is = cc
plain_last w (At a (Event.Calling (Call.JoinBy m))) p t s h is = cc
plain_last w (At a (Event.Exiting q)) p t s h is = cc
plain_last w (At a Event.Leave) p t s h is = cc

-- for who has no call, it leaves it as it is
idle_last : (w : World) (e : WorldEvent) (p : Process) (t : Option Try) → is_plain e ≡ true → call_at w p ≡ None
    → last_try w e p t ≡ t
idle_last w (Deliver f b) p t h none = refl
idle_last w (At a Event.Retry) p t h none =
    ap (λ (k : Option LockCall). if (a == p.node) && (elim k [ None ↦ false | Some c ↦ is_waiting_call c.phase ])
    then tried_again (w.node a).replica.members t else t) none ∙ go (a == p.node)
  where
    go : (b : Bool) → (if b && false then tried_again (w.node a).replica.members t else t) ≡ t
    go true = refl
    go false = refl
idle_last w (At a (Event.Calling (Call.DelLock q r z target))) p t h none = refl
idle_last w (At a (Event.Calling Call.Spawn)) p t h none = refl
idle_last w (At a (Event.Calling (Call.LookUp look))) p t h none = refl
idle_last w (At a (Event.Calling (Call.OnName call))) p t h none = refl
idle_last w (At a (Event.Calling (Call.SetLock q r z target retries))) p t h none = cc
idle_last w (At a (Event.Calling (Call.JoinBy m))) p t h none = refl
idle_last w (At a (Event.Exiting q)) p t h none = refl
idle_last w (At a Event.Leave) p t h none = refl

pub none_by : {A : Type 0} (r : Option A) → is_none r ≡ true → r ≡ None
none_by None h = refl
none_by (Some x) h = cc

module _ (o : Opening) where
  module _ (p : Process) where
    -- the registrar of p's node, which never has a lock call
    abbrev clerk : Process
    clerk = record { node = p.node; serial = 0 }

    -- a try of the registrar's under this number
    abbrev shown : ℕ → Try
    shown m = record { number = m; id = Global 0; target = Target.All; asks = λ _. true }

    -- that fits it: no open call of p's node has the number, and none will
    abbrev pub Silent : World → ℕ → Type 0
    Silent w m = Fits w clerk (Some (shown m))

    no_call : (w : World) (num : Numbers) → Behind o w num → left w p.node ≡ false → call_at w clerk ≡ None
    no_call w num S up = S.clients.callers clerk
        (go (in_world o p.node) (not (left w p.node)) (not (is_dead (w.node p.node).watch 0))) up
      where
        go : (a b d : Bool) → (a && (b && (false && d))) ≡ false
        go true true d = refl
        go true false d = refl
        go false b d = refl

    silent_step : (w : World) (num : Numbers) → Behind o w num → (e : WorldEvent) → refusal o w e ≡ None
        → is_plain e ≡ true → left w p.node ≡ false → (m : ℕ) → Silent w m
        → (any_true p.node m (answers o w e) ≡ false) × Silent (happens o w e) m
    silent_step w num S e free plain up m fit = (
      ap (is_won clerk (Global 0) 0 (answers o w e)) (sym same) ∙ T.won (Global 0) 0
          ∙ ap (RoundNumbers.is_won_by_round (Global 0) 0 (answers o w e)) none,
      subst (λ (v : World). Fits v clerk (Some (shown m))) (sym (happened o w e free))
          (subst (λ (t : Option Try). Fits (accepted o w e) clerk t) same T.fits),
    )
      where
        none : call_at w clerk ≡ None
        none = no_call w num S up

        same : last_try w e clerk (Some (shown m)) ≡ Some (shown m)
        same = idle_last w e clerk (Some (shown m)) plain none

        T : Tried o (ordered_keeps o) w num S.ordered S.replying S.numbered clerk (Some (shown m)) fit e
            (answers o w e) (accepted o w e)
        T = accepted_tried o (All o) (grounds o) w e num S clerk (Some (shown m)) fit free

    -- the try has a number under which nothing comes any more
    abbrev pub Spent : World → Option Try → Type 0
    Spent w t = (s : Try) → t ≡ Some s → is_no_more w p ≡ false → Silent w s.number

    runs : (w : World) → is_no_more w p ≡ false → left w p.node ≡ false
    runs w h = go (left w p.node) (is_dead (w.node p.node).watch p.serial) h
      where
        go : (b d : Bool) → (b || d) ≡ false → b ≡ false
        go false d e = refl
        go true d e = cc

    -- a deletion, and what it waits for, wins nothing by it
    pub spent_step : (w : World) (num : Numbers) → Behind o w num → (e : WorldEvent) (i : Id) (c : ℕ) (j : Tally)
        (n : ℕ) (given : Bool) → refusal o w e ≡ None → is_plain e ≡ true → Spent w j.last
        → (is_no_more w p ≡ false → j.number ≡ n) → gives w e p i c ≡ given
        → IsNow o p i c (happens o w e) (tally_after o w e p i c j) (if given then n - 1 else n)
        × Spent (happens o w e) (tally_after o w e p i c j).last
    spent_step w num S e i c j n given free plain spent same goes = (
      counted_so o p i c w e j n false given free (λ up. (
        same (gone_before o w num S e free p up),
        lost_without p i c (answers o w e) (last_try w e p j.last) (λ s is. (on s is up).0),
      )) goes,
      λ s is up. (on s (sym (last_so o p i c w e j free) ∙ is) up).1,
    )
      where
        on : (s : Try) → last_try w e p j.last ≡ Some s → is_no_more (happens o w e) p ≡ false
            → (any_true p.node s.number (answers o w e) ≡ false) × Silent (happens o w e) s.number
        on s is up =
            let was : (u : Try) × ((j.last ≡ Some u) × (u.number ≡ s.number)) = plain_last w e p j.last s plain is in
            let alive : is_no_more w p ≡ false = gone_before o w num S e free p up in
            subst (λ (m : ℕ). (any_true p.node m (answers o w e) ≡ false) × Silent (happens o w e) m) was.1.1
            (silent_step w num S e free plain (runs w alive) was.0.number (spent was.0 was.1.0 alive))

    -- a try whose process has no open call is spent
    pub spent_first : (w : World) (num : Numbers) → Behind o w num → (t : Option Try) → Fits w p t
        → call_at w p ≡ None → Spent w t
    spent_first w num S t F none s is alive = record {
      own = λ d e x. absurd (cc (no_call w num S (runs w alive), e));
      alone = λ s2 is2 q d home has number. absurd (other s2 is2 q d home has number);
      below = λ s2 is2. let same : shown s.number ≡ s2 = cc is2 in
          subst (λ (y : Try). y.number ≤ (w.node p.node).last_call) same (F.below s is);
    }
      where
        other : (s2 : Try) → Some (shown s.number) ≡ Some s2 → (q : Process) (d : LockCall) → q.node ≡ p.node
            → call_at w q ≡ Some d → d.number ≡ s2.number → ⊥
        other s2 is2 q d home has number =
            let same : shown s.number ≡ s2 = cc is2 in
            let one : q ≡ p = (F.alone s is q d home has (number ∙ ap (λ (y : Try). y.number) (sym same))).0 in
            let there : call_at w p ≡ Some d = subst (λ (k : Process). call_at w k ≡ Some d) one has in
            cc (there, none)

module _ (n : NamedOpening) (p : Process) where
  abbrev O : Opening
  O = all_creations n

  -- so its number stays while the call waits
  pub spent_stays : (es : List NamedEvent) (w : NamedWorld) (num : Numbers) → Behind O w.world num → (i : Id) (c : ℕ)
      (j : Tally) (m : ℕ) → accepts_all n w es ≡ true → list_all is_named_waited es ≡ true → Spent O p w.world j.last
      → IsNow O p i c w.world j m
      → IsNow O p i c (run O w.world (plain_events n w es)) (tally_from O w.world (plain_events n w es) p i c j) m
  spent_stays [] w num S i c j m free waited spent now = now
  spent_stays (e ∷ es) w num S i c j m free waited spent now =
      subst (λ (xs : List WorldEvent). IsNow O p i c (run O w.world xs) (tally_from O w.world xs p i c j) m)
      (sym (one_more n w e x es I))
      (subst (λ (u : World). IsNow O p i c (run O u later) (tally_from O u later p i c after) m) I.world
      (spent_stays es v counted
      (subst (λ (u : World). Behind O u counted) (sym I.world) (event_keeps O (All O) (grounds O) w.world x num S))
      i c after m fine.1 plain.1
      (subst (λ (u : World). Spent O p u after.last) (sym I.world) one.1)
      (subst (λ (u : World). IsNow O p i c u after m) (sym I.world) one.0)))
    where
      fine : (is_none (named_refusal n w e) ≡ true) × (accepts_all n (happens_named n w e) es ≡ true)
      fine = and_parts (is_none (named_refusal n w e)) (accepts_all n (happens_named n w e) es) free

      plain : (is_named_waited e ≡ true) × (list_all is_named_waited es ≡ true)
      plain = and_parts (is_named_waited e) (list_all is_named_waited es) waited

      found : (x : WorldEvent) × (IsOne n w e x × (is_waited x ≡ true))
      found = one_waited n w e plain.0 (none_by (named_refusal n w e) fine.0)

      x : WorldEvent
      x = found.0

      I : IsOne n w e x
      I = found.1.0

      v : NamedWorld
      v = happens_named n w e

      later : List WorldEvent
      later = plain_events n v es

      after : Tally
      after = tally_after O w.world x p i c j

      counted : Numbers
      counted = λ q y z. round_count_after O w.world x q y z (num q y z)

      one : IsNow O p i c (happens O w.world x) after m × Spent O p (happens O w.world x) after.last
      one = spent_step O p w.world num S x i c j m false I.free (waited_plain x found.1.1) spent
          (λ alive. now_up O p i c w.world j m now alive) (waited_gives w.world x p i c found.1.1)
