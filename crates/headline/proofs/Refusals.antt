-- Why an event is refused whose node isn't there, or whose process isn't such a one: what those refusals mean.
use Rattle.std.proofs.Common.{ℕ, Bool, true, false, ◌≡◌, ◌==◌, ◌≤◌, ◌<◌, Some, List, [], ◌∷◌, refl, sym, ap, ◌∙◌, subst, arith, inl, inr}
use Rattle.std.specs.Prelude.{◌&&◌, ◌||◌, not, nat_lt}
use Rattle.std.proofs.lemmas.Bool.{eqb-true, eq-eqb, and_from, ltb-false, ltb-true}
use Rattle.registry_model.specs.Process.{Text, Process}
use Rattle.protocol_model.specs.Watch.{is_dead, is_live, is_issued}
use Rattle.protocol_model.specs.Event.{Event, Refusal, NoSuchNode, NodeLeft, NotLive, NoSuchProcess, AlreadyExited, cause, first_cause}
use Rattle.protocol_model.specs.World.{Opening, in_world, World, WorldEvent, At, place, other, left, refusal, local_causes}
use Rattle.protocol_model.specs.Course.{Played, Seen, standing, seen}
use Rattle.protocol_model.specs.Refusals.{FindsItsNode, IsLockCall, IsLiveAt, IsIssuedBy, NeedsProcess, IsNowhere, IsLate, IsOfNobody, IsOfNone, IsExitOfDead}
use Rattle.moves.proofs.Indices.{neither, both, not_true, not_false}
use Rattle.headline.proofs.Causes.{is_kind, of_lock, second, cause_behind, cause_here, cause_past, cause_hits, above_zero, not_zero, local_world, Locking, locking, only_locks, only_exits, only_needs, unissued}
use Rattle.headline.proofs.Spawning.{serial_at}
use Rattle.headline.proofs.NextSerial.{last_at, Spawned}

-- o and ps: the opening and the events that made w
module _ (o : Opening) (ps : List Played) (w : World) (departed : (d : ℕ) → (standing o ps).registry.left d ≡ left w d)
    (S : Spawned o w ps) where
  -- what is seen of it
  abbrev pub now : Seen
  now = seen o w

  abbrev pub Found : WorldEvent → Type 0
  Found e = FindsItsNode o ps now e

  -- a node that the event names isn't of the world
  abbrev pub outside : WorldEvent → Bool
  outside e = not (in_world o (place e)) || not (in_world o (other e))

  -- an event that is refused for another reason finds its node
  pub found : (kind : Refusal → Bool) (e : WorldEvent) (q : Refusal) → kind NoSuchNode ≡ false → kind NodeLeft ≡ false
      → kind q ≡ true → refusal o w e ≡ Some q → Found e × (first_cause (local_causes w e) ≡ Some q)
  found kind e q n l k h =
      let x : (outside e ≡ false) × (first_cause (cause (left w (place e)) NodeLeft ∷ local_causes w e) ≡ Some q) =
      cause_behind kind (outside e) NoSuchNode (cause (left w (place e)) NodeLeft ∷ local_causes w e) q n k h in
      let y : (left w (place e) ≡ false) × (first_cause (local_causes w e) ≡ Some q) =
      cause_behind kind (left w (place e)) NodeLeft (local_causes w e) q l k x.1 in
      let z : (not (in_world o (place e)) ≡ false) × (not (in_world o (other e)) ≡ false) = neither _ _ x.0 in (
        record {
          running = (not_false (in_world o (place e)) z.0, departed (place e) ∙ y.0);
          named = not_false (in_world o (other e)) z.1;
        },
        y.1,
      )

  -- one that finds its node is refused by that node or its link
  in_the_world : (e : WorldEvent) → in_world o (place e) ≡ true → in_world o (other e) ≡ true → outside e ≡ false
  in_the_world e i j = ap (λ (b : Bool). not b || not (in_world o (other e))) i ∙ ap not j

  pub as_local : (e : WorldEvent) → Found e → refusal o w e ≡ first_cause (local_causes w e)
  as_local e F = cause_past (outside e) NoSuchNode (cause (left w (place e)) NodeLeft ∷ local_causes w e)
      (in_the_world e F.running.0 F.named)
      ∙ cause_past (left w (place e)) NodeLeft (local_causes w e) (sym (departed (place e)) ∙ F.running.1)

  -- who is live by the watch is so by what is seen
  pub live_seen : (a : ℕ) (p : Process) → is_live a (w.node a).watch p ≡ true → IsLiveAt now a p
  live_seen a p e = record {
    home = home;
    serial = above_zero p.serial own.1;
    alive = ap (λ (x : ℕ). is_dead (w.node x).watch p.serial) home
        ∙ not_true (is_dead (w.node a).watch p.serial) parts.1;
  }
    where
      parts : (((p.node == a) && not (p.serial == 0)) ≡ true) × (not (is_dead (w.node a).watch p.serial) ≡ true)
      parts = both _ _ e

      own : ((p.node == a) ≡ true) × (not (p.serial == 0) ≡ true)
      own = both _ _ parts.0

      home : p.node ≡ a
      home = eqb-true p.node a own.0

  pub seen_live : (a : ℕ) (p : Process) → IsLiveAt now a p → is_live a (w.node a).watch p ≡ true
  seen_live a p L = and_from _ _ (and_from _ _ (eq-eqb p.node a L.home) (not_zero p.serial L.serial))
      (ap not (ap (λ (x : ℕ). is_dead (w.node x).watch p.serial) (sym L.home) ∙ L.alive))

  not_seen : (a : ℕ) (p : Process) → (IsLiveAt now a p → ⊥) → is_live a (w.node a).watch p ≡ false
  not_seen a p n = go (is_live a (w.node a).watch p) refl
    where
      go : (b : Bool) → is_live a (w.node a).watch p ≡ b → b ≡ false
      go true e = absurd (n (live_seen a p e))
      go false e = refl

  -- and so is whose serial, or a greater one, was given
  issued_seen : (a : ℕ) (p : Process) → is_issued a (w.node a).watch p ≡ true → IsIssuedBy ps a p
  issued_seen a p e = elim (S.reached a) [
    | inl none ↦ absurd (omega (arith, none, least, serial))
    | inr was ↦ record {
      home = eqb-true p.node a own.0;
      serial = serial;
      last = last_at w a;
      beside = refl;
      spawned = was;
      least = least;
    }
  ]
    where
      parts : (((p.node == a) && not (p.serial == 0)) ≡ true) × (not (nat_lt (serial_at w a) p.serial) ≡ true)
      parts = both _ _ e

      own : ((p.node == a) ≡ true) × (not (p.serial == 0) ≡ true)
      own = both _ _ parts.0

      serial : 0 < p.serial
      serial = above_zero p.serial own.1

      least : p.serial ≤ serial_at w a
      least = ltb-false (serial_at w a) p.serial (not_true _ parts.1)

  pub seen_issued : (a : ℕ) (p : Process) → IsIssuedBy ps a p → is_issued a (w.node a).watch p ≡ true
  seen_issued a p I = and_from _ _ (and_from _ _ (eq-eqb p.node a I.home) (not_zero p.serial I.serial))
      (ap not (go (nat_lt (serial_at w a) p.serial) refl))
    where
      most : I.last.serial ≤ serial_at w a
      most = subst (λ (b : ℕ). I.last.serial ≤ serial_at w b) I.beside (S.given.below I.spawned.0 I.last I.spawned.1 I.spawned.2)

      go : (b : Bool) → nat_lt (serial_at w a) p.serial ≡ b → b ≡ false
      go true e = absurd (omega (arith, ltb-true (serial_at w a) p.serial e, most, I.least))
      go false e = refl

  not_issued : (a : ℕ) (p : Process) → (IsIssuedBy ps a p → ⊥) → is_issued a (w.node a).watch p ≡ false
  not_issued a p n = go (is_issued a (w.node a).watch p) refl
    where
      go : (b : Bool) → is_issued a (w.node a).watch p ≡ b → b ≡ false
      go true e = absurd (n (issued_seen a p e))
      go false e = refl

  -- a refusal as of a node that isn't of the world
  pub to_nowhere : (e : WorldEvent) → refusal o w e ≡ Some NoSuchNode → IsNowhere o ps now e
  to_nowhere e h = go (in_world o (place e)) refl (in_world o (other e)) refl
      (cause_here (is_kind 0) (outside e) NoSuchNode (cause (left w (place e)) NodeLeft ∷ local_causes w e) NoSuchNode
      (local_world w e).0 refl h).0
    where
      go : (b : Bool) → in_world o (place e) ≡ b → (c : Bool) → in_world o (other e) ≡ c → (not b || not c) ≡ true
          → IsNowhere o ps now e
      go false i c j x = inl i
      go true i false j x = inr j
      go true i true j x = cc

  pub from_nowhere : (e : WorldEvent) → IsNowhere o ps now e → refusal o w e ≡ Some NoSuchNode
  from_nowhere e h = cause_hits (outside e) NoSuchNode (cause (left w (place e)) NodeLeft ∷ local_causes w e) (elim h [
    | inl i ↦ ap (λ (b : Bool). not b || not (in_world o (other e))) i
    | inr j ↦ go (in_world o (place e)) j
  ])
    where
      go : (b : Bool) → in_world o (other e) ≡ false → (not b || not (in_world o (other e))) ≡ true
      go true j = ap not j
      go false j = refl

  -- as of one that has left
  pub to_late : (e : WorldEvent) → refusal o w e ≡ Some NodeLeft → IsLate o ps now e
  to_late e h =
      let x : (outside e ≡ false)
      × (first_cause (cause (left w (place e)) NodeLeft ∷ local_causes w e) ≡ Some NodeLeft) =
      cause_behind (is_kind 1) (outside e) NoSuchNode (cause (left w (place e)) NodeLeft ∷ local_causes w e) NodeLeft refl refl h
      in
      let z : (not (in_world o (place e)) ≡ false) × (not (in_world o (other e)) ≡ false) = neither _ _ x.0 in
      record {
        inside = not_false (in_world o (place e)) z.0;
        named = not_false (in_world o (other e)) z.1;
        gone = departed (place e)
            ∙ (cause_here (is_kind 1) (left w (place e)) NodeLeft (local_causes w e) NodeLeft (local_world w e).1 refl x.1).0;
      }

  pub from_late : (e : WorldEvent) → IsLate o ps now e → refusal o w e ≡ Some NodeLeft
  from_late e L = cause_past (outside e) NoSuchNode (cause (left w (place e)) NodeLeft ∷ local_causes w e)
      (in_the_world e L.inside L.named)
      ∙ cause_hits (left w (place e)) NodeLeft (local_causes w e) (sym (departed (place e)) ∙ L.gone)

  -- of a lock call: as one of nobody
  pub to_nobody : (e : WorldEvent) (p : Process) → refusal o w e ≡ Some (NotLive p) → IsOfNobody o ps now e p
  to_nobody e p h = record {
    found = F.0;
    node = a;
    resource = x.2;
    call = subst (λ (q : Process). IsLockCall a q x.2 e) same x.3;
    nobody = λ live. cc (
      seen_live a p live,
      subst (λ (q : Process). is_live a (w.node a).watch q ≡ false) same dead,
    );
  }
    where
      F : Found e × (first_cause (local_causes w e) ≡ Some (NotLive p))
      F = found of_lock e (NotLive p) refl refl refl h

      x : (a : ℕ) × (q : Process) × (r : Text) × IsLockCall a q r e
      x = only_locks w e (NotLive p) refl F.1

      a : ℕ
      a = x.0

      L : Locking w a x.1 x.2 e
      L = locking w a x.1 x.2 e x.3

      first : (not (is_live a (w.node a).watch x.1) ≡ true) × (NotLive x.1 ≡ NotLive p)
      first = cause_here (is_kind 2) (not (is_live a (w.node a).watch x.1)) (NotLive x.1)
          (second w a x.1 x.2 L.more) (NotLive p) L.no_dead refl
          (ap first_cause (sym L.causes) ∙ F.1)

      dead : is_live a (w.node a).watch x.1 ≡ false
      dead = not_true _ first.0

      same : x.1 ≡ p
      same = cc first.1

  pub from_nobody : (e : WorldEvent) (p : Process) → IsOfNobody o ps now e p → refusal o w e ≡ Some (NotLive p)
  from_nobody e p N =
      let L : Locking w N.node p N.resource e = locking w N.node p N.resource e N.call in
      as_local e N.found ∙ ap first_cause L.causes
      ∙ cause_hits (not (is_live N.node (w.node N.node).watch p)) (NotLive p) (second w N.node p N.resource L.more)
      (ap not (not_seen N.node p N.nobody))

  -- of an exit, or a look at notices: as of a process that isn't
  pub to_none : (e : WorldEvent) → refusal o w e ≡ Some NoSuchProcess → IsOfNone o ps now e
  to_none e h =
      record { found = F.0; node = x.0; process = x.1; needs = x.2; none = λ I. cc (seen_issued x.0 x.1 I, x.3) }
    where
      F : Found e × (first_cause (local_causes w e) ≡ Some NoSuchProcess)
      F = found (is_kind 6) e NoSuchProcess refl refl refl h

      x : (a : ℕ) × (p : Process) × NeedsProcess a p e × (is_issued a (w.node a).watch p ≡ false)
      x = only_needs w e F.1

  pub from_none : (e : WorldEvent) → IsOfNone o ps now e → refusal o w e ≡ Some NoSuchProcess
  from_none e N =
      as_local e N.found ∙ unissued w N.node N.process e N.needs (not_issued N.node N.process N.none)

  -- of an exit: as one of a dead process
  pub to_dead : (e : WorldEvent) → refusal o w e ≡ Some AlreadyExited → IsExitOfDead o ps now e
  to_dead e h = record {
    found = F.0;
    node = x.0;
    process = x.1;
    exit = x.2;
    issued = I;
    dead = ap (λ (a : ℕ). is_dead (w.node a).watch x.1.serial) I.home
        ∙ (cause_here (is_kind 7) (is_dead (w.node x.0).watch x.1.serial) AlreadyExited [] AlreadyExited refl refl B.1).0;
  }
    where
      F : Found e × (first_cause (local_causes w e) ≡ Some AlreadyExited)
      F = found (is_kind 7) e AlreadyExited refl refl refl h

      x : (a : ℕ) × (p : Process) × (e ≡ At a (Event.Exiting p))
      x = only_exits w e F.1

      B : (not (is_issued x.0 (w.node x.0).watch x.1) ≡ false)
          × (first_cause (cause (is_dead (w.node x.0).watch x.1.serial) AlreadyExited ∷ []) ≡ Some AlreadyExited)
      B = cause_behind (is_kind 7) (not (is_issued x.0 (w.node x.0).watch x.1)) NoSuchProcess
          (cause (is_dead (w.node x.0).watch x.1.serial) AlreadyExited ∷ []) AlreadyExited refl refl
          (ap (λ (e : WorldEvent). first_cause (local_causes w e)) (sym x.2) ∙ F.1)

      I : IsIssuedBy ps x.0 x.1
      I = issued_seen x.0 x.1 (not_false (is_issued x.0 (w.node x.0).watch x.1) B.0)

  pub from_dead : (e : WorldEvent) → IsExitOfDead o ps now e → refusal o w e ≡ Some AlreadyExited
  from_dead e D = as_local e D.found ∙ ap (λ (e : WorldEvent). first_cause (local_causes w e)) D.exit
      ∙ cause_past (not (is_issued D.node (w.node D.node).watch D.process)) NoSuchProcess
      (cause (is_dead (w.node D.node).watch D.process.serial) AlreadyExited ∷ [])
      (ap not (seen_issued D.node D.process D.issued))
      ∙ cause_hits (is_dead (w.node D.node).watch D.process.serial) AlreadyExited []
      (ap (λ (a : ℕ). is_dead (w.node a).watch D.process.serial) (sym home) ∙ D.dead)
    where
      home : D.process.node ≡ D.node
      home = let I : IsIssuedBy ps D.node D.process = D.issued in I.home
