-- Each event leaves its node at rest.
use mathlib.Core.Logic.{◌⊎◌}
use Rattle.std.proofs.Common.{ℕ, Bool, true, false, ◌==◌, ◌≡◌, ◌+◌, None, List, [], ◌∷◌, refl, sym, ap, ◌∙◌, subst, inl, inr}
use Rattle.std.specs.Prelude.{not, ◌&&◌, ◌||◌, if◌then◌else◌}
use Rattle.std.proofs.lemmas.Bool.{eq-eqb, eqb-true}
use Rattle.registry_model.specs.Process.{Process, is_process, Nodes, with_node}
use Rattle.registry_model.specs.Table.{Table}
use Rattle.registry_model.specs.Registry.{Replica}
use Rattle.registry_model.specs.Call.{NotMember, Joined}
use Rattle.registry_model.specs.History.{Entry}
use Rattle.registry_model.specs.Settlement.{Fate, Settled}
use Rattle.protocol_model.specs.Round.{Round, asked, is_out, Mark, Out}
use Rattle.protocol_model.specs.Letter.{Letter, is_down}
use Rattle.protocol_model.specs.LockTable.{is_free_for}
use Rattle.protocol_model.specs.Node.{Node, Op, Current, LockPhase, LockCall, Times, call_of}
use Rattle.protocol_model.specs.Event.{Call, Event, Refusal, cause, first_cause, names_members, calls_spent}
use Rattle.protocol_model.specs.Turn.{Turn, begun, count_call, enter, send, at_work, with_replica, reply_with}
use Rattle.protocol_model.specs.Registrar.{registrar, start, retry_global, await_less, lose_contact}
use Rattle.protocol_model.specs.Deciding.{hear_answer, lose}
use Rattle.protocol_model.specs.Client.{new_call, hear_lock}
use Rattle.protocol_model.specs.Calling.{die, kill, call, event, queued}
use Rattle.protocol_model.specs.Reading.{admitted, welcomed, bereft, judge, take_back, refused_join, welcome, told_of, bereave, read, receive}
use Rattle.protocol_model.specs.World.{Opening, in_world, World, left, WorldEvent, At, Deliver, place, refusal, join_number, heard, turn_of, accepted, opening_world, in_cluster, local_causes}
use Rattle.protocol_model.proofs.Waiting.{accepted-node}
use Rattle.registry_model.proofs.Updates.{by_test, at_other}
use Rattle.headline.proofs.Indices.{both, not_true}
use Rattle.headline.proofs.Invariants
use Rattle.headline.proofs.Invariants.{Each}
use Rattle.walk.proofs.Joins.{joining_lone}
use Rattle.walk.proofs.Welcomes.{lone_alone}
use Rattle.walk.proofs.Events.{Accepted, accepted_of, lock_tested, live_own}
use Rattle.leftovers.proofs.Grounds.{Base, replicas}
use Rattle.leftovers.proofs.Departures.{admitted-told, admitted-group}
use Rattle.leftovers.proofs.Near.{NearIn, NearAt, is_near, Near}
use Rattle.leftovers.proofs.RoundFacts.{is_to_come}
use Rattle.leftovers.proofs.Rest.{RoundRests, WorkRests, PhaseRests, Grouped, CallsRest, Sides, Stands, Rests, ToldMore}
use Rattle.leftovers.proofs.RestWork.{Same, lose-same, WorkInside, start-rests, hear_answer-rests, await_less-rests, lose-rests, retry-rests}
use Rattle.leftovers.proofs.RestCalls.{RestAll, hear_lock-rests, owe-rests, try_lock-rests, delete_lock-rests, retry_all-rests, lose_all-rests, all_rest, among_found, die-calls, kill_by}

-- all nodes of the world are at rest
abbrev pub AllRest : Opening → World → Type 0
AllRest o w = (a : ℕ) → in_world o a ≡ true → Rests o a (w.node a)

work_inside : (o : Opening) (w : World) (c : Current) → Invariants.IsProperCurrent o w c → WorkInside o c
work_inside o w (Current.Asking (Op.Admission j pairs) r) h = h
work_inside o w (Current.Asking (Op.Name k c) r) h = tt
work_inside o w (Current.Asking (Op.Strike p) r) h = tt
work_inside o w (Current.Asking (Op.Join k m) r) h = tt
work_inside o w _ h = tt

module _ (o : Opening) (w : World) (B : Base o w) (a : ℕ) (here : in_world o a ≡ true) (running : left w a ≡ false)
    (R : Rests o a (w.node a)) where
  abbrev v : Node
  v = w.node a

  abbrev V : Turn → Type 0
  V u = Rests o a u.node

  inside_now : WorkInside o v.current
  inside_now = work_inside o w v.current (B.all.proper.currents a)

  started : (u : Turn) → V u → V (start o.bound a u)
  started u h = start-rests o a here [] u h

  -- a process dies
  died : (p : Process) (u : Turn) → V u → V (die o.bound a p u)
  died p u h = record {
    sides = record { group = h.sides.group; calls = die-calls o a p u u.node.replica.told h.sides.calls };
    work = h.work;
  }

  -- who is told has left, so it isn't this node
  untold_self : v.replica.told a ≡ false
  untold_self = R.sides.group.apart a R.sides.group.itself

  -- another node is let in
  admitted-rests : (j : ℕ) (settled : Settled) → in_world o j ≡ true
      → V (with_replica (admitted a j settled) (begun v))
  admitted-rests j settled inside = record {
    sides = record {
      group = record {
        apart = λ x h. ap (λ (s : Nodes). s x) (admitted-told a j settled v.replica)
            ∙ apart (v.replica.told j) refl x (sym (ap (λ (s : Nodes). s x) (admitted-group a j settled v.replica)) ∙ h);
        itself = ap (λ (s : Nodes). s a) (admitted-group a j settled v.replica) ∙ itself (v.replica.told j);
        inside = λ x h. within (v.replica.told j) x
            (sym (ap (λ (s : Nodes). s x) (admitted-group a j settled v.replica)) ∙ h);
      };
      calls = subst (λ (s : Nodes). CallsRest o a s v.calls []) (sym (admitted-told a j settled v.replica)) R.sides.calls;
    };
    work = subst (λ (s : Nodes). WorkRests o s v.current) (sym (admitted-told a j settled v.replica)) R.work;
  }
    where
      G : Grouped o a v.replica
      G = R.sides.group

      apart : (t : Bool) → v.replica.told j ≡ t → (x : ℕ)
          → (if t then v.replica else record v.replica { members = with_node j v.replica.members }).members x ≡ true
          → v.replica.told x ≡ false
      apart true e x h = G.apart x h
      apart false e x h = by_test j (λ y t. (if t then true else v.replica.members y) ≡ true → v.replica.told y ≡ false)
          (λ k. e) (λ y ne k. G.apart y k) x h

      itself : (t : Bool)
          → (if t then v.replica else record v.replica { members = with_node j v.replica.members }).members a ≡ true
      itself true = G.itself
      itself false = by_test j (λ y t. v.replica.members y ≡ true → (if t then true else v.replica.members y) ≡ true)
          (λ k. refl) (λ y ne k. k) a G.itself

      within : (t : Bool) (x : ℕ)
          → (if t then v.replica else record v.replica { members = with_node j v.replica.members }).members x ≡ true
          → in_world o x ≡ true
      within true x h = G.inside x h
      within false x h = by_test j (λ y t. (if t then true else v.replica.members y) ≡ true → in_world o y ≡ true)
          (λ k. inside) (λ y ne k. G.inside y k) x h

  -- this node is welcomed
  welcomed-sides : NearAt v → (f k : ℕ) (members : Nodes) (pairs : Table) (told : Nodes) (fate : Fate)
      → v.current ≡ Current.Joining k f → members a ≡ true → ((c : ℕ) → members c ≡ true → in_world o c ≡ true)
      → ((d : ℕ) → told d ≡ true → left w d ≡ true) → Sides o a (welcomed a members pairs told fate v.replica) v.calls []
  welcomed-sides N f k members pairs told fate waits own inside gone = record {
    group = record {
      apart = λ x h. not_true (v.replica.told x || told x) (both (members x) (not (v.replica.told x || told x)) h).1;
      itself = all (members a) (v.replica.told a) (told a) own untold_self (stays (told a) (gone a));
      inside = λ x h. inside x (both (members x) (not (v.replica.told x || told x)) h).0;
    };
    calls = record {
      sorted = R.sides.calls.sorted;
      calls = λ p c e. elim (R.sides.calls.calls p c e) [
        | inl h ↦ inl (phase c.phase (N p c e) h)
        | inr i ↦ absurd i
      ];
    };
  }
    where
      stays : (t : Bool) → (t ≡ true → left w a ≡ true) → t ≡ false
      stays true h = cc (h refl, running)
      stays false h = refl

      all : (m s t : Bool) → m ≡ true → s ≡ false → t ≡ false → (m && not (s || t)) ≡ true
      all m s t p q r = rw (p, q, r) refl

      -- who is near and is told now was told before
      before : (x : ℕ) → is_near v.replica x ≡ true → (v.replica.told x || told x) ≡ true → v.replica.told x ≡ true
      before x near h = go (v.replica.told x) (v.replica.members x) (told x) refl refl refl near h
        where
          go : (b m t : Bool) → v.replica.told x ≡ b → v.replica.members x ≡ m → told x ≡ t → (m || b) ≡ true
              → (b || t) ≡ true → b ≡ true
          go true m t i j l n q = refl
          go false true true i j l n q =
              let same : x ≡ a = lone_alone o w (replicas o w B) a x (here, running)
              (joining_lone w B.once a k f waits) j in
              cc (ap (left w) same, gone x l, running)
          go false true false i j l n q = q
          go false false t i j l n q = n

      untold_round : (r : Round) → ((x : ℕ) → asked r x ≡ true → is_near v.replica x ≡ true) → RoundRests o v.replica.told r
          → RoundRests o (λ d. v.replica.told d || told d) r
      untold_round r near h = record {
        on = record {
          untold = λ x q. go x q (is_to_come (r.mark x)) refl;
          inside = h.on.inside;
          boss = h.on.boss;
        };
        going = h.going;
      }
        where
          asked_come : (m : Mark) → is_to_come m ≡ true → not (is_out m) ≡ true
          asked_come Out i = cc
          asked_come _ i = refl

          go : (x : ℕ) → (v.replica.told x || told x) ≡ true → (b : Bool) → is_to_come (r.mark x) ≡ b → b ≡ false
          go x q true i = cc (h.on.untold x (before x (near x (asked_come (r.mark x) i)) q), i)
          go x q false i = refl

      phase : (ph : LockPhase) → NearIn v.replica ph → PhaseRests o v.replica.told ph
          → PhaseRests o (λ d. v.replica.told d || told d) ph
      phase (LockPhase.Asking r) near h = untold_round r near h
      phase LockPhase.Waiting near h = tt
      phase (LockPhase.Deleting owing) near h = record {
        untold = λ x q. go x q (owing x) refl;
        inside = h.inside;
        some = h.some;
      }
        where
          go : (x : ℕ) → (v.replica.told x || told x) ≡ true → (b : Bool) → owing x ≡ b → b ≡ false
          go x q true i = cc (h.untold x (before x (near x i) q), i)
          go x q false i = refl

  module _ (f : ℕ) (known : in_world o f ≡ true) (N : NearAt v) where
    -- a node is told that f left
    bereaved : left w f ≡ true → V (bereave o.bound a (join_number w) f (begun v))
    bereaved gone = lose_all-rests o a v.replica.told f lost.node.calls lost all_calls more_lost waiting
      where
        told : Turn
        told = told_of o.bound a (join_number w) f (begun v)

        lost : Turn
        lost = lose o.bound a (join_number w) f (lose_contact o.bound a f told.node.current told).node.current
            (lose_contact o.bound a f told.node.current told)

        other : (a ≡ f → ⊥)
        other e = cc (ap (left w) e, gone, running)

        more : ToldMore f v.replica.told (with_node f v.replica.told)
        more x h = by_test f (λ y t. (if t then true else v.replica.told y) ≡ true → (y ≡ f) ⊎ (v.replica.told y ≡ true))
            (λ k. inl refl) (λ y ne k. inr k) x h

        G : Grouped o a v.replica
        G = R.sides.group

        group : Grouped o a (bereft f v.replica)
        group = record {
          apart = λ x h. by_test f (λ y t. (if t then false else v.replica.members y) ≡ true
              → (if t then true else v.replica.told y) ≡ false) (λ k. cc k) (λ y ne k. G.apart y k) x h;
          itself = at_other v.replica.members f false a other ∙ G.itself;
          inside = λ x h. G.inside x (by_test f (λ y t. (if t then false else v.replica.members y) ≡ true
              → v.replica.members y ≡ true) (λ k. cc k) (λ y ne k. k) x h);
        }

        same : Same told lost
        same = lose-same o a (join_number w) f v.current told refl

        more_lost : ToldMore f v.replica.told lost.node.replica.told
        more_lost = subst (λ (x : Replica). ToldMore f v.replica.told x.told) (sym same.replica) more

        all_calls : RestAll o a v.replica.told lost.node.calls
        all_calls = subst (RestAll o a v.replica.told) (sym same.calls)
            (all_rest o a v.replica.told v.calls R.sides.calls)

        waiting : Stands o a lost.node.calls lost.node
        waiting = subst (λ (ks : List LockCall). Stands o a ks lost.node) (sym same.calls)
            (lose-rests o a here v.calls (join_number w) v.replica.told f v.current told refl inside_now R.work more
            (record {
              group = group;
              calls = record {
                sorted = R.sides.calls.sorted;
                calls = λ p c e. inr (among_found o a p v.calls c e);
              };
            }))

    -- the same replica, calls and work
    as_is : (u : Turn) → u.node.replica ≡ v.replica → u.node.calls ≡ v.calls → u.node.current ≡ v.current → V u
    as_is u er ek ec = record {
      sides = subst (λ (x : Replica). Sides o a x u.node.calls []) (sym er)
          (subst (λ (ks : List LockCall). Sides o a v.replica ks []) (sym ek) R.sides);
      work = subst (λ (x : Replica). WorkRests o x.told u.node.current) (sym er)
          (subst (WorkRests o v.replica.told) (sym ec) R.work);
    }

    read-rests : (l : Letter) (ls : List Letter) → w.links.queue f a ≡ l ∷ ls → Invariants.IsProper o w f a l
        → V (read o.bound a (join_number w) f l (begun v))
    read-rests (Letter.SetLock id p) ls front known_letter = go (is_free_for id p v.locks)
      where
        go : (b : Bool) → V (judge o.bound a (join_number w) f id p b (begun v))
        go true = as_is (judge o.bound a (join_number w) f id p true (begun v)) refl refl refl
        go false = as_is (judge o.bound a (join_number w) f id p false (begun v)) refl refl refl
    read-rests (Letter.LockAnswer id p g) ls front known_letter = go (is_process p (registrar a))
      where
        go : (b : Bool) → V (if b then hear_answer o.bound a (join_number w) f g v.current (begun v)
            else hear_lock o.bound a f g (call_of p v.calls) (begun v))
        go true = hear_answer-rests o a here [] (join_number w) f g v.current (begun v) inside_now R.work R
        go false = hear_lock-rests o a f g p (begun v) R
    read-rests (Letter.GiveBack id p true) ls front known_letter =
        as_is (take_back o.bound a (join_number w) f id p true (begun v)) refl refl refl
    read-rests (Letter.GiveBack id p false) ls front known_letter =
        as_is (take_back o.bound a (join_number w) f id p false (begun v)) refl refl refl
    read-rests (Letter.GivenBack p) ls front known_letter = owe-rests o a f p (begun v) R
    read-rests (Letter.ReleaseOf p) ls front known_letter = record { sides = R.sides; work = R.work }
    read-rests (Letter.Apply change) ls front known_letter = record {
      sides = record {
        group = record { apart = R.sides.group.apart; itself = R.sides.group.itself; inside = R.sides.group.inside };
        calls = R.sides.calls;
      };
      work = R.work;
    }
    read-rests Letter.Applied ls front known_letter = go v.current refl
      where
        go : (c : Current) → v.current ≡ c → V (await_less o.bound a f c (begun v))
        go (Current.Writing op s awaited reply) e = await_less-rests o a here [] v.replica.told f op s awaited reply
            (begun v) e (subst (WorkRests o v.replica.told) e R.work) (λ x h. inr h) R.sides
        go _ e = R
    read-rests (Letter.JoinAsk pairs) ls front known_letter = go v.replica.joined
      where
        go : (b : Bool) → V (if b then queued o.bound a (Op.Admission f pairs) (begun v)
            else send f Letter.JoinRefused (enter (Entry.Join f (join_number w f) a NotMember) (begun v)))
        go true = as_is (queued o.bound a (Op.Admission f pairs) (begun v)) refl refl refl
        go false = as_is (send f Letter.JoinRefused (enter (Entry.Join f (join_number w f) a NotMember) (begun v)))
            refl refl refl
    read-rests Letter.JoinRefused ls front known_letter = go v.current
      where
        contact : (k m : ℕ) (b : Bool) → V (if b then reply_with a k NotMember (at_work Current.Free (begun v)) else begun v)
        contact k m true = record { sides = R.sides; work = tt }
        contact k m false = R

        go : (c : Current) → V (refused_join o.bound a (join_number w) f c (begun v))
        go (Current.Joining k m) = contact k m (m == f)
        go _ = R
    read-rests (Letter.Admit j settled) ls front known_letter =
        let after : V (kill o.bound a settled.fate.kills (with_replica (admitted a j settled) (begun v))) =
        kill_by o a V died settled.fate.kills (with_replica (admitted a j settled) (begun v)) (admitted-rests j settled known_letter) in
        record { sides = after.sides; work = after.work }
    read-rests (Letter.Welcome members pairs told fate) ls front known_letter = go v.current refl
      where
        joined : (k m : ℕ) → v.current ≡ Current.Joining k m → m ≡ f
            → V (send f Letter.Applied (reply_with a k Joined (at_work Current.Free
            (kill o.bound a fate.kills (with_replica (welcomed a members pairs told fate) (begun v))))))
        joined k m e same = record {
          sides = kill_by o a (λ u. Sides o a u.node.replica u.node.calls [])
              (λ p u s. record { group = s.group; calls = die-calls o a p u u.node.replica.told s.calls }) fate.kills
              (with_replica (welcomed a members pairs told fate) (begun v))
              (welcomed-sides N f k members pairs told fate (e ∙ ap (λ (x : ℕ). Current.Joining k x) same) known_letter.0
              known_letter.1 known_letter.2);
          work = tt;
        }

        contact : (k m : ℕ) → v.current ≡ Current.Joining k m → (b : Bool) → (m == f) ≡ b
            → V (if b then send f Letter.Applied (reply_with a k Joined (at_work Current.Free
            (kill o.bound a fate.kills (with_replica (welcomed a members pairs told fate) (begun v))))) else begun v)
        contact k m e true q = joined k m e (eqb-true m f q)
        contact k m e false q = R

        go : (c : Current) → v.current ≡ c
            → V (welcome o.bound a (join_number w) f members pairs told fate c (begun v))
        go (Current.Joining k m) e = contact k m e (m == f) refl
        go _ e = R
    read-rests Letter.Down ls front known_letter = bereaved known_letter.0

    pub receive-rests : (l : Letter) (ls : List Letter) → w.links.queue f a ≡ l ∷ ls
        → V (receive o.bound a (join_number w) f l (begun v))
    receive-rests l ls front = started _ (go (v.replica.told f && not (is_down l)))
      where
        letter : Invariants.IsProper o w f a l
        letter = (subst (Each (Invariants.IsProper o w f a)) front (B.all.proper.letters f a running)).0

        go : (b : Bool) → V (if b then begun v else read o.bound a (join_number w) f l (begun v))
        go true = R
        go false = read-rests l ls front letter

  -- a call
  call-rests : (c : Call) → first_cause (local_causes w (At a (Event.Calling c))) ≡ None
      → V (call o.bound a (v.last_call + 1) c (begun v))
  call-rests Call.Spawn h = record { sides = R.sides; work = R.work }
  call-rests (Call.LookUp look) h = record { sides = R.sides; work = R.work }
  call-rests (Call.OnName c) h = record { sides = R.sides; work = R.work }
  call-rests (Call.SetLock p r q target retries) h = try_lock-rests o a
      (new_call o.bound a (v.last_call + 1) p r q target retries) (count_call (begun v))
      (live_own a v.watch p (lock_tested a v p r
      (cause (not (names_members v target)) Refusal.UnknownNode ∷ calls_spent v ∷ []) h).0)
      (record { sides = R.sides; work = R.work })
  call-rests (Call.DelLock p r q target) h = delete_lock-rests o a
      (new_call o.bound a (v.last_call + 1) p r q target (Times 0)) (count_call (begun v))
      (live_own a v.watch p (lock_tested a v p r (calls_spent v ∷ []) h).0)
      (record { sides = R.sides; work = R.work })
  call-rests (Call.JoinBy m) h = record { sides = R.sides; work = R.work }

  pub event-rests : (e : Event) → first_cause (local_causes w (At a e)) ≡ None
      → V (event o.bound a (in_world o) e (begun v))
  event-rests (Event.Calling c) h = started (call o.bound a (v.last_call + 1) c (begun v)) (call-rests c h)
  event-rests Event.Retry h = started _ (retry_all-rests o a again.node.calls again after.sides.calls.sorted after)
    where
      again : Turn
      again = retry_global o.bound a v.current (begun v)

      after : V again
      after = retry-rests o a here [] v.current (begun v) R.work R
  event-rests (Event.Exiting p) h = started (die o.bound a p (enter (Entry.Exit p) (begun v)))
      (died p (enter (Entry.Exit p) (begun v)) (record { sides = R.sides; work = R.work }))
  event-rests Event.Leave h = record { sides = R.sides; work = R.work }

-- it leaves its node at rest
pub turn_rests : (o : Opening) (w : World) → Base o w → Near w → (e : WorldEvent)
    → refusal o w e ≡ None → AllRest o w → Rests o (place e) (turn_of o w e).node
turn_rests o w B N e h R = go e (accepted_of o w e h)
  where
    go : (x : WorldEvent) → Accepted o w x → Rests o (place x) (turn_of o w x).node
    go (At a y) k = event-rests o w B a k.place_inside k.running (R a k.place_inside) y k.local
    go (Deliver f t) k = letters (w.links.queue f t) refl
      where
        letters : (ls : List Letter) → w.links.queue f t ≡ ls → Rests o t (heard o.bound t w f ls).node
        letters [] q = R t k.place_inside
        letters (l ∷ ls) q = receive-rests o w B t k.place_inside k.running (R t k.place_inside) f k.other_inside (N t)
            l ls q

pub all_rest_keeps : (o : Opening) (w : World) → Base o w → Near w → (e : WorldEvent)
    → refusal o w e ≡ None → AllRest o w → AllRest o (accepted o w e)
all_rest_keeps o w B N e h R = subst (λ (f : ℕ → Node). (x : ℕ) → in_world o x ≡ true → Rests o x (f x))
    (sym (accepted-node o w e))
    (by_test (place e) (λ x t. in_world o x ≡ true → Rests o x (if t then (turn_of o w e).node else w.node x))
    (λ i. turn_rests o w B N e h R) (λ x ne. R x))

-- at first all are at rest
pub all_rest_opens : (o : Opening) → AllRest o (opening_world o)
all_rest_opens o a here = record {
  sides = record {
    group = record {
      apart = λ x h. refl;
      itself = go (in_cluster o a) refl;
      inside = λ x h. within x (in_cluster o a) h;
    };
    calls = record { sorted = refl; calls = λ p c e. cc };
  };
  work = tt;
}
  where
    go : (b : Bool) → in_cluster o a ≡ b → ((if b then in_cluster o a else a == a) && true) ≡ true
    go true e = ap (λ (t : Bool). t && true) e
    go false e = ap (λ (t : Bool). t && true) (eq-eqb a a refl)

    within : (x : ℕ) (b : Bool) → ((if b then in_cluster o x else x == a) && not false) ≡ true → in_world o x ≡ true
    within x true h = (both (in_world o x) (o.cluster x) (both (in_cluster o x) true h).0).0
    within x false h = ap (in_world o) (eqb-true x a (both (x == a) true h).0) ∙ here
