-- Each rule keeps the invariant of clients' locks.
use Rattle.std.proofs.Common.{ℕ, true, false, ◌==◌, ◌≡◌, Option, Some, None, [], ◌∷◌, refl, sym, ap, subst, inl}
use Rattle.std.specs.Prelude.{not, ◌&&◌, nat_lt}
use Rattle.std.proofs.lemmas.Bool.{eqb-true, ne_eqb}
use Rattle.registry_model.specs.Call.{change_of, reply_to}
use Rattle.registry_model.specs.Settlement.{settle}
use Rattle.registry_model.specs.Table.{StrikeOwner}
use Rattle.registry_model.specs.History.{Entry}
use Rattle.protocol_model.specs.Round.{asked}
use Rattle.protocol_model.specs.Letter.{Letter, Global}
use Rattle.protocol_model.specs.LockTable.{count}
use Rattle.protocol_model.specs.Watch.{is_dead}
use Rattle.protocol_model.specs.Node.{Node, Op, Current, wrote}
use Rattle.protocol_model.specs.Turn.{Turn, begun, at_work, with_queue, with_replica, enter}
use Rattle.protocol_model.specs.Registrar.{registrar, ask_rest}
use Rattle.protocol_model.specs.Reading.{admitted}
use Rattle.protocol_model.specs.World.{Opening, World, left, join_number}
use Rattle.moves.proofs.Rules.{Rule, Taken, taking, FrontTaken, May, Ordered, effect, turn_by}
use Rattle.moves.proofs.Rules.Rule.{CallsName, CallsJoin, CallsLock, Spawns, LooksUp, Exits, Begins, BeginsStrike, Retries, AsksJoin, SkipsJoin, HearsAnswer, MarksDown, GivesUp, Grants, Denies, Strikes, Admits, Passes, CountsApplied, CountsDown, Finishes, Judges, TakesBack, Releases, Writes, QueuesJoin, RefusesJoin, EndsJoin, Kills, IsAdmitted, IsWelcomed, IsTold, LosesContact, Ignores, Drops, AsksLock, FailsLock, HearsLock, MarksLockDown, WinsLock, GivesUpLock, DeletesLock, DeletesNothing, CountsGivenBack, EndsDeletion, CountsLockDown, EndsDeletionDown, Leaves}
use Rattle.moves.proofs.Invariants.{Proper, IsProper, Each}
use Rattle.moves.proofs.Indices.{both}
use Rattle.client_locks.proofs.LockTables.{Sound, count-drop_node, sound-drop_node}
use Rattle.client_locks.proofs.Mail.{turned}
use Rattle.client_locks.proofs.Clients.{Numbers, Clients}
use Rattle.client_locks.proofs.Turns.{still_keeps}
use Rattle.client_locks.proofs.Serving.{on_judges, on_takes_back, on_releases}
use Rattle.client_locks.proofs.Numbers.{num_by}
use Rattle.client_locks.proofs.LockRules.{on_marks_lock_down, on_hears_lock}
use Rattle.client_locks.proofs.LockEnds.{on_wins_lock, on_gives_up_lock, on_asks_lock, on_closes}
use Rattle.client_locks.proofs.Deletions.{on_deletes_lock, on_deletes_nothing, on_counts_given_back, on_ends_deletion, on_counts_lock_down, on_ends_deletion_down}
use Rattle.client_locks.proofs.Deaths.{dies, leaver_closes}
use Rattle.client_locks.proofs.Quiet.{Quiet, quiet_begun, quiet_send, quiet_send_all, quiet_work, quiet_queue, quiet_replica, quiet_enter, quiet_ask_global, quiet_finish, quiet_write, quiet_give_up, quiet_ask_rest, quiet_admit}
use Rattle.client_locks.proofs.Unread.{Unread, unread_none, unread_letter, unread_answer, unread_gone, unread_ignored}

module _ (o : Opening) (a : ℕ) (w : World) (num : Numbers) (P : Proper o w) (order : Ordered w)
    (C : Clients o w num) where
  -- a turn that is no client's
  quietly : (t : Option Taken) (u : Turn) → FrontTaken o a w t → Unread o a t w → Quiet a (w.node a) u
      → Clients o (turned a t u w) num
  quietly t u front unread q = still_keeps o a t u w num C front
      (record {
        calls = q.calls;
        dead = q.dead;
        sound = subst Sound (sym q.locks) (C.tables a);
        counts = λ id p e. ap (count id p) q.locks;
        sends = q.sends;
      })
      unread

  abbrev v : Node
  v = w.node a

  told_left : {r : Rule} → May o a w r → (d : ℕ) → (w.node a).replica.told d ≡ true → left w d ≡ true
  told_left m d e = P.told_left a d m.running e

  -- kept by each rule; the numbers change as the rule says
  pub clients_keeps : (r : Rule) → May o a w r → Clients o (effect o a r w) (num_by a r w num)
  clients_keeps (CallsName c) m =
      quietly None (turn_by o a w (CallsName c)) tt (unread_none o a w)
      (record { calls = refl; dead = refl; locks = refl; sends = refl })
  clients_keeps (CallsJoin c) m =
      quietly None (turn_by o a w (CallsJoin c)) tt (unread_none o a w)
      (record { calls = refl; dead = refl; locks = refl; sends = refl })
  clients_keeps CallsLock m =
      quietly None (turn_by o a w CallsLock) tt (unread_none o a w)
      (record { calls = refl; dead = refl; locks = refl; sends = refl })
  clients_keeps Spawns m =
      quietly None (turn_by o a w Spawns) tt (unread_none o a w) (record
      { calls = refl; dead = refl; locks = refl; sends = refl })
  clients_keeps (LooksUp look) m =
      quietly None (turn_by o a w (LooksUp look)) tt (unread_none o a w)
      (record { calls = refl; dead = refl; locks = refl; sends = refl })
  clients_keeps (Begins op ops) m =
      quietly None (turn_by o a w (Begins op ops)) tt (unread_none o a w)
      (quiet_ask_global a v o.bound op (with_queue ops (begun v)) (quiet_queue a v ops (begun v) (quiet_begun a v)))
  clients_keeps (BeginsStrike serial) m =
      quietly None (turn_by o a w (BeginsStrike serial)) tt (unread_none o a w)
      (quiet_ask_global a v o.bound _ (begun v) (quiet_begun a v))
  clients_keeps (Retries op) m =
      quietly None (turn_by o a w (Retries op)) tt (unread_none o a w)
      (quiet_ask_global a v o.bound op (begun v) (quiet_begun a v))
  clients_keeps (AsksJoin k j ops) m =
      quietly None (turn_by o a w (AsksJoin k j ops)) tt (unread_none o a w)
      (quiet_send a v j _ (at_work (Current.Joining k j) (with_queue ops (begun v))) refl
      (quiet_work a v (Current.Joining k j) (with_queue ops (begun v))
      (quiet_queue a v ops (begun v) (quiet_begun a v))))
  clients_keeps (SkipsJoin k j ops) m =
      quietly None (turn_by o a w (SkipsJoin k j ops)) tt (unread_none o a w)
      (record { calls = refl; dead = refl; locks = refl; sends = refl })
  clients_keeps (HearsAnswer f id g op r) m =
      quietly (taking f (Letter.LockAnswer id (registrar a) g)) (turn_by o a w (HearsAnswer f id g op r)) m.front
      (unread_answer o a f w id g) (quiet_work a v _ (ask_rest o.bound a f g
      (Letter.SetLock (Global a) (registrar a)) r (begun v)) (quiet_ask_rest a v o.bound f g r (begun v)
      (quiet_begun a v)))
  clients_keeps (MarksDown d op r) m =
      quietly None (turn_by o a w (MarksDown d op r)) tt (unread_none o a w)
      (record { calls = refl; dead = refl; locks = refl; sends = refl })
  clients_keeps (GivesUp op r s) m =
      quietly None (turn_by o a w (GivesUp op r s)) tt (unread_none o a w)
      (quiet_give_up a v o.bound op s (begun v) (quiet_begun a v))
  clients_keeps (Grants k call r) m =
      quietly None (turn_by o a w (Grants k call r)) tt (unread_none o a w)
      (quiet_write a v o.bound (Op.Name k call) (asked r) (Some (reply_to v.replica.members v.replica.table call))
      (change_of call) (enter (Entry.Name a k call (reply_to v.replica.members v.replica.table call))
      (begun v)) (quiet_enter a v _ (begun v) (quiet_begun a v)))
  clients_keeps (Denies k call r) m =
      quietly None (turn_by o a w (Denies k call r)) tt (unread_none o a w)
      (quiet_finish a v o.bound (Op.Name k call) (asked r) (Some (reply_to v.replica.members v.replica.table call))
      (enter (Entry.Name a k call (reply_to v.replica.members v.replica.table call)) (begun v))
      (quiet_enter a v _ (begun v) (quiet_begun a v)))
  clients_keeps (Strikes p r) m =
      quietly None (turn_by o a w (Strikes p r)) tt (unread_none o a w)
      (quiet_write a v o.bound (Op.Strike p) (asked r) None (StrikeOwner p) (enter (Entry.Strike p) (begun v))
      (quiet_enter a v _ (begun v) (quiet_begun a v)))
  clients_keeps (Admits j pairs r) m =
      quietly None (turn_by o a w (Admits j pairs r)) tt (unread_none o a w)
      (quiet_admit a v o.bound (join_number w) j pairs (asked r) (settle v.replica.table pairs) (begun v)
      (quiet_begun a v))
  clients_keeps (Passes j pairs r) m =
      quietly None (turn_by o a w (Passes j pairs r)) tt (unread_none o a w)
      (quiet_finish a v o.bound (Op.Admission j pairs) (asked r) None (begun v) (quiet_begun a v))
  clients_keeps (CountsApplied f op s awaited reply) m =
      quietly (taking f Letter.Applied) (turn_by o a w (CountsApplied f op s awaited reply)) m.front
      (unread_letter o a f w Letter.Applied (λ p c. refl) (λ p c. refl))
      (record { calls = refl; dead = refl; locks = refl; sends = refl })
  clients_keeps (CountsDown d op s awaited reply) m =
      quietly None (turn_by o a w (CountsDown d op s awaited reply)) tt (unread_none o a w)
      (record { calls = refl; dead = refl; locks = refl; sends = refl })
  clients_keeps (Finishes op s awaited reply) m =
      quietly None (turn_by o a w (Finishes op s awaited reply)) tt (unread_none o a w)
      (quiet_finish a v o.bound op s reply (enter (Entry.Done a) (begun v))
      (quiet_enter a v _ (begun v) (quiet_begun a v)))
  clients_keeps (Writes f change) m =
      quietly (taking f (Letter.Apply change)) (turn_by o a w (Writes f change)) m.front
      (unread_letter o a f w (Letter.Apply change) (λ p c. refl) (λ p c. refl))
      (quiet_send a v f Letter.Applied (with_replica (wrote change) (begun v)) refl
      (quiet_replica a v (wrote change) (begun v) (quiet_begun a v)))
  clients_keeps (QueuesJoin f pairs) m =
      quietly (taking f (Letter.JoinAsk pairs)) (turn_by o a w (QueuesJoin f pairs)) m.front
      (unread_letter o a f w (Letter.JoinAsk pairs) (λ p c. refl) (λ p c. refl))
      (record { calls = refl; dead = refl; locks = refl; sends = refl })
  clients_keeps (RefusesJoin f pairs) m =
      quietly (taking f (Letter.JoinAsk pairs)) (turn_by o a w (RefusesJoin f pairs)) m.front
      (unread_letter o a f w (Letter.JoinAsk pairs) (λ p c. refl) (λ p c. refl))
      (quiet_send a v f Letter.JoinRefused (enter _ (begun v)) refl
      (quiet_enter a v _ (begun v) (quiet_begun a v)))
  clients_keeps (EndsJoin f k) m =
      quietly (taking f Letter.JoinRefused) (turn_by o a w (EndsJoin f k)) m.front
      (unread_letter o a f w Letter.JoinRefused (λ p c. refl) (λ p c. refl))
      (record { calls = refl; dead = refl; locks = refl; sends = refl })
  clients_keeps (IsAdmitted f j settled) m =
      quietly (taking f (Letter.Admit j settled)) (turn_by o a w (IsAdmitted f j settled)) m.front
      (unread_letter o a f w (Letter.Admit j settled) (λ p c. refl) (λ p c. refl))
      (quiet_send a v f Letter.Applied (with_replica (admitted a j settled) (begun v)) refl
      (quiet_replica a v (admitted a j settled) (begun v) (quiet_begun a v)))
  clients_keeps (IsWelcomed f k members pairs told fate) m =
      quietly (taking f (Letter.Welcome members pairs told fate))
      (turn_by o a w (IsWelcomed f k members pairs told fate)) m.front
      (unread_letter o a f w (Letter.Welcome members pairs told fate) (λ p c. refl) (λ p c. refl))
      (record { calls = refl; dead = refl; locks = refl; sends = refl })
  clients_keeps (LosesContact k j) m =
      quietly None (turn_by o a w (LosesContact k j)) tt (unread_none o a w)
      (record { calls = refl; dead = refl; locks = refl; sends = refl })
  clients_keeps (Ignores f l) m =
      quietly (taking f l) (turn_by o a w (Ignores f l)) m.front (unread_ignored o a f w num C l m.front.1 m.tested.1)
      (record { calls = refl; dead = refl; locks = refl; sends = refl })
  clients_keeps (Drops f l) m =
      quietly (taking f l) (turn_by o a w (Drops f l)) m.front (unread_gone o a f w l (told_left m f m.tested.0))
      (record { calls = refl; dead = refl; locks = refl; sends = refl })
  clients_keeps (IsTold f) m = still_keeps o a (taking f Letter.Down) (turn_by o a w (IsTold f)) w num C m.front
      (record {
        calls = refl;
        dead = refl;
        sound = sound-drop_node f v.locks (C.tables a);
        counts = λ id p up. count-drop_node f id p v.locks (ne_eqb p.node f (λ k. cc (ap (left w) k, up, gone)));
        sends = refl;
      })
      (unread_letter o a f w Letter.Down (λ p c. refl) (λ p c. refl))
    where
      gone : left w f ≡ true
      gone = (subst (Each (IsProper o w f a)) m.front.1.1 (P.letters f a m.running)).0.0
  clients_keeps (Exits p) m = dies o a w num C p v.replica.members (Entry.Exit p ∷ [])
      (eqb-true p.node a (both (p.node == a) (not (p.serial == 0))
      (both ((p.node == a) && not (p.serial == 0)) (not (nat_lt v.watch.last_serial p.serial)) m.tested.0).0).0)
  clients_keeps (Kills f l p receivers) m = dies o a w num C p receivers []
      (eqb-true p.node a (both (p.node == a) (not (p.serial == 0))
      (both ((p.node == a) && not (p.serial == 0)) (not (is_dead v.watch p.serial)) m.tested.4).0).0)
  clients_keeps Leaves m = leaver_closes o a (turned a None (turn_by o a w Leaves) w) num
      (quietly None (turn_by o a w Leaves) tt (unread_none o a w)
      (quiet_send_all a v o.bound _ Letter.Down (enter (Entry.Left a) (begun v)) refl
      (quiet_enter a v (Entry.Left a) (begun v) (quiet_begun a v))))
  clients_keeps (Judges f id p) m = on_judges o a f w num C (join_number w) id p m.front
  clients_keeps (TakesBack f id p ack) m = on_takes_back o a f w num C (join_number w) id p ack m.front
  clients_keeps (Releases f p) m = on_releases o a f w num C (join_number w) p m.front
  clients_keeps (AsksLock c) m = on_asks_lock o a w num C order m.inside m.running c m.tested.0 m.tested.1
  clients_keeps (FailsLock c) m = on_closes o a w num C order m.inside m.running c m.tested.0 false num
      (λ p id x ne. refl) (λ id x up. refl)
  clients_keeps (HearsLock f id g c r) m = on_hears_lock o a w num C order m.running
      (told_left m) c r m.tested.2 f id g m.tested.3 m.front
  clients_keeps (MarksLockDown d c r) m = on_marks_lock_down o a w num C order m.running
      (told_left m) c r m.tested.1 d m.tested.0
  clients_keeps (WinsLock c r) m = on_wins_lock o a w num C order m.inside m.running c r m.tested.0 m.tested.1
      m.tested.2
  clients_keeps (GivesUpLock c r s) m = on_gives_up_lock o a w num C order m.inside m.running c r m.tested.0 m.tested.1
      s m.tested.2
  clients_keeps (DeletesLock c) m = on_deletes_lock o a w num C order m.inside m.running (told_left m) c
      (inl m.tested.0)
  clients_keeps (DeletesNothing c) m = on_deletes_nothing o a w num C order m.inside m.running (told_left m) c
      (inl m.tested.0) m.tested.1
  clients_keeps (CountsGivenBack f c owing) m = on_counts_given_back o a w num C order m.inside m.running
      (told_left m) c owing m.tested.1 f m.tested.2 m.front
  clients_keeps (EndsDeletion f c owing) m = on_ends_deletion o a w num C order m.inside m.running
      (told_left m) c owing m.tested.1 f m.tested.2 m.front m.tested.3
  clients_keeps (CountsLockDown d c owing) m = on_counts_lock_down o a w num C order m.inside m.running
      (told_left m) c owing m.tested.1 d m.tested.0
  clients_keeps (EndsDeletionDown d c owing) m = on_ends_deletion_down o a w num C order m.inside m.running
      (told_left m) c owing m.tested.1 d m.tested.0 m.tested.3
