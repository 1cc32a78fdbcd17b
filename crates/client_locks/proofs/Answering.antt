-- Which rules answer `true`: those that end a lock call well, and no others.
use Rattle.std.proofs.Common.{ℕ, Bool, true, false, ◌==◌, ◌≡◌, Option, Some, None, List, [], ◌∷◌, refl, sym, ap, ◌∙◌}
use Rattle.std.specs.Prelude.{not, ◌&&◌, ◌||◌, if◌then◌else◌}
use Rattle.std.specs.List.{list_any}
use Rattle.registry_model.specs.Process.{Process}
use Rattle.registry_model.specs.Table.{get}
use Rattle.registry_model.specs.Call.{Look, Whereis, RegisteredNames, NoticesOf, Reply, True, False, is_reply, reply_to, pid_or_undefined, seen_in}
use Rattle.registry_model.specs.History.{Entry}
use Rattle.registry_model.specs.Registry.{Replica}
use Rattle.protocol_model.specs.Letter.{Global, Letter}
use Rattle.protocol_model.specs.LockTable.{is_free_for}
use Rattle.protocol_model.specs.Watch.{next_serial}
use Rattle.protocol_model.specs.Node.{Node, Op, LockPhase}
use Rattle.protocol_model.specs.Event.{Answer}
use Rattle.protocol_model.specs.Turn.{begun, enter, keep_call}
use Rattle.protocol_model.specs.Registrar.{registrar, answer_op}
use Rattle.protocol_model.specs.Client.{in_phase, close_call, give_lock, is_spent}
use Rattle.protocol_model.specs.World.{Opening, World, join_number}
use Rattle.moves.proofs.Rules.{Rule, May, turn_by}
use Rattle.moves.proofs.Rules.Rule.{Spawns, LooksUp, SkipsJoin, HearsAnswer, Denies, Finishes, Judges, TakesBack, EndsJoin, IsWelcomed, LosesContact, FailsLock, HearsLock, GivesUpLock, WinsLock, DeletesNothing, EndsDeletion, EndsDeletionDown}
use Rattle.client_locks.proofs.Growing.{same_judge, same_take_back, same_ask_rest, is_fine, is_fine_reply, not_true_reply, Replying}

-- the answer is `true` to call m of node b
abbrev pub is_true : ℕ → ℕ → Answer → Bool
is_true b m s = (s.node == b) && (s.number == m) && is_reply s.reply True

abbrev pub any_true : ℕ → ℕ → List Answer → Bool
any_true b m ss = list_any (is_true b m) ss

-- the rules that answer `true`
abbrev pub gives_true : Rule → Bool
gives_true (WinsLock c r) = true
gives_true (DeletesNothing c) = true
gives_true (EndsDeletion f c owing) = true
gives_true (EndsDeletionDown d c owing) = true
gives_true _ = false

not_true_one : (b m : ℕ) (s : Answer) → is_reply s.reply True ≡ false → any_true b m (s ∷ []) ≡ false
not_true_one b m s h = rw h (go ((s.node == b) && (s.number == m)))
  where
    go : (c : Bool) → ((c && false) || false) ≡ false
    go true = refl
    go false = refl

not_true_look : (v : Replica) (look : Look) → is_reply (seen_in v look) True ≡ false
not_true_look v (Whereis x) = go (get x v.table)
  where
    go : (p : Option Process) → is_reply (pid_or_undefined p) True ≡ false
    go None = refl
    go (Some p) = refl
not_true_look v RegisteredNames = refl
not_true_look v (NoticesOf p) = refl

fine_not_true : (r : Reply) → not (is_reply r True) ≡ true → is_reply r True ≡ false
fine_not_true r h = go (is_reply r True) h
  where
    go : (b : Bool) → not b ≡ true → b ≡ false
    go true k = cc
    go false k = refl

not_true_op : (n a b m : ℕ) (op : Op) (reply : Option Reply) (e : Entry) (v : Node) → is_fine_reply reply ≡ true
    → any_true b m (answer_op n a op reply (enter e (begun v))).answers ≡ false
not_true_op n a b m (Op.Name k call) (Some r) e v h = not_true_one b m (record { node = a; number = k; reply = r })
    (fine_not_true r h)
not_true_op n a b m (Op.Name k call) None e v h = refl
not_true_op n a b m (Op.Strike p) reply e v h = refl
not_true_op n a b m (Op.Join k j) reply e v h = refl
not_true_op n a b m (Op.Admission j pairs) reply e v h = refl

module _ (o : Opening) (a : ℕ) (w : World) (b m : ℕ) where
  pub not_true_answers : (r : Rule) → gives_true r ≡ false → May o a w r → Replying w
      → any_true b m (turn_by o a w r).answers ≡ false
  not_true_answers Spawns h k R = not_true_one b m
      (record { node = a; number = 0; reply = Reply.Pid (record { node = a; serial = next_serial (w.node a).watch }) })
      refl
  not_true_answers (LooksUp look) h k R = not_true_one b m (record
      { node = a; number = 0; reply = seen_in (w.node a).replica look })
      (not_true_look (w.node a).replica look)
  not_true_answers (SkipsJoin i j ops) h k R = not_true_one b m
      (record { node = a; number = i; reply = Reply.ContactLeft }) refl
  not_true_answers (HearsAnswer f id g op r) h k R = ap (any_true b m)
      (same_ask_rest o.bound a f g (Letter.SetLock (Global a) (registrar a)) r (w.node a)).answers
  not_true_answers (Denies i call r) h k R = not_true_one b m (record
      { node = a; number = i; reply = reply_to (w.node a).replica.members (w.node a).replica.table call })
      (not_true_reply (w.node a).replica.members (w.node a).replica.table call)
  not_true_answers (Finishes op asked awaited reply) h k R = not_true_op o.bound a b m op reply (Entry.Done a)
      (w.node a) (sym (ap is_fine k.tested.0) ∙ R a)
  not_true_answers (Judges f id p) h k R = ap (any_true b m) (same_judge o.bound a f (join_number w) id p
      (is_free_for id p (w.node a).locks) (w.node a)).answers
  not_true_answers (TakesBack f id p ack) h k R = ap (any_true b m)
      (same_take_back o.bound a f (join_number w) id p ack (w.node a)).answers
  not_true_answers (EndsJoin f i) h k R = not_true_one b m (record { node = a; number = i; reply = Reply.NotMember })
      refl
  not_true_answers (IsWelcomed f i members pairs told fate) h k R = not_true_one b m
      (record { node = a; number = i; reply = Reply.Joined }) refl
  not_true_answers (LosesContact i j) h k R = not_true_one b m
      (record { node = a; number = i; reply = Reply.ContactLeft }) refl
  not_true_answers (FailsLock c) h k R = not_true_one b m (record { node = a; number = c.number; reply = False }) refl
  not_true_answers (HearsLock f id g c r) h k R = ap (any_true b m)
      (same_ask_rest o.bound a f g (Letter.SetLock c.id c.holder) r (w.node a)).answers
  not_true_answers (GivesUpLock c r s) h k R = go (is_spent c.retries)
    where
      go : (t : Bool) → any_true b m (if t then close_call o.bound a c false
          (give_lock o.bound a c s (begun (w.node a))) else keep_call (in_phase LockPhase.Waiting c)
          (give_lock o.bound a c s (begun (w.node a)))).answers ≡ false
      go true = not_true_one b m (record { node = a; number = c.number; reply = False }) refl
      go false = refl
  not_true_answers (WinsLock c r) h k R = cc
  not_true_answers (DeletesNothing c) h k R = cc
  not_true_answers (EndsDeletion f c owing) h k R = cc
  not_true_answers (EndsDeletionDown d c owing) h k R = cc
  not_true_answers _ h k R = refl
