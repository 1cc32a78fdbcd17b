-- What a rule makes of the open lock calls of its node and of their answers.
use Rattle.std.proofs.Common.{ℕ, Bool, true, false, ◌≡◌, Option, Some, None, List, [], ◌∷◌, ◌++◌, refl, sym, ap, ◌∙◌, subst}
use Rattle.std.specs.Prelude.{if◌then◌else◌}
use Rattle.std.specs.List.{list_all}
use Rattle.std.proofs.lemmas.List.{append-nil, append_assoc}
use Rattle.registry_model.specs.Process.{Process, Nodes, at}
use Rattle.registry_model.specs.Call.{Reply, Pid, True, False, ContactLeft, NotMember, Joined, reply_to, seen_in}
use Rattle.registry_model.specs.History.{Entry}
use Rattle.protocol_model.specs.Letter.{Letter, Global}
use Rattle.protocol_model.specs.Round.{Round, answer, down}
use Rattle.protocol_model.specs.LockTable.{is_free_for}
use Rattle.protocol_model.specs.Node.{Node, Op, Current, LockPhase, LockCall, put_call, drop_call}
use Rattle.protocol_model.specs.Event.{Call, Answer}
use Rattle.protocol_model.specs.Turn.{begun, keep_call, enter}
use Rattle.protocol_model.specs.Client.{in_phase, close_call, give_lock, is_spent}
use Rattle.protocol_model.specs.Registrar.{registrar}
use Rattle.protocol_model.specs.Answers.{answer_to, may_have}
use Rattle.protocol_model.specs.World.{Opening, World, join_number}
use Rattle.moves.proofs.Rules
use Rattle.moves.proofs.Rules.{Rule, IsOpen, is_ordered}
use Rattle.moves.proofs.Invariants.{Replicas, IsWritten}
use Rattle.registry_model.proofs.Updates.{at_same}
use Rattle.moves.proofs.Indices.{both}
use Rattle.walk.proofs.ChainKinds.{Hearing, suits}
use Rattle.walk.proofs.Orders.{effect-node}
use Rattle.fitting.proofs.Made.{answered, answer_of, answers_made}
use Rattle.fitting.proofs.Accounts.{is_word}
use Rattle.fitting.proofs.Settling.{reply_to-word, grant_word}
use Rattle.client_locks.proofs.Calls.{home_of_call}
use Rattle.client_locks.proofs.Growing.{node_answer_op, same_judge, same_take_back, same_ask_rest}
use Rattle.headline.proofs.Together.{Whole, replicas, rule_whole}
use Rattle.headline.proofs.LockAnswers.{is_try, true_fits, false_fits, try_for, deletion_for, IsCalled, Ledger, Aside, ledger_aside, ledger_dropped, ledger_put, ledger_closed, single_open, aside_none, aside_word, aside_zero}

module _ (o : Opening) (a : ℕ) (w : World) (calls : List Call) (xs : List Answer)
    (sorted : is_ordered a (w.node a).calls ≡ true) (R : Replicas o w) (L : Ledger a calls (w.node a).calls xs) where
  -- the lock calls are as they were, and none is answered
  stays : (ys : List Answer) → Aside a ys → Ledger a calls (w.node a).calls (xs ++ ys)
  stays ys none = ledger_aside a calls (w.node a).calls xs ys none L

  -- a call of a process that dies is dropped
  drops : (q : Process) → Ledger a calls (drop_call q (w.node a).calls) (xs ++ [])
  drops q = ledger_aside a calls (drop_call q (w.node a).calls) xs [] (aside_none a)
      (ledger_dropped a calls (w.node a).calls xs q L)

  -- an open call goes on
  goes_on : (c : LockCall) (now next : LockPhase) → IsOpen (w.node a) c now
      → ((I : IsCalled calls c.holder c.number c.phase) → IsCalled calls c.holder c.number next)
      → Ledger a calls (put_call (in_phase next c) (w.node a).calls) (xs ++ [])
  goes_on c now next e fits = ledger_aside a calls (put_call (in_phase next c) (w.node a).calls) xs [] (aside_none a)
      (ledger_put a calls (w.node a).calls xs (in_phase next c)
      (home_of_call a c.holder (w.node a).calls c sorted e.call) sorted
      (single_open a calls (w.node a).calls xs c.holder c L e.call) (fits (L.called c.holder c e.call)) L)

  -- a try goes on as a try
  tries_on : (c : LockCall) (r : Round) (next : LockPhase) → IsOpen (w.node a) c (LockPhase.Asking r)
      → is_try next ≡ true → Ledger a calls (put_call (in_phase next c) (w.node a).calls) (xs ++ [])
  tries_on c r next e t = goes_on c (LockPhase.Asking r) next e
      (λ I. record {
        call = I.call;
        found = I.found;
        positive = I.positive;
        holder = I.holder;
        suits = try_for I.call c.phase next I.suits (ap is_try e.phase) t;
      })

  -- and a deletion as a deletion
  deletes_on : (c : LockCall) (owing left : Nodes) → IsOpen (w.node a) c (LockPhase.Deleting owing)
      → Ledger a calls (put_call (in_phase (LockPhase.Deleting left) c) (w.node a).calls) (xs ++ [])
  deletes_on c owing left e = goes_on c (LockPhase.Deleting owing) (LockPhase.Deleting left) e
      (λ I. record {
        call = I.call;
        found = I.found;
        positive = I.positive;
        holder = I.holder;
        suits = deletion_for I.call c.phase (LockPhase.Deleting left) I.suits (ap is_try e.phase) refl;
      })

  -- an open call is answered
  closes : (c : LockCall) (now : LockPhase) (reply : Reply) → is_word reply ≡ false → IsOpen (w.node a) c now
      → ((I : IsCalled calls c.holder c.number c.phase) → may_have I.call reply ≡ true)
      → Ledger a calls (drop_call c.holder (w.node a).calls) (xs ++ answer_to a c.number reply ∷ [])
  closes c now reply word e may = ledger_closed a calls (w.node a).calls xs c reply word c.phase
      (single_open a calls (w.node a).calls xs c.holder c L e.call) (L.called c.holder c e.call)
      (may (L.called c.holder c e.call)) L

  -- `true`
  wins : (c : LockCall) (now : LockPhase) → IsOpen (w.node a) c now
      → Ledger a calls (drop_call c.holder (w.node a).calls) (xs ++ answer_to a c.number True ∷ [])
  wins c now e = closes c now True refl e (λ I. true_fits I.call c.phase I.suits)

  -- the calls and the answers behind a rule
  abbrev Behind : List LockCall → List Answer → Type 0
  Behind cs ys = Ledger a calls cs (xs ++ ys)

  -- each rule of an open call, or of none
  by_rule : (r : Rule) → suits Hearing r ≡ true → Rules.May o a w r
      → Behind (Rules.turn_by o a w r).node.calls (answered a r (w.node a))
  by_rule Rules.Spawns h m = stays _ (aside_zero a (Pid _))
  by_rule (Rules.LooksUp look) h m = stays _ (aside_zero a (seen_in (w.node a).replica look))
  by_rule (Rules.Exits p) h m = drops p
  by_rule (Rules.Kills f l p receivers) h m = drops p
  by_rule (Rules.SkipsJoin k n ops) h m = stays _ (aside_word a k ContactLeft refl)
  by_rule (Rules.Denies k call r) h m = stays _
      (aside_word a k (reply_to (w.node a).replica.members (w.node a).replica.table call)
      (reply_to-word (w.node a).replica.members (w.node a).replica.table call))
  by_rule (Rules.Finishes op asked awaited reply) h m = subst (λ (v : Node). Behind v.calls (answer_of a op reply))
      (sym (node_answer_op o.bound a op reply (enter (Entry.Done a) (begun (w.node a)))))
      (stays (answer_of a op reply) (words op reply (subst (IsWritten o w a) m.tested.0 (R.written a))))
    where
      words : (op : Op) (reply : Option Reply) → IsWritten o w a (Current.Writing op asked awaited reply)
          → Aside a (answer_of a op reply)
      words (Op.Name k call) (Some x) W = aside_word a k x (grant_word x W.3.1)
      words (Op.Name k call) None W = aside_none a
      words (Op.Strike p) reply W = aside_none a
      words (Op.Join k n) reply W = aside_none a
      words (Op.Admission j pairs) reply W = aside_none a
  by_rule (Rules.EndsJoin f k) h m = stays _ (aside_word a k NotMember refl)
  by_rule (Rules.IsWelcomed f k members pairs told fate) h m = stays _ (aside_word a k Joined refl)
  by_rule (Rules.LosesContact k n) h m = stays _ (aside_word a k ContactLeft refl)
  by_rule (Rules.HearsAnswer f id granted op r) h m = subst (λ (cs : List LockCall). Behind cs [])
      (sym (same_ask_rest o.bound a f granted (Letter.SetLock (Global a) (registrar a)) r (w.node a)).calls)
      (stays [] (aside_none a))
  by_rule (Rules.Judges f id p) h m = subst (λ (cs : List LockCall). Behind cs [])
      (sym (same_judge o.bound a f (join_number w) id p (is_free_for id p (w.node a).locks) (w.node a)).calls)
      (stays [] (aside_none a))
  by_rule (Rules.TakesBack f id p ack) h m = subst (λ (cs : List LockCall). Behind cs [])
      (sym (same_take_back o.bound a f (join_number w) id p ack (w.node a)).calls) (stays [] (aside_none a))
  by_rule (Rules.AsksLock c) h m = cc
  by_rule (Rules.FailsLock c) h m = cc
  by_rule (Rules.DeletesLock c) h m = cc
  by_rule (Rules.DeletesNothing c) h m = cc
  by_rule (Rules.HearsLock f id granted c r) h m =
      subst (λ (cs : List LockCall). Behind (put_call (in_phase (LockPhase.Asking (answer f granted r)) c) cs) [])
      (sym (same_ask_rest o.bound a f granted (Letter.SetLock c.id c.holder) r (w.node a)).calls)
      (tries_on c r (LockPhase.Asking (answer f granted r)) m.tested.2 refl)
  by_rule (Rules.MarksLockDown d c r) h m = tries_on c r (LockPhase.Asking (down d r)) m.tested.1 refl
  by_rule (Rules.WinsLock c r) h m = wins c (LockPhase.Asking r) m.tested.0
  by_rule (Rules.GivesUpLock c r granted) h m = go (is_spent c.retries)
    where
      go : (b : Bool) → Behind (if b then close_call o.bound a c false (give_lock o.bound a c granted (begun
          (w.node a)))
          else keep_call (in_phase LockPhase.Waiting c) (give_lock o.bound a c granted (begun (w.node a)))).node.calls
          (if b then answer_to a c.number False ∷ [] else [])
      go true = closes c (LockPhase.Asking r) False refl m.tested.0
          (λ I. false_fits I.call c.phase I.suits (ap is_try m.tested.0.phase))
      go false = tries_on c r LockPhase.Waiting m.tested.0 refl
  by_rule (Rules.CountsGivenBack f c owing) h m = deletes_on c owing (at owing f false) m.tested.1
  by_rule (Rules.CountsLockDown d c owing) h m = deletes_on c owing (at owing d false) m.tested.1
  by_rule (Rules.EndsDeletion f c owing) h m = wins c (LockPhase.Deleting owing) m.tested.1
  by_rule (Rules.EndsDeletionDown d c owing) h m = wins c (LockPhase.Deleting owing) m.tested.1
  by_rule r h m = stays [] (aside_none a)

  -- in the world behind it
  pub rule_ledger : (r : Rule) → suits Hearing r ≡ true → Rules.May o a w r
      → Ledger a calls ((Rules.effect o a r w).node a).calls (xs ++ (Rules.turn_by o a w r).answers)
  rule_ledger r h m = subst (λ (v : Node). Ledger a calls v.calls (xs ++ (Rules.turn_by o a w r).answers))
      (sym (ap (λ (f : ℕ → Node). f a) (effect-node o a r w) ∙ at_same w.node a (Rules.turn_by o a w r).node))
      (subst (Behind (Rules.turn_by o a w r).node.calls) (sym (answers_made o a (join_number w) r (w.node a)))
      (by_rule r h m))

-- and behind a chain of such rules
pub chain_ledger : (o : Opening) (a : ℕ) (calls : List Call) (rs : List Rule) (w : World) (xs : List Answer)
    → list_all (suits Hearing) rs ≡ true → Rules.MayAll o a rs w → Whole o w → Ledger a calls (w.node a).calls xs
    → Ledger a calls ((Rules.effects o a rs w).node a).calls (xs ++ Rules.answers_by o a rs w)
chain_ledger o a calls [] w xs h m W L = subst (Ledger a calls (w.node a).calls) (sym (append-nil xs)) L
chain_ledger o a calls (r ∷ rs) w xs h m W L =
    let parts : (suits Hearing r ≡ true) × (list_all (suits Hearing) rs ≡ true) =
    both (suits Hearing r) (list_all (suits Hearing) rs) h in
    subst (Ledger a calls ((Rules.effects o a (r ∷ rs) w).node a).calls)
    (append_assoc xs (Rules.turn_by o a w r).answers (Rules.answers_by o a rs (Rules.effect o a r w)))
    (chain_ledger o a calls rs (Rules.effect o a r w) (xs ++ (Rules.turn_by o a w r).answers) parts.1 m.1
    (rule_whole o a w r W m.0)
    (rule_ledger o a w calls xs (W.ordered a) (replicas o w W.kept) L r parts.0 m.0))
