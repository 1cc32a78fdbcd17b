-- What each rule leaves alone or lets grow: who is dead or has left stays so, and calls are numbered upwards. And no
-- operation of a registrar is answered `true`.
use Rattle.std.proofs.Common.{ℕ, Bool, true, false, ◌==◌, ◌≡◌, ◌≤◌, Option, Some, None, List, [], ◌∷◌, ◌++◌, refl, sym, ap, ◌∙◌, arith}
use Rattle.std.specs.Prelude.{not, ◌&&◌, ◌||◌, is_some, if◌then◌else◌}
use Rattle.std.specs.List.{list_any}
use Rattle.std.proofs.lemmas.List.Folds.{list_any-append}
use Rattle.registry_model.specs.Process.{Process, Nodes, at}
use Rattle.registry_model.specs.Table.{Table, get, owns}
use Rattle.registry_model.specs.Call.{NameCall, Register, ReRegister, Unregister, Reply, True, is_reply, reply_to}
use Rattle.registry_model.specs.History.{Entry}
use Rattle.protocol_model.specs.Letter.{Id, Global, Letter}
use Rattle.protocol_model.specs.LockTable.{is_free_for}
use Rattle.protocol_model.specs.Round.{Round, opens, rest}
use Rattle.protocol_model.specs.Watch.{Watch, is_dead}
use Rattle.protocol_model.specs.Node.{Node, Op, Current, LockPhase, LockCall}
use Rattle.protocol_model.specs.Turn.{Turn, begun, send_all, enter, keep_call}
use Rattle.protocol_model.specs.Registrar.{registrar, ask_rest, answer_op}
use Rattle.protocol_model.specs.Client.{in_phase, close_call, give_lock, refuse_lock, is_spent}
use Rattle.protocol_model.specs.Reading.{judge, take_back}
use Rattle.protocol_model.specs.ClientLocks.{is_no_more}
use Rattle.protocol_model.specs.World.{Opening, World, left, opening_world, join_number}
use Rattle.moves.proofs.Rules.{Rule, Taken, May, effect, turn_by, takes}
use Rattle.moves.proofs.Rules.Rule.{CallsName, CallsJoin, CallsLock, Exits, Begins, BeginsStrike, Retries, AsksJoin, HearsAnswer, MarksDown, GivesUp, Grants, Denies, Strikes, Admits, Passes, CountsApplied, CountsDown, Finishes, Judges, TakesBack, EndsJoin, Kills, IsWelcomed, LosesContact, HearsLock, GivesUpLock, Leaves}
use Rattle.registry_model.proofs.Updates.{by_test}
use Rattle.client_locks.proofs.Mail.{turned}

-- a turn that leaves these parts of its node alone, and answers nothing
pub record Same (v : Node) (u : Turn) : Type 0 where
  pub calls : u.node.calls ≡ v.calls
  pub watch : u.node.watch ≡ v.watch
  pub last : u.node.last_call ≡ v.last_call
  pub current : u.node.current ≡ v.current
  pub answers : u.answers ≡ []

pub same_judge : (n a f : ℕ) (number : ℕ → ℕ) (id : Id) (p : Process) (b : Bool) (v : Node)
    → Same v (judge n a number f id p b (begun v))
same_judge n a f number id p true v = record { calls = refl; watch = refl; last = refl; current = refl; answers = refl }
same_judge n a f number id p false v = record {
  calls = refl;
  watch = refl;
  last = refl;
  current = refl;
  answers = refl;
}

pub same_take_back : (n a f : ℕ) (number : ℕ → ℕ) (id : Id) (p : Process) (b : Bool) (v : Node)
    → Same v (take_back n a number f id p b (begun v))
same_take_back n a f number id p true v = record {
  calls = refl;
  watch = refl;
  last = refl;
  current = refl;
  answers =
      refl;
}
same_take_back n a f number id p false v = record {
  calls = refl;
  watch = refl;
  last = refl;
  current = refl;
  answers =
      refl;
}

pub same_ask_rest : (n a f : ℕ) (g : Bool) (l : Letter) (r : Round) (v : Node) → Same v (ask_rest n a f g l r (begun v))
same_ask_rest n a f g l r v = go (opens f g r)
  where
    go : (b : Bool) → Same v (if b then send_all n (λ x. rest r x && not (v.replica.told x)) l (begun v) else begun v)
    go true = record { calls = refl; watch = refl; last = refl; current = refl; answers = refl }
    go false = record { calls = refl; watch = refl; last = refl; current = refl; answers = refl }

-- a registrar's answer leaves the node alone
pub node_answer_op : (n a : ℕ) (op : Op) (reply : Option Reply) (u : Turn) → (answer_op n a op reply u).node ≡ u.node
node_answer_op n a (Op.Name k call) (Some r) u = refl
node_answer_op n a (Op.Name k call) None u = refl
node_answer_op n a (Op.Strike p) reply u = refl
node_answer_op n a (Op.Join k m) reply u = refl
node_answer_op n a (Op.Admission j pairs) reply u = refl

-- the end of a lock round leaves all but the calls alone
pub record EndSame (v : Node) (u : Turn) : Type 0 where
  pub watch : u.node.watch ≡ v.watch
  pub last : u.node.last_call ≡ v.last_call
  pub current : u.node.current ≡ v.current

pub same_refuse : (n a : ℕ) (c : LockCall) (s : Nodes) (v : Node)
    → EndSame v (refuse_lock n a c (give_lock n a c s (begun v)))
same_refuse n a c s v = go (is_spent c.retries)
  where
    go : (b : Bool) → EndSame v (if b then close_call n a c false (give_lock n a c s (begun v)) else keep_call
        (in_phase LockPhase.Waiting c) (give_lock n a c s (begun v)))
    go true = record { watch = refl; last = refl; current = refl }
    go false = record { watch = refl; last = refl; current = refl }

-- one dead more
pub dead_too : (xs : List ℕ) (k s : ℕ) → list_any (λ d. d == s) xs ≡ true → list_any (λ d. d == s) (xs ++ k ∷ []) ≡ true
dead_too xs k s h = list_any-append (λ d. d == s) xs (k ∷ [])
    ∙ ap (λ (b : Bool). b || list_any (λ d. d == s) (k ∷ [])) h

module _ (o : Opening) (a : ℕ) (w : World) where
  -- who is dead stays dead
  pub dead_grows : (r : Rule) (s : ℕ) → is_dead (w.node a).watch s ≡ true
      → is_dead (turn_by o a w r).node.watch s ≡ true
  dead_grows (Exits p) s h = dead_too (w.node a).watch.dead p.serial s h
  dead_grows (Kills f l p receivers) s h = dead_too (w.node a).watch.dead p.serial s h
  dead_grows (Judges f id p) s h = ap (λ (x : Watch). is_dead x s)
      (same_judge o.bound a f (join_number w) id p (is_free_for id p (w.node a).locks) (w.node a)).watch ∙ h
  dead_grows (TakesBack f id p ack) s h = ap (λ (x : Watch). is_dead x s)
      (same_take_back o.bound a f (join_number w) id p ack (w.node a)).watch ∙ h
  dead_grows (HearsAnswer f id g op r) s h = ap (λ (x : Watch). is_dead x s)
      (same_ask_rest o.bound a f g (Letter.SetLock (Global a) (registrar a)) r (w.node a)).watch ∙ h
  dead_grows (HearsLock f id g c r) s h = ap (λ (x : Watch). is_dead x s)
      (same_ask_rest o.bound a f g (Letter.SetLock c.id c.holder) r (w.node a)).watch ∙ h
  dead_grows (Finishes op asked awaited reply) s h = ap (λ (x : Node). is_dead x.watch s)
      (node_answer_op o.bound a op reply (enter _ (begun (w.node a)))) ∙ h
  dead_grows (GivesUpLock c r granted) s h = ap (λ (x : Watch). is_dead x s)
      (same_refuse o.bound a c granted (w.node a)).watch ∙ h
  dead_grows _ s h = h

  -- numbers of calls rise
  pub last_grows : (r : Rule) → (w.node a).last_call ≤ (turn_by o a w r).node.last_call
  last_grows (CallsName c) = omega arith
  last_grows (CallsJoin m) = omega arith
  last_grows CallsLock = omega arith
  last_grows (Judges f id p) = omega
      (arith, (same_judge o.bound a f (join_number w) id p (is_free_for id p (w.node a).locks) (w.node a)).last)
  last_grows (TakesBack f id p ack) = omega
      (arith, (same_take_back o.bound a f (join_number w) id p ack (w.node a)).last)
  last_grows (HearsAnswer f id g op r) = omega
      (arith, (same_ask_rest o.bound a f g (Letter.SetLock (Global a) (registrar a)) r (w.node a)).last)
  last_grows (HearsLock f id g c r) = omega
      (arith, (same_ask_rest o.bound a f g (Letter.SetLock c.id c.holder) r (w.node a)).last)
  last_grows (Finishes op asked awaited reply) =
      let same : (turn_by o a w (Finishes op asked awaited reply)).node.last_call ≡ (w.node a).last_call = ap
      (λ (x : Node). x.last_call) (node_answer_op o.bound a op reply (enter (Entry.Done a) (begun (w.node a)))) in
      omega (arith, same)
  last_grows (GivesUpLock c r granted) = omega (arith, (same_refuse o.bound a c granted (w.node a)).last)
  last_grows _ = omega arith

  gone_turned : (t : Option Taken) (u : Turn) (p : Process) → ((s : ℕ) → is_dead (w.node a).watch s ≡ true
      → is_dead u.node.watch s ≡ true) → is_no_more w p ≡ true → is_no_more (turned a t u w) p ≡ true
  gone_turned t u p dead h = by_test a (λ c t. (left w c || is_dead (w.node c).watch p.serial) ≡ true
      → (left w c || is_dead (if t then u.node else w.node c).watch p.serial) ≡ true)
      (λ k. go (left w a) (is_dead (w.node a).watch p.serial) refl k) (λ x ne k. k) p.node h
    where
      go : (b d : Bool) → is_dead (w.node a).watch p.serial ≡ d → (b || d) ≡ true
          → (b || is_dead u.node.watch p.serial) ≡ true
      go true d e k = refl
      go false true e k = dead p.serial e
      go false false e k = cc

  -- who is gone stays gone
  pub gone_keeps : (r : Rule) (p : Process) → is_no_more w p ≡ true → is_no_more (effect o a r w) p ≡ true
  gone_keeps Leaves p h = go (p.node == a) (left w p.node) (is_dead (w.node p.node).watch p.serial)
      (gone_turned None (turn_by o a w Leaves) p (λ s k. k) h)
    where
      go : (b c d : Bool) → (c || is_dead (at w.node a (turn_by o a w Leaves).node p.node).watch p.serial) ≡ true
          → ((if b then true else c) || is_dead (at w.node a (turn_by o a w Leaves).node p.node).watch p.serial) ≡ true
      go true c d k = refl
      go false c d k = k
  gone_keeps r p h = gone_turned (takes o a r) (turn_by o a w r) p (dead_grows r) h

-- whether a reply that is kept isn't `true`
abbrev pub is_fine_reply : Option Reply → Bool
is_fine_reply None = true
is_fine_reply (Some r) = not (is_reply r True)

abbrev pub is_fine : Current → Bool
is_fine (Current.Writing op asked awaited reply) = is_fine_reply reply
is_fine _ = true

-- no name call is answered `true`
pub not_true_reply : (members : Nodes) (t : Table) (call : NameCall) → is_reply (reply_to members t call) True ≡ false
not_true_reply members t (Register e) = go (not (members e.owner.node)) (is_some (get e.name t) || owns e.owner t)
  where
    go : (b c : Bool) → is_reply (if b then Reply.UnknownNode else (if c then Reply.No else Reply.Yes)) True ≡ false
    go true c = refl
    go false true = refl
    go false false = refl
not_true_reply members t (ReRegister e) = go (not (members e.owner.node))
  where
    go : (b : Bool) → is_reply (if b then Reply.UnknownNode else Reply.Yes) True ≡ false
    go true = refl
    go false = refl
not_true_reply members t (Unregister x) = refl

-- no registrar is to answer `true`
abbrev pub Replying : World → Type 0
Replying w = (c : ℕ) → is_fine (w.node c).current ≡ true

pub replying_opens : (o : Opening) → Replying (opening_world o)
replying_opens o c = refl

module _ (o : Opening) (a : ℕ) (w : World) where
  fine_keeps : (r : Rule) → May o a w r → is_fine (w.node a).current ≡ true
      → is_fine (turn_by o a w r).node.current ≡ true
  fine_keeps (Begins op ops) m h = refl
  fine_keeps (BeginsStrike s) m h = refl
  fine_keeps (Retries op) m h = refl
  fine_keeps (AsksJoin k j ops) m h = refl
  fine_keeps (HearsAnswer f id g op r) m h = refl
  fine_keeps (MarksDown d op r) m h = refl
  fine_keeps (GivesUp op r s) m h = refl
  fine_keeps (Grants k call r) m h = ap not (not_true_reply (w.node a).replica.members (w.node a).replica.table call)
  fine_keeps (Denies k call r) m h = refl
  fine_keeps (Strikes p r) m h = refl
  fine_keeps (Admits j pairs r) m h = refl
  fine_keeps (Passes j pairs r) m h = refl
  fine_keeps (CountsApplied f op asked awaited reply) m h = sym (ap is_fine m.tested.1) ∙ h
  fine_keeps (CountsDown d op asked awaited reply) m h = sym (ap is_fine m.tested.1) ∙ h
  fine_keeps (Finishes op asked awaited reply) m h = refl
  fine_keeps (EndsJoin f k) m h = refl
  fine_keeps (IsWelcomed f k members pairs told fate) m h = refl
  fine_keeps (LosesContact k j) m h = refl
  fine_keeps (Judges f id p) m h = ap is_fine (same_judge o.bound a f (join_number w) id p
      (is_free_for id p (w.node a).locks) (w.node a)).current ∙ h
  fine_keeps (TakesBack f id p ack) m h = ap is_fine (same_take_back o.bound a f (join_number w) id p ack
      (w.node a)).current ∙ h
  fine_keeps (HearsLock f id g c r) m h = ap is_fine (same_ask_rest o.bound a f g (Letter.SetLock c.id c.holder) r
      (w.node a)).current ∙ h
  fine_keeps (GivesUpLock c r granted) m h = ap is_fine (same_refuse o.bound a c granted (w.node a)).current ∙ h
  fine_keeps _ m h = h

  replying_turned : (t : Option Taken) (u : Turn) → Replying w → is_fine u.node.current ≡ true
      → Replying (turned a t u w)
  replying_turned t u R h c = by_test a (λ c t. is_fine (w.node c).current ≡ true
      → is_fine (if t then u.node else w.node c).current ≡ true) (λ k. h) (λ x ne k. k) c (R c)

  pub replying_keeps : (r : Rule) → May o a w r → Replying w → Replying (effect o a r w)
  replying_keeps Leaves m R = replying_turned None (turn_by o a w Leaves) R (fine_keeps Leaves m (R a))
  replying_keeps r m R = replying_turned (takes o a r) (turn_by o a w r) R (fine_keeps r m (R a))
