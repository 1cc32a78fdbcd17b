-- A node asks to join at most once, and only while it is lone.
use Rattle.std.proofs.Common.{ℕ, Bool, true, false, ◌≡◌, ◌+◌, ◌<◌, Some, None, List, [], ◌∷◌, ◌++◌, refl, sym, subst, ap, ◌∙◌, arith}
use Rattle.std.specs.Prelude.{◌&&◌, ◌||◌, not, if◌then◌else◌}
use Rattle.std.specs.List.{list_any}
use Rattle.registry_model.specs.Process.{at}
use Rattle.registry_model.specs.Registry.{Replica}
use Rattle.registry_model.specs.Settlement.{Settled}
use Rattle.protocol_model.specs.Round.{answer, opens, rest}
use Rattle.protocol_model.specs.Letter.{Letter, Global}
use Rattle.protocol_model.specs.LockTable.{is_free_for, grant}
use Rattle.protocol_model.specs.Node.{Node, Op, Current, LockPhase}
use Rattle.protocol_model.specs.Event.{is_join, is_joining}
use Rattle.protocol_model.specs.Turn.{begun, at_work, with_locks, keep_call, send_all}
use Rattle.protocol_model.specs.Registrar.{registrar}
use Rattle.protocol_model.specs.Client.{in_phase, close_call, give_lock, is_spent}
use Rattle.protocol_model.specs.Reading.{with_member, admitted}
use Rattle.protocol_model.specs.World.{Opening, World, in_cluster, join_number, opening_world}
use Rattle.registry_model.proofs.Updates.{by_test}
use Rattle.moves.proofs.Rules
use Rattle.moves.proofs.Rules.{Rule}
use Rattle.moves.proofs.Writes.{wrote_all-keeps}
use Rattle.walk.proofs.Orders.{effect-node}

-- one where it is so
abbrev pub one_if : Bool → ℕ
one_if t = if t then 1 else 0

-- how many joins wait
abbrev pub joins_of : List Op → ℕ
joins_of [] = 0
joins_of (op ∷ ops) = one_if (is_join op) + joins_of ops

-- the joins that a node has asked for or waits with, and the one that was granted
abbrev pub joins_at : Node → ℕ
joins_at v = one_if (is_joining v.current) + joins_of v.queue + one_if v.replica.joined

-- each node has at most one
abbrev pub JoinsOnce : World → Type 0
JoinsOnce w = (a : ℕ) → joins_at (w.node a) < 2

-- one more at the back of the queue
joins_of-push : (ops : List Op) (op : Op) → joins_of (ops ++ op ∷ []) ≡ joins_of ops + one_if (is_join op)
joins_of-push [] op = omega arith
joins_of-push (x ∷ ops) op = let rec : joins_of (ops ++ op ∷ []) ≡ joins_of ops + one_if (is_join op) =
    joins_of-push ops op in omega (arith, rec)

-- a queue without joins
joins_of-none : (ops : List Op) → list_any is_join ops ≡ false → joins_of ops ≡ 0
joins_of-none [] e = refl
joins_of-none (op ∷ ops) e = go (is_join op) (list_any is_join ops) e (joins_of-none ops)
  where
    go : (t s : Bool) → (t || s) ≡ false → (s ≡ false → joins_of ops ≡ 0) → one_if t + joins_of ops ≡ 0
    go true s q h = cc
    go false s q h = omega (arith, h q)

-- who admits another is joined, or not, as before
pub admitted-joined : (a j : ℕ) (settled : Settled) (v : Replica) → (admitted a j settled v).joined ≡ v.joined
admitted-joined a j settled v = (wrote_all-keeps settled (with_member j v)).joined ∙ go (v.told j)
  where
    go : (t : Bool) → (if t then v else record v { members = at v.members j true }).joined ≡ v.joined
    go true = refl
    go false = refl

-- a registrar that waits for no contact
calm : (v : Node) → joins_at v < 2 → 0 + joins_of v.queue + one_if v.replica.joined < 2
calm v h = omega (arith, h)

module _ (o : Opening) (a : ℕ) (w : World) where
  -- the joins of the node that a rule is applied at
  joins_turn : (number : ℕ → ℕ) (r : Rule) (v : Node) → joins_at v < 2 → Rules.Tested o a w v r
      → joins_at (Rules.made o a number r (begun v)).node < 2
  joins_turn number (Rules.CallsName c) v h t =
      let more : joins_of (v.queue ++ Op.Name (v.last_call + 1) c ∷ []) ≡ joins_of v.queue + 0 =
      joins_of-push v.queue (Op.Name (v.last_call + 1) c) in
      omega (arith, h, more)
  joins_turn number (Rules.QueuesJoin f pairs) v h t =
      let more : joins_of (v.queue ++ Op.Admission f pairs ∷ []) ≡ joins_of v.queue + 0 =
      joins_of-push v.queue (Op.Admission f pairs) in
      omega (arith, h, more)
  joins_turn number (Rules.CallsJoin m) v h t =
      go v.replica.joined (is_joining v.current) (list_any is_join v.queue) t.0 (joins_of-none v.queue)
    where
      more : joins_of (v.queue ++ Op.Join (v.last_call + 1) m ∷ []) ≡ joins_of v.queue + 1
      more = joins_of-push v.queue (Op.Join (v.last_call + 1) m)

      go : (j c q : Bool) → (j || c || q) ≡ false → (q ≡ false → joins_of v.queue ≡ 0)
          → one_if c + joins_of (v.queue ++ Op.Join (v.last_call + 1) m ∷ []) + one_if j < 2
      go true c q e none = cc
      go false true q e none = cc
      go false false true e none = cc
      go false false false e none = omega (arith, more, none refl)
  joins_turn number (Rules.Begins op ops) v h t =
      let front : joins_of v.queue ≡ one_if (is_join op) + joins_of ops = ap joins_of t.1 in omega (arith, h, front)
  joins_turn number (Rules.BeginsStrike serial) v h t = calm v h
  joins_turn number (Rules.Retries op) v h t = calm v h
  joins_turn number (Rules.AsksJoin k m ops) v h t = let front : joins_of v.queue ≡ 1 + joins_of ops =
      ap joins_of t.1 in omega (arith, h, front)
  joins_turn number (Rules.SkipsJoin k m ops) v h t = let front : joins_of v.queue ≡ 1 + joins_of ops =
      ap joins_of t.1 in omega (arith, h, front)
  joins_turn number (Rules.HearsAnswer f id granted op r) v h t = go (opens f granted r)
    where
      go : (s : Bool)
          → joins_at (at_work (Current.Asking op (answer f granted r))
          (if s then send_all o.bound (λ x. rest r x && not (v.replica.told x))
          (Letter.SetLock (Global a) (registrar a)) (begun v) else begun v)).node < 2
      go true = calm v h
      go false = calm v h
  joins_turn number (Rules.MarksDown d op r) v h t = calm v h
  joins_turn number (Rules.GivesUp op r granted) v h t = calm v h
  joins_turn number (Rules.Grants k call r) v h t = calm v h
  joins_turn number (Rules.Denies k call r) v h t = calm v h
  joins_turn number (Rules.Strikes p r) v h t = calm v h
  joins_turn number (Rules.Admits j pairs r) v h t = calm v h
  joins_turn number (Rules.Passes j pairs r) v h t = calm v h
  joins_turn number (Rules.CountsApplied f op asked awaited reply) v h t = calm v h
  joins_turn number (Rules.CountsDown d op asked awaited reply) v h t = calm v h
  joins_turn number (Rules.Finishes (Op.Name k call) asked awaited (Some reply)) v h t = calm v h
  joins_turn number (Rules.Finishes (Op.Name k call) asked awaited None) v h t = calm v h
  joins_turn number (Rules.Finishes (Op.Strike p) asked awaited reply) v h t = calm v h
  joins_turn number (Rules.Finishes (Op.Join k m) asked awaited reply) v h t = calm v h
  joins_turn number (Rules.Finishes (Op.Admission j pairs) asked awaited reply) v h t = calm v h
  joins_turn number (Rules.EndsJoin f k) v h t = calm v h
  joins_turn number (Rules.LosesContact k m) v h t = calm v h
  joins_turn number (Rules.IsAdmitted f j settled) v h t =
      subst (λ (b : Bool). one_if (is_joining v.current) + joins_of v.queue + one_if b < 2)
      (sym (admitted-joined a j settled v.replica)) h
  joins_turn number (Rules.IsWelcomed f k members pairs told fate) v h t =
      let waits : one_if (is_joining v.current) ≡ 1 = ap (λ (c : Current). one_if (is_joining c)) t.1 in
      omega (arith, h, waits)
  joins_turn number (Rules.HearsLock f id granted c r) v h t = go (opens f granted r)
    where
      go : (s : Bool)
          → joins_at (keep_call (in_phase (LockPhase.Asking (answer f granted r)) c)
          (if s then send_all o.bound (λ x. rest r x && not (v.replica.told x)) (Letter.SetLock c.id c.holder) (begun v)
          else begun v)).node
          < 2
      go true = h
      go false = h
  joins_turn number (Rules.GivesUpLock c r granted) v h t = go (is_spent c.retries)
    where
      go : (s : Bool)
          → joins_at (if s then close_call o.bound a c false (give_lock o.bound a c granted (begun v))
          else keep_call (in_phase LockPhase.Waiting c) (give_lock o.bound a c granted (begun v))).node
          < 2
      go true = h
      go false = h
  joins_turn number (Rules.Judges f id p) v h t = go (is_free_for id p v.locks)
    where
      go : (s : Bool) → joins_at (if s then with_locks (grant id p) (begun v) else begun v).node < 2
      go true = h
      go false = h
  joins_turn number (Rules.TakesBack f id p true) v h t = h
  joins_turn number _ v h t = h

-- every rule keeps that each node asks to join at most once
pub joins_once_keeps : (o : Opening) (a : ℕ) (w : World) (r : Rule) → JoinsOnce w → Rules.May o a w r
    → JoinsOnce (Rules.effect o a r w)
joins_once_keeps o a w r h m = subst (λ (f : ℕ → Node). (x : ℕ) → joins_at (f x) < 2) (sym (effect-node o a r w))
    (by_test a (λ x t. joins_at (if t then (Rules.turn_by o a w r).node else w.node x) < 2)
    (joins_turn o a w (join_number w) r (w.node a) (h a) m.tested)
    (λ x ne. h x))

-- at first nobody asks
pub joins_once_opens : (o : Opening) → JoinsOnce (opening_world o)
joins_once_opens o a = go (in_cluster o a)
  where
    go : (t : Bool) → 0 + 0 + one_if t < 2
    go true = omega arith
    go false = omega arith

-- so does every chain of rules
pub joins_once_chain : (o : Opening) (a : ℕ) (rs : List Rule) (w : World) → JoinsOnce w → Rules.MayAll o a rs w
    → JoinsOnce (Rules.effects o a rs w)
joins_once_chain o a [] w h m = h
joins_once_chain o a (r ∷ rs) w h m =
    joins_once_chain o a rs (Rules.effect o a r w) (joins_once_keeps o a w r h m.0) m.1

-- a node that waits for a contact isn't joined
pub joining_lone : (w : World) → JoinsOnce w → (a k f : ℕ) → (w.node a).current ≡ Current.Joining k f
    → (w.node a).replica.joined ≡ false
joining_lone w h a k f e = go (w.node a).replica.joined refl
  where
    go : (t : Bool) → (w.node a).replica.joined ≡ t → t ≡ false
    go false q = refl
    go true q =
        let waits : one_if (is_joining (w.node a).current) ≡ 1 = ap (λ (c : Current). one_if (is_joining c)) e in
        let joined : one_if (w.node a).replica.joined ≡ 1 = ap one_if q in
        let all : one_if (is_joining (w.node a).current) + joins_of (w.node a).queue + one_if
        (w.node a).replica.joined < 2 = h a in
        absurd (omega (arith, waits, joined, all))
