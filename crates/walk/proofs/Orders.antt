-- The lock calls of each node stay ordered by serial.
use mathlib.Core.Logic.{◌⊎◌}
use Rattle.std.proofs.Common.{ℕ, Bool, true, false, ◌≡◌, Option, Some, None, List, [], ◌∷◌, refl, sym, subst, ap, ◌∙◌, inl, inr}
use Rattle.std.specs.Prelude.{◌&&◌, not, if◌then◌else◌}
use Rattle.registry_model.specs.Process.{at}
use Rattle.protocol_model.specs.Round.{begin, answer, down, opens, rest}
use Rattle.protocol_model.specs.Letter.{Letter, Global}
use Rattle.protocol_model.specs.LockTable.{is_free_for, grant}
use Rattle.protocol_model.specs.Node.{Node, Op, LockPhase, LockCall, targets}
use Rattle.protocol_model.specs.Turn.{begun, with_locks, keep_call, send_all}
use Rattle.protocol_model.specs.Registrar.{registrar}
use Rattle.protocol_model.specs.Client.{in_phase, close_call, give_lock, is_spent}
use Rattle.protocol_model.specs.World.{Opening, World, join_number, opening_world, apply}
use Rattle.registry_model.proofs.Updates.{by_test}
use Rattle.moves.proofs.Rules
use Rattle.moves.proofs.Rules.{Rule, Taken, IsNew, IsRetried, IsOpen, is_ordered, Ordered}
use Rattle.walk.proofs.Calls.{is_ordered-drop_call, is_ordered-put_call, ordered_found}
use Rattle.walk.proofs.LockRounds.{IsOwn}
use Rattle.walk.proofs.Events.{live_own}

-- no nodes change where a letter is taken
pub without_letter-node : (o : Opening) (a : ℕ) (t : Option Taken) (w : World)
    → (Rules.without_letter o a t w).node ≡ w.node
without_letter-node o a None w = refl
without_letter-node o a (Some t) w = refl

-- nor where a node is closed out
pub closed_by-node : (o : Opening) (a : ℕ) (r : Rule) (w : World) → (Rules.closed_by o a r w).node ≡ w.node
closed_by-node o a Rules.Leaves w = refl
closed_by-node o a _ w = refl

-- a rule changes its own node alone
pub effect-node : (o : Opening) (a : ℕ) (r : Rule) (w : World)
    → (Rules.effect o a r w).node ≡ at w.node a (Rules.turn_by o a w r).node
effect-node o a r w =
    closed_by-node o a r (apply a (Rules.turn_by o a w r) (Rules.without_letter o a (Rules.takes o a r) w))
    ∙ ap (λ (f : ℕ → Node). at f a (Rules.turn_by o a w r).node) (without_letter-node o a (Rules.takes o a r) w)

module _ (o : Opening) (a : ℕ) (w : World) where
  -- an open call is one of this node's
  own_open : (v : Node) (c : LockCall) (now : LockPhase) → is_ordered a v.calls ≡ true → IsOpen v c now
      → IsOwn a c.holder
  own_open v c now h e = ordered_found a c.holder v.calls c h e.call

  -- so is one that begins, or begins anew
  own_begun : (v : Node) (c : LockCall) → is_ordered a v.calls ≡ true → IsNew a v c ⊎ IsRetried v c → IsOwn a c.holder
  own_begun v c h (inl e) = live_own a v.watch c.holder e.live
  own_begun v c h (inr e) = subst (IsOwn a) e.holder (ordered_found a c.holder v.calls e.before h e.open_call)

  -- where a call is put, with its phase of now
  put : (v : Node) (c : LockCall) (now : LockPhase) → IsOwn a c.holder → is_ordered a v.calls ≡ true
      → is_ordered a (keep_call (in_phase now c) (begun v)).node.calls ≡ true
  put v c now own h = is_ordered-put_call a (in_phase now c) v.calls own.0 own.1 h

  -- the lock calls of the node that a rule is applied at
  ordered_turn : (number : ℕ → ℕ) (r : Rule) (v : Node) → is_ordered a v.calls ≡ true → Rules.Tested o a w v r
      → is_ordered a (Rules.made o a number r (begun v)).node.calls ≡ true
  ordered_turn number (Rules.Exits p) v h t = is_ordered-drop_call a p v.calls h
  ordered_turn number (Rules.Kills f l p receivers) v h t = is_ordered-drop_call a p v.calls h
  ordered_turn number (Rules.FailsLock c) v h t = is_ordered-drop_call a c.holder v.calls h
  ordered_turn number (Rules.WinsLock c r) v h t = is_ordered-drop_call a c.holder v.calls h
  ordered_turn number (Rules.DeletesNothing c) v h t = is_ordered-drop_call a c.holder v.calls h
  ordered_turn number (Rules.EndsDeletion f c owing) v h t = is_ordered-drop_call a c.holder v.calls h
  ordered_turn number (Rules.EndsDeletionDown d c owing) v h t = is_ordered-drop_call a c.holder v.calls h
  ordered_turn number (Rules.AsksLock c) v h t =
      put v c (LockPhase.Asking (begin o.bound (targets v.replica.members c.target))) (own_begun v c h t.0) h
  ordered_turn number (Rules.DeletesLock c) v h t =
      put v c (LockPhase.Deleting (targets v.replica.members c.target)) (live_own a v.watch c.holder t.0.live) h
  ordered_turn number (Rules.MarksLockDown d c r) v h t =
      put v c (LockPhase.Asking (down d r)) (own_open v c (LockPhase.Asking r) h t.1) h
  ordered_turn number (Rules.CountsGivenBack f c owing) v h t =
      put v c (LockPhase.Deleting (at owing f false)) (own_open v c (LockPhase.Deleting owing) h t.1) h
  ordered_turn number (Rules.CountsLockDown d c owing) v h t =
      put v c (LockPhase.Deleting (at owing d false)) (own_open v c (LockPhase.Deleting owing) h t.1) h
  ordered_turn number (Rules.HearsLock f id granted c r) v h t = go (opens f granted r)
    where
      go : (s : Bool)
          → is_ordered a (keep_call (in_phase (LockPhase.Asking (answer f granted r)) c)
          (if s then send_all o.bound (λ x. rest r x && not (v.replica.told x)) (Letter.SetLock c.id c.holder) (begun v)
          else begun v)).node.calls
          ≡ true
      go true = put v c (LockPhase.Asking (answer f granted r)) (own_open v c (LockPhase.Asking r) h t.2) h
      go false = put v c (LockPhase.Asking (answer f granted r)) (own_open v c (LockPhase.Asking r) h t.2) h
  ordered_turn number (Rules.GivesUpLock c r granted) v h t = go (is_spent c.retries)
    where
      go : (s : Bool)
          → is_ordered a (if s then close_call o.bound a c false (give_lock o.bound a c granted (begun v))
          else keep_call (in_phase LockPhase.Waiting c) (give_lock o.bound a c granted (begun v))).node.calls
          ≡ true
      go true = is_ordered-drop_call a c.holder v.calls h
      go false = put v c LockPhase.Waiting (own_open v c (LockPhase.Asking r) h t.0) h
  ordered_turn number (Rules.HearsAnswer f id granted op r) v h t = go (opens f granted r)
    where
      go : (s : Bool)
          → is_ordered a
          (if s then send_all o.bound (λ x. rest r x && not (v.replica.told x))
          (Letter.SetLock (Global a) (registrar a)) (begun v) else begun v).node.calls
          ≡ true
      go true = h
      go false = h
  ordered_turn number (Rules.Judges f id p) v h t = go (is_free_for id p v.locks)
    where
      go : (s : Bool) → is_ordered a (if s then with_locks (grant id p) (begun v) else begun v).node.calls ≡ true
      go true = h
      go false = h
  ordered_turn number (Rules.TakesBack f id p true) v h t = h
  ordered_turn number (Rules.Finishes (Op.Name k call) asked awaited (Some reply)) v h t = h
  ordered_turn number _ v h t = h

-- the lock calls stay ordered by every rule
pub ordered_keeps : (o : Opening) (a : ℕ) (w : World) (r : Rule) → Ordered w → Rules.May o a w r
    → Ordered (Rules.effect o a r w)
ordered_keeps o a w r h m =
    subst (λ (f : ℕ → Node). (x : ℕ) → is_ordered x (f x).calls ≡ true) (sym (effect-node o a r w))
    (by_test a (λ x t. is_ordered x (if t then (Rules.turn_by o a w r).node else w.node x).calls ≡ true)
    (ordered_turn o a w (join_number w) r (w.node a) (h a) m.tested)
    (λ x ne. h x))

-- at first there are none
pub ordered_opens : (o : Opening) → Ordered (opening_world o)
ordered_opens o a = refl

-- and by every chain of rules
pub ordered_chain : (o : Opening) (a : ℕ) (rs : List Rule) (w : World) → Ordered w → Rules.MayAll o a rs w
    → Ordered (Rules.effects o a rs w)
ordered_chain o a [] w h m = h
ordered_chain o a (r ∷ rs) w h m = ordered_chain o a rs (Rules.effect o a r w) (ordered_keeps o a w r h m.0) m.1
