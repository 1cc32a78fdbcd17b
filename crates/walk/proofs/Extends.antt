-- A rule adds to what was made before it in a step, and reads nothing of that but the node.
use Rattle.std.proofs.Common.{ℕ, Bool, true, false, ◌≡◌, Some, refl, sym, arith}
use Rattle.std.specs.Prelude.{not, ◌&&◌, if◌then◌else◌}
use Rattle.std.proofs.lemmas.List.{append-nil, append_assoc}
use Rattle.protocol_model.specs.Round.{answer, opens, rest}
use Rattle.protocol_model.specs.Letter.{Letter, Global}
use Rattle.protocol_model.specs.LockTable.{grant, is_free_for}
use Rattle.protocol_model.specs.Node.{Op, Current, LockPhase}
use Rattle.protocol_model.specs.Turn.{Turn, begun, at_work, keep_call, with_locks, send, send_all}
use Rattle.protocol_model.specs.Registrar.{registrar}
use Rattle.protocol_model.specs.Client.{in_phase, close_call, give_lock, is_spent}
use Rattle.protocol_model.specs.World.{Opening}
use Rattle.moves.proofs.Rules
use Rattle.walk.proofs.Worlds.{onto, same_turn}

-- what a rule makes behind a turn is that turn, and then what it makes of the node alone
pub turn_extended : (o : Opening) (a : ℕ) (number : ℕ → ℕ) (r : Rules.Rule) (u : Turn)
    → Rules.made o a number r u ≡ onto u (Rules.made o a number r (begun u.node))
turn_extended o a number (Rules.HearsAnswer f id granted op r) u = go (opens f granted r)
  where
    part : Bool → Turn → Turn
    part t x =
        at_work (Current.Asking op (answer f granted r))
        (if t then send_all o.bound (λ y. rest r y && not (x.node.replica.told y))
        (Letter.SetLock (Global a) (registrar a)) x else x)

    go : (t : Bool) → part t u ≡ onto u (part t (begun u.node))
    go true = same_turn _ _ refl refl (sym (append-nil _)) (sym (append-nil _))
    go false = same_turn _ _ refl (sym (append-nil _)) (sym (append-nil _)) (sym (append-nil _))
turn_extended o a number (Rules.HearsLock f id granted c r) u = go (opens f granted r)
  where
    part : Bool → Turn → Turn
    part t x =
        keep_call (in_phase (LockPhase.Asking (answer f granted r)) c)
        (if t then send_all o.bound (λ y. rest r y && not (x.node.replica.told y)) (Letter.SetLock c.id c.holder) x
        else x)

    go : (t : Bool) → part t u ≡ onto u (part t (begun u.node))
    go true = same_turn _ _ refl refl (sym (append-nil _)) (sym (append-nil _))
    go false = same_turn _ _ refl (sym (append-nil _)) (sym (append-nil _)) (sym (append-nil _))
turn_extended o a number (Rules.Judges f id p) u = go (is_free_for id p u.node.locks)
  where
    part : Bool → Turn → Turn
    part t x = send f (Letter.LockAnswer id p t) (if t then with_locks (grant id p) x else x)

    go : (t : Bool) → part t u ≡ onto u (part t (begun u.node))
    go true = same_turn _ _ refl refl (sym (append-nil _)) (sym (append-nil _))
    go false = same_turn _ _ refl refl (sym (append-nil _)) (sym (append-nil _))
turn_extended o a number (Rules.TakesBack f id p true) u = same_turn _ _ refl refl (sym (append-nil _)) (sym (append-nil _))
turn_extended o a number (Rules.TakesBack f id p false) u =
    same_turn _ _ refl (sym (append-nil _)) (sym (append-nil _)) (sym (append-nil _))
turn_extended o a number (Rules.Finishes (Op.Name k call) asked awaited (Some reply)) u = same_turn _ _ refl refl refl refl
turn_extended o a number (Rules.GivesUpLock c r granted) u = go (is_spent c.retries)
  where
    part : Bool → Turn → Turn
    part t x = if t then close_call o.bound a c false (give_lock o.bound a c granted x)
        else keep_call (in_phase LockPhase.Waiting c) (give_lock o.bound a c granted x)

    go : (t : Bool) → part t u ≡ onto u (part t (begun u.node))
    go true = same_turn _ _ refl refl (sym (append-nil _)) refl
    go false = same_turn _ _ refl refl (sym (append-nil _)) (sym (append-nil _))
turn_extended o a number _ u =
    same_turn _ _ refl (grind (arith, append-nil, append_assoc)) (grind (arith, append-nil, append_assoc))
    (grind (arith, append-nil, append_assoc))
