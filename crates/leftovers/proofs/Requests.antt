-- The letters by which clients' locks are asked for and granted or denied, and the rules that send them.
use Rattle.std.proofs.Common.{ℕ, Bool, true, false, ◌==◌, ◌≡◌, Some, None, refl}
use Rattle.std.specs.Prelude.{not, ◌&&◌, if◌then◌else◌}
use Rattle.registry_model.specs.Process.{Nodes, nodes_of}
use Rattle.protocol_model.specs.Letter.{Letter, Global}
use Rattle.protocol_model.specs.Round.{opens, rest, answer}
use Rattle.protocol_model.specs.Node.{Node, Op, Current, LockPhase}
use Rattle.protocol_model.specs.Turn.{begun, send_all, at_work, keep_call}
use Rattle.protocol_model.specs.Registrar.{registrar}
use Rattle.protocol_model.specs.Client.{close_call, give_lock, is_spent, in_phase}
use Rattle.protocol_model.specs.World.{Opening, World}
use Rattle.headline.proofs.Sends.{to_each}
use Rattle.headline.proofs.SendTests.{all_pass, pass_append, pass_each}
use Rattle.headline.proofs.Rules
use Rattle.headline.proofs.Rules.{Rule}

-- the letter neither asks for a client's lock nor answers who asked for one
abbrev pub is_apart : Letter → Bool
is_apart (Letter.SetLock id p) = p.serial == 0
is_apart (Letter.LockAnswer id p granted) = false
is_apart _ = true

-- the rules by which a lock call asks, and by which a node answers
abbrev pub is_exchange : Rule → Bool
is_exchange (Rules.AsksLock c) = true
is_exchange (Rules.HearsLock f id granted c r) = true
is_exchange (Rules.Judges f id p) = true
is_exchange _ = false

module _ (o : Opening) (a : ℕ) (w : World) where
  abbrev v : Node
  v = w.node a

  to_all : (s : Nodes) (l : Letter) → is_apart l ≡ true → all_pass is_apart (to_each (nodes_of o.bound s) l) ≡ true
  to_all s l h = pass_each is_apart (nodes_of o.bound s) l h

  -- no other rule sends such a letter
  pub sends_apart : (r : Rule) → is_exchange r ≡ false → all_pass is_apart (Rules.turn_by o a w r).sends ≡ true
  sends_apart (Rules.AsksLock c) h = cc
  sends_apart (Rules.HearsLock f id granted c r) h = cc
  sends_apart (Rules.Judges f id p) h = cc
  sends_apart (Rules.Exits p) h = to_all v.replica.members (Letter.ReleaseOf p) refl
  sends_apart (Rules.Kills f l p receivers) h = to_all receivers (Letter.ReleaseOf p) refl
  sends_apart (Rules.HearsAnswer f id granted op r) h = go (opens f granted r)
    where
      go : (t : Bool) → all_pass is_apart (at_work (Current.Asking op (answer f granted r))
          (if t then send_all o.bound (λ y. rest r y && not (v.replica.told y)) (Letter.SetLock (Global a) (registrar a))
          (begun v) else begun v)).sends ≡ true
      go true = to_all (λ y. rest r y && not (v.replica.told y)) (Letter.SetLock (Global a) (registrar a)) refl
      go false = refl
  sends_apart (Rules.GivesUp op r granted) h = to_all granted (Letter.GiveBack (Global a) (registrar a) false) refl
  sends_apart (Rules.Grants k call r) h = to_all v.replica.members _ refl
  sends_apart (Rules.Denies k call r) h = to_all _ (Letter.GiveBack (Global a) (registrar a) false) refl
  sends_apart (Rules.Strikes p r) h = to_all v.replica.members _ refl
  sends_apart (Rules.Admits j pairs r) h = pass_append is_apart (to_each (nodes_of o.bound v.replica.members) _) _
      (to_all v.replica.members _ refl) refl
  sends_apart (Rules.Passes j pairs r) h = to_all _ (Letter.GiveBack (Global a) (registrar a) false) refl
  sends_apart (Rules.Finishes (Op.Name k call) asked awaited (Some reply)) h =
      to_all _ (Letter.GiveBack (Global a) (registrar a) false) refl
  sends_apart (Rules.Finishes (Op.Name k call) asked awaited None) h =
      to_all _ (Letter.GiveBack (Global a) (registrar a) false) refl
  sends_apart (Rules.Finishes op asked awaited reply) h =
      to_all _ (Letter.GiveBack (Global a) (registrar a) false) refl
  sends_apart (Rules.TakesBack f id p true) h = refl
  sends_apart (Rules.TakesBack f id p false) h = refl
  sends_apart (Rules.GivesUpLock c r granted) h = go (is_spent c.retries)
    where
      go : (t : Bool) → all_pass is_apart (if t
          then close_call o.bound a c false (give_lock o.bound a c granted (begun v))
          else keep_call (in_phase LockPhase.Waiting c) (give_lock o.bound a c granted (begun v))).sends ≡ true
      go true = to_all granted (Letter.GiveBack c.id c.holder false) refl
      go false = to_all granted (Letter.GiveBack c.id c.holder false) refl
  sends_apart (Rules.DeletesLock c) h = to_all _ (Letter.GiveBack c.id c.holder true) refl
  sends_apart Rules.Leaves h = to_all _ Letter.Down refl
  sends_apart _ h = refl
