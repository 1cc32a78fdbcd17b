-- What each rule does to the open lock calls and to the numbers: most do nothing, and some move one call on or end it.
use Rattle.std.proofs.Common.{ℕ, Bool, true, false, ◌==◌, ◌≡◌, Option, Some, None, refl, sym, ap, ◌∙◌, subst}
use Rattle.std.specs.Prelude.{not, ◌&&◌, ◌||◌, if◌then◌else◌}
use Rattle.std.proofs.lemmas.Bool.{eqb-true}
use Rattle.std.proofs.Math.Bool.{or-true}
use Rattle.registry_model.specs.Process.{Process, is_process, Nodes}
use Rattle.registry_model.specs.History.{Entry}
use Rattle.protocol_model.specs.Letter.{Id, Global, Letter}
use Rattle.protocol_model.specs.LockTable.{is_free_for}
use Rattle.protocol_model.specs.Round.{asked}
use Rattle.protocol_model.specs.Watch.{is_dead}
use Rattle.protocol_model.specs.Node.{Node, LockCall, call_of}
use Rattle.protocol_model.specs.Turn.{Turn, begun, enter}
use Rattle.protocol_model.specs.Registrar.{registrar}
use Rattle.protocol_model.specs.ClientLocks.{is_no_more}
use Rattle.protocol_model.specs.World.{Opening, World, left, join_number}
use Rattle.moves.proofs.Rules.{Rule, Taken, May, effect, turn_by}
use Rattle.moves.proofs.Rules.Rule.{Exits, HearsAnswer, Finishes, Judges, TakesBack, Kills, AsksLock, FailsLock, HearsLock, MarksLockDown, WinsLock, GivesUpLock, DeletesLock, DeletesNothing, CountsGivenBack, EndsDeletion, CountsLockDown, EndsDeletionDown, Leaves}
use Rattle.moves.proofs.Indices.{both}
use Rattle.walk.proofs.ChainKinds.{Aside, suits}
use Rattle.client_locks.proofs.Ids.{is_process_same, is_process_self}
use Rattle.client_locks.proofs.Calls.{call_of-drop}
use Rattle.client_locks.proofs.Mail.{turned}
use Rattle.client_locks.proofs.Clients.{Numbers, call_at, part_same, node_here}
use Rattle.client_locks.proofs.Numbers.{num_by, none_if}
use Rattle.client_locks.proofs.Deaths.{dead_now}
use Rattle.client_locks.proofs.Growing.{node_answer_op, same_judge, same_take_back, same_ask_rest}

-- the rules of clients' lock calls that move an open call on, or end it
abbrev pub is_step : Rule → Bool
is_step (HearsLock f id g c r) = true
is_step (MarksLockDown d c r) = true
is_step (WinsLock c r) = true
is_step (GivesUpLock c r s) = true
is_step (CountsGivenBack f c owing) = true
is_step (EndsDeletion f c owing) = true
is_step (CountsLockDown d c owing) = true
is_step (EndsDeletionDown d c owing) = true
is_step _ = false

-- those that change a number, but for deaths and departures
abbrev pub is_counting : Rule → Bool
is_counting (WinsLock c r) = true
is_counting (DeletesLock c) = true
is_counting (DeletesNothing c) = true
is_counting _ = false

-- the calls after a turn that changed one of them
pub call_after : (a : ℕ) (t : Option Taken) (u : Turn) (w : World) (q : Process) (next : Option LockCall) → q.node ≡ a
    → ((p : Process) → call_of p u.node.calls ≡ (if is_process q p then next else call_of p (w.node a).calls))
    → (p : Process) → call_at (turned a t u w) p ≡ (if is_process q p then next else call_at w p)
call_after a t u w q next home calls p = go (is_process q p) refl
  where
    go : (b : Bool) → is_process q p ≡ b → call_at (turned a t u w) p ≡ (if b then next else call_at w p)
    go true e = subst (λ (k : Process). call_at (turned a t u w) k ≡ next) (is_process_same q p e)
        (ap (λ (v : Node). call_of q v.calls) (node_here w a u q.node home) ∙ calls q
        ∙ ap (λ (b : Bool). if b then next else call_of q (w.node a).calls) (is_process_self q))
    go false e = part_same (λ v. call_of p v.calls) w a u (calls p
        ∙ ap (λ (b : Bool). if b then next else call_of p (w.node a).calls) e) p.node

module _ (o : Opening) (a : ℕ) (w : World) (num : Numbers) where
  -- who is dead now is gone
  gone_now : (q : Process) (u : Turn) → q.node ≡ a → is_dead u.node.watch q.serial ≡ true
      → is_no_more (turned a None u w) q ≡ true
  gone_now q u home h = ap (λ (b : Bool). left w q.node || b) (ap (λ (v : Node). is_dead v.watch q.serial)
      (node_here w a u q.node home) ∙ h) ∙ or-true (left w q.node)

  exit_home : (p : Process) → May o a w (Exits p) → p.node ≡ a
  exit_home p m = eqb-true p.node a (both (p.node == a) (not (p.serial == 0))
      (both ((p.node == a) && not (p.serial == 0)) _ m.tested.0).0).0

  kill_home : (f : ℕ) (l : Letter) (p : Process) (receivers : Nodes) → May o a w (Kills f l p receivers) → p.node ≡ a
  kill_home f l p receivers m = eqb-true p.node a (both (p.node == a) (not (p.serial == 0))
      (both ((p.node == a) && not (p.serial == 0)) _ m.tested.4).0).0

  exit_gone : (p : Process) → May o a w (Exits p) → is_no_more (effect o a (Exits p) w) p ≡ true
  exit_gone p m = gone_now p (turn_by o a w (Exits p)) (exit_home p m) (dead_now (w.node a).watch.dead p.serial)

  kill_gone : (f : ℕ) (l : Letter) (p : Process) (receivers : Nodes) → May o a w (Kills f l p receivers)
      → is_no_more (effect o a (Kills f l p receivers) w) p ≡ true
  kill_gone f l p receivers m = gone_now p (turn_by o a w (Kills f l p receivers)) (kill_home f l p receivers m)
      (dead_now (w.node a).watch.dead p.serial)

  -- a process that isn't gone isn't the one that died
  not_it : (q p : Process) (w1 : World) → is_no_more w1 q ≡ true → is_no_more w1 p ≡ false → is_process q p ≡ false
  not_it q p w1 gone up = go (is_process q p) refl
    where
      go : (b : Bool) → is_process q p ≡ b → b ≡ false
      go false e = refl
      go true e = absurd (cc (subst (λ (k : Process). is_no_more w1 k ≡ true) (is_process_same q p e) gone, up))

  -- the numbers stay
  pub nums_same : (r : Rule) → is_counting r ≡ false → May o a w r → (p : Process) (id : Id) (x : ℕ)
      → is_no_more (effect o a r w) p ≡ false → num_by a r w num p id x ≡ num p id x
  nums_same (Exits q) h m p id x up = ap (λ (b : Bool). none_if b (num p id x))
      (not_it q p (effect o a (Exits q) w) (exit_gone q m) up)
  nums_same (Kills f l q receivers) h m p id x up = ap (λ (b : Bool). none_if b (num p id x))
      (not_it q p (effect o a (Kills f l q receivers) w) (kill_gone f l q receivers m) up)
  nums_same Leaves h m p id x up = ap (λ (b : Bool). none_if b (num p id x)) (stays (p.node == a) (left w p.node) _ up)
    where
      stays : (b c d : Bool) → ((if b then true else c) || d) ≡ false → b ≡ false
      stays true c d k = cc
      stays false c d k = refl
  nums_same (WinsLock c r) h m p id x up = cc
  nums_same (DeletesLock c) h m p id x up = cc
  nums_same (DeletesNothing c) h m p id x up = cc
  nums_same _ h m p id x up = refl

  -- a rule of no lock call, where nobody dies
  abbrev is_death : Rule → Bool
  is_death (Exits p) = true
  is_death (Kills f l p receivers) = true
  is_death _ = false

  same_calls : (r : Rule) → suits Aside r ≡ true → is_death r ≡ false → (turn_by o a w r).node.calls ≡ (w.node a).calls
  same_calls (HearsAnswer f id g op r) h k = (same_ask_rest o.bound a f g (Letter.SetLock (Global a) (registrar a)) r
      (w.node a)).calls
  same_calls (Finishes op asked awaited reply) h k = ap (λ (v : Node). v.calls)
      (node_answer_op o.bound a op reply (enter (Entry.Done a) (begun (w.node a))))
  same_calls (Judges f id p) h k = (same_judge o.bound a f (join_number w) id p (is_free_for id p (w.node a).locks)
      (w.node a)).calls
  same_calls (TakesBack f id p ack) h k = (same_take_back o.bound a f (join_number w) id p ack (w.node a)).calls
  same_calls (Exits p) h k = cc
  same_calls (Kills f l p receivers) h k = cc
  same_calls (AsksLock c) h k = cc
  same_calls (FailsLock c) h k = cc
  same_calls (HearsLock f id g c r) h k = cc
  same_calls (MarksLockDown d c r) h k = cc
  same_calls (WinsLock c r) h k = cc
  same_calls (GivesUpLock c r s) h k = cc
  same_calls (DeletesLock c) h k = cc
  same_calls (DeletesNothing c) h k = cc
  same_calls (CountsGivenBack f c owing) h k = cc
  same_calls (EndsDeletion f c owing) h k = cc
  same_calls (CountsLockDown d c owing) h k = cc
  same_calls (EndsDeletionDown d c owing) h k = cc
  same_calls _ h k = refl

  -- a rule of no lock call leaves the call of each process that isn't gone, and begins none
  pub calls_aside : (r : Rule) → suits Aside r ≡ true → May o a w r → (p : Process)
      → is_no_more (effect o a r w) p ≡ false → call_at (effect o a r w) p ≡ call_at w p
  calls_aside (Exits q) h m p up = call_after a None (turn_by o a w (Exits q)) w q None (exit_home q m)
      (λ k. call_of-drop k q (w.node a).calls) p
      ∙ ap (λ (b : Bool). if b then None else call_at w p) (not_it q p (effect o a (Exits q) w) (exit_gone q m) up)
  calls_aside (Kills f l q receivers) h m p up = call_after a None (turn_by o a w (Kills f l q receivers)) w q None
      (kill_home f l q receivers m) (λ k. call_of-drop k q (w.node a).calls) p
      ∙ ap (λ (b : Bool). if b then None else call_at w p) (not_it q p (effect o a (Kills f l q receivers) w)
      (kill_gone f l q receivers m) up)
  calls_aside (AsksLock c) h m p up = cc
  calls_aside (FailsLock c) h m p up = cc
  calls_aside (HearsLock f id g c r) h m p up = cc
  calls_aside (MarksLockDown d c r) h m p up = cc
  calls_aside (WinsLock c r) h m p up = cc
  calls_aside (GivesUpLock c r s) h m p up = cc
  calls_aside (DeletesLock c) h m p up = cc
  calls_aside (DeletesNothing c) h m p up = cc
  calls_aside (CountsGivenBack f c owing) h m p up = cc
  calls_aside (EndsDeletion f c owing) h m p up = cc
  calls_aside (CountsLockDown d c owing) h m p up = cc
  calls_aside (EndsDeletionDown d c owing) h m p up = cc
  calls_aside r h m p up = part_same (λ v. call_of p v.calls) w a (turn_by o a w r)
      (ap (call_of p) (same_calls r h refl)) p.node

  dropped_from : (q p : Process) (d : LockCall) (b : Bool) → (if b then None else call_at w p) ≡ Some d
      → call_at w p ≡ Some d
  dropped_from q p d true e = cc
  dropped_from q p d false e = e

  pub calls_from : (r : Rule) → suits Aside r ≡ true → May o a w r → (p : Process) (d : LockCall)
      → call_at (effect o a r w) p ≡ Some d → call_at w p ≡ Some d
  calls_from (Exits q) h m p d e = dropped_from q p d (is_process q p)
      (sym (call_after a None (turn_by o a w (Exits q)) w q None (exit_home q m)
      (λ k. call_of-drop k q (w.node a).calls) p) ∙ e)
  calls_from (Kills f l q receivers) h m p d e = dropped_from q p d (is_process q p)
      (sym (call_after a None (turn_by o a w (Kills f l q receivers)) w q None (kill_home f l q receivers m)
      (λ k. call_of-drop k q (w.node a).calls) p) ∙ e)
  calls_from (AsksLock c) h m p d e = cc
  calls_from (FailsLock c) h m p d e = cc
  calls_from (HearsLock f id g c r) h m p d e = cc
  calls_from (MarksLockDown i c r) h m p d e = cc
  calls_from (WinsLock c r) h m p d e = cc
  calls_from (GivesUpLock c r s) h m p d e = cc
  calls_from (DeletesLock c) h m p d e = cc
  calls_from (DeletesNothing c) h m p d e = cc
  calls_from (CountsGivenBack f c owing) h m p d e = cc
  calls_from (EndsDeletion f c owing) h m p d e = cc
  calls_from (CountsLockDown i c owing) h m p d e = cc
  calls_from (EndsDeletionDown i c owing) h m p d e = cc
  calls_from r h m p d e = sym (part_same (λ v. call_of p v.calls) w a (turn_by o a w r)
      (ap (call_of p) (same_calls r h refl)) p.node) ∙ e
