-- The invariant of clients' locks, and what keeps it in any turn of a node.
-- num p id x: how often the process p holds the lock at node x.
use Rattle.std.proofs.Common.{ℕ, Bool, true, false, ◌==◌, ◌≡◌, Option, Some, None, refl}
use Rattle.std.specs.Prelude.{not, ◌&&◌, if◌then◌else◌}
use Rattle.std.proofs.lemmas.Bool.{eq-eqb, ne_eqb}
use Rattle.registry_model.specs.Process.{Process, at}
use Rattle.protocol_model.specs.Letter.{Id}
use Rattle.protocol_model.specs.LockTable.{count}
use Rattle.protocol_model.specs.Watch.{is_dead}
use Rattle.protocol_model.specs.Node.{Node, LockPhase, LockCall, call_of}
use Rattle.protocol_model.specs.Turn.{Turn, sent_to}
use Rattle.protocol_model.specs.World.{Opening, in_world, World, left}
use Rattle.moves.proofs.Rules.{Taken, FrontTaken}
use Rattle.moves.proofs.Invariants.{IsUp}
use Rattle.registry_model.proofs.Updates.{by_test}
use Rattle.moves.proofs.Indices.{both, not_true}
use Rattle.client_locks.proofs.LockTables.{Sound}
use Rattle.client_locks.proofs.Rounds.{Rounded}
use Rattle.client_locks.proofs.Sessions.{view, Live}
use Rattle.client_locks.proofs.Mail.{asks, echoes, Moved, all_moved, read_on, sent_on, turned, links_moved, all_named, named_turned, ask_of, echo_of}

-- what a number of held locks is kept for
abbrev pub Numbers : Type 0
Numbers = Process → Id → ℕ → ℕ

-- p is a client's process of a node of the world that runs, and isn't dead there
abbrev pub lives : Opening → World → Process → Bool
lives o w p =
    in_world o p.node && (not (left w p.node) && (not (p.serial == 0) && not (is_dead (w.node p.node).watch p.serial)))

pub record IsLive (o : Opening) (w : World) (p : Process) : Type 0 where
  pub inside : in_world o p.node ≡ true
  pub up : left w p.node ≡ false
  pub client : (p.serial == 0) ≡ false
  pub alive : is_dead (w.node p.node).watch p.serial ≡ false

pub live_parts : (o : Opening) (w : World) (p : Process) → lives o w p ≡ true → IsLive o w p
live_parts o w p h =
    let one : (in_world o p.node ≡ true) ×
    ((not (left w p.node) && (not (p.serial == 0) && not (is_dead (w.node p.node).watch p.serial))) ≡ true) = both
    (in_world o p.node) (not (left w p.node) && (not (p.serial == 0) && not
    (is_dead (w.node p.node).watch p.serial))) h in
    let two : (not (left w p.node) ≡ true) × ((not (p.serial == 0) && not (is_dead (w.node p.node).watch p.serial))
    ≡ true) = both (not (left w p.node)) (not (p.serial == 0) && not (is_dead (w.node p.node).watch p.serial))
    one.1 in
    let three : (not (p.serial == 0) ≡ true) × (not (is_dead (w.node p.node).watch p.serial) ≡ true) = both
    (not (p.serial == 0)) (not (is_dead (w.node p.node).watch p.serial)) two.1 in
    record {
      inside = one.0;
      up = not_true (left w p.node) two.0;
      client = not_true (p.serial == 0) three.0;
      alive = not_true (is_dead (w.node p.node).watch p.serial) three.1;
    }

pub lives_by : (o : Opening) (w : World) (p : Process) → IsLive o w p → lives o w p ≡ true
lives_by o w p l = rw (l.inside, l.up, l.client, l.alive) refl

-- the open lock call of a process
abbrev pub call_at : World → Process → Option LockCall
call_at w p = call_of p (w.node p.node).calls

-- where p stands with x
abbrev pub Holding : World → Numbers → Process → ℕ → Type 0
Holding w num p x =
    Live (view (call_at w p) x) (asks p (w.links.queue p.node x)) (echoes p (w.links.queue x p.node))
    (λ id. count id p (w.node x).locks) (λ id. num p id x)

-- a round of a lock call, if it has one
abbrev pub RoundedIn : LockPhase → Type 0
RoundedIn (LockPhase.Asking r) = Rounded r
RoundedIn _ = Unit {0}

pub record Clients (o : Opening) (w : World) (num : Numbers) : Type 0 where
  pub tables : (c : ℕ) → Sound (w.node c).locks
  pub named : (f n : ℕ) → all_named f n (w.links.queue f n) ≡ true
  pub rounds : (p : Process) (c : LockCall) → call_at w p ≡ Some c → RoundedIn c.phase
  -- only live processes have calls and locks
  pub callers : (p : Process) → lives o w p ≡ false → left w p.node ≡ false → call_at w p ≡ None
  pub strangers : (p : Process) (id : Id) (x : ℕ) → lives o w p ≡ false → num p id x ≡ 0
  pub sessions : (p : Process) (x : ℕ) → lives o w p ≡ true → IsUp o w x → Holding w num p x

-- who has a call lives
pub caller_lives : (o : Opening) (w : World) (num : Numbers) → Clients o w num → (p : Process) (c : LockCall)
    → left w p.node ≡ false
    → call_at w p ≡ Some c → lives o w p ≡ true
caller_lives o w num C p c up e = go (lives o w p) refl
  where
    go : (b : Bool) → lives o w p ≡ b → b ≡ true
    go true h = refl
    go false h = let none : call_at w p ≡ None = C.callers p h up in cc (none, e)

-- a part of a node that a turn leaves alone
pub part_same : {X : Type 0} (P : Node → X) (w : World) (a : ℕ) (u : Turn) → P u.node ≡ P (w.node a) → (c : ℕ)
    → P (at w.node a u.node c) ≡ P (w.node c)
part_same P w a u e c = by_test a (λ c t. P (w.node a) ≡ P (w.node a)
    → P (if t then u.node else w.node c) ≡ P (w.node c)) (λ k. e) (λ x ne k. refl) c refl

-- a node after the turn: that of the turn at a, and else as before
pub node_here : (w : World) (a : ℕ) (u : Turn) (c : ℕ) → c ≡ a → at w.node a u.node c ≡ u.node
node_here w a u c e = rw (eq-eqb c a e) refl

pub node_there : (w : World) (a : ℕ) (u : Turn) (c : ℕ) → (c ≡ a → ⊥) → at w.node a u.node c ≡ w.node c
node_there w a u c ne = rw (ne_eqb c a ne) refl

-- what a pair of a process and a node has of the letters that a turn takes and sends
pub record Mail (a : ℕ) (t : Option Taken) (u : Turn) (w : World) (p : Process) (x : ℕ) : Type 0 where
  pub ups : Moved (asks p (read_on a t p.node x)) (asks p (sent_on a u p.node x)) (asks p (w.links.queue p.node x))
      (asks p ((turned a t u w).links.queue p.node x))
  pub downs : Moved (echoes p (read_on a t x p.node)) (echoes p (sent_on a u x p.node))
      (echoes p (w.links.queue x p.node)) (echoes p ((turned a t u w).links.queue x p.node))

pub mail_moves : (o : Opening) (a : ℕ) (t : Option Taken) (u : Turn) (w : World) → FrontTaken o a w t → (p : Process) (x : ℕ)
    → left w p.node ≡ false → left w x ≡ false → Mail a t u w p x
mail_moves o a t u w front p x up_p up_x = record {
  ups = all_moved (ask_of p) (read_on a t p.node x) (sent_on a u p.node x) (w.links.queue p.node x)
      ((turned a t u w).links.queue p.node x) (links_moved o a t u w front p.node x up_x);
  downs = all_moved (echo_of p) (read_on a t x p.node) (sent_on a u x p.node) (w.links.queue x p.node)
      ((turned a t u w).links.queue x p.node) (links_moved o a t u w front x p.node up_p);
}

module _ (o : Opening) (a : ℕ) (t : Option Taken) (u : Turn) (w : World) (num num2 : Numbers)
    (C : Clients o w num) where
  -- what is to be shown of a turn
  pub record Keeps : Type 0 where
    pub sound : Sound u.node.locks
    pub sends : (n : ℕ) → all_named a n (sent_to n u.sends) ≡ true
    pub rounds : (p : Process) (c : LockCall) → call_at (turned a t u w) p ≡ Some c → RoundedIn c.phase
    pub callers : (p : Process) → lives o (turned a t u w) p ≡ false → left w p.node ≡ false
        → call_at (turned a t u w) p ≡ None
    pub strangers : (p : Process) (id : Id) (x : ℕ) → lives o (turned a t u w) p ≡ false → num2 p id x ≡ 0
    pub sessions : (p : Process) (x : ℕ) → lives o (turned a t u w) p ≡ true → IsUp o w x
        → Holding (turned a t u w) num2 p x

  pub kept : Keeps → Clients o (turned a t u w) num2
  kept k = record {
    tables = λ c. by_test a (λ c t. Sound (w.node c).locks → Sound (if t then u.node else w.node c).locks)
        (λ h. k.sound) (λ x ne h. h) c (C.tables c);
    named = named_turned a t u w C.named k.sends;
    rounds = k.rounds;
    callers = k.callers;
    strangers = k.strangers;
    sessions = k.sessions;
  }
