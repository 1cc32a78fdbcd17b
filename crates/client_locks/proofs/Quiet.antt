-- Turns of the registrar and of replicas: they change no lock call, no lock table and nobody's life, and send no
-- client's letter.
use Rattle.std.proofs.Common.{ℕ, Bool, true, false, ◌≡◌, Option, Some, None, List, [], ◌∷◌, ◌++◌, refl}
use Rattle.std.specs.Prelude.{not, ◌&&◌, if◌then◌else◌}
use Rattle.std.proofs.lemmas.Bool.{eq-eqb}
use Rattle.registry_model.specs.Process.{Nodes, nodes_of}
use Rattle.registry_model.specs.Table.{Table, Change}
use Rattle.registry_model.specs.Call.{Reply}
use Rattle.registry_model.specs.Settlement.{Settled}
use Rattle.registry_model.specs.History.{Entry}
use Rattle.protocol_model.specs.Letter.{Global, Letter}
use Rattle.protocol_model.specs.Round.{Round, opens, rest}
use Rattle.protocol_model.specs.Node.{Node, Op, Current}
use Rattle.protocol_model.specs.Turn.{Turn, begun, at_work, with_queue, with_replica, send, send_all, enter, reply_with}
use Rattle.protocol_model.specs.Registrar.{registrar, ask_global, give_global, answer_op, finish, write, give_up, ask_rest}
use Rattle.protocol_model.specs.Deciding.{admit}
use Rattle.registry_model.specs.Registry.{Replica}
use Rattle.moves.proofs.Sends.{to_each}
use Rattle.moves.proofs.SendTests.{pass_append, pass_each}
use Rattle.client_locks.proofs.Plain.{is_plain, all_plain}

pub record Quiet (a : ℕ) (v : Node) (u : Turn) : Type 0 where
  pub calls : u.node.calls ≡ v.calls
  pub dead : u.node.watch.dead ≡ v.watch.dead
  pub locks : u.node.locks ≡ v.locks
  pub sends : all_plain a u.sends ≡ true

module _ (a : ℕ) (v : Node) where
  pub quiet_begun : Quiet a v (begun v)
  quiet_begun = record { calls = refl; dead = refl; locks = refl; sends = refl }

  pub quiet_send : (c : ℕ) (l : Letter) (u : Turn) → is_plain a l ≡ true → Quiet a v u → Quiet a v (send c l u)
  quiet_send c l u h q = record {
    calls = q.calls;
    dead = q.dead;
    locks = q.locks;
    sends = pass_append (is_plain a) u.sends
        (record { to = c; letter = l } ∷ []) q.sends (rw h refl);
  }

  pub quiet_send_all : (n : ℕ) (s : Nodes) (l : Letter) (u : Turn) → is_plain a l ≡ true → Quiet a v u
      → Quiet a v (send_all n s l u)
  quiet_send_all n s l u h q = record {
    calls = q.calls;
    dead = q.dead;
    locks = q.locks;
    sends = pass_append (is_plain a)
        u.sends (to_each (nodes_of n s) l) q.sends (pass_each (is_plain a) (nodes_of n s) l h);
  }

  pub quiet_work : (c : Current) (u : Turn) → Quiet a v u → Quiet a v (at_work c u)
  quiet_work c u q = record { calls = q.calls; dead = q.dead; locks = q.locks; sends = q.sends }

  pub quiet_queue : (ops : List Op) (u : Turn) → Quiet a v u → Quiet a v (with_queue ops u)
  quiet_queue ops u q = record { calls = q.calls; dead = q.dead; locks = q.locks; sends = q.sends }

  pub quiet_replica : (f : Replica → Replica) (u : Turn) → Quiet a v u → Quiet a v (with_replica f u)
  quiet_replica f u q = record { calls = q.calls; dead = q.dead; locks = q.locks; sends = q.sends }

  pub quiet_enter : (e : Entry) (u : Turn) → Quiet a v u → Quiet a v (enter e u)
  quiet_enter e u q = record { calls = q.calls; dead = q.dead; locks = q.locks; sends = q.sends }

  pub quiet_reply : (k : ℕ) (r : Reply) (u : Turn) → Quiet a v u → Quiet a v (reply_with a k r u)
  quiet_reply k r u q = record { calls = q.calls; dead = q.dead; locks = q.locks; sends = q.sends }

  pub plain_request : is_plain a (Letter.SetLock (Global a) (registrar a)) ≡ true
  plain_request = rw (eq-eqb a a refl) refl

  pub plain_give_back : is_plain a (Letter.GiveBack (Global a) (registrar a) false) ≡ true
  plain_give_back = rw (eq-eqb a a refl) refl

  pub quiet_ask_global : (n : ℕ) (op : Op) (u : Turn) → Quiet a v u → Quiet a v (ask_global n a op u)
  quiet_ask_global n op u q = quiet_send _ (Letter.SetLock (Global a) (registrar a)) (at_work _ u) plain_request
      (quiet_work _ u q)

  pub quiet_give_global : (n : ℕ) (s : Nodes) (u : Turn) → Quiet a v u → Quiet a v (give_global n a s u)
  quiet_give_global n s u q = quiet_send_all n s (Letter.GiveBack (Global a) (registrar a) false) u plain_give_back q

  pub quiet_answer_op : (n : ℕ) (op : Op) (reply : Option Reply) (u : Turn) → Quiet a v u
      → Quiet a v (answer_op n a op reply u)
  quiet_answer_op n (Op.Name k call) (Some r) u q = quiet_reply k r u q
  quiet_answer_op n (Op.Name k call) None u q = q
  quiet_answer_op n (Op.Strike p) reply u q = q
  quiet_answer_op n (Op.Join k m) reply u q = q
  quiet_answer_op n (Op.Admission j pairs) reply u q = q

  pub quiet_finish : (n : ℕ) (op : Op) (asked : Nodes) (reply : Option Reply) (u : Turn) → Quiet a v u
      → Quiet a v (finish n a op asked reply u)
  quiet_finish n op asked reply u q = quiet_work Current.Free (give_global n a _ (answer_op n a op reply u))
      (quiet_give_global n _ (answer_op n a op reply u) (quiet_answer_op n op reply u q))

  pub quiet_write : (n : ℕ) (op : Op) (asked : Nodes) (reply : Option Reply) (change : Change) (u : Turn) → Quiet a v u
      → Quiet a v (write n a op asked reply change u)
  quiet_write n op asked reply change u q = quiet_send_all n _ (Letter.Apply change) (at_work _ u) refl
      (quiet_work _ u q)

  pub quiet_give_up : (n : ℕ) (op : Op) (s : Nodes) (u : Turn) → Quiet a v u → Quiet a v (give_up n a op s u)
  quiet_give_up n op s u q = quiet_give_global n s (at_work (Current.Waiting op) u)
      (quiet_work (Current.Waiting op) u q)

  pub quiet_ask_rest : (n f : ℕ) (g : Bool) (r : Round) (u : Turn) → Quiet a v u
      → Quiet a v (ask_rest n a f g (Letter.SetLock (Global a) (registrar a)) r u)
  quiet_ask_rest n f g r u q = go (opens f g r)
    where
      go : (b : Bool) → Quiet a v (if b then send_all n (λ x. rest r x && not (u.node.replica.told x))
          (Letter.SetLock (Global a) (registrar a)) u else u)
      go true = quiet_send_all n _ (Letter.SetLock (Global a) (registrar a)) u plain_request q
      go false = q

  pub quiet_admit : (n : ℕ) (number : ℕ → ℕ) (j : ℕ) (pairs : Table) (asked : Nodes) (s : Settled) (u : Turn)
      → Quiet a v u → Quiet a v (admit n a number j pairs asked s u)
  quiet_admit n number j pairs asked s u q = record {
    calls = q.calls;
    dead = q.dead;
    locks = q.locks;
    sends = pass_append (is_plain a) (u.sends ++ to_each (nodes_of n u.node.replica.members) (Letter.Admit j s))
        (_ ∷ [])
        (pass_append (is_plain a) u.sends (to_each (nodes_of n u.node.replica.members) (Letter.Admit j s))
        q.sends (pass_each (is_plain a) (nodes_of n u.node.replica.members) (Letter.Admit j s) refl))
        refl;
  }
