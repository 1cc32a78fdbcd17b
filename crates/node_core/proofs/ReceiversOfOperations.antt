-- The rules of the registrar send to nodes that have started.
use Rattle.std.proofs.Common.{ℕ, Bool, true, false, ◌==◌, ◌≡◌, Option, Some, None, List, [], ◌∷◌, refl, ap}
use Rattle.std.specs.Prelude.{◌&&◌, not, if◌then◌else◌}
use Rattle.std.proofs.lemmas.Bool.{eq-eqb}
use Rattle.registry_model.specs.Process.{Nodes, with_node}
use Rattle.registry_model.specs.Table.{Change as AnyChange, StrikeOwner}
use Rattle.registry_model.specs.Settlement.{Settled, with_settled, settle}
use Rattle.registry_model.specs.Call.{Reply as AnyReply, is_grant, change_of as change_of_call, reply_to}
use Rattle.registry_model.specs.History.{Entry as AnyEntry}
use Rattle.registry_model.proofs.Tables.{is_rising-with_settled}
use Rattle.protocol_model.specs.Letter.{Letter as AnyLetter, Global}
use Rattle.protocol_model.specs.Node.{Op as AnyOp, Current}
use Rattle.protocol_model.specs.Round.{Round, begin, greatest, asked, granted, owes, answer, down, is_over, is_empty, Ending, is_held}
use Rattle.protocol_model.specs.Turn.{Turn, at_work, with_queue, enter}
use Rattle.protocol_model.specs.Registrar.{registrar, answer_op, finish, done, write, ask_global, ask_rest, await_less, start, start_next, start_queue, start_free, contact_left, ask_join, lose_contact}
use Rattle.protocol_model.specs.Watch.{owed}
use Rattle.protocol_model.specs.Deciding.{admit, held, end_by, end_round, go_on, hear_answer, lose}
use Rattle.node_core.proofs.Receivers.{AreOf, IsOpOf, AreOpsOf, IsCurrentOf, IsWithin, first, and_one_of, begun_of, granted_of, answered_of, down_of, works, queues, sends, sends_all}
use Rattle.node_core.proofs.ReceiversOfLocks.{asks_rest}

module _ {n a : ℕ} {world : Nodes} where
  answers : (op : AnyOp) (reply : Option AnyReply) (u : Turn) → IsWithin n a world u
      → IsWithin n a world (answer_op n a op reply u)
  answers (AnyOp.Name k c) (Some reply) u W = W
  answers _ reply u W = W

  finishes : (op : AnyOp) (s : Nodes) (reply : Option AnyReply) (u : Turn) → AreOf world s → IsWithin n a world u
      → IsWithin n a world (finish n a op s reply u)
  finishes op s reply u of W =
      works (sends_all (answers op reply u W) (λ c. s c && not (u.node.replica.told c))
      (AnyLetter.GiveBack (Global a) (registrar a) false)
      (λ c e. (of c (first (s c) (not (u.node.replica.told c)) e), tt))) Current.Free tt

  writes : (op : AnyOp) (s : Nodes) (reply : Option AnyReply) (change : AnyChange) (u : Turn) → AreOf world s
      → IsWithin n a world u → IsWithin n a world (write n a op s reply change u)
  writes op s reply change u of W =
      sends_all (works W (Current.Writing op s u.node.replica.members reply) of) u.node.replica.members
      (AnyLetter.Apply change) (λ c e. (W.members c e, tt))

  pub awaits : (c : ℕ) (cur : Current) (u : Turn) → IsCurrentOf world cur → IsWithin n a world u
      → IsWithin n a world (await_less n a c cur u)
  awaits c (Current.Writing op s awaited reply) u of W = go (awaited c) (is_empty n less)
    where
      less : Nodes
      less x = if x == c then false else awaited x

      go : (b d : Bool) → IsWithin n a world (if b
          then (if d then done n a op s reply u else at_work (Current.Writing op s less reply) u) else u)
      go true true = finishes op s reply (enter (AnyEntry.Done a) u) of W
      go true false = works W (Current.Writing op s less reply) of
      go false d = W
  awaits c _ u of W = W

  pub asks : (op : AnyOp) (u : Turn) → IsOpOf world op → IsWithin n a world u → IsWithin n a world (ask_global n a op u)
  asks op u fits W =
      sends (works W (Current.Asking op (begin n u.node.replica.members))
      (fits, λ c e. W.members c (begun_of n u.node.replica.members c e)))
      (greatest n u.node.replica.members) (AnyLetter.SetLock (Global a) (registrar a)) W.boss tt

  starts_queue : (ops : List AnyOp) (u : Turn) → AreOpsOf world ops → IsWithin n a world u
      → IsWithin n a world (start_queue n a ops u)
  starts_queue [] u fits W = queues W [] tt
  starts_queue (AnyOp.Name k c ∷ ops) u fits W = asks (AnyOp.Name k c) (with_queue ops u) tt (queues W ops fits.1)
  starts_queue (AnyOp.Strike p ∷ ops) u fits W = asks (AnyOp.Strike p) (with_queue ops u) tt (queues W ops fits.1)
  starts_queue (AnyOp.Admission j ps ∷ ops) u fits W =
      asks (AnyOp.Admission j ps) (with_queue ops u) fits.0 (queues W ops fits.1)
  starts_queue (AnyOp.Join k m ∷ ops) u fits W =
      go (u.node.replica.told m) (starts_queue ops (contact_left n a k m u) fits.1 W)
    where
      go : (b : Bool) → IsWithin n a world (start_queue n a ops (contact_left n a k m u))
          → IsWithin n a world (if b
          then start_queue n a ops (contact_left n a k m u) else ask_join n a k m (with_queue ops u))
      go true V = V
      go false V = sends (works (queues W ops fits.1) (Current.Joining k m) tt) m
          (AnyLetter.JoinAsk u.node.replica.table) fits.0 tt

  starts_next : (owed : Option ℕ) (u : Turn) → IsWithin n a world u → IsWithin n a world (start_next n a owed u)
  starts_next (Some s) u W = asks (AnyOp.Strike (record { node = a; serial = s })) u tt W
  starts_next None u W = starts_queue u.node.queue u W.queue W

  -- a free registrar begins the next operation
  pub starts : (u : Turn) → IsWithin n a world u → IsWithin n a world (start n a u)
  starts u W = go u.node.current
    where
      go : (cur : Current) → IsWithin n a world (start_free n a cur u)
      go Current.Free = starts_next (owed a u.node.replica.table u.node.watch) u W
      go _ = W

  -- d has gone down: a join by it ends
  pub loses_contact : (d : ℕ) (cur : Current) (u : Turn) → IsWithin n a world u
      → IsWithin n a world (lose_contact n a d cur u)
  loses_contact d (Current.Joining k m) u W = go (m == d)
    where
      go : (b : Bool) → IsWithin n a world (if b then contact_left n a k m (at_work Current.Free u) else u)
      go true = works W Current.Free tt
      go false = W
  loses_contact d _ u W = W

  module _ (number : ℕ → ℕ) where
    decides : (op : AnyOp) (s : Nodes) (u : Turn) → IsOpOf world op → AreOf world s → IsWithin n a world u
        → IsWithin n a world (held n a number op s u)
    decides (AnyOp.Name k c) s u fits of W = go (is_grant reply)
      where
        reply : AnyReply
        reply = reply_to u.node.replica.members u.node.replica.table c

        v : Turn
        v = enter (AnyEntry.Name a k c reply) u

        go : (b : Bool) → IsWithin n a world (if b
            then write n a (AnyOp.Name k c) s (Some reply) (change_of_call c) v
            else finish n a (AnyOp.Name k c) s (Some reply) v)
        go true = writes (AnyOp.Name k c) s (Some reply) (change_of_call c) v of W
        go false = finishes (AnyOp.Name k c) s (Some reply) v of W
    decides (AnyOp.Strike p) s u fits of W =
        writes (AnyOp.Strike p) s None (StrikeOwner p) (enter (AnyEntry.Strike p) u) of W
    decides (AnyOp.Join k m) s u fits of W = W
    decides (AnyOp.Admission j ps) s u fits of W = go (u.node.replica.told j) refl
      where
        settled : Settled
        settled = settle u.node.replica.table ps

        go : (b : Bool) → u.node.replica.told j ≡ b → IsWithin n a world (if b
            then finish n a (AnyOp.Admission j ps) s None u else admit n a number j ps s settled u)
        go true left = finishes (AnyOp.Admission j ps) s None u of W
        go false here = sends (sends_all
            (works W (Current.Writing (AnyOp.Admission j ps) s (with_node j u.node.replica.members) None) of)
            u.node.replica.members (AnyLetter.Admit j settled) (λ c e. (W.members c e, fits))) j
            (AnyLetter.Welcome (with_node j u.node.replica.members) (with_settled settled u.node.replica.table)
            u.node.replica.told settled.fate) fits (
              and_one_of world u.node.replica.members j W.members fits,
              W.told,
              ap (λ (b : Bool). if b then true else u.node.replica.members j) (eq-eqb j j refl),
              here,
              is_rising-with_settled settled u.node.replica.table W.rising,
            )

    ends : (op : AnyOp) (r : Round) (u : Turn) → IsOpOf world op → AreOf world (asked r) → IsWithin n a world u
        → IsWithin n a world (end_round n a number op r u)
    ends op r u fits of W = go (is_over n r) (is_held n u.node.replica.members r)
      where
        go : (b d : Bool) → IsWithin n a world (if b
            then end_by n a number (if d then Ending.Held else Ending.GiveBack (granted r)) op (asked r) u else u)
        go true true = decides op (asked r) u fits of W
        go true false = sends_all (works W (Current.Waiting op) fits) (granted r)
            (AnyLetter.GiveBack (Global a) (registrar a) false) (λ c e. (of c (granted_of r c e), tt))
        go false d = W

    pub hears : (c : ℕ) (g : Bool) (cur : Current) (u : Turn) → IsCurrentOf world cur → IsWithin n a world u
        → IsWithin n a world (hear_answer n a number c g cur u)
    hears c g (Current.Asking op r) u of W = go (owes r c) refl
      where
        letter : AnyLetter
        letter = AnyLetter.SetLock (Global a) (registrar a)

        r2 : Round
        r2 = answer c g r

        v : Turn
        v = ask_rest n a c g letter r u

        asked_now : owes r c ≡ true → AreOf world (asked r2)
        asked_now owed x e = of.1 x (answered_of r c g owed x e)

        go : (b : Bool) → owes r c ≡ b → IsWithin n a world (if b then go_on n a number op r2 v else u)
        go true owed = ends op r2 (at_work (Current.Asking op r2) v) of.0 (asked_now owed)
            (works (asks_rest c g letter r u (λ x. tt) of.1 W) (Current.Asking op r2) (of.0, asked_now owed))
        go false owed = W
    hears c g _ u of W = W

    -- the registrar is told
    pub loses : (d : ℕ) (cur : Current) (u : Turn) → IsCurrentOf world cur → IsWithin n a world u
        → IsWithin n a world (lose n a number d cur u)
    loses d (Current.Asking op r) u of W =
        ends op (down d r) (at_work (Current.Asking op (down d r)) u) of.0 (λ x e. of.1 x (down_of r d x e))
        (works W (Current.Asking op (down d r)) (of.0, λ x e. of.1 x (down_of r d x e)))
    loses d Current.Free u of W = awaits d Current.Free u of W
    loses d (Current.Waiting op) u of W = awaits d (Current.Waiting op) u of W
    loses d (Current.Writing op s awaited reply) u of W = awaits d (Current.Writing op s awaited reply) u of W
    loses d (Current.Joining k m) u of W = awaits d (Current.Joining k m) u of W
