-- The rules of the registrar, at a node of a set, know of nodes of this set alone.
use Rattle.std.proofs.Common.{ℕ, Bool, true, false, ◌==◌, ◌≡◌, Option, Some, None, List, [], ◌∷◌, refl}
use Rattle.std.specs.Prelude.{◌&&◌, ◌||◌, not, is_some, if◌then◌else◌}
use Rattle.registry_model.specs.Process.{Nodes, with_node, without_node}
use Rattle.registry_model.specs.Table.{Table, Change, StrikeOwner, get, owns}
use Rattle.registry_model.specs.Settlement.{Settled, with_settled, settle}
use Rattle.registry_model.specs.Call.{NameCall, Reply, Joined, ContactLeft, is_grant, change_of, reply_to}
use Rattle.registry_model.specs.History.{Entry}
use Rattle.protocol_model.specs.Letter.{Letter, Global}
use Rattle.protocol_model.specs.Node.{Op, Current}
use Rattle.protocol_model.specs.Round.{Round, begin, greatest, asked, granted, owes, answer, down, is_over, is_empty, Ending, is_held}
use Rattle.protocol_model.specs.Turn.{Turn, at_work, with_queue, enter}
use Rattle.protocol_model.specs.Registrar.{registrar, answer_op, finish, done, write, ask_global, ask_rest, await_less, start, start_next, start_queue, start_free, contact_left, ask_join, lose_contact}
use Rattle.protocol_model.specs.Watch.{owed}
use Rattle.protocol_model.specs.Deciding.{admit, held, end_by, end_round, go_on, hear_answer, lose}
use Rattle.creations.proofs.Inside.{AreIn, IsChangeIn, IsOpIn, AreOpsIn, IsCurrentIn, IsInside, first_of, one_more, greatest_is_in, begin_asks, granted_in, answer_asks, down_asks, settled_owners, settles_owners, works, queues, sends, sends_all, enters}
use Rattle.creations.proofs.LocksInside.{Ground, asks_rest}

-- what a name call that is granted writes is for a process of a member
pub granted_change : (S members : Nodes) (table : Table) (call : NameCall) → AreIn S members
    → is_grant (reply_to members table call) ≡ true → IsChangeIn S (change_of call)
granted_change S members table (NameCall.Register pair) of g = go (members pair.owner.node) refl g
  where
    go : (b : Bool) → members pair.owner.node ≡ b
        → is_grant (if not b then Reply.UnknownNode
        else (if is_some (get pair.name table)
        || owns pair.owner table then Reply.No else Reply.Yes)) ≡ true
        → S pair.owner.node ≡ true
    go true e k = of pair.owner.node e
    go false e k = cc
granted_change S members table (NameCall.ReRegister pair) of g = go (members pair.owner.node) refl g
  where
    go : (b : Bool) → members pair.owner.node ≡ b → is_grant (if not b then Reply.UnknownNode else Reply.Yes) ≡ true
        → S pair.owner.node ≡ true
    go true e k = of pair.owner.node e
    go false e k = cc
granted_change S members table (NameCall.Unregister x) of g = tt

module _ (n : ℕ) {a : ℕ} {S : Nodes} (G : Ground S a) where
  answers : (op : Op) (reply : Option Reply) (u : Turn) → IsInside S u → IsInside S (answer_op n a op reply u)
  answers (Op.Name k c) (Some reply) u W = W
  answers _ reply u W = W

  finishes : (op : Op) (s : Nodes) (reply : Option Reply) (u : Turn) → AreIn S s → IsInside S u
      → IsInside S (finish n a op s reply u)
  finishes op s reply u of W =
      works (sends_all (answers op reply u W) n (λ c. s c && not (u.node.replica.told c))
      (Letter.GiveBack (Global a) (registrar a) false) (λ c e. of c (first_of (s c) (not (u.node.replica.told c)) e)) tt)
      Current.Free tt

  writes : (op : Op) (s : Nodes) (reply : Option Reply) (change : Change) (u : Turn) → AreIn S s → IsChangeIn S change
      → IsInside S u → IsInside S (write n a op s reply change u)
  writes op s reply change u of fit W =
      sends_all (works W (Current.Writing op s u.node.replica.members reply) of) n u.node.replica.members
      (Letter.Apply change) W.members fit

  pub awaits : (c : ℕ) (cur : Current) (u : Turn) → IsCurrentIn S cur → IsInside S u → IsInside S (await_less n a c cur u)
  awaits c (Current.Writing op s awaited reply) u of W = go (awaited c) (is_empty n less)
    where
      less : Nodes
      less = without_node c awaited

      go : (b d : Bool) → IsInside S (if b
          then (if d then done n a op s reply u else at_work (Current.Writing op s less reply) u) else u)
      go true true = finishes op s reply (enter (Entry.Done a) u) of (enters W (Entry.Done a) tt)
      go true false = works W (Current.Writing op s less reply) of
      go false d = W
  awaits c _ u of W = W

  pub asks : (op : Op) (u : Turn) → IsOpIn S op → IsInside S u → IsInside S (ask_global n a op u)
  asks op u fits W =
      sends (works W (Current.Asking op (begin n u.node.replica.members))
      (fits, begin_asks S n u.node.replica.members W.members))
      (greatest n u.node.replica.members) (Letter.SetLock (Global a) (registrar a))
      (greatest_is_in S n u.node.replica.members G.least W.members) G.here

  starts_queue : (ops : List Op) (u : Turn) → AreOpsIn S ops → IsInside S u → IsInside S (start_queue n a ops u)
  starts_queue [] u fits W = queues W [] tt
  starts_queue (Op.Name k c ∷ ops) u fits W = asks (Op.Name k c) (with_queue ops u) tt (queues W ops fits.1)
  starts_queue (Op.Strike p ∷ ops) u fits W = asks (Op.Strike p) (with_queue ops u) tt (queues W ops fits.1)
  starts_queue (Op.Admission j ps ∷ ops) u fits W =
      asks (Op.Admission j ps) (with_queue ops u) fits.0 (queues W ops fits.1)
  starts_queue (Op.Join k m ∷ ops) u fits W =
      go (u.node.replica.told m) (starts_queue ops (contact_left n a k m u) fits.1
      (enters W (Entry.Join a k m ContactLeft) G.here))
    where
      go : (b : Bool) → IsInside S (start_queue n a ops (contact_left n a k m u))
          → IsInside S (if b then start_queue n a ops (contact_left n a k m u) else ask_join n a k m (with_queue ops u))
      go true V = V
      go false V = sends (works (queues W ops fits.1) (Current.Joining k m) tt) m
          (Letter.JoinAsk u.node.replica.table) fits.0 W.table

  starts_next : (owed : Option ℕ) (u : Turn) → IsInside S u → IsInside S (start_next n a owed u)
  starts_next (Some s) u W = asks (Op.Strike (record { node = a; serial = s })) u tt W
  starts_next None u W = starts_queue u.node.queue u W.queue W

  -- a free registrar begins the next operation
  pub starts : (u : Turn) → IsInside S u → IsInside S (start n a u)
  starts u W = go u.node.current
    where
      go : (cur : Current) → IsInside S (start_free n a cur u)
      go Current.Free = starts_next (owed a u.node.replica.table u.node.watch) u W
      go _ = W

  -- d has gone down: a join by it ends
  pub loses_contact : (d : ℕ) (cur : Current) (u : Turn) → IsInside S u → IsInside S (lose_contact n a d cur u)
  loses_contact d (Current.Joining k m) u W = go (m == d)
    where
      go : (b : Bool) → IsInside S (if b then contact_left n a k m (at_work Current.Free u) else u)
      go true = enters (works W Current.Free tt) (Entry.Join a k m ContactLeft) G.here
      go false = W
  loses_contact d _ u W = W

  module _ (number : ℕ → ℕ) where
    decides : (op : Op) (s : Nodes) (u : Turn) → IsOpIn S op → AreIn S s → IsInside S u → IsInside S (held n a number op s u)
    decides (Op.Name k c) s u fits of W = go (is_grant reply) refl
      where
        reply : Reply
        reply = reply_to u.node.replica.members u.node.replica.table c

        v : Turn
        v = enter (Entry.Name a k c reply) u

        fit : is_grant reply ≡ true → IsChangeIn S (change_of c)
        fit = granted_change S u.node.replica.members u.node.replica.table c W.members

        go : (b : Bool) → is_grant reply ≡ b → IsInside S (if b
            then write n a (Op.Name k c) s (Some reply) (change_of c) v
            else finish n a (Op.Name k c) s (Some reply) v)
        go true e = writes (Op.Name k c) s (Some reply) (change_of c) v of (fit e) (enters W (Entry.Name a k c reply) fit)
        go false e = finishes (Op.Name k c) s (Some reply) v of (enters W (Entry.Name a k c reply) fit)
    decides (Op.Strike p) s u fits of W = writes (Op.Strike p) s None (StrikeOwner p) (enter (Entry.Strike p) u) of tt
        (enters W (Entry.Strike p) tt)
    decides (Op.Join k m) s u fits of W = W
    decides (Op.Admission j ps) s u fits of W = go (u.node.replica.told j)
      where
        settled : Settled
        settled = settle u.node.replica.table ps

        go : (b : Bool) → IsInside S (if b
            then finish n a (Op.Admission j ps) s None u else admit n a number j ps s settled u)
        go true = finishes (Op.Admission j ps) s None u of W
        go false = sends (sends_all
            (works (enters W (Entry.Join j (number j) a Joined) fits.0)
            (Current.Writing (Op.Admission j ps) s (with_node j u.node.replica.members) None) of) n
            u.node.replica.members (Letter.Admit j settled) W.members
            (fits.0, settles_owners S u.node.replica.table ps fits.1)) j
            (Letter.Welcome (with_node j u.node.replica.members) (with_settled settled u.node.replica.table)
            u.node.replica.told settled.fate) fits.0 (
              one_more S u.node.replica.members j W.members fits.0,
              settled_owners S settled u.node.replica.table (settles_owners S u.node.replica.table ps fits.1) W.table,
              W.told,
            )

    ends : (op : Op) (r : Round) (u : Turn) → IsOpIn S op → AreIn S (asked r) → IsInside S u
        → IsInside S (end_round n a number op r u)
    ends op r u fits of W = go (is_over n r) (is_held n u.node.replica.members r)
      where
        go : (b d : Bool) → IsInside S (if b
            then end_by n a number (if d then Ending.Held else Ending.GiveBack (granted r)) op (asked r) u else u)
        go true true = decides op (asked r) u fits of W
        go true false = sends_all (works W (Current.Waiting op) fits) n (granted r)
            (Letter.GiveBack (Global a) (registrar a) false) (granted_in S r of) tt
        go false d = W

    pub hears : (c : ℕ) (g : Bool) (cur : Current) (u : Turn) → IsCurrentIn S cur → IsInside S u
        → IsInside S (hear_answer n a number c g cur u)
    hears c g (Current.Asking op r) u of W = go (owes r c) refl
      where
        letter : Letter
        letter = Letter.SetLock (Global a) (registrar a)

        r2 : Round
        r2 = answer c g r

        v : Turn
        v = ask_rest n a c g letter r u

        go : (b : Bool) → owes r c ≡ b → IsInside S (if b then go_on n a number op r2 v else u)
        go true owed = ends op r2 (at_work (Current.Asking op r2) v) of.0 (answer_asks S r c g of.1 owed)
            (works (asks_rest n G c g letter r u G.here of.1 W) (Current.Asking op r2) (of.0, answer_asks S r c g of.1 owed))
        go false owed = W
    hears c g _ u of W = W

    -- the registrar is told
    pub loses : (d : ℕ) (cur : Current) (u : Turn) → IsCurrentIn S cur → IsInside S u
        → IsInside S (lose n a number d cur u)
    loses d (Current.Asking op r) u of W =
        ends op (down d r) (at_work (Current.Asking op (down d r)) u) of.0 (down_asks S r d of.1)
        (works W (Current.Asking op (down d r)) (of.0, down_asks S r d of.1))
    loses d Current.Free u of W = awaits d Current.Free u of W
    loses d (Current.Waiting op) u of W = awaits d (Current.Waiting op) u of W
    loses d (Current.Writing op s awaited reply) u of W = awaits d (Current.Writing op s awaited reply) u of W
    loses d (Current.Joining k m) u of W = awaits d (Current.Joining k m) u of W
