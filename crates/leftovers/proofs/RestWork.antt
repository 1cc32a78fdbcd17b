-- The registrar's part of a step leaves a node at rest.
use Rattle.std.proofs.Common.{ℕ, Bool, true, false, ◌==◌, ◌≡◌, Option, Some, None, List, [], ◌∷◌, refl, sym, ap, subst, inl, inr}
use Rattle.std.specs.Prelude.{not, ◌&&◌, nat_lt, if◌then◌else◌}
use Rattle.std.proofs.lemmas.Bool.{eq-eqb, ltb-true}
use Rattle.registry_model.specs.Process.{Nodes, at, with_node}
use Rattle.registry_model.specs.Table.{Change, StrikeOwner}
use Rattle.registry_model.specs.Registry.{Replica}
use Rattle.registry_model.specs.Call.{Reply, is_grant, reply_to, change_of}
use Rattle.registry_model.specs.Settlement.{settle}
use Rattle.registry_model.specs.History.{Entry}
use Rattle.protocol_model.specs.Round.{Round, is_empty, begin, asked, owes, opens, rest, answer, down, is_over, Ending, Held, GiveBack, ending}
use Rattle.protocol_model.specs.Letter.{Global, Letter}
use Rattle.protocol_model.specs.Watch.{owed}
use Rattle.protocol_model.specs.Node.{Node, Op, Current, LockCall}
use Rattle.protocol_model.specs.Event.{is_join}
use Rattle.protocol_model.specs.Turn.{Turn, at_work, with_queue, send_all, enter}
use Rattle.protocol_model.specs.Registrar.{registrar, ask_global, answer_op, finish, done, write, ask_rest, await_less, contact_left, lose_contact, ask_join, start_queue, start_next, start_free, start, retry_global}
use Rattle.protocol_model.specs.Deciding.{admit, held, end_by, go_on, hear_answer, lose}
use Rattle.protocol_model.specs.World.{Opening, in_world}
use Rattle.registry_model.proofs.Updates.{by_test}
use Rattle.headline.proofs.Indices.{both, empty_at}
use Rattle.leftovers.proofs.Rest.{Awaited, RoundOn, RoundRests, WorkRests, Grouped, Sides, Stands, ToldMore, begin_rests, answer_on, down_on, less_awaited, same_awaited}

-- an admission is of a node of the world
abbrev pub OpInside : Opening → Op → Type 0
OpInside o (Op.Admission j pairs) = in_world o j ≡ true
OpInside o _ = Unit {0}

abbrev pub WorkInside : Opening → Current → Type 0
WorkInside o (Current.Asking op r) = OpInside o op
WorkInside o _ = Unit {0}

pub ask_rest-node : (n a f : ℕ) (g : Bool) (l : Letter) (r : Round) (u : Turn) → (ask_rest n a f g l r u).node ≡ u.node
ask_rest-node n a f g l r u = go (opens f g r)
  where
    go : (b : Bool) → (if b then send_all n (λ x. rest r x && not (u.node.replica.told x)) l u else u).node ≡ u.node
    go true = refl
    go false = refl

answer_op-node : (n a : ℕ) (op : Op) (reply : Option Reply) (u : Turn) → (answer_op n a op reply u).node ≡ u.node
answer_op-node n a (Op.Name k call) (Some reply) u = refl
answer_op-node n a (Op.Name k call) None u = refl
answer_op-node n a op reply u = refl

module _ (o : Opening) (a : ℕ) (here : in_world o a ≡ true) where
  abbrev pub V : List LockCall → Turn → Type 0
  V but u = Stands o a but u.node

  abbrev pub S : List LockCall → Turn → Type 0
  S but u = Sides o a u.node.replica u.node.calls but

  pub some_with : (s : Nodes) → s a ≡ true → is_empty o.bound s ≡ false
  some_with s h = go (is_empty o.bound s) refl
    where
      go : (b : Bool) → is_empty o.bound s ≡ b → b ≡ false
      go true e = cc (empty_at o.bound s e a (ltb-true a o.bound (both (nat_lt a o.bound) (o.nodes a) here).0), h)
      go false e = refl

  pub members_round : (v : Replica) → Grouped o a v → RoundRests o v.told (begin o.bound v.members)
  members_round v G = begin_rests o v.told v.members G.apart G.inside (some_with v.members G.itself)

  module _ (but : List LockCall) where
    pub ask_global-rests : (op : Op) (u : Turn) → is_join op ≡ false → S but u → V but (ask_global o.bound a op u)
    ask_global-rests op u h s = record { sides = s; work = (h, members_round u.node.replica s.group) }

    -- Start
    start_queue-rests : (ops : List Op) (u : Turn) → V but u → V but (start_queue o.bound a ops u)
    start_queue-rests [] u h = record { sides = h.sides; work = h.work }
    start_queue-rests (Op.Join k m ∷ ops) u h = go (u.node.replica.told m) refl
        (start_queue-rests ops (contact_left o.bound a k m u) (record { sides = h.sides; work = h.work }))
      where
        go : (t : Bool) → u.node.replica.told m ≡ t → V but (start_queue o.bound a ops (contact_left o.bound a k m u))
            → V but (if t then start_queue o.bound a ops (contact_left o.bound a k m u)
            else ask_join o.bound a k m (with_queue ops u))
        go true e more = more
        go false e more = record { sides = h.sides; work = e }
    start_queue-rests (Op.Name k c ∷ ops) u h = ask_global-rests (Op.Name k c) (with_queue ops u) refl h.sides
    start_queue-rests (Op.Strike p ∷ ops) u h = ask_global-rests (Op.Strike p) (with_queue ops u) refl h.sides
    start_queue-rests (Op.Admission j pairs ∷ ops) u h =
        ask_global-rests (Op.Admission j pairs) (with_queue ops u) refl h.sides

    pub start-rests : (u : Turn) → V but u → V but (start o.bound a u)
    start-rests u h = go u.node.current
      where
        next : (s : Option ℕ) → V but (start_next o.bound a s u)
        next (Some serial) = ask_global-rests (Op.Strike (record { node = a; serial = serial })) u refl h.sides
        next None = start_queue-rests u.node.queue u h

        go : (c : Current) → V but (start_free o.bound a c u)
        go Current.Free = next (owed a u.node.replica.table u.node.watch)
        go _ = h

    finish-rests : (op : Op) (s : Nodes) (reply : Option Reply) (u : Turn) → S but u
        → V but (finish o.bound a op s reply u)
    finish-rests op s reply u h = subst (λ (v : Node). Stands o a but (record v { current = Current.Free }))
        (sym (answer_op-node o.bound a op reply u)) (record { sides = h; work = tt })

    members_awaited : (v : Replica) → Grouped o a v → Awaited o v.told v.members
    members_awaited v G = record {
      untold = λ x h. out x h (v.members x) refl;
      inside = G.inside;
      some = some_with v.members G.itself;
    }
      where
        out : (x : ℕ) → v.told x ≡ true → (b : Bool) → v.members x ≡ b → b ≡ false
        out x h true e = cc (G.apart x e, h)
        out x h false e = refl

    write-rests : (op : Op) (s : Nodes) (reply : Option Reply) (change : Change) (u : Turn) → S but u
        → V but (write o.bound a op s reply change u)
    write-rests op s reply change u h = record { sides = h; work = members_awaited u.node.replica h.group }

    -- an operation is decided
    held-rests : (number : ℕ → ℕ) (op : Op) (s : Nodes) (u : Turn) → is_join op ≡ false → OpInside o op → S but u
        → V but (held o.bound a number op s u)
    held-rests number (Op.Name k call) s u none inside h =
        go (reply_to u.node.replica.members u.node.replica.table call)
      where
        by : (reply : Reply) (b : Bool) → V but
            (if b then write o.bound a (Op.Name k call) s (Some reply) (change_of call)
            (enter (Entry.Name a k call reply) u)
            else finish o.bound a (Op.Name k call) s (Some reply) (enter (Entry.Name a k call reply) u))
        by reply true = write-rests (Op.Name k call) s (Some reply) (change_of call)
            (enter (Entry.Name a k call reply) u) h
        by reply false = finish-rests (Op.Name k call) s (Some reply) (enter (Entry.Name a k call reply) u) h

        go : (reply : Reply) → V but
            (if is_grant reply then write o.bound a (Op.Name k call) s (Some reply) (change_of call)
            (enter (Entry.Name a k call reply) u)
            else finish o.bound a (Op.Name k call) s (Some reply) (enter (Entry.Name a k call reply) u))
        go reply = by reply (is_grant reply)
    held-rests number (Op.Strike p) s u none inside h =
        write-rests (Op.Strike p) s None (StrikeOwner p) (enter (Entry.Strike p) u) h
    held-rests number (Op.Admission j pairs) s u none inside h = go (u.node.replica.told j) refl
      where
        v : Replica
        v = u.node.replica

        wider : (v : Replica) → Grouped o a v → v.told j ≡ false → Awaited o v.told (with_node j v.members)
        wider v G e = record {
          untold = λ x k. by_test j (λ y t. v.told y ≡ true → (if t then true else v.members y) ≡ false)
              (λ q. cc (e, q)) (λ y ne q. out y q (v.members y) refl) x k;
          inside = λ x k. by_test j (λ y t. (if t then true else v.members y) ≡ true → in_world o y ≡ true)
              (λ q. inside) (λ y ne q. G.inside y q) x k;
          some = some_with (with_node j v.members)
              (by_test j (λ y t. v.members y ≡ true → (if t then true else v.members y) ≡ true) (λ q. refl)
              (λ y ne q. q) a G.itself);
        }
          where
            out : (x : ℕ) → v.told x ≡ true → (b : Bool) → v.members x ≡ b → b ≡ false
            out x h true i = cc (G.apart x i, h)
            out x h false i = refl

        go : (t : Bool) → u.node.replica.told j ≡ t → V but
            (if t then finish o.bound a (Op.Admission j pairs) s None u
            else admit o.bound a number j pairs s (settle u.node.replica.table pairs) u)
        go true e = finish-rests (Op.Admission j pairs) s None u h
        go false e = record { sides = h; work = wider u.node.replica h.group e }
    held-rests number (Op.Join k m) s u none inside h = cc none

    -- a round stands so now, and may be over
    pub go_on-rests : (number : ℕ → ℕ) (op : Op) (r : Round) (u : Turn) → is_join op ≡ false → OpInside o op
        → RoundOn o u.node.replica.told r → S but u → V but (go_on o.bound a number op r u)
    go_on-rests number op r u none inside on h = go (is_over o.bound r) refl
      where
        v : Turn
        v = at_work (Current.Asking op r) u

        ends : (x : Ending) → V but (end_by o.bound a number x op (asked r) (at_work (Current.Asking op r) u))
        ends Held = held-rests number op (asked r) (at_work (Current.Asking op r) u) none inside h
        ends (GiveBack granted) = record { sides = h; work = none }

        go : (b : Bool) → is_over o.bound r ≡ b → V but
            (if b then end_by o.bound a number (ending o.bound u.node.replica.members r) op (asked r)
            (at_work (Current.Asking op r) u) else at_work (Current.Asking op r) u)
        go true e = ends (ending o.bound u.node.replica.members r)
        go false e = record { sides = h; work = (none, record { on = on; going = e }) }

    -- an answer is heard
    pub hear_answer-rests : (number : ℕ → ℕ) (f : ℕ) (g : Bool) (c : Current) (u : Turn) → WorkInside o c
        → WorkRests o u.node.replica.told c → V but u → V but (hear_answer o.bound a number f g c u)
    hear_answer-rests number f g (Current.Asking op r) u inside rests h = go (owes r f) refl
      where
        l : Letter
        l = Letter.SetLock (Global a) (registrar a)

        asking : Turn
        asking = ask_rest o.bound a f g l r u

        go : (b : Bool) → owes r f ≡ b → V but (if b then go_on o.bound a number op (answer f g r)
            (ask_rest o.bound a f g (Letter.SetLock (Global a) (registrar a)) r u) else u)
        go true e = go_on-rests number op (answer f g r) asking rests.0 inside
            (subst (λ (v : Node). RoundOn o v.replica.told (answer f g r))
            (sym (ask_rest-node o.bound a f g l r u)) (answer_on o u.node.replica.told f g r e rests.1.on))
            (subst (λ (v : Node). Sides o a v.replica v.calls but) (sym (ask_rest-node o.bound a f g l r u)) h.sides)
        go false e = h
    hear_answer-rests number f g _ u inside rests h = h

    -- one less is awaited
    pub await_less-rests : (told : Nodes) (d : ℕ) (op : Op) (s awaited : Nodes) (reply : Option Reply) (u : Turn)
        → u.node.current ≡ Current.Writing op s awaited reply → Awaited o told awaited
        → ToldMore d told u.node.replica.told → S but u
        → V but (await_less o.bound a d (Current.Writing op s awaited reply) u)
    await_less-rests told d op s awaited reply u e A more h = go (awaited d) (is_empty o.bound (at awaited d false)) refl refl
      where
        go : (b c : Bool) → awaited d ≡ b → is_empty o.bound (at awaited d false) ≡ c → V but
            (if b then (if c then done o.bound a op s reply u
            else at_work (Current.Writing op s (at awaited d false) reply) u) else u)
        go true true i k = finish-rests op s reply (enter (Entry.Done a) u) h
        go true false i k = record {
          sides = h;
          work = less_awaited o told u.node.replica.told d awaited more A k;
        }
        go false c i k = record {
          sides = h;
          work = subst (WorkRests o u.node.replica.told) (sym e)
              (same_awaited o told u.node.replica.told d awaited more A i);
        }

    -- d has gone down, as this node was told
    pub lose-rests : (number : ℕ → ℕ) (told : Nodes) (d : ℕ) (c : Current) (u : Turn) → u.node.current ≡ c
        → WorkInside o c → WorkRests o told c → ToldMore d told u.node.replica.told → S but u
        → V but (lose o.bound a number d (lose_contact o.bound a d u.node.current u).node.current
        (lose_contact o.bound a d u.node.current u))
    lose-rests number told d c u e inside rests more h = subst
        (λ (x : Current). V but (lose o.bound a number d (lose_contact o.bound a d x u).node.current
        (lose_contact o.bound a d x u))) (sym e) (go c e inside rests)
      where
        later : (x : Current) → u.node.current ≡ x → V but (lose o.bound a number d x u)
            → V but (lose o.bound a number d u.node.current u)
        later x i k = subst (λ (y : Current). V but (lose o.bound a number d y u)) (sym i) k

        same : (x : Current) → u.node.current ≡ x → WorkRests o u.node.replica.told x → V but u
        same x i k = record { sides = h; work = subst (WorkRests o u.node.replica.told) (sym i) k }

        go : (x : Current) → u.node.current ≡ x → WorkInside o x → WorkRests o told x
            → V but (lose o.bound a number d (lose_contact o.bound a d x u).node.current
            (lose_contact o.bound a d x u))
        go Current.Free i k q = later Current.Free i (same Current.Free i tt)
        go (Current.Waiting op) i k q = later (Current.Waiting op) i (same (Current.Waiting op) i q)
        go (Current.Asking op r) i k q = later (Current.Asking op r) i
            (go_on-rests number op (down d r) u q.0 k (down_on o told u.node.replica.told d r more q.1.on) h)
        go (Current.Writing op s awaited reply) i k q = later (Current.Writing op s awaited reply) i
            (await_less-rests told d op s awaited reply u i q more h)
        go (Current.Joining n m) i k q = contact (m == d) refl
          where
            contact : (b : Bool) → (m == d) ≡ b → V but (lose o.bound a number d
                (if b then contact_left o.bound a n m (at_work Current.Free u) else u).node.current
                (if b then contact_left o.bound a n m (at_work Current.Free u) else u))
            contact true j = record { sides = h; work = tt }
            contact false j = later (Current.Joining n m) i (same (Current.Joining n m) i
                (untold (u.node.replica.told m) refl))
              where
                untold : (b : Bool) → u.node.replica.told m ≡ b → u.node.replica.told m ≡ false
                untold true z = elim (more m z) [
                  | inl y ↦ cc (eq-eqb m d y, j)
                  | inr y ↦ cc (q, y)
                ]
                untold false z = z

    -- a refused round begins anew
    pub retry-rests : (c : Current) (u : Turn) → WorkRests o u.node.replica.told c → V but u
        → V but (retry_global o.bound a c u)
    retry-rests (Current.Waiting op) u rests h = ask_global-rests op u rests h.sides
    retry-rests _ u rests h = h

-- a turn that leaves the replica and the calls
pub record Same (u v : Turn) : Type 0 where
  pub replica : v.node.replica ≡ u.node.replica
  pub calls : v.node.calls ≡ u.node.calls

module _ (o : Opening) (a : ℕ) where
  finish-same : (op : Op) (s : Nodes) (reply : Option Reply) (u : Turn) → Same u (finish o.bound a op s reply u)
  finish-same op s reply u = record {
    replica = ap (λ (v : Node). v.replica) (answer_op-node o.bound a op reply u);
    calls = ap (λ (v : Node). v.calls) (answer_op-node o.bound a op reply u);
  }

  held-same : (number : ℕ → ℕ) (op : Op) (s : Nodes) (u : Turn) → Same u (held o.bound a number op s u)
  held-same number (Op.Name k call) s u = by (reply_to u.node.replica.members u.node.replica.table call)
      (is_grant (reply_to u.node.replica.members u.node.replica.table call))
    where
      by : (reply : Reply) (b : Bool) → Same u
          (if b then write o.bound a (Op.Name k call) s (Some reply) (change_of call)
          (enter (Entry.Name a k call reply) u)
          else finish o.bound a (Op.Name k call) s (Some reply) (enter (Entry.Name a k call reply) u))
      by reply true = record { replica = refl; calls = refl }
      by reply false = record { replica = refl; calls = refl }
  held-same number (Op.Strike p) s u = record { replica = refl; calls = refl }
  held-same number (Op.Admission j pairs) s u = go (u.node.replica.told j)
    where
      go : (t : Bool) → Same u (if t then finish o.bound a (Op.Admission j pairs) s None u
          else admit o.bound a number j pairs s (settle u.node.replica.table pairs) u)
      go true = record { replica = refl; calls = refl }
      go false = record { replica = refl; calls = refl }
  held-same number (Op.Join k m) s u = record { replica = refl; calls = refl }

  go_on-same : (number : ℕ → ℕ) (op : Op) (r : Round) (u : Turn) → Same u (go_on o.bound a number op r u)
  go_on-same number op r u = go (is_over o.bound r)
    where
      ends : (x : Ending) → Same u (end_by o.bound a number x op (asked r) (at_work (Current.Asking op r) u))
      ends Held = record {
        replica = (held-same number op (asked r) (at_work (Current.Asking op r) u)).replica;
        calls = (held-same number op (asked r) (at_work (Current.Asking op r) u)).calls;
      }
      ends (GiveBack granted) = record { replica = refl; calls = refl }

      go : (b : Bool) → Same u (if b then end_by o.bound a number (ending o.bound u.node.replica.members r) op (asked r)
          (at_work (Current.Asking op r) u) else at_work (Current.Asking op r) u)
      go true = ends (ending o.bound u.node.replica.members r)
      go false = record { replica = refl; calls = refl }

  await_less-same : (d : ℕ) (op : Op) (s awaited : Nodes) (reply : Option Reply) (u : Turn)
      → Same u (await_less o.bound a d (Current.Writing op s awaited reply) u)
  await_less-same d op s awaited reply u = go (awaited d) (is_empty o.bound (at awaited d false))
    where
      go : (b c : Bool) → Same u (if b then (if c then done o.bound a op s reply u
          else at_work (Current.Writing op s (at awaited d false) reply) u) else u)
      go true true = record {
        replica = (finish-same op s reply (enter (Entry.Done a) u)).replica;
        calls = (finish-same op s reply (enter (Entry.Done a) u)).calls;
      }
      go true false = record { replica = refl; calls = refl }
      go false c = record { replica = refl; calls = refl }

  pub lose-same : (number : ℕ → ℕ) (d : ℕ) (c : Current) (u : Turn) → u.node.current ≡ c
      → Same u (lose o.bound a number d (lose_contact o.bound a d u.node.current u).node.current
      (lose_contact o.bound a d u.node.current u))
  lose-same number d c u e = subst
      (λ (x : Current). Same u (lose o.bound a number d (lose_contact o.bound a d x u).node.current
      (lose_contact o.bound a d x u))) (sym e) (go c e)
    where
      later : (x : Current) → u.node.current ≡ x → Same u (lose o.bound a number d x u)
          → Same u (lose o.bound a number d u.node.current u)
      later x i k = subst (λ (y : Current). Same u (lose o.bound a number d y u)) (sym i) k

      go : (x : Current) → u.node.current ≡ x
          → Same u (lose o.bound a number d (lose_contact o.bound a d x u).node.current (lose_contact o.bound a d x u))
      go Current.Free i = later Current.Free i (record { replica = refl; calls = refl })
      go (Current.Waiting op) i = later (Current.Waiting op) i (record { replica = refl; calls = refl })
      go (Current.Asking op r) i = later (Current.Asking op r) i (go_on-same number op (down d r) u)
      go (Current.Writing op s awaited reply) i = later (Current.Writing op s awaited reply) i
          (await_less-same d op s awaited reply u)
      go (Current.Joining n m) i = contact (m == d)
        where
          contact : (b : Bool) → Same u (lose o.bound a number d
              (if b then contact_left o.bound a n m (at_work Current.Free u) else u).node.current
              (if b then contact_left o.bound a n m (at_work Current.Free u) else u))
          contact true = record { replica = refl; calls = refl }
          contact false = later (Current.Joining n m) i (record { replica = refl; calls = refl })
