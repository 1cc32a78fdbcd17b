-- The registrar's round ends, or its write: chains of rules.
use Rattle.std.proofs.Common.{ℕ, Bool, true, false, ◌==◌, ◌≡◌, Option, Some, None, List, refl, sym, subst, ap, ◌∙◌}
use Rattle.std.specs.Prelude.{if◌then◌else◌}
use Rattle.std.proofs.Math.Path.{fun_ext}
use Rattle.std.proofs.lemmas.Bool.{eqb-true}
use Rattle.registry_model.specs.Process.{Nodes, at}
use Rattle.registry_model.specs.Call.{Reply, is_grant, change_of, reply_to}
use Rattle.registry_model.specs.Settlement.{settle}
use Rattle.registry_model.specs.History.{Entry}
use Rattle.protocol_model.specs.Round.{Round, is_empty, asked, down, is_over, Ending, Held, GiveBack, ending}
use Rattle.protocol_model.specs.Node.{Node, Op, Current}
use Rattle.protocol_model.specs.Turn.{Turn, at_work, enter}
use Rattle.protocol_model.specs.Registrar.{finish, done, write, contact_left, lose_contact}
use Rattle.protocol_model.specs.Deciding.{admit, held, end_by, end_round, lose}
use Rattle.protocol_model.specs.World.{Opening, in_world, World, left, number_in, join_number, apply}
use Rattle.registry_model.proofs.Updates.{by_test}
use Rattle.moves.proofs.Rules
use Rattle.moves.proofs.Rules.{Rule, IsHeld}
use Rattle.walk.proofs.ChainKinds.{Hearing}
use Rattle.walk.proofs.Chains.{Chain, chain_more}

-- the numbers of current joins are as they were, where this node's is
pub join_number-behind : (a : ℕ) (w b : World) (u : Turn) → b.node ≡ w.node
    → number_in u.node.current ≡ number_in (w.node a).current
    → join_number (apply a u b) ≡ join_number w
join_number-behind a w b u same e =
    fun_ext (by_test a (λ x t. number_in (if t then u.node else b.node x).current ≡ number_in (w.node x).current)
    e (λ x ne. ap (λ (f : ℕ → Node). number_in (f x).current) same))

-- an acknowledgement that is counted doesn't matter where the write is done
done-at_work : (n a : ℕ) (op : Op) (asked : Nodes) (reply : Option Reply) (c : Current) (u : Turn)
    → done n a op asked reply (at_work c u) ≡ done n a op asked reply u
done-at_work n a (Op.Name k call) asked (Some reply) c u = refl
done-at_work n a (Op.Name k call) asked None c u = refl
done-at_work n a (Op.Strike p) asked reply c u = refl
done-at_work n a (Op.Join k m) asked reply c u = refl
done-at_work n a (Op.Admission j pairs) asked reply c u = refl

-- a write that is done changes no replica
done-replica : (n a : ℕ) (op : Op) (asked : Nodes) (reply : Option Reply) (u : Turn)
    → (done n a op asked reply u).node.replica ≡ u.node.replica
done-replica n a (Op.Name k call) asked (Some reply) u = refl
done-replica n a (Op.Name k call) asked None u = refl
done-replica n a (Op.Strike p) asked reply u = refl
done-replica n a (Op.Join k m) asked reply u = refl
done-replica n a (Op.Admission j pairs) asked reply u = refl

-- and no lock call
done-calls : (n a : ℕ) (op : Op) (asked : Nodes) (reply : Option Reply) (u : Turn)
    → (done n a op asked reply u).node.calls ≡ u.node.calls
done-calls n a (Op.Name k call) asked (Some reply) u = refl
done-calls n a (Op.Name k call) asked None u = refl
done-calls n a (Op.Strike p) asked reply u = refl
done-calls n a (Op.Join k m) asked reply u = refl
done-calls n a (Op.Admission j pairs) asked reply u = refl

module _ (o : Opening) (a : ℕ) (inside : in_world o a ≡ true) (w : World) (first : List Rule) (b : World)
    (running : left b a ≡ false) where
  -- The chain goes on from turn u to turn v, which leaves the replica and the lock calls as they are
  pub record Onward (u v : Turn) : Type 0 where
    pub chain : Chain o a Hearing w first b v
    pub replica : v.node.replica ≡ u.node.replica
    pub calls : v.node.calls ≡ u.node.calls

  -- nothing more is done
  pub onward_none : (u : Turn) → Chain o a Hearing w first b u → Onward u u
  onward_none u h = record { chain = h; replica = refl; calls = refl }

  -- one step onward, and then more
  pub onward_then : (u v x : Turn) → v.node.replica ≡ u.node.replica → v.node.calls ≡ u.node.calls → Onward v x
      → Onward u x
  onward_then u v x e f g = record { chain = g.chain; replica = g.replica ∙ e; calls = g.calls ∙ f }

  -- the write is done
  finishes : (op : Op) (asked awaited : Nodes) (reply : Option Reply) (u : Turn) → Chain o a Hearing w first b u
      → u.node.current ≡ Current.Writing op asked awaited reply → is_empty o.bound awaited ≡ true
      → Onward u (done o.bound a op asked reply u)
  finishes op asked awaited reply u h e q = record {
    chain = chain_more o a Hearing inside w first b u (Rules.Finishes op asked awaited reply) running h refl refl
        (e, q);
    replica = done-replica o.bound a op asked reply u;
    calls = done-calls o.bound a op asked reply u;
  }

  -- one node less is awaited, and the write may be done
  pub awaited_less : (c : ℕ) (op : Op) (asked awaited : Nodes) (reply : Option Reply) (u : Turn)
      → Chain o a Hearing w first b (at_work (Current.Writing op asked (at awaited c false) reply) u)
      → Onward u (if is_empty o.bound (at awaited c false) then done o.bound a op asked reply u
      else at_work (Current.Writing op asked (at awaited c false) reply) u)
  awaited_less c op asked awaited reply u h = go (is_empty o.bound (at awaited c false)) refl
    where
      go : (t : Bool) → is_empty o.bound (at awaited c false) ≡ t
          → Onward u
          (if t then done o.bound a op asked reply u
          else at_work (Current.Writing op asked (at awaited c false) reply) u)
      go true e =
          subst (Onward u)
          (done-at_work o.bound a op asked reply (Current.Writing op asked (at awaited c false) reply) u)
          (onward_then u (at_work (Current.Writing op asked (at awaited c false) reply) u)
          (done o.bound a op asked reply (at_work (Current.Writing op asked (at awaited c false) reply) u)) refl refl
          (finishes op asked (at awaited c false) reply
          (at_work (Current.Writing op asked (at awaited c false) reply) u) h refl e))
      go false e = record { chain = h; replica = refl; calls = refl }

  -- a join by d ends
  pub lose_contact-chain : (d : ℕ) (u : Turn) → Chain o a Hearing w first b u → u.node.replica.told d ≡ true
      → Onward u (lose_contact o.bound a d u.node.current u)
  lose_contact-chain d u h told = go u.node.current refl
    where
      join : (k m : ℕ) → u.node.current ≡ Current.Joining k m → (t : Bool) → (m == d) ≡ t
          → Onward u (if t then contact_left o.bound a k m (at_work Current.Free u) else u)
      join k m e true q = record {
        chain = chain_more o a Hearing inside w first b u (Rules.LosesContact k m) running h refl refl
            (subst (λ (x : ℕ). u.node.replica.told x ≡ true) (sym (eqb-true m d q)) told, e);
        replica = refl;
        calls = refl;
      }
      join k m e false q = onward_none u h

      go : (c : Current) → u.node.current ≡ c → Onward u (lose_contact o.bound a d c u)
      go (Current.Joining k m) e = join k m e (m == d) refl
      go (Current.Asking op r) e = onward_none u h
      go (Current.Waiting op) e = onward_none u h
      go (Current.Writing op asked awaited reply) e = onward_none u h
      go Current.Free e = onward_none u h

  module _ (number : ℕ → ℕ) (same : (u : Turn) → number_in u.node.current ≡ 0 → join_number (apply a u b) ≡ number)
    where
      -- what was held is decided
      held-chain : (op : Op) (r : Round) (u : Turn) → Chain o a Hearing w first b u → IsHeld o.bound u.node op r
          → Onward u (held o.bound a number op (asked r) u)
      held-chain (Op.Name k call) r u h e = go (is_grant (reply_to u.node.replica.members u.node.replica.table call))
          refl
        where
          reply : Reply
          reply = reply_to u.node.replica.members u.node.replica.table call

          go : (t : Bool) → is_grant (reply_to u.node.replica.members u.node.replica.table call) ≡ t
              → Onward u
              (if t then write o.bound a (Op.Name k call) (asked r) (Some reply) (change_of call)
              (enter (Entry.Name a k call reply) u)
              else finish o.bound a (Op.Name k call) (asked r) (Some reply) (enter (Entry.Name a k call reply) u))
          go true q =
              record {
                chain =
                    chain_more o a Hearing inside w first b u (Rules.Grants k call r) running h refl refl (e, q);
                replica =
                    refl;
                calls = refl;
              }
          go false q =
              record {
                chain =
                    chain_more o a Hearing inside w first b u (Rules.Denies k call r) running h refl refl (e, q);
                replica =
                    refl;
                calls = refl;
              }
      held-chain (Op.Strike p) r u h e =
          record {
            chain = chain_more o a Hearing inside w first b u (Rules.Strikes p r) running h refl refl e;
            replica =
                refl;
            calls = refl;
          }
      held-chain (Op.Admission j pairs) r u h e = go (u.node.replica.told j) refl
        where
          go : (t : Bool) → u.node.replica.told j ≡ t
              → Onward u (if t then finish o.bound a (Op.Admission j pairs) (asked r) None u
              else admit o.bound a number j pairs (asked r) (settle u.node.replica.table pairs) u)
          go true q =
              record {
                chain =
                    chain_more o a Hearing inside w first b u (Rules.Passes j pairs r) running h refl refl (e, q);
                replica =
                    refl;
                calls = refl;
              }
          go false q = record {
            chain = subst
                (λ (f : ℕ → ℕ). Chain o a Hearing w first b
                (admit o.bound a f j pairs (asked r) (settle u.node.replica.table pairs) u))
                (same u (ap number_in e.current))
                (chain_more o a Hearing inside w first b u (Rules.Admits j pairs r) running h refl refl (e, q));
            replica = refl;
            calls = refl;
          }
      held-chain (Op.Join k m) r u h e = onward_none u h

      -- the round may be over
      pub end_round-chain : (op : Op) (r : Round) (u : Turn) → Chain o a Hearing w first b u
          → u.node.current ≡ Current.Asking op r
          → Onward u (end_round o.bound a number op r u)
      end_round-chain op r u h e = go (is_over o.bound r) refl (ending o.bound u.node.replica.members r) refl
        where
          go : (t : Bool) → is_over o.bound r ≡ t → (x : Ending) → ending o.bound u.node.replica.members r ≡ x
              → Onward u (if t then end_by o.bound a number x op (asked r) u else u)
          go true q Held s = held-chain op r u h (record { current = e; over = q; held = s })
          go true q (GiveBack granted) s =
              record {
                chain =
                    chain_more o a Hearing inside w first b u (Rules.GivesUp op r granted) running h refl refl
                    (e, q, s);
                replica =
                    refl;
                calls = refl;
              }
          go false q x s = onward_none u h

      -- d has gone down: the registrar's round or its write is told
      pub lose-chain : (d : ℕ) (u : Turn) → Chain o a Hearing w first b u → u.node.replica.told d ≡ true
          → Onward u (lose o.bound a number d u.node.current u)
      lose-chain d u h told = go u.node.current refl
        where
          less : (op : Op) (asked awaited : Nodes) (reply : Option Reply)
              → u.node.current ≡ Current.Writing op asked awaited reply
              → (t : Bool) → awaited d ≡ t
              → Onward u (if t then (if is_empty o.bound (at awaited d false) then done o.bound a op asked reply u
              else at_work (Current.Writing op asked (at awaited d false) reply) u) else u)
          less op asked awaited reply e true q = awaited_less d op asked awaited reply u
              (chain_more o a Hearing inside w first b u (Rules.CountsDown d op asked awaited reply) running h refl refl
              (told, e, q))
          less op asked awaited reply e false q = onward_none u h

          go : (c : Current) → u.node.current ≡ c → Onward u (lose o.bound a number d c u)
          go (Current.Asking op r) e =
              onward_then u (at_work (Current.Asking op (down d r)) u)
              (end_round o.bound a number op (down d r) (at_work (Current.Asking op (down d r)) u))
              refl refl
              (end_round-chain op (down d r) (at_work (Current.Asking op (down d r)) u)
              (chain_more o a Hearing inside w first b u (Rules.MarksDown d op r) running h refl refl (told, e)) refl)
          go (Current.Writing op asked awaited reply) e = less op asked awaited reply e (awaited d) refl
          go (Current.Waiting op) e = onward_none u h
          go (Current.Joining k m) e = onward_none u h
          go Current.Free e = onward_none u h
