-- The registrar begins its next operation, or begins a refused round anew: chains of rules.
use Rattle.std.proofs.Common.{ℕ, Bool, true, false, ◌≡◌, Option, Some, None, List, [], ◌∷◌, refl, subst}
use Rattle.std.specs.Prelude.{if◌then◌else◌}
use Rattle.protocol_model.specs.Watch.{owed}
use Rattle.protocol_model.specs.Node.{Op, Current}
use Rattle.protocol_model.specs.Turn.{Turn, with_queue}
use Rattle.protocol_model.specs.Registrar.{contact_left, ask_join, start_queue, start_next, start_free, start, retry_global}
use Rattle.protocol_model.specs.World.{Opening, in_world, World, left}
use Rattle.moves.proofs.Rules
use Rattle.moves.proofs.Rules.{Rule}
use Rattle.walk.proofs.ChainKinds.{is_fit, Kind}
use Rattle.walk.proofs.Chains.{Chain, chain_more}

-- the queue as it was doesn't count where its operations are given
start_queue-with : (n a : ℕ) (ops old : List Op) (u : Turn)
    → start_queue n a ops (with_queue old u) ≡ start_queue n a ops u
start_queue-with n a [] old u = refl
start_queue-with n a (Op.Join k m ∷ ops) old u =
    go (u.node.replica.told m) (start_queue-with n a ops old (contact_left n a k m u))
  where
    go : (t : Bool)
        → start_queue n a ops (with_queue old (contact_left n a k m u)) ≡ start_queue n a ops (contact_left n a k m u)
        → (if t then start_queue n a ops (contact_left n a k m (with_queue old u))
        else ask_join n a k m (with_queue ops (with_queue old u)))
        ≡ (if t then start_queue n a ops (contact_left n a k m u) else ask_join n a k m (with_queue ops u))
    go true e = e
    go false e = refl
start_queue-with n a (op ∷ ops) old u = refl

module _ (o : Opening) (a : ℕ) (K : Kind) (inside : in_world o a ≡ true) (w : World) (first : List Rule) (b : World)
    (running : left b a ≡ false) where
  -- the front of the queue becomes current
  start_queue-chain : (ops : List Op) (u : Turn) → Chain o a K w first b u → u.node.current ≡ Current.Free
      → u.node.queue ≡ ops
      → Chain o a K w first b (start_queue o.bound a ops u)
  start_queue-chain [] u h free e = subst (λ (x : List Op). Chain o a K w first b (with_queue x u)) e h
  start_queue-chain (Op.Join k m ∷ ops) u h free e = go (u.node.replica.told m) refl (start_queue-chain ops)
    where
      go : (t : Bool) → u.node.replica.told m ≡ t
          → ((v : Turn) → Chain o a K w first b v → v.node.current ≡ Current.Free → v.node.queue ≡ ops
          → Chain o a K w first b (start_queue o.bound a ops v))
          → Chain o a K w first b
          (if t then start_queue o.bound a ops (contact_left o.bound a k m u)
          else ask_join o.bound a k m (with_queue ops u))
      go true told rest =
          subst (Chain o a K w first b) (start_queue-with o.bound a ops ops (contact_left o.bound a k m u))
          (rest (contact_left o.bound a k m (with_queue ops u))
          (chain_more o a K inside w first b u (Rules.SkipsJoin k m ops) running h refl refl (free, e, told)) free refl)
      go false told rest =
          chain_more o a K inside w first b u (Rules.AsksJoin k m ops) running h refl refl (free, e, told)
  start_queue-chain (Op.Name k c ∷ ops) u h free e =
      chain_more o a K inside w first b u (Rules.Begins (Op.Name k c) ops) running h refl refl (free, e, refl)
  start_queue-chain (Op.Strike p ∷ ops) u h free e =
      chain_more o a K inside w first b u (Rules.Begins (Op.Strike p) ops) running h refl refl (free, e, refl)
  start_queue-chain (Op.Admission j pairs ∷ ops) u h free e =
      chain_more o a K inside w first b u (Rules.Begins (Op.Admission j pairs) ops) running h refl refl (free, e, refl)

  -- the end of a step
  pub start-chain : (u : Turn) → Chain o a K w first b u → Chain o a K w first b (start o.bound a u)
  start-chain u h = go u.node.current refl
    where
      next : u.node.current ≡ Current.Free → (s : Option ℕ) → owed a u.node.replica.table u.node.watch ≡ s
          → Chain o a K w first b (start_next o.bound a s u)
      next free (Some serial) e =
          chain_more o a K inside w first b u (Rules.BeginsStrike serial) running h refl refl (free, e)
      next free None e = start_queue-chain u.node.queue u h free refl

      go : (c : Current) → u.node.current ≡ c → Chain o a K w first b (start_free o.bound a c u)
      go Current.Free e = next e (owed a u.node.replica.table u.node.watch) refl
      go (Current.Asking op r) e = h
      go (Current.Waiting op) e = h
      go (Current.Writing op asked awaited reply) e = h
      go (Current.Joining k m) e = h

  -- a refused round of the registrar begins anew
  pub retry_global-chain : ((op : Op) → is_fit K (Rules.Retries op) ≡ true) → (u : Turn) → Chain o a K w first b u
      → Chain o a K w first b (retry_global o.bound a u.node.current u)
  retry_global-chain may u h = go u.node.current refl
    where
      go : (c : Current) → u.node.current ≡ c → Chain o a K w first b (retry_global o.bound a c u)
      go (Current.Waiting op) e = chain_more o a K inside w first b u (Rules.Retries op) running h (may op) refl e
      go (Current.Asking op r) e = h
      go Current.Free e = h
      go (Current.Writing op asked awaited reply) e = h
      go (Current.Joining k m) e = h

-- it touches no lock call
pub retry_global-calls : (n a : ℕ) (c : Current) (u : Turn) → (retry_global n a c u).node.calls ≡ u.node.calls
retry_global-calls n a (Current.Waiting op) u = refl
retry_global-calls n a _ u = refl
