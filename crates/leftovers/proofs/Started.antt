-- A registrar that is free between two events owes no strike and has an empty queue.
use Rattle.std.proofs.Common.{ℕ, Bool, true, false, ◌≡◌, ◌+◌, Option, Some, None, List, [], ◌∷◌, refl, sym, subst}
use Rattle.std.specs.Prelude.{not, ◌&&◌, if◌then◌else◌}
use Rattle.protocol_model.specs.Letter.{Letter, is_down}
use Rattle.protocol_model.specs.Watch.{owed}
use Rattle.protocol_model.specs.Node.{Node, Op, Current}
use Rattle.protocol_model.specs.Event.{Event}
use Rattle.protocol_model.specs.Turn.{Turn, begun, with_queue, enter}
use Rattle.protocol_model.specs.Registrar.{contact_left, ask_join, start_queue, start_next, start_free, start, retry_global}
use Rattle.protocol_model.specs.Client.{retry_locks}
use Rattle.protocol_model.specs.Calling.{call, die}
use Rattle.registry_model.specs.History.{Entry}
use Rattle.protocol_model.specs.Reading.{read}
use Rattle.protocol_model.specs.World.{join_number, Opening, World, WorldEvent, At, Deliver, place, heard, turn_of, accepted, opening_world}
use Rattle.protocol_model.proofs.Waiting.{accepted-node}
use Rattle.registry_model.proofs.Updates.{by_test}

pub record Idle (a : ℕ) (v : Node) : Type 0 where
  pub strikes : owed a v.replica.table v.watch ≡ None
  pub queue : v.queue ≡ []

abbrev pub IsStarted : ℕ → Node → Type 0
IsStarted a v = v.current ≡ Current.Free → Idle a v

module _ (n a : ℕ) where
  queue_started : (ops : List Op) (u : Turn) → owed a u.node.replica.table u.node.watch ≡ None
      → IsStarted a (start_queue n a ops u).node
  queue_started [] u h e = record { strikes = h; queue = refl }
  queue_started (Op.Join k m ∷ ops) u h e = go (u.node.replica.told m) (queue_started ops (contact_left n a k m u) h) e
    where
      go : (t : Bool) → IsStarted a (start_queue n a ops (contact_left n a k m u)).node
          → IsStarted a (if t then start_queue n a ops (contact_left n a k m u)
          else ask_join n a k m (with_queue ops u)).node
      go true more = more
      go false more = λ e. cc e
  queue_started (Op.Name k c ∷ ops) u h e = cc e
  queue_started (Op.Strike p ∷ ops) u h e = cc e
  queue_started (Op.Admission j pairs ∷ ops) u h e = cc e

  pub start_started : (u : Turn) → IsStarted a (start n a u).node
  start_started u = go u.node.current refl
    where
      next : (s : Option ℕ) → owed a u.node.replica.table u.node.watch ≡ s → IsStarted a (start_next n a s u).node
      next (Some serial) h = λ e. cc e
      next None h = queue_started u.node.queue u h

      go : (c : Current) → u.node.current ≡ c → IsStarted a (start_free n a c u).node
      go Current.Free h = next (owed a u.node.replica.table u.node.watch) refl
      go (Current.Asking op r) h = λ e. cc (h, e)
      go (Current.Waiting op) h = λ e. cc (h, e)
      go (Current.Writing op s awaited reply) h = λ e. cc (h, e)
      go (Current.Joining k m) h = λ e. cc (h, e)

abbrev pub AllStarted : World → Type 0
AllStarted w = (a : ℕ) → IsStarted a (w.node a)

turn_started : (o : Opening) (w : World) (e : WorldEvent) → AllStarted w → IsStarted (place e) (turn_of o w e).node
turn_started o w (At a (Event.Calling c)) S =
    start_started o.bound a (call o.bound a ((w.node a).last_call + 1) c (begun (w.node a)))
turn_started o w (At a Event.Retry) S =
    start_started o.bound a (retry_locks o.bound a (retry_global o.bound a (w.node a).current (begun (w.node a))))
turn_started o w (At a (Event.Exiting p)) S =
    start_started o.bound a (die o.bound a p (enter (Entry.Exit p) (begun (w.node a))))
turn_started o w (At a Event.Leave) S = λ h. record { strikes = (S a h).strikes; queue = (S a h).queue }
turn_started o w (Deliver f t) S = go (w.links.queue f t)
  where
    go : (ls : List Letter) → IsStarted t (heard o.bound t w f ls).node
    go [] = S t
    go (l ∷ ls) = start_started o.bound t (if (w.node t).replica.told f && not (is_down l) then begun (w.node t)
        else read o.bound t (join_number w) f l (begun (w.node t)))

pub started_keeps : (o : Opening) (w : World) (e : WorldEvent) → AllStarted w → AllStarted (accepted o w e)
started_keeps o w e S = subst (λ (f : ℕ → Node). (x : ℕ) → IsStarted x (f x)) (sym (accepted-node o w e))
    (by_test (place e) (λ x t. IsStarted x (if t then (turn_of o w e).node else w.node x))
    (turn_started o w e S) (λ x ne. S x))

pub started_opens : (o : Opening) → AllStarted (opening_world o)
started_opens o a e = record { strikes = refl; queue = refl }
