-- Behind each event a registrar that is free has nothing in its queue.
use Rattle.std.proofs.Common.{ℕ, Bool, true, false, ◌≡◌, ◌+◌, Option, Some, None, List, [], ◌∷◌, refl, sym, ap, subst}
use Rattle.std.specs.Prelude.{◌&&◌, ◌||◌, not, if◌then◌else◌, is_none}
use Rattle.registry_model.specs.Process.{at}
use Rattle.registry_model.specs.Call.{Reply, Look, Pid}
use Rattle.protocol_model.specs.Letter.{Letter, is_down}
use Rattle.protocol_model.specs.Watch.{owed, with_spawned}
use Rattle.protocol_model.specs.Node.{Node, Op, Current}
use Rattle.protocol_model.specs.Event.{Event, Refusal, NoSuchNode, NodeLeft, cause, first_cause}
use Rattle.protocol_model.specs.Turn.{Turn, begun, with_queue, enter}
use Rattle.protocol_model.specs.Registrar.{start, start_free, start_next, start_queue, contact_left, ask_join, retry_global}
use Rattle.protocol_model.specs.Calling.{looked, spawned, call, die}
use Rattle.protocol_model.specs.Client.{retry_locks}
use Rattle.protocol_model.specs.Reading.{read}
use Rattle.registry_model.specs.History.{Entry}
use Rattle.protocol_model.specs.Answers.{answer_to}
use Rattle.protocol_model.specs.World.{Opening, World, left, in_world, WorldEvent, At, Deliver, join_number, place, other, heard, turn_of, refusal, local_causes, accepted, happens, opening_world}
use Rattle.registry_model.proofs.Updates.{by_test, at_same}

-- a free registrar has nothing in its queue
abbrev pub IsRested : Node → Type 0
IsRested v = v.current ≡ Current.Free → v.queue ≡ []

-- each node that runs is so
abbrev pub Rested : World → Type 0
Rested w = (a : ℕ) → left w a ≡ false → IsRested (w.node a)

pub rested_opens : (o : Opening) → Rested (opening_world o)
rested_opens o a l e = refl

rests_queue : (n a : ℕ) (ops : List Op) (u : Turn) → IsRested (start_queue n a ops u).node
rests_queue n a [] u = λ e. refl
rests_queue n a (Op.Join k m ∷ ops) u = go (u.node.replica.told m) (rests_queue n a ops (contact_left n a k m u))
  where
    go : (b : Bool) → IsRested (start_queue n a ops (contact_left n a k m u)).node
        → IsRested (if b then start_queue n a ops (contact_left n a k m u) else ask_join n a k m
        (with_queue ops u)).node
    go true more = more
    go false more = λ e. cc
rests_queue n a (Op.Name k call ∷ ops) u = λ e. cc
rests_queue n a (Op.Strike p ∷ ops) u = λ e. cc
rests_queue n a (Op.Admission j pairs ∷ ops) u = λ e. cc

rests_next : (n a : ℕ) (s : Option ℕ) (u : Turn) → IsRested (start_next n a s u).node
rests_next n a (Some s) u = λ e. cc
rests_next n a None u = rests_queue n a u.node.queue u

rests_free : (n a : ℕ) (c : Current) (u : Turn) → u.node.current ≡ c → IsRested (start_free n a c u).node
rests_free n a Current.Free u is = rests_next n a (owed a u.node.replica.table u.node.watch) u
rests_free n a (Current.Asking op r) u is = λ e. cc
rests_free n a (Current.Waiting op) u is = λ e. cc
rests_free n a (Current.Writing op asked awaited reply) u is = λ e. cc
rests_free n a (Current.Joining k m) u is = λ e. cc

start_rests : (n a : ℕ) (u : Turn) → IsRested (start n a u).node
start_rests n a u = rests_free n a u.node.current u refl

-- a look-up has one answer
pub looked-answers : (n a : ℕ) (look : Look) (reply : Reply) (v : Node) → IsRested v
    → (start n a (looked n a look reply (begun v))).answers ≡ answer_to a 0 reply ∷ []
looked-answers n a look reply v rested = go v.current refl
  where
    u : Turn
    u = looked n a look reply (begun v)

    next : (s : Option ℕ) → v.queue ≡ [] → (start_next n a s u).answers ≡ answer_to a 0 reply ∷ []
    next (Some s) e = refl
    next None e = ap (λ (ops : List Op). (start_queue n a ops u).answers) e

    go : (c : Current) → v.current ≡ c → (start_free n a c u).answers ≡ answer_to a 0 reply ∷ []
    go Current.Free e = next (owed a v.replica.table v.watch) (rested e)
    go _ e = refl

-- and so has a `spawn`
pub spawned-answers : (n a serial : ℕ) (v : Node) → IsRested v
    → (start n a (spawned n a serial (begun v))).answers ≡ answer_to a 0 (Pid
    (record { node = a; serial = serial })) ∷ []
spawned-answers n a serial v rested = go v.current refl
  where
    u : Turn
    u = spawned n a serial (begun v)

    next : (s : Option ℕ) → v.queue ≡ []
        → (start_next n a s u).answers ≡ answer_to a 0 (Pid (record { node = a; serial = serial })) ∷ []
    next (Some s) e = refl
    next None e = ap (λ (ops : List Op). (start_queue n a ops u).answers) e

    go : (c : Current) → v.current ≡ c
        → (start_free n a c u).answers ≡ answer_to a 0 (Pid (record { node = a; serial = serial })) ∷ []
    go Current.Free e = next (owed a v.replica.table (with_spawned serial v.watch)) (rested e)
    go _ e = refl

-- an accepted event is one at a node that hasn't left
pub place_runs : (o : Opening) (w : World) (e : WorldEvent) → refusal o w e ≡ None → left w (place e) ≡ false
place_runs o w e = go (not (in_world o (place e)) || not (in_world o (other e))) (left w (place e))
  where
    go : (b c : Bool) → first_cause (cause b NoSuchNode ∷ cause c NodeLeft ∷ local_causes w e) ≡ None → c ≡ false
    go true c h = cc
    go false true h = cc
    go false false h = refl

heard_rests : (n t : ℕ) (w : World) (f : ℕ) (ls : List Letter) → IsRested (w.node t)
    → IsRested (heard n t w f ls).node
heard_rests n t w f [] h = h
heard_rests n t w f (l ∷ ls) h = start_rests n t
    (if (w.node t).replica.told f && not (is_down l) then begun (w.node t) else read n t (join_number w) f l
    (begun (w.node t)))

-- what a node makes of an event that isn't its last
event_rests : (o : Opening) (w : World) (a : ℕ) (e : Event) → (e ≡ Event.Leave → ⊥)
    → IsRested (turn_of o w (At a e)).node
event_rests o w a (Event.Calling c) ne = start_rests o.bound a
    (call o.bound a ((w.node a).last_call + 1) c (begun (w.node a)))
event_rests o w a Event.Retry ne = start_rests o.bound a
    (retry_locks o.bound a (retry_global o.bound a (w.node a).current (begun (w.node a))))
event_rests o w a (Event.Exiting p) ne = start_rests o.bound a
    (die o.bound a p (enter (Entry.Exit p) (begun (w.node a))))
event_rests o w a Event.Leave ne = absurd (ne refl)

-- another turn at a node
turned : (w v : World) (a : ℕ) (u : Node) → Rested w → v.node ≡ at w.node a u
    → ((c : ℕ) → left v c ≡ false → left w c ≡ false)
    → (left v a ≡ false → IsRested u) → Rested v
turned w v a u R nodes runs here c l = subst (λ (f : ℕ → Node). IsRested (f c)) (sym nodes)
    (by_test a (λ x t. left v x ≡ false → IsRested (if t then u else w.node x)) here (λ x ne k. R x (runs x k)) c l)

pub rested_keeps : (o : Opening) (w : World) (e : WorldEvent) → Rested w → Rested (happens o w e)
rested_keeps o w e R = go (refusal o w e) refl
  where
    accepts : (e : WorldEvent) → left w (place e) ≡ false → Rested (accepted o w e)
    accepts (Deliver f t) runs = turned w (accepted o w (Deliver f t)) t (turn_of o w (Deliver f t)).node R refl
        (λ c l. l)
        (λ l. heard_rests o.bound t w f (w.links.queue f t) (R t runs))
    accepts (At a Event.Leave) runs = turned w (accepted o w (At a Event.Leave)) a
        (turn_of o w (At a Event.Leave)).node R refl
        (by_test a (λ c t. (if t then true else left w c) ≡ false → left w c ≡ false) (λ l. cc) (λ c ne l. l))
        (λ l. absurd (cc (at_same (left w) a true, l)))
    accepts (At a e) runs = turned w (accepted o w (At a e)) a (turn_of o w (At a e)).node R refl (λ c l. l)
        (λ l. event_rests o w a e (λ is. cc))

    go : (r : Option Refusal) → refusal o w e ≡ r → Rested (if is_none r then accepted o w e else w)
    go (Some r) is = R
    go None is = accepts e (place_runs o w e is)
