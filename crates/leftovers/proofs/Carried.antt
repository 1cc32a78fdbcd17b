-- In a quiet world who is dead in the registry is dead at its node.
use mathlib.Core.Logic.{◌⊎◌}
use Rattle.std.proofs.Common.{ℕ, Bool, true, false, ◌==◌, ◌≡◌, ◌+◌, None, List, [], ◌∷◌, ◌++◌, refl, sym, ap, ◌∙◌, subst, inl, inr}
use Rattle.std.specs.Prelude.{not, ◌&&◌, nat_lt, if◌then◌else◌, Contains}
use Rattle.std.proofs.lemmas.Bool.{eq-eqb}
use Rattle.std.proofs.lemmas.List.{append_assoc}
use Rattle.registry_model.specs.Process.{Process}
use Rattle.registry_model.specs.Registry.{Registry, Replica}
use Rattle.registry_model.specs.Settlement.{settle}
use Rattle.registry_model.specs.Call.{Joined}
use Rattle.registry_model.specs.History.{Entry, effect, registry_of}
use Rattle.registry_model.specs.Legal.{IsLegal}
use Rattle.registry_model.proofs.Updates.{at_same}
use Rattle.registry_model.proofs.HistoryParts.{registry_of-append}
use Rattle.registry_model.proofs.Deaths.{Kills, ByExit, dead-cases}
use Rattle.protocol_model.specs.Letter.{Letter}
use Rattle.protocol_model.specs.Links.{taken}
use Rattle.protocol_model.specs.Watch.{is_dead}
use Rattle.protocol_model.specs.Node.{Node, Op, Current, Times}
use Rattle.protocol_model.specs.Event.{Call, Event}
use Rattle.protocol_model.specs.Turn.{Turn, begun, count_call, enter, sent_to}
use Rattle.protocol_model.specs.Registrar.{start, retry_global}
use Rattle.protocol_model.specs.Client.{new_call, retry_locks}
use Rattle.protocol_model.specs.Calling.{die, call}
use Rattle.protocol_model.specs.World.{Opening, in_world, in_cluster, World, left, WorldEvent, At, Deliver, refusal, join_number, heard, turn_of, accepted, opening_world}
use Rattle.headline.proofs.Indices.{both}
use Rattle.headline.proofs.Rules.{Walked}
use Rattle.headline.proofs.Invariants.{IsUp}
use Rattle.walk.proofs.Events.{Accepted, accepted_of}
use Rattle.walk.proofs.Walk.{event_walked}
use Rattle.protocol_model.proofs.Waiting.{accepted-node}
use Rattle.headline.proofs.Exiting.{dead_event, exit_kills}
use Rattle.leftovers.proofs.Grounds.{Base, wide, replicas, between}
use Rattle.leftovers.proofs.Extends.{are_harmless, has_kill, kill_later, Adds, adds_then, adds_same, adds_entry, add_send_all, add_start, add_retry, add_try, add_delete, add_retry_all, add_die, kills_by}
use Rattle.leftovers.proofs.Verdicts.{Admitted, harmless_dead, admitted_dead}
use Rattle.leftovers.proofs.DoomedEvents.{Doomed, kill_stays, letter_dead, Decides, Result, receive_result}
use Rattle.leftovers.proofs.Families.{Families, families_keep, families_open, whole}
use Rattle.leftovers.proofs.Names.{no_departed, owner_inside, no_dead}
use Rattle.headline.specs.Clauses.{world}
use Rattle.headline.specs.Worlds.{OfNodes}
use Rattle.leftovers.specs.Leftovers.{DeathsAreCarriedOut, KnownDeadOwnNothing}

-- what an event adds to the history
accepted-history : (o : Opening) (w : World) (e : WorldEvent)
    → (accepted o w e).history ≡ w.history ++ (turn_of o w e).entries
accepted-history o w (At a Event.Leave) = refl
accepted-history o w (At a (Event.Calling c)) = refl
accepted-history o w (At a Event.Retry) = refl
accepted-history o w (At a (Event.Exiting p)) = refl
accepted-history o w (Deliver f t) = refl

-- who runs behind it ran before
accepted-left : (o : Opening) (w : World) (e : WorldEvent) (c : ℕ) → left (accepted o w e) c ≡ false → left w c ≡ false
accepted-left o w (At a Event.Leave) c h = go (c == a) h
  where
    go : (b : Bool) → (if b then true else left w c) ≡ false → left w c ≡ false
    go true k = cc k
    go false k = k
accepted-left o w (At a (Event.Calling y)) c h = h
accepted-left o w (At a Event.Retry) c h = h
accepted-left o w (At a (Event.Exiting y)) c h = h
accepted-left o w (Deliver f t) c h = h

-- who exits is the process of its entry
killed_by_exit : (r : Registry) (p q : Process) → Kills r p (Entry.Exit q) → p ≡ q
killed_by_exit r p q ByExit = refl

-- what is sent in a delivery is on its way
delivery_sent : (o : Opening) (w : World) (f t c : ℕ) (p : Process) → left w c ≡ false
    → has_kill p (sent_to c (turn_of o w (Deliver f t)).sends) ≡ true
    → has_kill p ((accepted o w (Deliver f t)).links.queue t c) ≡ true
delivery_sent o w f t c p up h = rw (eq-eqb t t refl, up)
    (kill_later p ((taken f t w.links).queue t c) (sent_to c (turn_of o w (Deliver f t)).sends) h)

module _ (o : Opening) (w : World) (B : Base o w) where
  -- a call kills nobody
  call_adds : (a : ℕ) (c : Call) → Adds (begun (w.node a)) (call o.bound a ((w.node a).last_call + 1) c (begun (w.node a)))
  call_adds a Call.Spawn = adds_same (begun (w.node a)) _ refl refl
  call_adds a (Call.LookUp look) = adds_entry (begun (w.node a))
      (call o.bound a ((w.node a).last_call + 1) (Call.LookUp look) (begun (w.node a))) _ refl refl refl
  call_adds a (Call.OnName c) = adds_same (begun (w.node a)) _ refl refl
  call_adds a (Call.SetLock p r q target retries) = adds_then (begun (w.node a)) (count_call (begun (w.node a))) _
      (adds_same (begun (w.node a)) (count_call (begun (w.node a))) refl refl)
      (add_try o.bound a (new_call o.bound a ((w.node a).last_call + 1) p r q target retries)
      (count_call (begun (w.node a))))
  call_adds a (Call.DelLock p r q target) = adds_then (begun (w.node a)) (count_call (begun (w.node a))) _
      (adds_same (begun (w.node a)) (count_call (begun (w.node a))) refl refl)
      (add_delete o.bound a (new_call o.bound a ((w.node a).last_call + 1) p r q target (Times 0))
      (count_call (begun (w.node a))))
  call_adds a (Call.JoinBy m) = adds_same (begun (w.node a)) _ refl refl

  -- how an event may make somebody dead
  data Effect (e : WorldEvent) : Type 0 where
    Nobody : are_harmless (turn_of o w e).entries ≡ true → Effect e
    Exits : (a : ℕ) (q : Process) → e ≡ At a (Event.Exiting q) → Effect e
    Decided : (f t : ℕ) (up : IsUp o w t) → e ≡ Deliver f t → Decides o w B f t up (turn_of o w (Deliver f t)) → Effect e

  adds_nobody : (e : WorldEvent) (v : Node) → Adds (begun v) (turn_of o w e) → Effect e
  adds_nobody e v k = Nobody (ap are_harmless k.entries ∙ k.harmless)

  effect_of : (e : WorldEvent) → refusal o w e ≡ None → Effect e
  effect_of (At a (Event.Calling c)) h = adds_nobody (At a (Event.Calling c)) (w.node a)
      (adds_then (begun (w.node a)) (call o.bound a ((w.node a).last_call + 1) c (begun (w.node a))) _ (call_adds a c)
      (add_start o.bound a (call o.bound a ((w.node a).last_call + 1) c (begun (w.node a)))))
  effect_of (At a Event.Retry) h = adds_nobody (At a Event.Retry) (w.node a)
      (adds_then (begun (w.node a)) again _ (add_retry o.bound a (w.node a).current (begun (w.node a)))
      (adds_then again (retry_locks o.bound a again) _ (add_retry_all o.bound a again.node.calls again)
      (add_start o.bound a (retry_locks o.bound a again))))
    where
      again : Turn
      again = retry_global o.bound a (w.node a).current (begun (w.node a))
  effect_of (At a (Event.Exiting q)) h = Exits a q refl
  effect_of (At a Event.Leave) h = adds_nobody (At a Event.Leave) (w.node a)
      (adds_then (begun (w.node a)) (enter (Entry.Left a) (begun (w.node a))) _
      (adds_entry (begun (w.node a)) (enter (Entry.Left a) (begun (w.node a))) (Entry.Left a) refl refl refl)
      (add_send_all o.bound a (λ c. in_world o c && not (c == a)) Letter.Down
      (enter (Entry.Left a) (begun (w.node a)))))
  effect_of (Deliver f t) h = letters (w.links.queue f t) refl
    where
      k : Accepted o w (Deliver f t)
      k = accepted_of o w (Deliver f t) h

      up : IsUp o w t
      up = (k.place_inside, k.running)

      letters : (ls : List Letter) → w.links.queue f t ≡ ls → Effect (Deliver f t)
      letters [] e = Nobody (ap (λ (q : List Letter). are_harmless (heard o.bound t w f q).entries) e)
      letters (l ∷ ls) e = by (receive_result o w B f t up k.other_inside l ls e)
        where
          same : turn_of o w (Deliver f t) ≡ heard o.bound t w f (l ∷ ls)
          same = ap (λ (q : List Letter). heard o.bound t w f q) e

          by : Result o w B f t up (heard o.bound t w f (l ∷ ls)) → Effect (Deliver f t)
          by (inl z) = Nobody (ap (λ (u : Turn). are_harmless u.entries) same ∙ ap are_harmless z.entries ∙ z.harmless)
          by (inr z) = Decided f t up refl (subst (Decides o w B f t up) (sym same) z)

  -- it stays so
  doomed_next : (e : WorldEvent) → Base o (accepted o w e) → refusal o w e ≡ None → Doomed o w
      → Doomed o (accepted o w e)
  doomed_next e B2 h D p client up dead = go (effect_of e h)
    where
      was_up : IsUp o w p.node
      was_up = (up.0, accepted-left o w e p.node up.1)

      walk : Walked o w e
      walk = event_walked o w e B.ordered (wide o w B) h

      -- who was dead before
      before : (registry_of (in_cluster o) w.history).dead p ≡ true
          → (is_dead ((accepted o w e).node p.node).watch p.serial ≡ true)
          ⊎ ((x : ℕ) × (in_world o x ≡ true) × (has_kill p ((accepted o w e).links.queue x p.node) ≡ true))
      before d = elim (D p client was_up d) [
        | inl k ↦ inl (dead_event o w e walk p.node p.serial k)
        | inr k ↦ letter k.0 k.1 (kill_stays o w p e k.0 p.node up.1 k.2)
      ]
        where
          letter : (x : ℕ) → in_world o x ≡ true
              → (has_kill p ((accepted o w e).links.queue x p.node) ≡ true)
              ⊎ ((e ≡ Deliver x p.node) × ((l : Letter) × (ls : List Letter) × (w.links.queue x p.node ≡ l ∷ ls)
              × (kills_by p l ≡ true)))
              → (is_dead ((accepted o w e).node p.node).watch p.serial ≡ true)
              ⊎ ((x : ℕ) × (in_world o x ≡ true) × (has_kill p ((accepted o w e).links.queue x p.node) ≡ true))
          letter x i (inl k) = inr (x, i, k)
          letter x i (inr (q, (l, ls, front, k))) = inl (subst
              (λ (y : WorldEvent). is_dead ((accepted o w y).node p.node).watch p.serial ≡ true) (sym q)
              (ap (λ (n : ℕ → Node). is_dead (n p.node).watch p.serial) (accepted-node o w (Deliver x p.node))
              ∙ ap (λ (n : Node). is_dead n.watch p.serial)
              (at_same w.node p.node (turn_of o w (Deliver x p.node)).node)
              ∙ ap (λ (ls : List Letter). is_dead (heard o.bound p.node w x ls).node.watch p.serial) front
              ∙ letter_dead o w B x p.node was_up l ls front p refl client k))

      now : (registry_of (in_cluster o) (w.history ++ (turn_of o w e).entries)).dead p ≡ true
      now = ap (λ (hs : List Entry). (registry_of (in_cluster o) hs).dead p) (sym (accepted-history o w e)) ∙ dead

      go : Effect e → (is_dead ((accepted o w e).node p.node).watch p.serial ≡ true)
          ⊎ ((x : ℕ) × (in_world o x ≡ true) × (has_kill p ((accepted o w e).links.queue x p.node) ≡ true))
      go (Nobody k) = before (harmless_dead (turn_of o w e).entries (registry_of (in_cluster o) w.history) p k
          (sym (ap (λ (r : Registry). r.dead p)
          (registry_of-append (in_cluster o) w.history (turn_of o w e).entries)) ∙ now))
      go (Exits a q i) = exit (dead-cases (registry_of (in_cluster o) w.history) (Entry.Exit q) p
          (harmless_dead started.more (effect (Entry.Exit q) (registry_of (in_cluster o) w.history)) p started.harmless
          (sym (ap (λ (r : Registry). r.dead p)
          (registry_of-append (in_cluster o) w.history (Entry.Exit q ∷ started.more)))
          ∙ ap (λ (es : List Entry). (registry_of (in_cluster o) (w.history ++ es)).dead p)
          (sym (ap (λ (y : WorldEvent). (turn_of o w y).entries) i ∙ started.entries)) ∙ now)))
        where
          u : Turn
          u = enter (Entry.Exit q) (begun (w.node a))

          started : Adds u (start o.bound a (die o.bound a q u))
          started = adds_then u (die o.bound a q u) (start o.bound a (die o.bound a q u)) (add_die o.bound a q u)
              (add_start o.bound a (die o.bound a q u))

          killed : is_dead ((accepted o w e).node q.node).watch q.serial ≡ true
          killed = subst (λ (y : WorldEvent). Walked o w y → is_dead ((accepted o w y).node q.node).watch q.serial ≡ true)
              (sym i) (exit_kills o w a q) walk

          died : p ≡ q → is_dead ((accepted o w e).node p.node).watch p.serial ≡ true
          died s = subst (λ (z : Process). is_dead ((accepted o w e).node z.node).watch z.serial ≡ true) (sym s) killed

          exit : ((registry_of (in_cluster o) w.history).dead p ≡ true)
              ⊎ Kills (registry_of (in_cluster o) w.history) p (Entry.Exit q)
              → (is_dead ((accepted o w e).node p.node).watch p.serial ≡ true)
              ⊎ ((x : ℕ) × (in_world o x ≡ true) × (has_kill p ((accepted o w e).links.queue x p.node) ≡ true))
          exit (inl k) = before k
          exit (inr k) = inl (died (killed_by_exit (registry_of (in_cluster o) w.history) p q k))
      go (Decided f t ut i Z) = decided (admitted_dead o Z.world Z.base t A.joiner (join_number w A.joiner) A.pairs Z.round
          A.more (ut.0, Z.runs t ∙ ut.1) (Z.asks ∙ ap (λ (op : Op). Current.Asking op Z.round) A.is)
          (subst (IsLegal (in_cluster o)) whole (replicas o (accepted o w e) B2).legal) A.harmless p
          (Z.runs p.node ∙ was_up.1) (ap (λ (hs : List Entry). (registry_of (in_cluster o) hs).dead p) (sym whole) ∙ dead))
        where
          A : Admitted o.bound t (join_number w) Z.op Z.begin (turn_of o w (Deliver f t))
          A = Z.verdict

          whole : (accepted o w e).history
              ≡ Z.world.history ++ Entry.Join A.joiner (join_number w A.joiner) t Joined ∷ A.more
          whole = accepted-history o w e
              ∙ ap (λ (y : WorldEvent). w.history ++ (turn_of o w y).entries) i
              ∙ ap (λ (es : List Entry). w.history ++ es) A.entries
              ∙ sym (append_assoc w.history Z.begin.entries
              (Entry.Join A.joiner (join_number w A.joiner) t Joined ∷ A.more))
              ∙ ap (λ (hs : List Entry). hs ++ Entry.Join A.joiner (join_number w A.joiner) t Joined ∷ A.more)
              (sym Z.history)

          decided : ((registry_of (in_cluster o) Z.world.history).dead p ≡ true)
              ⊎ (Contains (settle (Z.world.node t).replica.table A.pairs).fate.kills p
              × (((Z.world.node t).replica.members p.node ≡ true) ⊎ (p.node ≡ A.joiner)))
              → (is_dead ((accepted o w e).node p.node).watch p.serial ≡ true)
              ⊎ ((x : ℕ) × (in_world o x ≡ true) × (has_kill p ((accepted o w e).links.queue x p.node) ≡ true))
          decided (inl k) = before (harmless_dead Z.begin.entries (registry_of (in_cluster o) w.history) p Z.harmless
              (sym (ap (λ (r : Registry). r.dead p) (registry_of-append (in_cluster o) w.history Z.begin.entries))
              ∙ ap (λ (hs : List Entry). (registry_of (in_cluster o) hs).dead p) (sym Z.history) ∙ k))
          decided (inr (c, where_it_is)) = inr (
            t,
            ut.0,
            subst (λ (y : WorldEvent). has_kill p ((accepted o w y).links.queue t p.node) ≡ true) (sym i)
                (delivery_sent o w f t p.node p was_up.1 (A.sent p p.node
                (subst (λ (v : Replica). Contains (settle v.table A.pairs).fate.kills p) Z.replica c)
                (receiver where_it_is))),
          )
            where
              receiver : ((Z.world.node t).replica.members p.node ≡ true) ⊎ (p.node ≡ A.joiner)
                  → ((nat_lt p.node o.bound && Z.begin.node.replica.members p.node) ≡ true) ⊎ (p.node ≡ A.joiner)
              receiver (inl m) = inl (rw (
                (both (nat_lt p.node o.bound) (o.nodes p.node) up.0).0,
                ap (λ (v : Replica). v.members p.node) (sym Z.replica) ∙ m,
              ) refl)
              receiver (inr j) = inr j

doomed_opens : (o : Opening) → Doomed o (opening_world o)
doomed_opens o p client up dead = cc dead

pub doomed_along : (o : Opening) (es : List WorldEvent) → Doomed o (world o es)
doomed_along o es = between o (Families o) (families_keep o) (Doomed o)
    (λ w e b c h D. doomed_next o w b.base e c.base h D) (families_open o) (doomed_opens o) es

pub deaths_are_carried_out : OfNodes DeathsAreCarriedOut
deaths_are_carried_out o es p quiet up client known = elim (doomed_along o es p client up known) [
  | inl h ↦ h
  | inr k ↦ absurd (cc (sym (ap (has_kill p) (quiet k.0 p.node k.1 up)) ∙ k.2))
]

-- nor has a running node of a settled world a name of such a process
pub known_dead_own_nothing : OfNodes KnownDeadOwnNothing
known_dead_own_nothing o es c settled up pair listed client known =
    let departed : left (world o es) pair.owner.node ≡ false =
    no_departed o (world o es) (whole o es) settled.quiet c up pair listed in
    let inside : in_world o pair.owner.node ≡ true =
    owner_inside o (world o es) (whole o es) settled.quiet c up pair listed in
    let dead : is_dead ((world o es).node pair.owner.node).watch pair.owner.serial ≡ true =
    deaths_are_carried_out o es pair.owner settled.quiet (inside, departed) client known in
    let alive : is_dead ((world o es).node pair.owner.node).watch pair.owner.serial ≡ false =
    no_dead o (world o es) (whole o es) settled.quiet settled.retried c up pair listed in
    cc (dead, alive)
