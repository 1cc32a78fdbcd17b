-- Clients' lock calls in a step leave a node at rest.
use Rattle.std.proofs.Common.{ℕ, Bool, true, false, ◌≡◌, Option, Some, None, List, [], ◌∷◌, refl, sym, subst, inl, inr}
use Rattle.std.specs.Prelude.{fold, if◌then◌else◌}
use Rattle.registry_model.specs.Process.{Process, is_process, Nodes, at}
use Rattle.registry_model.specs.Registry.{Replica}
use Rattle.protocol_model.specs.Round.{Round, is_empty, begin, asked, owes, answer, down, is_over, Ending, Held, GiveBack, ending}
use Rattle.protocol_model.specs.Letter.{Letter}
use Rattle.protocol_model.specs.Watch.{is_live}
use Rattle.protocol_model.specs.Node.{Node, LockPhase, LockCall, Target, call_of, put_call, targets}
use Rattle.protocol_model.specs.Turn.{Turn, keep_call}
use Rattle.protocol_model.specs.Registrar.{ask_rest}
use Rattle.protocol_model.specs.Client.{is_spent, one_less, in_phase, close_call, ask_lock, try_lock, give_lock, end_lock_by, go_on_lock, hear_lock_in, hear_lock, owe_less_in, owe_less, lose_node_in, retry_in, delete_lock, ask_back}
use Rattle.protocol_model.specs.Calling.{die, kill}
use Rattle.protocol_model.specs.World.{Opening}
use Rattle.headline.proofs.Rules.{is_ordered}
use Rattle.walk.proofs.LockRounds.{IsOwn}
use Rattle.walk.proofs.Calls.{AllOpen, OrderedParts, ordered_parts, all_open, ordered_found}
use Rattle.leftovers.proofs.Near.{target_member}
use Rattle.leftovers.proofs.Rest.{Awaited, RoundOn, WorkRests, PhaseRests, Among, Grouped, CallsRest, Sides, Stands, ToldMore, begin_rests, answer_on, down_on, less_awaited, same_awaited, put_rests, put_open, drop_rests, drop_any, unexcused, excused}
use Rattle.leftovers.proofs.RestWork.{ask_rest-node}

module _ (o : Opening) (a : ℕ) where
  -- the calls of a turn's node are other ones
  with_rest : (but more : List LockCall) (u v : Turn) → v.node.replica ≡ u.node.replica
      → v.node.current ≡ u.node.current → Stands o a but u.node
      → (CallsRest o a u.node.replica.told u.node.calls but → CallsRest o a u.node.replica.told v.node.calls more)
      → Stands o a more v.node
  with_rest but more u v er ec h f = record {
    sides = subst (λ (x : Replica). Sides o a x v.node.calls more) (sym er)
        (record { group = h.sides.group; calls = f h.sides.calls });
    work = subst (λ (x : Replica). WorkRests o x.told v.node.current) (sym er)
        (subst (WorkRests o u.node.replica.told) (sym ec) h.work);
  }

  -- a call's round stands so now, and may be over
  pub go_on_lock-rests : (c : LockCall) (r : Round) (u : Turn) (cs : List LockCall) → IsOwn a c.holder
      → RoundOn o u.node.replica.told r → Stands o a (c ∷ cs) u.node → Stands o a cs (go_on_lock o.bound a c r u).node
  go_on_lock-rests c r u cs own on h = go (is_over o.bound r) refl
    where
      d : LockCall
      d = in_phase (LockPhase.Asking r) c

      kept : Stands o a (in_phase (LockPhase.Asking r) c ∷ cs) (keep_call (in_phase (LockPhase.Asking r) c) u).node
      kept = with_rest (c ∷ cs) (in_phase (LockPhase.Asking r) c ∷ cs) u
          (keep_call (in_phase (LockPhase.Asking r) c) u) refl refl h
          (put_open o a u.node.replica.told u.node.calls c (in_phase (LockPhase.Asking r) c) cs refl own)

      refused : (granted : Nodes) (b : Bool) → Stands o a cs
          (if b then close_call o.bound a (in_phase (LockPhase.Asking r) c) false
          (give_lock o.bound a (in_phase (LockPhase.Asking r) c) granted
          (keep_call (in_phase (LockPhase.Asking r) c) u))
          else keep_call (in_phase LockPhase.Waiting (in_phase (LockPhase.Asking r) c))
          (give_lock o.bound a (in_phase (LockPhase.Asking r) c) granted
          (keep_call (in_phase (LockPhase.Asking r) c) u))).node
      refused granted true = record {
        sides = record {
          group = kept.sides.group;
          calls = drop_rests o a u.node.replica.told (put_call (in_phase (LockPhase.Asking r) c) u.node.calls)
              (in_phase (LockPhase.Asking r) c) cs kept.sides.calls;
        };
        work = kept.work;
      }
      refused granted false = record {
        sides = record {
          group = kept.sides.group;
          calls = put_rests o a u.node.replica.told (put_call (in_phase (LockPhase.Asking r) c) u.node.calls)
              (in_phase (LockPhase.Asking r) c) (in_phase LockPhase.Waiting c) cs refl own tt kept.sides.calls;
        };
        work = kept.work;
      }

      ends : (x : Ending) → Stands o a cs (end_lock_by o.bound a x (in_phase (LockPhase.Asking r) c)
          (keep_call (in_phase (LockPhase.Asking r) c) u)).node
      ends Held = record {
        sides = record {
          group = kept.sides.group;
          calls = drop_rests o a u.node.replica.told (put_call (in_phase (LockPhase.Asking r) c) u.node.calls)
              (in_phase (LockPhase.Asking r) c) cs kept.sides.calls;
        };
        work = kept.work;
      }
      ends (GiveBack granted) = refused granted (is_spent c.retries)

      go : (b : Bool) → is_over o.bound r ≡ b → Stands o a cs
          (if b then end_lock_by o.bound a (ending o.bound (asked r) r) (in_phase (LockPhase.Asking r) c)
          (keep_call (in_phase (LockPhase.Asking r) c) u) else keep_call (in_phase (LockPhase.Asking r) c) u).node
      go true e = ends (ending o.bound (asked r) r)
      go false e = with_rest (c ∷ cs) cs u (keep_call (in_phase (LockPhase.Asking r) c) u) refl refl h
          (put_rests o a u.node.replica.told u.node.calls c (in_phase (LockPhase.Asking r) c) cs refl own
          (record { on = on; going = e }))

  -- it leaves the replica
  go_on_lock-replica : (c : LockCall) (r : Round) (u : Turn)
      → (go_on_lock o.bound a c r u).node.replica ≡ u.node.replica
  go_on_lock-replica c r u = go (is_over o.bound r)
    where
      d : LockCall
      d = in_phase (LockPhase.Asking r) c

      refused : (granted : Nodes) (b : Bool) → (if b then close_call o.bound a d false
          (give_lock o.bound a d granted (keep_call d u)) else keep_call (in_phase LockPhase.Waiting d)
          (give_lock o.bound a d granted (keep_call d u))).node.replica ≡ u.node.replica
      refused granted true = refl
      refused granted false = refl

      ends : (x : Ending) → (end_lock_by o.bound a x d (keep_call d u)).node.replica ≡ u.node.replica
      ends Held = refl
      ends (GiveBack granted) = refused granted (is_spent c.retries)

      go : (b : Bool) → (if b then end_lock_by o.bound a (ending o.bound (asked r) r) d (keep_call d u)
          else keep_call d u).node.replica ≡ u.node.replica
      go true = ends (ending o.bound (asked r) r)
      go false = refl

  -- one node less owes its acknowledgement
  pub owe_less-rests : (told : Nodes) (d : ℕ) (owing : Nodes) (c : LockCall) (u : Turn) (cs : List LockCall)
      → c.phase ≡ LockPhase.Deleting owing → IsOwn a c.holder → Awaited o told owing
      → ToldMore d told u.node.replica.told → Stands o a (c ∷ cs) u.node
      → Stands o a cs (owe_less_in o.bound a d (LockPhase.Deleting owing) c u).node
  owe_less-rests told d owing c u cs e own A more h = go (owing d) (is_empty o.bound (at owing d false)) refl refl
    where
      go : (b s : Bool) → owing d ≡ b → is_empty o.bound (at owing d false) ≡ s → Stands o a cs
          (if b then (if s then close_call o.bound a c true u
          else keep_call (in_phase (LockPhase.Deleting (at owing d false)) c) u) else u).node
      go true true i k = with_rest (c ∷ cs) cs u (close_call o.bound a c true u) refl refl h
          (drop_rests o a u.node.replica.told u.node.calls c cs)
      go true false i k = with_rest (c ∷ cs) cs u
          (keep_call (in_phase (LockPhase.Deleting (at owing d false)) c) u) refl refl h
          (put_rests o a u.node.replica.told u.node.calls c (in_phase (LockPhase.Deleting (at owing d false)) c) cs refl
          own (less_awaited o told u.node.replica.told d owing more A k))
      go false s i k = with_rest (c ∷ cs) cs u u refl refl h
          (unexcused o a u.node.replica.told u.node.calls c cs
          (subst (PhaseRests o u.node.replica.told) (sym e)
          (same_awaited o told u.node.replica.told d owing more A i)))

  owe_less-replica : (d : ℕ) (owing : Nodes) (c : LockCall) (u : Turn)
      → (owe_less_in o.bound a d (LockPhase.Deleting owing) c u).node.replica ≡ u.node.replica
  owe_less-replica d owing c u = go (owing d) (is_empty o.bound (at owing d false))
    where
      go : (b s : Bool) → (if b then (if s then close_call o.bound a c true u
          else keep_call (in_phase (LockPhase.Deleting (at owing d false)) c) u) else u).node.replica ≡ u.node.replica
      go true true = refl
      go true false = refl
      go false s = refl

  -- d has gone down: a call is told
  lose_in-rests : (told : Nodes) (d : ℕ) (ph : LockPhase) (c : LockCall) (u : Turn) (cs : List LockCall)
      → c.phase ≡ ph → IsOwn a c.holder → PhaseRests o told ph → ToldMore d told u.node.replica.told
      → Stands o a (c ∷ cs) u.node → Stands o a cs (lose_node_in o.bound a d ph c u).node
  lose_in-rests told d (LockPhase.Asking r) c u cs e own rests more h =
      go_on_lock-rests c (down d r) u cs own (down_on o told u.node.replica.told d r more rests.on) h
  lose_in-rests told d (LockPhase.Deleting owing) c u cs e own rests more h =
      owe_less-rests told d owing c u cs e own rests more h
  lose_in-rests told d LockPhase.Waiting c u cs e own rests more h = with_rest (c ∷ cs) cs u u refl refl h
      (unexcused o a u.node.replica.told u.node.calls c cs (subst (PhaseRests o u.node.replica.told) (sym e) tt))

  lose_in-replica : (d : ℕ) (ph : LockPhase) (c : LockCall) (u : Turn)
      → (lose_node_in o.bound a d ph c u).node.replica ≡ u.node.replica
  lose_in-replica d (LockPhase.Asking r) c u = go_on_lock-replica c (down d r) u
  lose_in-replica d (LockPhase.Deleting owing) c u = owe_less-replica d owing c u
  lose_in-replica d LockPhase.Waiting c u = refl

  -- these calls rest, and are of this node
  abbrev pub RestAll : Nodes → List LockCall → Type 0
  RestAll told [] = Unit {0}
  RestAll told (c ∷ cs) = (PhaseRests o told c.phase × IsOwn a c.holder) × RestAll told cs

  pub lose_all-rests : (told : Nodes) (d : ℕ) (cs : List LockCall) (u : Turn) → RestAll told cs
      → ToldMore d told u.node.replica.told → Stands o a cs u.node
      → Stands o a [] (fold (λ turn c. lose_node_in o.bound a d c.phase c turn) u cs).node
  lose_all-rests told d [] u all more h = h
  lose_all-rests told d (c ∷ cs) u all more h = lose_all-rests told d cs (lose_node_in o.bound a d c.phase c u) all.1
      (subst (λ (x : Replica). ToldMore d told x.told) (sym (lose_in-replica d c.phase c u)) more)
      (lose_in-rests told d c.phase c u cs refl all.0.1 all.0.0 more h)

  -- all calls of a node at rest do
  pub all_rest : (told : Nodes) (ks : List LockCall) → CallsRest o a told ks [] → RestAll told ks
  all_rest told ks R = from ks (all_open a ks R.sorted)
    where
      from : (cs : List LockCall) → AllOpen ks cs → RestAll told cs
      from [] found = tt
      from (c ∷ cs) found = (
        (
          elim (R.calls c.holder c found.0) [
            | inl h ↦ h
            | inr i ↦ absurd i
          ],
          ordered_found a c.holder ks c R.sorted found.0,
        ),
        from cs found.1,
      )

  -- a call that is found is one of them
  pub among_found : (p : Process) (ks : List LockCall) (c : LockCall) → call_of p ks ≡ Some c → Among ks c
  among_found p [] c e = cc
  among_found p (d ∷ ks) c e = go (is_process d.holder p) e (among_found p ks c)
    where
      go : (b : Bool) → (if b then Some d else call_of p ks) ≡ Some c → (call_of p ks ≡ Some c → Among ks c)
          → Among (d ∷ ks) c
      go true k more = let same : c ≡ d = cc k in inl same
      go false k more = inr (more k)

  -- an answer is heard by the call of a process
  pub hear_lock-rests : (f : ℕ) (g : Bool) (p : Process) (u : Turn) → Stands o a [] u.node
      → Stands o a [] (hear_lock o.bound a f g (call_of p u.node.calls) u).node
  hear_lock-rests f g p u h = go (call_of p u.node.calls) refl
    where
      rests : (c : LockCall) → call_of p u.node.calls ≡ Some c → PhaseRests o u.node.replica.told c.phase
      rests c e = elim (h.sides.calls.calls p c e) [
        | inl k ↦ k
        | inr i ↦ absurd i
      ]

      phase : (c : LockCall) → IsOwn a c.holder → (ph : LockPhase) → PhaseRests o u.node.replica.told ph
          → Stands o a [] (hear_lock_in o.bound a f g ph c u).node
      phase c own (LockPhase.Asking r) k = owing (owes r f) refl
        where
          l : Letter
          l = Letter.SetLock c.id c.holder

          asking : Turn
          asking = ask_rest o.bound a f g l r u

          waits : Stands o a (c ∷ []) u.node
          waits = with_rest [] (c ∷ []) u u refl refl h (excused o a u.node.replica.told u.node.calls c)

          owing : (b : Bool) → owes r f ≡ b → Stands o a [] (if b then go_on_lock o.bound a c (answer f g r)
              (ask_rest o.bound a f g (Letter.SetLock c.id c.holder) r u) else u).node
          owing true e = go_on_lock-rests c (answer f g r) asking [] own
              (subst (λ (v : Node). RoundOn o v.replica.told (answer f g r)) (sym (ask_rest-node o.bound a f g l r u))
              (answer_on o u.node.replica.told f g r e k.on))
              (subst (Stands o a (c ∷ [])) (sym (ask_rest-node o.bound a f g l r u)) waits)
          owing false e = h
      phase c own LockPhase.Waiting k = h
      phase c own (LockPhase.Deleting owing) k = h

      go : (x : Option LockCall) → call_of p u.node.calls ≡ x
          → Stands o a [] (hear_lock o.bound a f g x u).node
      go None e = h
      go (Some c) e = phase c (ordered_found a p u.node.calls c h.sides.calls.sorted e) c.phase (rests c e)

  -- a lock was given up
  pub owe-rests : (f : ℕ) (p : Process) (u : Turn) → Stands o a [] u.node
      → Stands o a [] (owe_less o.bound a f (call_of p u.node.calls) u).node
  owe-rests f p u h = go (call_of p u.node.calls) refl
    where
      rests : (c : LockCall) → call_of p u.node.calls ≡ Some c → PhaseRests o u.node.replica.told c.phase
      rests c e = elim (h.sides.calls.calls p c e) [
        | inl k ↦ k
        | inr i ↦ absurd i
      ]

      phase : (c : LockCall) → IsOwn a c.holder → (ph : LockPhase) → c.phase ≡ ph
          → PhaseRests o u.node.replica.told ph → Stands o a [] (owe_less_in o.bound a f ph c u).node
      phase c own (LockPhase.Asking r) e k = h
      phase c own LockPhase.Waiting e k = h
      phase c own (LockPhase.Deleting owing) e k = owe_less-rests u.node.replica.told f owing c u [] e own k
          (λ x i. inr i)
          (with_rest [] (c ∷ []) u u refl refl h (excused o a u.node.replica.told u.node.calls c))

      go : (x : Option LockCall) → call_of p u.node.calls ≡ x → Stands o a [] (owe_less o.bound a f x u).node
      go None e = h
      go (Some c) e = phase c (ordered_found a p u.node.calls c h.sides.calls.sorted e) c.phase refl (rests c e)

  target_awaited : (v : Replica) (t : Target) → Grouped o a v → is_empty o.bound (targets v.members t) ≡ false
      → Awaited o v.told (targets v.members t)
  target_awaited v t G some = record {
    untold = λ x k. out x k (targets v.members t x) refl;
    inside = λ x k. G.inside x (target_member v.members t x k);
    some = some;
  }
    where
      out : (x : ℕ) → v.told x ≡ true → (b : Bool) → targets v.members t x ≡ b → b ≡ false
      out x k true e = cc (G.apart x (target_member v.members t x e), k)
      out x k false e = refl

  -- a `set_lock` is tried
  pub try_lock-rests : (c : LockCall) (u : Turn) → IsOwn a c.holder → Stands o a [] u.node
      → Stands o a [] (try_lock o.bound a c u).node
  try_lock-rests c u own h = go (is_empty o.bound (targets u.node.replica.members c.target)) refl
    where
      s : Nodes
      s = targets u.node.replica.members c.target

      go : (b : Bool) → is_empty o.bound (targets u.node.replica.members c.target) ≡ b → Stands o a []
          (if b then close_call o.bound a c false u
          else ask_lock o.bound a c (targets u.node.replica.members c.target) u).node
      go true e = with_rest [] [] u (close_call o.bound a c false u) refl refl h
          (drop_any o a u.node.replica.told u.node.calls c.holder [])
      go false e = with_rest [] [] u (ask_lock o.bound a c (targets u.node.replica.members c.target) u) refl refl h
          (λ R. put_rests o a u.node.replica.told u.node.calls c
          (in_phase (LockPhase.Asking (begin o.bound (targets u.node.replica.members c.target))) c) [] refl own
          (begin_rests o u.node.replica.told (targets u.node.replica.members c.target)
          (λ x k. h.sides.group.apart x (target_member u.node.replica.members c.target x k))
          (λ x k. h.sides.group.inside x (target_member u.node.replica.members c.target x k)) e)
          (excused o a u.node.replica.told u.node.calls c R))

  -- a `del_lock`
  pub delete_lock-rests : (c : LockCall) (u : Turn) → IsOwn a c.holder → Stands o a [] u.node
      → Stands o a [] (delete_lock o.bound a c u).node
  delete_lock-rests c u own h = go (is_empty o.bound (targets u.node.replica.members c.target)) refl
    where
      go : (b : Bool) → is_empty o.bound (targets u.node.replica.members c.target) ≡ b → Stands o a []
          (if b then close_call o.bound a c true u
          else ask_back o.bound a c (targets u.node.replica.members c.target) u).node
      go true e = with_rest [] [] u (close_call o.bound a c true u) refl refl h
          (drop_any o a u.node.replica.told u.node.calls c.holder [])
      go false e = with_rest [] [] u (ask_back o.bound a c (targets u.node.replica.members c.target) u) refl refl h
          (λ R. put_rests o a u.node.replica.told u.node.calls c
          (in_phase (LockPhase.Deleting (targets u.node.replica.members c.target)) c) [] refl own
          (target_awaited u.node.replica c.target h.sides.group e)
          (excused o a u.node.replica.told u.node.calls c R))

  -- refused calls are tried again
  retry_in-rests : (ph : LockPhase) (c : LockCall) (u : Turn) → IsOwn a c.holder → Stands o a [] u.node
      → Stands o a [] (retry_in o.bound a ph c u).node
  retry_in-rests LockPhase.Waiting c u own h = try_lock-rests (record c { retries = one_less c.retries }) u own h
  retry_in-rests (LockPhase.Asking r) c u own h = h
  retry_in-rests (LockPhase.Deleting owing) c u own h = h

  pub retry_all-rests : (cs : List LockCall) (u : Turn) → is_ordered a cs ≡ true → Stands o a [] u.node
      → Stands o a [] (fold (λ turn c. retry_in o.bound a c.phase c turn) u cs).node
  retry_all-rests [] u sorted h = h
  retry_all-rests (c ∷ cs) u sorted h =
      let parts : OrderedParts a c cs = ordered_parts a c cs sorted in
      retry_all-rests cs (retry_in o.bound a c.phase c u) parts.3
      (retry_in-rests c.phase c u (parts.0, parts.1) h)

  -- a process dies
  pub die-calls : (p : Process) (u : Turn) (told : Nodes) → CallsRest o a told u.node.calls []
      → CallsRest o a told (die o.bound a p u).node.calls []
  die-calls p u told R = drop_any o a told u.node.calls p [] R

  -- what a death keeps, all deaths keep
  pub kill_by : (P : Turn → Type 0) → ((p : Process) (u : Turn) → P u → P (die o.bound a p u)) → (ps : List Process)
      (u : Turn) → P u → P (kill o.bound a ps u)
  kill_by P f [] u h = h
  kill_by P f (p ∷ ps) u h = go (is_live a u.node.watch p) (kill_by P f ps)
    where
      go : (b : Bool) → ((v : Turn) → P v → P (kill o.bound a ps v))
          → P (kill o.bound a ps (if b then die o.bound a p u else u))
      go true more = more (die o.bound a p u) (f p u h)
      go false more = more u h
