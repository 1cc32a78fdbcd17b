-- Where nothing waits, in words.
use Rattle.std.proofs.Common.{ℕ, Bool, true, false, ◌≡◌, Some, None, List, [], ◌∷◌, refl, sym, ap, ◌∙◌, inl, inr}
use Rattle.std.specs.Prelude.{◌↔◌, ◌||◌, not, Contains, if◌then◌else◌}
use Rattle.std.specs.List.{list_any}
use Rattle.registry_model.proofs.Lists.{Contains-cases, Contains-front, Contains-behind, Contains-nil}
use Rattle.protocol_model.specs.Links.{is_nil}
use Rattle.protocol_model.specs.Letter.{Letter}
use Rattle.protocol_model.specs.Node.{Node, Current, LockPhase, LockCall}
use Rattle.protocol_model.specs.Event.{Event, Refusal, EmptyLink, NothingToRetry, is_waiting, is_waiting_call, can_retry}
use Rattle.protocol_model.specs.World.{Opening, in_world, World, left, At, Deliver, refusal}
use Rattle.protocol_model.specs.Quiet.{Runs}
use Rattle.protocol_model.specs.Idle.{NothingWaits, RefusesTheIdle}

-- no lock call waits
abbrev Rest : List LockCall → Type 0
Rest cs = (c : LockCall) → Contains cs c → c.phase ≡ LockPhase.Waiting → ⊥

calls_rest : (cs : List LockCall) → (list_any (λ c. is_waiting_call c.phase) cs ≡ false) ↔ Rest cs
calls_rest [] = (λ e c h p. Contains-nil c h, λ all. refl)
calls_rest (d ∷ cs) = (there (calls_rest cs).0 d.phase refl, back (calls_rest cs).1 d.phase refl)
  where
    other : (list_any (λ c. is_waiting_call c.phase) cs ≡ false → Rest cs) → (d.phase ≡ LockPhase.Waiting → ⊥)
        → list_any (λ c. is_waiting_call c.phase) cs ≡ false → Rest (d ∷ cs)
    other by ne e c h p = elim (Contains-cases d cs c h) [
      | inl same ↦ ne (ap (λ (x : LockCall). x.phase) same ∙ p)
      | inr behind ↦ by e c behind p
    ]

    there : (list_any (λ c. is_waiting_call c.phase) cs ≡ false → Rest cs) → (phase : LockPhase) → d.phase ≡ phase
        → (is_waiting_call phase || list_any (λ c. is_waiting_call c.phase) cs) ≡ false → Rest (d ∷ cs)
    there by LockPhase.Waiting p e = cc
    there by (LockPhase.Asking r) p e = other by (λ q. cc (p, q)) e
    there by (LockPhase.Deleting owing) p e = other by (λ q. cc (p, q)) e

    back : (Rest cs → list_any (λ c. is_waiting_call c.phase) cs ≡ false) → (phase : LockPhase) → d.phase ≡ phase
        → Rest (d ∷ cs) → (is_waiting_call phase || list_any (λ c. is_waiting_call c.phase) cs) ≡ false
    back by LockPhase.Waiting p all = absurd (all d (Contains-front d cs) p)
    back by (LockPhase.Asking r) p all = by (λ c h. all c (Contains-behind d cs c h))
    back by (LockPhase.Deleting owing) p all = by (λ c h. all c (Contains-behind d cs c h))

-- nothing waits at a node
node_rests : (v : Node) → (can_retry v ≡ false) ↔ NothingWaits v
node_rests v = (there v.current refl, back v.current refl)
  where
    free : (c : Current) → v.current ≡ c → is_waiting c ≡ false → list_any (λ c. is_waiting_call c.phase) v.calls ≡ false
        → NothingWaits v
    free c i n e = record {
      operation = λ op q. cc (sym (ap is_waiting q), ap is_waiting i, n);
      calls = (calls_rest v.calls).0 e;
    }

    there : (c : Current) → v.current ≡ c
        → (is_waiting c || list_any (λ c. is_waiting_call c.phase) v.calls) ≡ false → NothingWaits v
    there (Current.Waiting op) i e = cc
    there Current.Free i e = free Current.Free i refl e
    there (Current.Asking op r) i e = free (Current.Asking op r) i refl e
    there (Current.Writing op s t r) i e = free (Current.Writing op s t r) i refl e
    there (Current.Joining k m) i e = free (Current.Joining k m) i refl e

    back : (c : Current) → v.current ≡ c → NothingWaits v
        → (is_waiting c || list_any (λ c. is_waiting_call c.phase) v.calls) ≡ false
    back (Current.Waiting op) i N = absurd (N.operation op i)
    back Current.Free i N = (calls_rest v.calls).1 N.calls
    back (Current.Asking op r) i N = (calls_rest v.calls).1 N.calls
    back (Current.Writing op s t r) i N = (calls_rest v.calls).1 N.calls
    back (Current.Joining k m) i N = (calls_rest v.calls).1 N.calls

module _ (o : Opening) (w : World) where
  no_delivery : (f t : ℕ) → (refusal o w (Deliver f t) ≡ Some EmptyLink)
      ↔ ((in_world o f ≡ true) × Runs o w t × (w.links.queue f t ≡ []))
  no_delivery f t = (
    go (in_world o t) (in_world o f) (left w t) (w.links.queue f t) refl refl refl refl,
    λ h. rw (h.0, h.1.0, h.1.1, h.2) refl,
  )
    where
      go : (i j l : Bool) (ls : List Letter) → in_world o t ≡ i → in_world o f ≡ j → left w t ≡ l → w.links.queue f t ≡ ls
          → (if not i || not j then Some Refusal.NoSuchNode else
          (if l then Some Refusal.NodeLeft else (if is_nil ls then Some Refusal.EmptyLink else None))) ≡ Some EmptyLink
          → (in_world o f ≡ true) × Runs o w t × (w.links.queue f t ≡ [])
      go true true false [] a b c d h = (b, (a, c), d)
      go true true false (l ∷ ls) a b c d h = cc
      go true true true ls a b c d h = cc
      go true false l ls a b c d h = cc
      go false j l ls a b c d h = cc

  no_retry : (a : ℕ) → (refusal o w (At a Event.Retry) ≡ Some NothingToRetry) ↔ (Runs o w a × NothingWaits (w.node a))
  no_retry a = (
    go (in_world o a) (left w a) (can_retry (w.node a)) refl refl refl,
    λ h. rw (h.0.0, h.0.1, (node_rests (w.node a)).1 h.1) refl,
  )
    where
      go : (i l b : Bool) → in_world o a ≡ i → left w a ≡ l → can_retry (w.node a) ≡ b
          → (if not i || not i then Some Refusal.NoSuchNode else
          (if l then Some Refusal.NodeLeft else (if not b then Some Refusal.NothingToRetry else None)))
          ≡ Some NothingToRetry
          → Runs o w a × NothingWaits (w.node a)
      go true false false a b c h = ((a, b), (node_rests _).0 c)
      go true false true a b c h = cc
      go true true t a b c h = cc
      go false l t a b c h = cc

pub refuses_the_idle : (o : Opening) (w : World) → RefusesTheIdle o w
refuses_the_idle o w = record { deliveries = no_delivery o w; retries = no_retry o w }
