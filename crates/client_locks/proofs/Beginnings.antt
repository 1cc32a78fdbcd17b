-- How a lock call begins: it takes its number, and then asks, fails, goes to those that give back, or goes nowhere.
-- What this makes of the open calls, and that no earlier call is answered `true` by a deletion.
use mathlib.Core.Logic.{◌⊎◌}
use Rattle.std.proofs.Common.{ℕ, Bool, true, false, ◌==◌, ◌≡◌, ◌+◌, ◌≤◌, Option, Some, None, List, [], ◌∷◌, refl, sym, ap, ◌∙◌, subst, arith, inl, inr}
use Rattle.std.specs.Prelude.{◌&&◌, ◌||◌, if◌then◌else◌}
use Rattle.std.specs.List.{list_all}
use Rattle.std.proofs.lemmas.List.Folds.{list_any-append}
use Rattle.std.proofs.lemmas.Bool.{eqb-true}
use Rattle.registry_model.specs.Process.{Text, Process, is_process}
use Rattle.registry_model.specs.Call.{True}
use Rattle.protocol_model.specs.Round.{begin}
use Rattle.protocol_model.specs.Node.{Node, LockPhase, LockCall, Target, Retries, Times, call_of, targets}
use Rattle.protocol_model.specs.Event.{Call, Event}
use Rattle.protocol_model.specs.Client.{new_call, in_phase}
use Rattle.protocol_model.specs.World.{Opening, World, WorldEvent, At}
use Rattle.moves.proofs.Rules.{Rule, MayAll, Ordered, effect, turn_by, answers_by}
use Rattle.moves.proofs.Rules.Rule.{CallsLock, AsksLock, FailsLock, DeletesLock, DeletesNothing}
use Rattle.walk.proofs.ChainKinds.{Aside, suits}
use Rattle.client_locks.proofs.Calls.{call_of-drop}
use Rattle.client_locks.proofs.Clients.{call_at, part_same, node_here}
use Rattle.client_locks.proofs.Calling.{calls_put}
use Rattle.client_locks.proofs.Growing.{Replying, replying_keeps}
use Rattle.client_locks.proofs.Answering.{is_true, any_true}
use Rattle.client_locks.proofs.Steps.{call_after}
use Rattle.client_locks.proofs.Chains.{is_calm, aside_calm, OrderedKept, calm_answers}
use Rattle.client_locks.proofs.Numbering.{last_effect, beginner_home}
use Rattle.client_locks.proofs.Told.{all_of_all}

module _ (o : Opening) (w : World) (a : ℕ) where
  -- behind its number
  abbrev pub numbered : World
  numbered = effect o a CallsLock w

  -- the call of q begins by the rule r, and is next behind it
  pub record Begins (q : Process) (r : Rule) (next : Option LockCall) : Type 0 where
    pub home : q.node ≡ a
    pub calls : (k : Process) → call_at (effect o a r numbered) k ≡ (if is_process q k then next else call_at w k)
    pub number : (c : LockCall) → next ≡ Some c → c.number ≡ (w.node a).last_call + 1

  -- the number is taken then
  pub number_taken : (r : Rule) → (w.node a).last_call + 1 ≤ ((effect o a r numbered).node a).last_call
  number_taken r = subst (λ (n : ℕ). n ≤ ((effect o a r numbered).node a).last_call)
      (ap (λ (v : Node). v.last_call) (node_here w a (turn_by o a w CallsLock) a refl)) (last_effect o a numbered r a)

  -- and nobody else is a member
  pub same_targets : (target : Target)
      → targets (numbered.node a).replica.members target ≡ targets (w.node a).replica.members target
  same_targets target = ap (λ (v : Node). targets v.replica.members target)
      (node_here w a (turn_by o a w CallsLock) a refl)

  begins_by : (q : Process) (r : Rule) (next : Option LockCall) → q.node ≡ a
      → ((k : Process) → call_at (effect o a r numbered) k
      ≡ (if is_process q k then next else call_at numbered k))
      → ((c : LockCall) → next ≡ Some c → c.number ≡ (w.node a).last_call + 1) → Begins q r next
  begins_by q r next home calls number = record {
    home = home;
    calls = λ k. calls k ∙ ap (λ (c : Option LockCall). if is_process q k then next else c)
        (part_same (λ v. call_of k v.calls) w a (turn_by o a w CallsLock) refl k.node);
    number = number;
  }

  -- the rule behind the number is one of two
  pub either_rule : (P : List Rule → Type 0) (r s x : Rule) (later rest : List Rule) → rest ≡ x ∷ later
      → (x ≡ r) ⊎ (x ≡ s) → MayAll o a (CallsLock ∷ rest) w → (MayAll o a (CallsLock ∷ r ∷ later) w → P (r ∷ later))
      → (MayAll o a (CallsLock ∷ s ∷ later) w → P (s ∷ later)) → P rest
  either_rule P r s x later rest is second m one other =
      (subst (λ (rs : List Rule). MayAll o a (CallsLock ∷ rs) w → P rs) (sym is) (elim second [
        | inl e ↦ subst (λ (y : Rule). MayAll o a (CallsLock ∷ y ∷ later) w → P (y ∷ later)) (sym e) one
        | inr e ↦ subst (λ (y : Rule). MayAll o a (CallsLock ∷ y ∷ later) w → P (y ∷ later)) (sym e) other
      ])) m

  module _ (q : Process) (r z : Text) (target : Target) where
    -- a try
    module _ (retries : Retries) where
      abbrev pub attempt : WorldEvent
      attempt = At a (Event.Calling (Call.SetLock q r z target retries))

      abbrev pub new_try : LockCall
      new_try = new_call o.bound a ((w.node a).last_call + 1) q r z target retries

      abbrev pub asking : LockCall
      asking = in_phase (LockPhase.Asking (begin o.bound (targets (numbered.node a).replica.members target))) new_try

    -- a deletion
    abbrev pub deletion : WorldEvent
    deletion = At a (Event.Calling (Call.DelLock q r z target))

    abbrev pub fresh : LockCall
    fresh = new_call o.bound a ((w.node a).last_call + 1) q r z target (Times 0)

    abbrev pub deleting : LockCall
    deleting = in_phase (LockPhase.Deleting (targets (numbered.node a).replica.members target)) fresh

    module _ (kept : OrderedKept o) (order : Ordered w) (rest : List Rule) where
      pub try_asks : (retries : Retries) → MayAll o a (CallsLock ∷ AsksLock (new_try retries) ∷ rest) w
          → Begins q (AsksLock (new_try retries)) (Some (asking retries))
      try_asks retries m = begins_by q (AsksLock (new_try retries)) (Some (asking retries)) home
          (call_after a None (turn_by o a numbered (AsksLock (new_try retries))) numbered q (Some (asking retries)) home
          (calls_put a numbered order1 (asking retries) home))
          (λ c e. let same : asking retries ≡ c = cc e in sym (ap (λ (j : LockCall). j.number) same))
        where
          order1 : Ordered numbered
          order1 = kept a w CallsLock order m.0

          home : q.node ≡ a
          home = beginner_home o a numbered (new_try retries) order1 m.1.0.tested.0

      pub try_fails : (retries : Retries) → MayAll o a (CallsLock ∷ FailsLock (new_try retries) ∷ rest) w
          → Begins q (FailsLock (new_try retries)) None
      try_fails retries m = begins_by q (FailsLock (new_try retries)) None home
          (call_after a None (turn_by o a numbered (FailsLock (new_try retries))) numbered q None home
          (λ k. call_of-drop k q (numbered.node a).calls)) (λ c e. cc)
        where
          home : q.node ≡ a
          home = beginner_home o a numbered (new_try retries) (kept a w CallsLock order m.0) m.1.0.tested.0

      pub deletes : MayAll o a (CallsLock ∷ DeletesLock fresh ∷ rest) w
          → Begins q (DeletesLock fresh) (Some deleting)
      deletes m = begins_by q (DeletesLock fresh) (Some deleting) home
          (call_after a None (turn_by o a numbered (DeletesLock fresh)) numbered q (Some deleting) home
          (calls_put a numbered order1 deleting home))
          (λ c e. let same : deleting ≡ c = cc e in sym (ap (λ (j : LockCall). j.number) same))
        where
          order1 : Ordered numbered
          order1 = kept a w CallsLock order m.0

          home : q.node ≡ a
          home = beginner_home o a numbered fresh order1 (inl m.1.0.tested.0)

      pub deletes_nothing : MayAll o a (CallsLock ∷ DeletesNothing fresh ∷ rest) w
          → Begins q (DeletesNothing fresh) None
      deletes_nothing m = begins_by q (DeletesNothing fresh) None home
          (call_after a None (turn_by o a numbered (DeletesNothing fresh)) numbered q None home
          (λ k. call_of-drop k q (numbered.node a).calls)) (λ c e. cc)
        where
          home : q.node ≡ a
          home = beginner_home o a numbered fresh (kept a w CallsLock order m.0) (inl m.1.0.tested.0)

    module _ (R : Replying w) (rest : List Rule) (h : list_all (suits Aside) rest ≡ true) (b n : ℕ) where
      -- a deletion that goes to some node is no answer
      pub deletes_silent : MayAll o a (CallsLock ∷ DeletesLock fresh ∷ rest) w
          → any_true b n (answers_by o a (CallsLock ∷ DeletesLock fresh ∷ rest) w) ≡ false
      deletes_silent m = calm_answers o a rest (effect o a (DeletesLock fresh) numbered)
          (all_of_all (suits Aside) is_calm aside_calm rest h) m.1.1
          (replying_keeps o a numbered (DeletesLock fresh) m.1.0 (replying_keeps o a w CallsLock m.0 R)) b n

      -- one that goes nowhere is answered under its own number, which none had before
      pub nothing_silent : MayAll o a (CallsLock ∷ DeletesNothing fresh ∷ rest) w → (a ≡ b → n ≤ (w.node a).last_call)
          → any_true b n (answers_by o a (CallsLock ∷ DeletesNothing fresh ∷ rest) w) ≡ false
      nothing_silent m least =
          list_any-append (is_true b n) (record { node = a; number = ((w.node a).last_call + 1); reply = True } ∷ [])
          (answers_by o a rest after)
          ∙ ap (λ (d : Bool). d || any_true b n (answers_by o a rest after))
          (first (a == b) (((w.node a).last_call + 1) == n) refl refl)
          ∙ calm_answers o a rest after (all_of_all (suits Aside) is_calm aside_calm rest h) m.1.1
          (replying_keeps o a numbered (DeletesNothing fresh) m.1.0 (replying_keeps o a w CallsLock m.0 R)) b n
        where
          after : World
          after = effect o a (DeletesNothing fresh) numbered

          first : (d g : Bool) → (a == b) ≡ d → (((w.node a).last_call + 1) == n) ≡ g
              → (((d && g) && true) || false) ≡ false
          first false g i j = refl
          first true false i j = refl
          first true true i j = absurd (omega (
            arith,
            eqb-true ((w.node a).last_call + 1) n j,
            least (eqb-true a b i),
          ))
