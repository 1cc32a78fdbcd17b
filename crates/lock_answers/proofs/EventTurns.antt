-- What an accepted lock call or retry makes of the lock calls of its node.
use Rattle.std.proofs.Common.{ℕ, true, false, ◌==◌, ◌≡◌, Option, Some, None, [], ◌∷◌, refl, sym, ap, ◌∙◌, inl, inr}
use Rattle.std.specs.Prelude.{not, nat_lt, is_some, Contains, if◌then◌else◌}
use Rattle.std.proofs.lemmas.Bool.{eqb-true}
use Rattle.registry_model.specs.Process.{Text, Process, is_process, Nodes}
use Rattle.registry_model.proofs.Lists.{Contains-nil}
use Rattle.protocol_model.specs.Watch.{is_live}
use Rattle.protocol_model.specs.Node.{Node, LockCall, Target, Retries, call_of}
use Rattle.protocol_model.specs.Event.{Event, Answer, Refusal, cause, calls_spent, names_members}
use Rattle.protocol_model.specs.Turn.{Turn, begun, count_call}
use Rattle.protocol_model.specs.Client.{try_lock, delete_lock}
use Rattle.protocol_model.specs.World.{Opening, World, WorldEvent, At, refusal, turn_of, accepted}
use Rattle.moves.proofs.Rules.{Ordered}
use Rattle.walk.proofs.Events.{accepted_of, lock_tested, live_own}
use Rattle.leftovers.proofs.Clients.{call_at, node_here, node_there}
use Rattle.leftovers.proofs.Steps.{call_after}
use Rattle.lock_answers.proofs.Verdicts.{is_verdict}
use Rattle.leftovers.proofs.Beginnings.{attempt, new_try, deletion, fresh}
use Rattle.lock_answers.proofs.CallTurns.{deny_none, Quietly, start_quiet, begun_over, AskedNobody, TryTurn, try_turn, deleted_over, DeletedNothing, DeleteTurn, delete_turn, anew, FailedAnew, Retried, retried}

-- a retry
module _ (o : Opening) (w : World) (sorted : Ordered w) (a : ℕ) where
  abbrev pub again : WorldEvent
  again = At a Event.Retry

  pub record AgainTurn : Type 0 where
    pub calls : (p : Process) → p.node ≡ a
        → call_at (accepted o w again) p ≡ anew o.bound a (w.node a).replica.members (call_at w p)
    pub away : (p : Process) → (p.node ≡ a → ⊥) → call_at (accepted o w again) p ≡ call_at w p
    pub said : (s : Answer) → Contains (turn_of o w again).answers s → is_verdict s.reply ≡ true
        → FailedAnew o.bound a (w.node a) s
    pub sends : deny_none (turn_of o w again).sends ≡ true

  pub again_turn : AgainTurn
  again_turn = record {
    calls = λ p home. ap (λ (v : Node). call_of p v.calls) (node_here w a (turn_of o w again) p.node home) ∙ R.calls p
        ∙ ap (λ (y : ℕ). anew o.bound a (w.node a).replica.members (call_of p (w.node y).calls)) (sym home);
    away = λ p ne. ap (λ (v : Node). call_of p v.calls) (node_there w a (turn_of o w again) p.node ne);
    said = R.said;
    sends = R.sends;
  }
    where
      R : Retried o.bound a (w.node a) (turn_of o w again)
      R = retried o.bound a (w.node a) (sorted a)

module _ (o : Opening) (w : World) (sorted : Ordered w) (a : ℕ) (q : Process) (r z : Text) (target : Target) where
  abbrev pub members : Nodes
  members = (w.node a).replica.members

  -- a try
  module _ (retries : Retries) where
    abbrev trying : WorldEvent
    trying = attempt o w a q r z target retries

    abbrev tried : LockCall
    tried = new_try o w a q r z target retries

    pub record SetTurn : Type 0 where
      pub live : is_live a (w.node a).watch q ≡ true
      pub home : q.node ≡ a
      pub none : call_of q (w.node a).calls ≡ None
      pub calls : (p : Process) → call_at (accepted o w trying) p
          ≡ (if is_process q p then begun_over o.bound a members tried else call_at w p)
      pub said : (s : Answer) → Contains (turn_of o w trying).answers s → is_verdict s.reply ≡ true
          → AskedNobody o.bound a members tried s
      pub sends : deny_none (turn_of o w trying).sends ≡ true

    pub set_turn : refusal o w trying ≡ None → SetTurn
    set_turn h = record {
      live = tested.0;
      home = eqb-true q.node a own.0;
      none = no_call (call_of q (w.node a).calls) tested.1;
      calls = call_after a None (turn_of o w trying) w q (begun_over o.bound a members tried)
          (eqb-true q.node a own.0) (λ p. ap (call_of p) Q.calls ∙ T.calls p);
      said = λ s c k. elim (T.said s (Q.said s c k)) [
        | inl before ↦ absurd (Contains-nil s before)
        | inr A ↦ A
      ];
      sends = Q.sends (T.sends refl);
    }
      where
        tested : (is_live a (w.node a).watch q ≡ true) × (is_some (call_of q (w.node a).calls) ≡ false)
        tested = lock_tested a (w.node a) q r
            (cause (not (names_members (w.node a) target)) Refusal.UnknownNode ∷ calls_spent (w.node a) ∷ [])
            (accepted_of o w trying h).local

        own : ((q.node == a) ≡ true) × (nat_lt 0 q.serial ≡ true)
        own = live_own a (w.node a).watch q tested.0

        no_call : (k : Option LockCall) → is_some k ≡ false → k ≡ None
        no_call None e = refl
        no_call (Some c) e = cc

        u : Turn
        u = try_lock o.bound a tried (count_call (begun (w.node a)))

        Q : Quietly o.bound a u (turn_of o w trying)
        Q = start_quiet o.bound a u

        T : TryTurn o.bound a tried (count_call (begun (w.node a))) u
        T = try_turn o.bound a tried (count_call (begun (w.node a))) own.0 own.1 (sorted a)

  -- a deletion
  abbrev ending : WorldEvent
  ending = deletion o w a q r z target

  abbrev ended : LockCall
  ended = fresh o w a q r z target

  pub record DelTurn : Type 0 where
    pub home : q.node ≡ a
    pub calls : (p : Process) → call_at (accepted o w ending) p
        ≡ (if is_process q p then deleted_over o.bound a members ended else call_at w p)
    pub said : (s : Answer) → Contains (turn_of o w ending).answers s → is_verdict s.reply ≡ true
        → DeletedNothing o.bound a ended s
    pub sends : deny_none (turn_of o w ending).sends ≡ true

  pub del_turn : refusal o w ending ≡ None → DelTurn
  del_turn h = record {
    home = home;
    calls = call_after a None (turn_of o w ending) w q (deleted_over o.bound a members ended) home
        (λ p. ap (call_of p) Q.calls ∙ T.calls p);
    said = λ s c k. elim (T.said s (Q.said s c k)) [
      | inl before ↦ absurd (Contains-nil s before)
      | inr A ↦ A
    ];
    sends = Q.sends (T.sends refl);
  }
    where
      home : q.node ≡ a
      home = eqb-true q.node a (live_own a (w.node a).watch q
          (lock_tested a (w.node a) q r (calls_spent (w.node a) ∷ []) (accepted_of o w ending h).local).0).0

      u : Turn
      u = delete_lock o.bound a ended (count_call (begun (w.node a)))

      Q : Quietly o.bound a u (turn_of o w ending)
      Q = start_quiet o.bound a u

      T : DeleteTurn o.bound a ended (count_call (begun (w.node a))) u
      T = delete_turn o.bound a ended (count_call (begun (w.node a))) home (sorted a)
