-- An open lock call isn't answered yet, and an accepted lock call that isn't answered yet is open, where its process isn't dead. So
-- a live process has an open call exactly where its node has accepted one that isn't answered yet.
use Rattle.std.proofs.Common.{ℕ, true, false, ◌≡◌, ◌-◌, ◌<◌, Option, Some, None, List, [], refl, sym, ap, ◌∙◌, subst}
use Rattle.std.specs.Prelude.{not, is_some, Contains}
use Rattle.std.specs.List.{slice_get}
use Rattle.std.proofs.lemmas.Bool.{eq-eqb, and_from}
use Rattle.registry_model.specs.Process.{Process}
use Rattle.registry_model.specs.Call.{Reply, True, False}
use Rattle.registry_model.proofs.Lists.{Contains-front, Contains-nil}
use Rattle.protocol_model.specs.Node.{LockCall, call_of}
use Rattle.protocol_model.specs.Watch.{is_dead}
use Rattle.protocol_model.specs.Event.{Call, Answer}
use Rattle.protocol_model.specs.Answers.{answer_to, may_have, holder_in, calls_at, answers_under, AtMostOne, NotYet, Once}
use Rattle.protocol_model.specs.World.{Opening, World, WorldEvent}
use Rattle.protocol_model.specs.Course.{Played, answers_of, seen}
use Rattle.protocol_model.specs.Refusals.{IsLiveAt, HasOpenCall}
use Rattle.fitting.proofs.Accounts.{is_word}
use Rattle.fitting.proofs.Once.{is_under, is_lock_under}
use Rattle.fitting.proofs.Unanswered.{kept_in}
use Rattle.headline.specs.Clauses.{events, world}
use Rattle.headline.proofs.Passing.{item_filtered}
use Rattle.headline.proofs.LockAnswers.{IsCalled, Ledger, given}
use Rattle.headline.proofs.Answered.{ledgers, calls_answered}
use Rattle.headline.proofs.OpenCalls.{Stands, Gone, Answered, Waits}
use Rattle.headline.proofs.OpenEvents.{all_stand}

-- no word is a reply that a lock call may have
no_word : (call : Call) (reply : Reply) (p : Process) → holder_in call ≡ Some p → may_have call reply ≡ true
    → is_word reply ≡ false
no_word (Call.SetLock q r z target times) True p h m = refl
no_word (Call.SetLock q r z target times) False p h m = refl
no_word (Call.SetLock q r z target times) _ p h m = cc
no_word (Call.DelLock q r z target) True p h m = refl
no_word (Call.DelLock q r z target) _ p h m = cc
no_word Call.Spawn reply p h m = cc
no_word (Call.LookUp look) reply p h m = cc
no_word (Call.OnName c) reply p h m = cc
no_word (Call.JoinBy j) reply p h m = cc

-- Open calls are seen: who has one has an accepted lock call that isn't answered yet, and a live process that has such a call has
-- one open
pub record CallsSeen (o : Opening) (ps : List Played) (w : World) : Type 0 where
  pub has : (a : ℕ) (p : Process) → is_some (call_of p (w.node a).calls) ≡ true → HasOpenCall ps a p
  pub shows : (a : ℕ) (p : Process) → IsLiveAt (seen o w) a p → HasOpenCall ps a p
      → is_some (call_of p (w.node a).calls) ≡ true

module _ (o : Opening) (es : List WorldEvent) where
  abbrev w : World
  w = world o es

  abbrev ps : List Played
  ps = events o es

  -- where no lock call's answer stands under the number of a lock call, none does
  unanswered : (a : ℕ) (p : Process) (k : ℕ) (call : Call) → slice_get (calls_at a ps) (k - 1) ≡ Some call
      → holder_in call ≡ Some p → given a k (answers_of ps) ≡ [] → 0 < k → answers_under a k ps ≡ []
  unanswered a p k call found of none pos = go (answers_under a k ps) refl ((calls_answered o es).once a k pos)
    where
      go : (ss : List Answer) → answers_under a k ps ≡ ss → AtMostOne (calls_at a ps) a k ss → ss ≡ []
      go ss e NotYet = refl
      go ss e (Once c reply i may) =
          let same : c ≡ call = cc (i, found) in
          let word : is_word reply ≡ false = no_word call reply p of
          (ap (λ (d : Call). may_have d reply) (sym same) ∙ may) in
          let s : Answer = answer_to a k reply in
          let among : Contains (answers_of ps) s × (is_under a k s ≡ true) =
          item_filtered (is_under a k) (answers_of ps) s
          (subst (λ (l : List Answer). Contains l s) (sym e) (Contains-front s [])) in
          absurd (Contains-nil s (subst (λ (l : List Answer). Contains l s) none
          (kept_in (is_lock_under a k) (answers_of ps) s among.0 (and_from _ _ among.1 (ap not word)))))

  -- an open lock call is an accepted one that isn't answered yet
  pub open_waits : (a : ℕ) (p : Process) (c : LockCall) → call_of p (w.node a).calls ≡ Some c
      → (C : HasOpenCall ps a p) × (C.number ≡ c.number)
  open_waits a p c e =
      let L : Ledger a (calls_at a ps) (w.node a).calls (answers_of ps) = ledgers o es a in
      let I : IsCalled (calls_at a ps) p c.number c.phase = L.called p c e in (
        record {
          number = c.number;
          call = I.call;
          positive = I.positive;
          accepted = I.found;
          holder = I.holder;
          unanswered = unanswered a p c.number I.call I.found I.holder (L.waits p c e) I.positive;
        },
        refl,
      )

  -- an accepted lock call that isn't answered yet is open, where its process isn't dead
  pub waits_open : (a : ℕ) (p : Process) (C : HasOpenCall ps a p) → is_dead (w.node a).watch p.serial ≡ false
      → (c : LockCall) × (call_of p (w.node a).calls ≡ Some c) × (c.number ≡ C.number)
  waits_open a p C alive = go (all_stand o es a p C.number C.positive (C.call, C.accepted, C.holder))
    where
      go : Stands a p C.number (answers_of ps) (w.node a)
          → (c : LockCall) × (call_of p (w.node a).calls ≡ Some c) × (c.number ≡ C.number)
      go (Gone d) = cc (d, alive)
      go (Answered s i h n) = absurd (Contains-nil s (subst (λ (l : List Answer). Contains l s) C.unanswered
          (kept_in (is_under a C.number) (answers_of ps) s i (and_from _ _ (eq-eqb s.node a h)
          (eq-eqb s.number C.number n)))))
      go (Waits c e n) = (c, e, n)

  -- so open calls are seen
  pub calls_seen : CallsSeen o ps w
  calls_seen = record {
    has = λ a p h. has a p (call_of p (w.node a).calls) refl h;
    shows = λ a p L C. ap is_some (waits_open a p C
        (ap (λ (b : ℕ). is_dead (w.node b).watch p.serial) (sym L.home) ∙ L.alive)).1;
  }
    where
      has : (a : ℕ) (p : Process) (x : Option LockCall) → call_of p (w.node a).calls ≡ x → is_some x ≡ true
          → HasOpenCall ps a p
      has a p None e h = cc
      has a p (Some c) e h = (open_waits a p c e).0
