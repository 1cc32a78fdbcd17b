-- Chains of rules at one node, and what they make of the numbers: a chain that answers no lock call `true` and deletes
-- nothing changes none, and one that begins no call counts what it answers `true`.
use Rattle.std.proofs.Common.{ℕ, Bool, true, false, ◌==◌, ◌≡◌, Option, Some, None, List, [], ◌∷◌, ◌++◌, refl, sym, ap, ◌∙◌, subst}
use Rattle.std.specs.Prelude.{not, ◌&&◌, ◌||◌, if◌then◌else◌}
use Rattle.std.specs.List.{list_any, list_all}
use Rattle.std.proofs.lemmas.List.Folds.{list_any-append}
use Rattle.std.proofs.Math.Bool.{and-false}
use Rattle.registry_model.specs.Process.{Process, is_process}
use Rattle.registry_model.specs.Call.{True, is_reply}
use Rattle.protocol_model.specs.Letter.{Id, is_id}
use Rattle.protocol_model.specs.Round.{asked}
use Rattle.protocol_model.specs.Node.{LockPhase, LockCall}
use Rattle.protocol_model.specs.Event.{Answer, is_waiting_call}
use Rattle.protocol_model.specs.ClientLocks.{is_no_more}
use Rattle.protocol_model.specs.World.{Opening, World}
use Rattle.moves.proofs.Rules.{Rule, May, MayAll, Ordered, effect, effects, turn_by, answers_by}
use Rattle.moves.proofs.Rules.Rule.{AsksLock, FailsLock, HearsLock, MarksLockDown, WinsLock, GivesUpLock, DeletesLock, DeletesNothing, CountsGivenBack, EndsDeletion, CountsLockDown, EndsDeletionDown}
use Rattle.moves.proofs.Indices.{both, not_true}
use Rattle.walk.proofs.ChainKinds.{Aside, Hearing, suits}
use Rattle.client_locks.proofs.RoundNumbers.{is_tried, is_won_by_round, is_true_to_call}
use Rattle.client_locks.proofs.Ids.{is_process_same}
use Rattle.client_locks.proofs.Clients.{Numbers, call_at}
use Rattle.client_locks.proofs.Numbers.{num_by, nums_by}
use Rattle.client_locks.proofs.Growing.{Replying, replying_keeps, gone_keeps}
use Rattle.client_locks.proofs.Answering.{any_true, gives_true, not_true_answers}
use Rattle.client_locks.proofs.Steps.{is_step, is_counting, nums_same, calls_from}
use Rattle.client_locks.proofs.Ongoing.{Step, call_tries, call_rests, call_stepped}

-- a rule that answers no lock call `true` and deletes nothing
abbrev pub is_calm : Rule → Bool
is_calm r = not (gives_true r) && not (is_counting r)

-- what each rule of a chain keeps, a chain keeps: Ordered is such
abbrev pub OrderedKept : Opening → Type 0
OrderedKept o = (a : ℕ) (w : World) (r : Rule) → Ordered w → May o a w r → Ordered (effect o a r w)

-- a rule that may come in a delivery is a step of an open call, or no rule of a lock call
pub aside_or_step : (r : Rule) → suits Hearing r ≡ true → is_step r ≡ false → suits Aside r ≡ true
aside_or_step (AsksLock c) h e = cc
aside_or_step (FailsLock c) h e = cc
aside_or_step (DeletesLock c) h e = cc
aside_or_step (DeletesNothing c) h e = cc
aside_or_step (HearsLock f id g c r) h e = cc
aside_or_step (MarksLockDown d c r) h e = cc
aside_or_step (WinsLock c r) h e = cc
aside_or_step (GivesUpLock c r s) h e = cc
aside_or_step (CountsGivenBack f c owing) h e = cc
aside_or_step (EndsDeletion f c owing) h e = cc
aside_or_step (CountsLockDown d c owing) h e = cc
aside_or_step (EndsDeletionDown d c owing) h e = cc
aside_or_step _ h e = refl

-- a rule of no lock call answers none `true`
pub aside_gives_none : (r : Rule) → suits Aside r ≡ true → gives_true r ≡ false
aside_gives_none (WinsLock c r) h = cc
aside_gives_none (DeletesNothing c) h = cc
aside_gives_none (EndsDeletion f c owing) h = cc
aside_gives_none (EndsDeletionDown d c owing) h = cc
aside_gives_none _ h = refl

pub aside_counts_none : (r : Rule) → suits Aside r ≡ true → is_counting r ≡ false
aside_counts_none (WinsLock c r) h = cc
aside_counts_none (DeletesLock c) h = cc
aside_counts_none (DeletesNothing c) h = cc
aside_counts_none _ h = refl

pub aside_calm : (r : Rule) → suits Aside r ≡ true → is_calm r ≡ true
aside_calm r h = rw (aside_gives_none r h, aside_counts_none r h) refl

-- what is won by answers of which none is `true`
pub won_nothing : (id : Id) (x : ℕ) (ss : List Answer) (k : Option LockCall) → ((b m : ℕ) → any_true b m ss ≡ false)
    → is_won_by_round id x ss k ≡ false
won_nothing id x ss None none = refl
won_nothing id x ss (Some c) none = rw (none c.holder.node c.number) (and-false (is_tried id x c))

-- answers before that are of no use to this call
pub won_later : (id : Id) (x : ℕ) (xs ys : List Answer) (k : Option LockCall)
    → ((c : LockCall) → k ≡ Some c → any_true c.holder.node c.number xs ≡ false)
    → is_won_by_round id x (xs ++ ys) k ≡ is_won_by_round id x ys k
won_later id x xs ys None none = refl
won_later id x xs ys (Some c) none = ap (λ (b : Bool). is_tried id x c && b)
    (list_any-append (is_true_to_call c) xs ys ∙ ap (λ (b : Bool). b || list_any (is_true_to_call c) ys) (none c refl))

-- nothing is won by a call that tries nothing
pub won_untried : (id : Id) (x : ℕ) (ss : List Answer) (k : Option LockCall) → call_tries id x k ≡ false
    → is_won_by_round id x ss k ≡ false
won_untried id x ss None h = refl
won_untried id x ss (Some c) h = ap (λ (b : Bool). b && list_any (is_true_to_call c) ss) h

pub rest_tries : (id : Id) (x : ℕ) (k : Option LockCall) → call_rests k ≡ true → call_tries id x k ≡ false
rest_tries id x None h = refl
rest_tries id x (Some c) h = go c.phase h (is_id c.id id)
  where
    go : (f : LockPhase) → is_waiting_call f ≡ true → (b : Bool)
        → (b && (elim f [ LockPhase.Asking r ↦ asked r x | _ ↦ false ])) ≡ false
    go (LockPhase.Asking r) e b = cc
    go LockPhase.Waiting e true = refl
    go LockPhase.Waiting e false = refl
    go (LockPhase.Deleting owing) e b = cc

module _ (o : Opening) (a : ℕ) where
  -- who is gone stays gone
  gone_chain : (rs : List Rule) (w : World) (p : Process) → is_no_more w p ≡ true → is_no_more (effects o a rs w) p ≡ true
  gone_chain [] w p h = h
  gone_chain (r ∷ rs) w p h = gone_chain rs (effect o a r w) p (gone_keeps o a w r p h)

  pub up_before : (rs : List Rule) (w : World) (p : Process) → is_no_more (effects o a rs w) p ≡ false
      → is_no_more w p ≡ false
  up_before rs w p h = go (is_no_more w p) refl
    where
      go : (b : Bool) → is_no_more w p ≡ b → b ≡ false
      go false e = refl
      go true e = absurd (cc (gone_chain rs w p e, h))

  -- a calm chain answers no call `true`
  pub calm_answers : (rs : List Rule) (w : World) → list_all is_calm rs ≡ true → MayAll o a rs w → Replying w
      → (b m : ℕ) → any_true b m (answers_by o a rs w) ≡ false
  calm_answers [] w h m R b i = refl
  calm_answers (r ∷ rs) w h m R b i =
      let parts : (is_calm r ≡ true) × (list_all is_calm rs ≡ true) = both (is_calm r) (list_all is_calm rs) h in
      let first : any_true b i (turn_by o a w r).answers ≡ false = not_true_answers o a w b i r
      (not_true (gives_true r) (both (not (gives_true r)) (not (is_counting r)) parts.0).0) m.0 R in
      let later : any_true b i (answers_by o a rs (effect o a r w)) ≡ false = calm_answers rs
      (effect o a r w) parts.1 m.1 (replying_keeps o a w r m.0 R) b i in
      list_any-append (λ s. (s.node == b) && (s.number == i) && is_reply s.reply True) (turn_by o a w r).answers
      (answers_by o a rs (effect o a r w)) ∙ ap (λ (t : Bool). t || any_true b i
      (answers_by o a rs (effect o a r w))) first ∙ later

  -- and changes no number
  pub calm_nums : (rs : List Rule) (w : World) (num : Numbers) → list_all is_calm rs ≡ true → MayAll o a rs w
      → (p : Process) → is_no_more (effects o a rs w) p ≡ false → (id : Id) (x : ℕ)
      → nums_by o a rs w num p id x ≡ num p id x
  calm_nums [] w num h m p up id x = refl
  calm_nums (r ∷ rs) w num h m p up id x =
      let parts : (is_calm r ≡ true) × (list_all is_calm rs ≡ true) = both (is_calm r) (list_all is_calm rs) h in
      calm_nums rs (effect o a r w) (num_by a r w num) parts.1 m.1 p up id x
      ∙ nums_same o a w num r (not_true (is_counting r) (both (not (gives_true r)) (not (is_counting r)) parts.0).1)
      m.0 p id x (up_before rs (effect o a r w) p up)

  -- the calls of the second world are those of the first, or some of them, with their numbers
  abbrev pub From : World → World → Type 0
  From w w1 = (p : Process) (d : LockCall) → call_at w1 p ≡ Some d
      → (c : LockCall) × ((call_at w p ≡ Some c) × (c.number ≡ d.number))

  -- no two calls of the node have one number
  abbrev pub Distinct : World → Type 0
  Distinct w = (p q : Process) (c d : LockCall) → p.node ≡ a → q.node ≡ a → call_at w p ≡ Some c → call_at w q ≡ Some d
      → c.number ≡ d.number → p ≡ q

  pub distinct_from : (w w1 : World) → From w w1 → Distinct w → Distinct w1
  distinct_from w w1 F D p q c d hp hq ep eq e =
      let one : (c0 : LockCall) × ((call_at w p ≡ Some c0) × (c0.number ≡ c.number)) = F p c ep in
      let two : (d0 : LockCall) × ((call_at w q ≡ Some d0) × (d0.number ≡ d.number)) = F q d eq in
      D p q one.0 two.0 hp hq one.1.0 two.1.0 (one.1.1 ∙ e ∙ sym two.1.1)

  -- a step leaves the numbers of calls
  from_step : (w : World) (num : Numbers) (r : Rule) → Step o a r w num → From w (effect o a r w)
  from_step w num r S p d e = go (is_process S.call.holder p) refl (sym (S.calls p) ∙ e)
    where
      go : (b : Bool) → is_process S.call.holder p ≡ b → (if b then S.next else call_at w p) ≡ Some d
          → (c : LockCall) × ((call_at w p ≡ Some c) × (c.number ≡ d.number))
      go true k h = (
        S.call,
        (
          subst (λ (q : Process). call_at w q ≡ Some S.call)
              (is_process_same S.call.holder p k) S.found,
          sym (S.same d h).0,
        ),
      )
      go false k h = (d, (h, refl))

  pub from_heard : (w : World) (num : Numbers) (r : Rule) → suits Hearing r ≡ true → May o a w r → Ordered w
      → Replying w → From w (effect o a r w)
  from_heard w num r h m order R = go (is_step r) refl
    where
      go : (b : Bool) → is_step r ≡ b → From w (effect o a r w)
      go true e = from_step w num r (call_stepped o a w num order R r e m)
      go false e = λ p d k. (d, (calls_from o a w num r (aside_or_step r h e) m p d k, refl))
