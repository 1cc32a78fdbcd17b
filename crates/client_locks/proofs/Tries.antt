-- A process's last try, as events tell it, is that of its open lock call, as long as there is one; and what a `true`
-- gives by the one, it gives by the other.
use mathlib.Core.Logic.{◌⊎◌}
use Rattle.std.proofs.Common.{ℕ, Bool, true, false, ◌==◌, ◌≡◌, ◌+◌, ◌≤◌, Option, Some, None, List, [], ◌∷◌, refl, sym, ap, ◌∙◌, subst, arith, inl, inr}
use Rattle.std.specs.Prelude.{◌&&◌, ◌||◌, if◌then◌else◌}
use Rattle.std.specs.List.{list_all}
use Rattle.std.proofs.lemmas.List.Folds.{list_any-append}
use Rattle.std.proofs.lemmas.Bool.{eqb-true}
use Rattle.std.proofs.Math.Bool.{and-false}
use Rattle.registry_model.specs.Process.{Process, is_process}
use Rattle.protocol_model.specs.Letter.{Id, is_id}
use Rattle.protocol_model.specs.Round.{asked}
use Rattle.protocol_model.specs.Node.{LockPhase, LockCall}
use Rattle.protocol_model.specs.Event.{Answer, is_waiting_call}
use Rattle.protocol_model.specs.ClientLocks.{Try, is_won}
use Rattle.protocol_model.specs.World.{Opening, World}
use Rattle.moves.proofs.Rules.{Rule, May, MayAll, Ordered, effect, effects, turn_by, answers_by}
use Rattle.moves.proofs.Indices.{both}
use Rattle.walk.proofs.ChainKinds.{Aside, Hearing, suits}
use Rattle.client_locks.proofs.RoundNumbers
use Rattle.client_locks.proofs.RoundNumbers.{is_tried}
use Rattle.client_locks.proofs.Ids.{is_process_same, is_process_self}
use Rattle.client_locks.proofs.Calls.{holder_of_call}
use Rattle.client_locks.proofs.Clients.{Numbers, call_at}
use Rattle.client_locks.proofs.Growing.{Replying, replying_keeps}
use Rattle.client_locks.proofs.Answering.{is_true, any_true, not_true_answers}
use Rattle.client_locks.proofs.Steps.{is_step, calls_from}
use Rattle.client_locks.proofs.Ongoing.{is_deleting, GoesOnFrom, Step, call_tries, call_rests, call_stepped}
use Rattle.client_locks.proofs.Chains.{OrderedKept, aside_or_step, aside_gives_none, won_untried, rest_tries}
use Rattle.client_locks.proofs.HeardChains.{Waits, answered_none}
use Rattle.client_locks.proofs.Numbering.{Numbered, last_effect}

-- the try is that of this call, which asks the nodes of the try, or did so before it was refused
pub record IsTryOf (s : Try) (c : LockCall) : Type 0 where
  pub number : s.number ≡ c.number
  pub id : s.id ≡ c.id
  pub target : s.target ≡ c.target
  pub asks : (is_waiting_call c.phase ≡ true) ⊎ ((id : Id) (x : ℕ) → is_tried id x c ≡ (is_id s.id id && s.asks x))

-- t, the last try of p, fits its calls and those of other processes of its node
pub record Fits (w : World) (p : Process) (t : Option Try) : Type 0 where
  -- an open call that is no deletion is of this try
  pub own : (c : LockCall) → call_at w p ≡ Some c → is_deleting c.phase ≡ false
      → (s : Try) × ((t ≡ Some s) × IsTryOf s c)
  -- no other call has its number
  pub alone : (s : Try) → t ≡ Some s → (q : Process) (c : LockCall) → q.node ≡ p.node → call_at w q ≡ Some c
      → c.number ≡ s.number → (q ≡ p) × (is_deleting c.phase ≡ false)
  pub below : (s : Try) → t ≡ Some s → s.number ≤ (w.node p.node).last_call

-- nothing is won by a try that isn't answered `true`
pub lost_without : (p : Process) (id : Id) (x : ℕ) (ss : List Answer) (t : Option Try)
    → ((s : Try) → t ≡ Some s → any_true p.node s.number ss ≡ false) → is_won p id x ss t ≡ false
lost_without p id x ss None none = refl
lost_without p id x ss (Some s) none = ap (λ (b : Bool). (is_id s.id id && s.asks x) && b) (none s refl)
    ∙ and-false (is_id s.id id && s.asks x)

-- a call that waits is tried nowhere
untried_waiting : (c : LockCall) → is_waiting_call c.phase ≡ true → (id : Id) (x : ℕ) → is_tried id x c ≡ false
untried_waiting c h id x = rest_tries id x (Some c) h

-- and neither is a deletion
untried_deleting : (c : LockCall) → is_deleting c.phase ≡ true → (id : Id) (x : ℕ) → is_tried id x c ≡ false
untried_deleting c h id x = go c.phase h (is_id c.id id)
  where
    go : (f : LockPhase) → is_deleting f ≡ true → (b : Bool)
        → (b && (elim f [ LockPhase.Asking r ↦ asked r x | _ ↦ false ])) ≡ false
    go (LockPhase.Asking r) e b = cc
    go LockPhase.Waiting e b = cc
    go (LockPhase.Deleting owing) e true = refl
    go (LockPhase.Deleting owing) e false = refl

module _ (o : Opening) (a : ℕ) (kept : OrderedKept o) where
  -- no other node answers
  answered_elsewhere : (b m : ℕ) → (a == b) ≡ false → (rs : List Rule) (w : World) (num : Numbers)
      → list_all (suits Hearing) rs ≡ true → MayAll o a rs w → Ordered w → Replying w
      → any_true b m (answers_by o a rs w) ≡ false
  answered_elsewhere b m other [] w num h k order R = refl
  answered_elsewhere b m other (r ∷ rs) w num h k order R =
      let parts : (suits Hearing r ≡ true) × (list_all (suits Hearing) rs ≡ true) = both (suits Hearing r)
      (list_all (suits Hearing) rs) h in
      list_any-append (is_true b m) (turn_by o a w r).answers (answers_by o a rs (effect o a r w))
      ∙ ap (λ (t : Bool). t || any_true b m (answers_by o a rs (effect o a r w))) (one parts.0 (is_step r) refl)
      ∙ answered_elsewhere b m other rs (effect o a r w) num parts.1 k.1 (kept a w r order k.0)
      (replying_keeps o a w r k.0 R)
    where
      one : suits Hearing r ≡ true → (t : Bool) → is_step r ≡ t → any_true b m (turn_by o a w r).answers ≡ false
      one heard true e =
          let S : Step o a r w num = call_stepped o a w num order R r e k.0 in
          S.answers b m ∙ ap (λ (t : Bool). S.ended && (t && (S.call.number == m))) other ∙ and-false S.ended
      one heard false e = not_true_answers o a w b m r (aside_gives_none r (aside_or_step r heard e)) k.0 R

  -- a step of an open call, or a rule of none, keeps the try
  fits_rule : (w : World) (num : Numbers) (r : Rule) (p : Process) (t : Option Try) → suits Hearing r ≡ true
      → May o a w r → Ordered w → Replying w → Fits w p t → Fits (effect o a r w) p t
  fits_rule w num r p t heard m order R F = go (is_step r) refl
    where
      below : (s : Try) → t ≡ Some s → s.number ≤ ((effect o a r w).node p.node).last_call
      below s e = omega (arith, F.below s e, last_effect o a w r p.node)

      by_step : Step o a r w num → Fits (effect o a r w) p t
      by_step S = record {
        own = λ c e d. own c d (is_process S.call.holder p) refl (sym (S.calls p) ∙ e);
        alone = λ s e q c h k n. alone s e q c h n (is_process S.call.holder q) refl (sym (S.calls q) ∙ k);
        below = below;
      }
        where
          there : (q : Process) → is_process S.call.holder q ≡ true → call_at w q ≡ Some S.call
          there q i = subst (λ (k : Process). call_at w k ≡ Some S.call) (is_process_same S.call.holder q i) S.found

          asks : (s : Try) → IsTryOf s S.call → (c : LockCall) → S.next ≡ Some c
              → (is_waiting_call c.phase ≡ true) ⊎ ((id : Id) (x : ℕ) → is_tried id x c ≡ (is_id s.id id && s.asks x))
          asks s T c j = elim S.goes [
            | inl g ↦ by_asks g.0 T.asks
            | inr rest ↦ inl (sym (ap call_rests j) ∙ rest)
          ]
            where
              by_asks : ((id : Id) (x : ℕ) → call_tries id x S.next ≡ is_tried id x S.call)
                  → (is_waiting_call S.call.phase ≡ true)
                  ⊎ ((id : Id) (x : ℕ) → is_tried id x S.call ≡ (is_id s.id id && s.asks x))
                  → (is_waiting_call c.phase ≡ true)
                  ⊎ ((id : Id) (x : ℕ) → is_tried id x c ≡ (is_id s.id id && s.asks x))
              by_asks g (inl waits) = absurd (cc (waits, S.busy))
              by_asks g (inr same) = inr (λ id x. sym (ap (call_tries id x) j) ∙ g id x ∙ same id x)

          own : (c : LockCall) → is_deleting c.phase ≡ false → (b : Bool) → is_process S.call.holder p ≡ b
              → (if b then S.next else call_at w p) ≡ Some c → (s : Try) × ((t ≡ Some s) × IsTryOf s c)
          own c d true i j =
              let g : GoesOnFrom S.call c = S.same c j in
              let was : (s : Try) × ((t ≡ Some s) × IsTryOf s S.call) = F.own S.call (there p i) (sym g.4 ∙ d) in (
                was.0,
                (
                  was.1.0,
                  record {
                    number = was.1.1.number ∙ sym g.0;
                    id = was.1.1.id ∙ sym g.2;
                    target = was.1.1.target ∙ sym g.3;
                    asks = asks was.0 was.1.1 c j;
                  },
                ),
              )
          own c d false i j = F.own c j d

          alone : (s : Try) → t ≡ Some s → (q : Process) (c : LockCall) → q.node ≡ p.node → c.number ≡ s.number
              → (b : Bool) → is_process S.call.holder q ≡ b → (if b then S.next else call_at w q) ≡ Some c
              → (q ≡ p) × (is_deleting c.phase ≡ false)
          alone s e q c h n true i j =
              let g : GoesOnFrom S.call c = S.same c j in
              let was : (q ≡ p) × (is_deleting S.call.phase ≡ false) = F.alone s e q S.call h (there q i)
              (sym g.0 ∙ n) in
              (was.0, g.4 ∙ was.1)
          alone s e q c h n false i j = F.alone s e q c h j n

      go : (b : Bool) → is_step r ≡ b → Fits (effect o a r w) p t
      go true e = by_step (call_stepped o a w num order R r e m)
      go false e =
          let plain : suits Aside r ≡ true = aside_or_step r heard e in
          record {
            own = λ c k d. F.own c (calls_from o a w num r plain m p c k) d;
            alone = λ s i q c h k n. F.alone s i q c h (calls_from o a w num r plain m q c k) n;
            below = below;
          }

  -- and so does a chain of them
  pub fits_chain : (rs : List Rule) (w : World) (num : Numbers) (p : Process) (t : Option Try)
      → list_all (suits Hearing) rs ≡ true → MayAll o a rs w → Ordered w → Replying w → Fits w p t
      → Fits (effects o a rs w) p t
  fits_chain [] w num p t h m order R F = F
  fits_chain (r ∷ rs) w num p t h m order R F =
      let parts : (suits Hearing r ≡ true) × (list_all (suits Hearing) rs ≡ true) = both (suits Hearing r)
      (list_all (suits Hearing) rs) h in
      fits_chain rs (effect o a r w) num p t parts.1 m.1 (kept a w r order m.0) (replying_keeps o a w r m.0 R)
      (fits_rule w num r p t parts.0 m.0 order R F)

  -- what such a chain answers gives by the try what it gives by the call
  pub won_heard : (rs : List Rule) (w : World) (num : Numbers) (p : Process) (t : Option Try)
      → list_all (suits Hearing) rs ≡ true → MayAll o a rs w → Ordered w → Replying w → Fits w p t
      → (id : Id) (x : ℕ)
      → is_won p id x (answers_by o a rs w) t ≡ RoundNumbers.is_won_by_round id x (answers_by o a rs w) (call_at w p)
  won_heard rs w num p t heard m order R F id x = go (call_at w p) refl
    where
      ss : List Answer
      ss = answers_by o a rs w

      -- the try isn't answered `true` where the call is at no round
      lost : ((c : LockCall) → call_at w p ≡ Some c → (is_waiting_call c.phase ≡ true) ⊎ (is_deleting c.phase ≡ true))
          → is_won p id x ss t ≡ false
      lost idle = lost_without p id x ss t (λ s e. none s e (a == p.node) refl)
        where
          waits : (s : Try) → t ≡ Some s → (a == p.node) ≡ true → Waits o a kept s.number w
          waits s e here q c home f n =
              let was : (q ≡ p) × (is_deleting c.phase ≡ false) = F.alone s e q c
              (home ∙ eqb-true a p.node here) f n in
              elim (idle c (subst (λ (k : Process). call_at w k ≡ Some c) was.0 f)) [
                | inl wait ↦ wait
                | inr del ↦ absurd (cc (was.1, del))
              ]

          none : (s : Try) → t ≡ Some s → (b : Bool) → (a == p.node) ≡ b → any_true p.node s.number ss ≡ false
          none s e true here = answered_none o a kept rs w num s.number heard m order R (waits s e here) p.node
          none s e false other = answered_elsewhere p.node s.number other rs w num heard m order R

      -- the call asks by its round whom the try asks
      busy : (c : LockCall) → call_at w p ≡ Some c → is_waiting_call c.phase ≡ false → is_deleting c.phase ≡ false
          → is_won p id x ss t ≡ RoundNumbers.is_won_by_round id x ss (Some c)
      busy c e hw hd =
          let was : (s : Try) × ((t ≡ Some s) × IsTryOf s c) = F.own c e hd in
          ap (is_won p id x ss) was.1.0
          ∙ ap (λ (b : Bool). b && any_true p.node was.0.number ss) (asks was.0 was.1.1.asks)
          ∙ ap (λ (n : ℕ). is_tried id x c && any_true p.node n ss) was.1.1.number
          ∙ ap (λ (q : Process). is_tried id x c && any_true q.node c.number ss)
          (sym (holder_of_call p (w.node p.node).calls c e))
        where
          asks : (s : Try) → (is_waiting_call c.phase ≡ true)
              ⊎ ((i : Id) (y : ℕ) → is_tried i y c ≡ (is_id s.id i && s.asks y))
              → (is_id s.id id && s.asks x) ≡ is_tried id x c
          asks s (inl waiting) = absurd (cc (waiting, hw))
          asks s (inr same) = sym (same id x)

      go : (k : Option LockCall) → call_at w p ≡ k → is_won p id x ss t ≡ RoundNumbers.is_won_by_round id x ss k
      go None e = lost (λ c f. absurd (cc (e, f)))
      go (Some c) e = by_phase (is_waiting_call c.phase) (is_deleting c.phase) refl refl
        where
          by_phase : (b d : Bool) → is_waiting_call c.phase ≡ b → is_deleting c.phase ≡ d
              → is_won p id x ss t ≡ RoundNumbers.is_won_by_round id x ss (Some c)
          by_phase true d hw hd =
              lost (λ k f. let same : c ≡ k = cc (e, f) in inl (subst (λ (y : LockCall). is_waiting_call y.phase ≡ true)
              same hw))
              ∙ sym (won_untried id x ss (Some c) (untried_waiting c hw id x))
          by_phase false true hw hd =
              lost (λ k f. let same : c ≡ k = cc (e, f) in inr (subst (λ (y : LockCall). is_deleting y.phase ≡ true)
              same hd))
              ∙ sym (won_untried id x ss (Some c) (untried_deleting c hd id x))
          by_phase false false hw hd = busy c e hw hd

  module _ (w w2 : World) (q : Process) (next : Option LockCall) (home : q.node ≡ a)
      (calls : (p : Process) → call_at w2 p ≡ (if is_process q p then next else call_at w p))
      (new : (d : LockCall) → next ≡ Some d → d.number ≡ (w.node a).last_call + 1) where
    -- a new call of another process keeps the try, and so does a deletion
    pub fits_beside : (p : Process) (t : Option Try)
        → (is_process q p ≡ true → (d : LockCall) → next ≡ Some d → is_deleting d.phase ≡ true)
        → ((n : ℕ) → (w.node n).last_call ≤ (w2.node n).last_call) → Fits w p t → Fits w2 p t
    fits_beside p t apart last F = record {
      own = λ c e d. own c d (is_process q p) refl (sym (calls p) ∙ e);
      alone = λ s e r c h k n. alone s e r c h n (is_process q r) refl (sym (calls r) ∙ k);
      below = λ s e. omega (arith, F.below s e, last p.node);
    }
      where
        own : (c : LockCall) → is_deleting c.phase ≡ false → (b : Bool) → is_process q p ≡ b
            → (if b then next else call_at w p) ≡ Some c → (s : Try) × ((t ≡ Some s) × IsTryOf s c)
        own c d true i j = absurd (cc (apart i c j, d))
        own c d false i j = F.own c j d

        alone : (s : Try) → t ≡ Some s → (r : Process) (c : LockCall) → r.node ≡ p.node → c.number ≡ s.number
            → (b : Bool) → is_process q r ≡ b → (if b then next else call_at w r) ≡ Some c
            → (r ≡ p) × (is_deleting c.phase ≡ false)
        alone s e r c h n true i j =
            let here : p.node ≡ a = sym h ∙ sym (ap (λ (k : Process). k.node) (is_process_same q r i)) ∙ home in
            let least : s.number ≤ (w.node a).last_call = subst (λ (k : ℕ). s.number ≤ (w.node k).last_call) here
            (F.below s e) in
            absurd (omega (arith, new c j, n, least))
        alone s e r c h n false i j = F.alone s e r c h j n

    -- a new call of the process is of its new try
    pub fits_begins : (s : Try) → s.number ≡ (w.node a).last_call + 1
        → ((d : LockCall) → next ≡ Some d → (is_deleting d.phase ≡ false) × IsTryOf s d)
        → (w.node a).last_call + 1 ≤ (w2.node a).last_call → Numbered o w → Fits w2 q (Some s)
    fits_begins s number begins more N = record {
      own = λ c e d. (
        s,
        (
          refl,
          (begins c (sym (ap (λ (b : Bool). if b then next else call_at w q) (is_process_self q))
              ∙ sym (calls q) ∙ e)).1,
        ),
      );
      alone = λ s2 e r c h k n. let same : s ≡ s2 = cc e in
          alone r c h (n ∙ ap (λ (y : Try). y.number) (sym same)) (is_process q r) refl (sym (calls r) ∙ k);
      below = λ s2 e. let same : s ≡ s2 = cc e in
          subst (λ (y : Try). y.number ≤ (w2.node q.node).last_call) same
          (subst (λ (n : ℕ). s.number ≤ (w2.node n).last_call) (sym home) (omega (arith, number, more)));
    }
      where
        alone : (r : Process) (c : LockCall) → r.node ≡ q.node → c.number ≡ s.number → (b : Bool) → is_process q r ≡ b
            → (if b then next else call_at w r) ≡ Some c → (r ≡ q) × (is_deleting c.phase ≡ false)
        alone r c h n true i j = (sym (is_process_same q r i), (begins c j).0)
        alone r c h n false i j =
            let least : c.number ≤ (w.node a).last_call = subst (λ (k : ℕ). c.number ≤ (w.node k).last_call)
            (h ∙ home) (N.below r c j) in
            absurd (omega (arith, number, n, least))
