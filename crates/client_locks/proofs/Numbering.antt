-- The numbers of lock calls, which are distinct at each node behind every event.
use Rattle.std.proofs.Common.{ℕ, Bool, true, false, ◌==◌, ◌≡◌, ◌+◌, ◌≤◌, Option, Some, None, List, [], ◌∷◌, refl, sym, ap, ◌∙◌, subst, arith, inl, inr}
use Rattle.std.specs.Prelude.{not, ◌&&◌, if◌then◌else◌}
use Rattle.std.specs.List.{list_all}
use mathlib.Core.Logic.{◌⊎◌}
use Rattle.std.proofs.lemmas.Bool.{eqb-true}
use Rattle.registry_model.specs.Process.{Process, is_process, at}
use Rattle.protocol_model.specs.Round.{begin}
use Rattle.protocol_model.specs.Watch.{is_dead}
use Rattle.protocol_model.specs.Node.{Node, LockPhase, LockCall, call_of, targets}
use Rattle.protocol_model.specs.Client.{in_phase}
use Rattle.protocol_model.specs.World.{Opening, World, opening_world}
use Rattle.moves.proofs.Rules.{Rule, May, MayAll, Ordered, IsNew, IsRetried, effect, effects, turn_by}
use Rattle.moves.proofs.Rules.Rule.{AsksLock, FailsLock, DeletesLock, DeletesNothing, Leaves}
use Rattle.registry_model.proofs.Updates.{by_test}
use Rattle.moves.proofs.Indices.{both}
use Rattle.walk.proofs.ChainKinds.{Aside, Again, Hearing, suits, is_number_of}
use Rattle.client_locks.proofs.Ids.{is_process_same}
use Rattle.client_locks.proofs.Calls.{call_of-drop, home_of_call}
use Rattle.client_locks.proofs.Clients.{Numbers, call_at}
use Rattle.client_locks.proofs.Calling.{calls_put}
use Rattle.client_locks.proofs.Growing.{Replying, replying_keeps, last_grows}
use Rattle.client_locks.proofs.Steps.{call_after}
use Rattle.client_locks.proofs.Chains.{OrderedKept, From, Distinct, from_heard}

-- a rule of no lock call may come in a delivery too
pub aside_hears : (r : Rule) → suits Aside r ≡ true → suits Hearing r ≡ true
aside_hears (AsksLock c) h = cc
aside_hears (FailsLock c) h = cc
aside_hears (DeletesLock c) h = cc
aside_hears (DeletesNothing c) h = cc
aside_hears _ h = refl

-- the numbers of lock calls are at most the last, and distinct at each node
pub record Numbered (o : Opening) (w : World) : Type 0 where
  pub below : (p : Process) (c : LockCall) → call_at w p ≡ Some c → c.number ≤ (w.node p.node).last_call
  pub distinct : (a : ℕ) → Distinct o a w

pub numbered_opens : (o : Opening) → Numbered o (opening_world o)
numbered_opens o = record { below = λ p c e. cc; distinct = λ a p q c d hp hq e f k. cc }

-- a world whose calls come from another's is numbered as that is
pub numbered_from : (o : Opening) (a : ℕ) (w w1 : World) → From o a w w1
    → ((n : ℕ) → (w.node n).last_call ≤ (w1.node n).last_call) → Numbered o w → Numbered o w1
numbered_from o a w w1 F last N = record {
  below = λ p d e.
      let one : (c : LockCall) × ((call_at w p ≡ Some c) × (c.number ≡ d.number)) = F p d e in
      omega (arith, N.below p one.0 one.1.0, one.1.1, last p.node);
  distinct = λ b p q c d hp hq ep eq e.
      let one : (c0 : LockCall) × ((call_at w p ≡ Some c0) × (c0.number ≡ c.number)) = F p c ep in
      let two : (d0 : LockCall) × ((call_at w q ≡ Some d0) × (d0.number ≡ d.number)) = F q d eq in
      N.distinct b p q one.0 two.0 hp hq one.1.0 two.1.0 (one.1.1 ∙ e ∙ sym two.1.1);
}

module _ (o : Opening) (a : ℕ) where
  node_effect : (w : World) (r : Rule) → (effect o a r w).node ≡ at w.node a (turn_by o a w r).node
  node_effect w Leaves = refl
  node_effect w _ = refl

  pub last_effect : (w : World) (r : Rule) (n : ℕ) → (w.node n).last_call ≤ ((effect o a r w).node n).last_call
  last_effect w r n = subst (λ (f : ℕ → Node). (w.node n).last_call ≤ (f n).last_call) (sym (node_effect w r))
      (by_test a (λ k t. (w.node k).last_call ≤ (if t then (turn_by o a w r).node else w.node k).last_call)
      (last_grows o a w r) (λ k ne. omega arith) n)

  pub last_chain : (rs : List Rule) (w : World) (n : ℕ) → (w.node n).last_call ≤ ((effects o a rs w).node n).last_call
  last_chain [] w n = omega arith
  last_chain (r ∷ rs) w n = omega (arith, last_effect w r n, last_chain rs (effect o a r w) n)

  from_then : (w w1 w2 : World) → From o a w w1 → From o a w1 w2 → From o a w w2
  from_then w w1 w2 F G p d e =
      let one : (c : LockCall) × ((call_at w1 p ≡ Some c) × (c.number ≡ d.number)) = G p d e in
      let two : (c : LockCall) × ((call_at w p ≡ Some c) × (c.number ≡ one.0.number)) = F p one.0 one.1.0 in
      (two.0, (two.1.0, two.1.1 ∙ one.1.1))

  pub from_self : (w : World) → From o a w w
  from_self w p d e = (d, (e, refl))

  -- a chain that begins no call
  pub from_chain : OrderedKept o → (rs : List Rule) (w : World) (num : Numbers) → list_all (suits Hearing) rs ≡ true
      → MayAll o a rs w → Ordered w → Replying w → From o a w (effects o a rs w)
  from_chain kept [] w num h m order R = from_self w
  from_chain kept (r ∷ rs) w num h m order R =
      let parts : (suits Hearing r ≡ true) × (list_all (suits Hearing) rs ≡ true) = both (suits Hearing r)
      (list_all (suits Hearing) rs) h in
      from_then w (effect o a r w) (effects o a rs (effect o a r w)) (from_heard o a w num r parts.0 m.0 order R)
      (from_chain kept rs (effect o a r w) num parts.1 m.1 (kept a w r order m.0) (replying_keeps o a w r m.0 R))

  -- the process of a call that begins is of this node
  pub beginner_home : (w : World) (c : LockCall) → Ordered w → (IsNew a (w.node a) c ⊎ IsRetried (w.node a) c)
      → c.holder.node ≡ a
  beginner_home w c order b = elim b [
    | inl new ↦ eqb-true c.holder.node a (both (c.holder.node == a) (not (c.holder.serial == 0))
        (both ((c.holder.node == a) && not (c.holder.serial == 0)) (not (is_dead (w.node a).watch c.holder.serial))
        new.live).0).0
    | inr again ↦ ap (λ (p : Process). p.node) (sym again.holder)
        ∙ home_of_call a c.holder (w.node a).calls again.before (order a) again.open_call
  ]

  -- the call that had this number
  number_of : (k : Option LockCall) (m : ℕ) → is_number_of k m ≡ true → (c : LockCall) × ((k ≡ Some c) × (c.number ≡ m))
  number_of None m h = cc
  number_of (Some c) m h = (c, (refl, eqb-true c.number m h))

  -- a call that is tried again, or fails, keeps its number
  from_again : (w0 w : World) (r : Rule) (c : LockCall) (next : Option LockCall) → From o a w0 w → c.holder.node ≡ a
      → ((p : Process) → call_at (effect o a r w) p ≡ (if is_process c.holder p then next else call_at w p))
      → ((d : LockCall) → next ≡ Some d → d.number ≡ c.number)
      → is_number_of (call_of c.holder (w0.node a).calls) c.number ≡ true → From o a w0 (effect o a r w)
  from_again w0 w r c next F home calls same h p d e = go (is_process c.holder p) refl (sym (calls p) ∙ e)
    where
      go : (b : Bool) → is_process c.holder p ≡ b → (if b then next else call_at w p) ≡ Some d
          → (k : LockCall) × ((call_at w0 p ≡ Some k) × (k.number ≡ d.number))
      go true i j =
          let one : (k : LockCall) × ((call_of c.holder (w0.node a).calls ≡ Some k) × (k.number ≡ c.number)) =
          number_of (call_of c.holder (w0.node a).calls) c.number h in
          let there : call_at w0 c.holder ≡ Some one.0 = ap (λ (n : ℕ). call_of c.holder (w0.node n).calls) home
          ∙ one.1.0 in (
            one.0,
            (
              subst (λ (q : Process). call_at w0 q ≡ Some one.0) (is_process_same c.holder p i) there,
              one.1.1
                  ∙ sym (same d j),
            ),
          )
      go false i j = F p d j

  -- a chain of a retry
  pub from_retry : OrderedKept o → (w0 : World) (rs : List Rule) (w : World) (num : Numbers)
      → list_all (suits (Again (w0.node a))) rs ≡ true → MayAll o a rs w → Ordered w → Replying w → From o a w0 w
      → From o a w0 (effects o a rs w)
  from_retry kept w0 [] w num h m order R F = F
  from_retry kept w0 (r ∷ rs) w num h m order R F =
      let parts : (suits (Again (w0.node a)) r ≡ true) × (list_all (suits (Again (w0.node a))) rs ≡ true) = both
      (suits (Again (w0.node a)) r) (list_all (suits (Again (w0.node a))) rs) h in
      from_retry kept w0 rs (effect o a r w) num parts.1 m.1 (kept a w r order m.0) (replying_keeps o a w r m.0 R)
      (one r m.0 parts.0)
    where
      plain : (s : Rule) → May o a w s → suits Aside s ≡ true → From o a w0 (effect o a s w)
      plain s k i = from_then w0 w (effect o a s w) F (from_heard o a w num s (aside_hears s i) k order R)

      one : (s : Rule) → May o a w s → suits (Again (w0.node a)) s ≡ true → From o a w0 (effect o a s w)
      one (AsksLock c) k i = from_again w0 w (AsksLock c) c (Some first) F home
          (call_after a None (turn_by o a w (AsksLock c)) w c.holder (Some first) home (calls_put a w order first home))
          (λ d e. let same : first ≡ d = cc e in sym (ap (λ (j : LockCall). j.number) same)) i
        where
          home : c.holder.node ≡ a
          home = beginner_home w c order k.tested.0

          first : LockCall
          first = in_phase (LockPhase.Asking (begin o.bound (targets (w.node a).replica.members c.target))) c
      one (FailsLock c) k i = from_again w0 w (FailsLock c) c None F home
          (call_after a None (turn_by o a w (FailsLock c)) w c.holder None home
          (λ p. call_of-drop p c.holder (w.node a).calls))
          (λ d e. cc) i
        where
          home : c.holder.node ≡ a
          home = beginner_home w c order k.tested.0
      one s k i = plain s k i

  -- a new call has a number of its own
  pub numbered_begins : (w w2 : World) (q : Process) (next : Option LockCall) → q.node ≡ a
      → ((p : Process) → call_at w2 p ≡ (if is_process q p then next else call_at w p))
      → ((d : LockCall) → next ≡ Some d → d.number ≡ (w.node a).last_call + 1)
      → (w.node a).last_call + 1 ≤ (w2.node a).last_call
      → ((n : ℕ) → (w.node n).last_call ≤ (w2.node n).last_call) → Numbered o w → Numbered o w2
  numbered_begins w w2 q next home calls new more last N = record {
    below = λ p d e. below p d (is_process q p) refl (sym (calls p) ∙ e);
    distinct = λ b p r c d hp hr ep er e. apart b p r c d hp hr (is_process q p) (is_process q r) refl refl
        (sym (calls p) ∙ ep) (sym (calls r) ∙ er) e;
  }
    where
      below : (p : Process) (d : LockCall) (b : Bool) → is_process q p ≡ b → (if b then next else call_at w p) ≡ Some d
          → d.number ≤ (w2.node p.node).last_call
      below p d true i e =
          let there : (w.node a).last_call + 1 ≤ (w2.node p.node).last_call = subst
          (λ (n : ℕ). (w.node a).last_call + 1 ≤ (w2.node n).last_call)
          (sym home ∙ ap (λ (k : Process). k.node) (is_process_same q p i)) more in
          omega (arith, new d e, there)
      below p d false i e = omega (arith, N.below p d e, last p.node)

      -- an old call has a lesser number than the new one, at its node
      lesser : (r : Process) (d : LockCall) → r.node ≡ a → call_at w r ≡ Some d → d.number ≤ (w.node a).last_call
      lesser r d h e = subst (λ (n : ℕ). d.number ≤ (w.node n).last_call) h (N.below r d e)

      apart : (b : ℕ) (p r : Process) (c d : LockCall) → p.node ≡ b → r.node ≡ b → (s t : Bool) → is_process q p ≡ s
          → is_process q r ≡ t
          → (if s then next else call_at w p) ≡ Some c → (if t then next else call_at w r) ≡ Some d
          → c.number ≡ d.number → p ≡ r
      apart b p r c d hp hr true true i j ep er e = sym (is_process_same q p i) ∙ is_process_same q r j
      apart b p r c d hp hr true false i j ep er e =
          let same : r.node ≡ a = hr ∙ sym hp ∙ ap (λ (k : Process). k.node) (sym (is_process_same q p i)) ∙ home in
          absurd (omega (arith, e, new c ep, lesser r d same er))
      apart b p r c d hp hr false true i j ep er e =
          let same : p.node ≡ a = hp ∙ sym hr ∙ ap (λ (k : Process). k.node) (sym (is_process_same q r j)) ∙ home in
          absurd (omega (arith, e, new d er, lesser p c same ep))
      apart b p r c d hp hr false false i j ep er e = N.distinct b p r c d hp hr ep er e
