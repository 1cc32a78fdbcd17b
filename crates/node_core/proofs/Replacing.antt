-- The next node of a name stands for the one that has left.
use Rattle.std.proofs.Common.{ℕ, Bool, true, false, ◌==◌, ◌≡◌, ◌≤◌, ◌+◌, ◌⊎◌, List, Option, Some, None, get_or, inl, inr, refl, sym, ap, ◌∙◌, subst, arith}
use Rattle.std.specs.Prelude.{not, ◌&&◌}
use Rattle.std.proofs.lemmas.Bool.{cases_eq, eq-eqb, ne_eqb, eqb-true, and_parts, and_from, or_cases, or_left, or_right}
use Rattle.protocol_model.specs.Node.{LockPhase}
use Rattle.term.specs.Nodes.{name_of}
use Rattle.term.specs.NodeSets.{set_of, with_older, succeeded}
use Rattle.term.proofs.Older.{reaching, reached, closed, succeeded_is, succeeded_keeps}
use Rattle.lock_calls.specs.LockCallsState.{seen}
use Rattle.transaction.specs.declared.op.Op.{Op}
use Rattle.transaction.specs.declared.op.Op.TheVariants.{Name, Strike, Join, Admission}
use Rattle.node_core.specs.declared.node.Phase.{Phase}
use Rattle.node_core.specs.declared.node.Phase.TheVariants.{Asking, Waiting, Writing, Joining}
use Rattle.node_core.specs.CoreState.{CoreState, HaveLeft, IsNext, IsWhole, IsOpWithin, IsCurrentWithin, IsPhaseWithin, IsCallWithin}
use Rattle.node_core.proofs.Gone.{one_way}

-- a node isn't the one before it
before : (older next : ℕ) → next ≡ older + 1 → next ≡ older → ⊥
before older next is same = absurd (omega (arith, is, same))

-- the next one of a name isn't of the world while the one before it is
pub not_yet : (world left : List ℕ) (older next : ℕ) → HaveLeft world left → IsNext older next → set_of world older ≡ true
    → set_of world next ≡ false
not_yet world left older next gone is known = go (set_of world next) refl
  where
    go : (b : Bool) → set_of world next ≡ b → b ≡ false
    go false e = refl
    go true e = absurd (before older next is.is (gone.one next older e known is.named))

module _ (world left : List ℕ) (older next : ℕ) (gone : HaveLeft world left) (is : IsNext older next)
    (known : set_of world older ≡ true) (away : with_older left older ≡ true) where
  -- the world with the next node of the name
  abbrev now : List ℕ
  now = succeeded older next world

  -- who stands in it: others of the world, or the next node
  stands : (c : ℕ) → set_of now c ≡ true → ((set_of world c ≡ true) × (c ≡ older → ⊥)) ⊎ (next ≡ c)
  stands c e = elim (or_cases (set_of world c && not (c == older)) (set_of world older && (next == c))
      (sym (succeeded_is world older next c) ∙ e)) [
        | inl other ↦ let parts = and_parts (set_of world c) (not (c == older)) other in
            inl (parts.0, λ same. one_way (not (c == older)) parts.1 (ap not (eq-eqb c older same)))
        | inr this ↦ inr (eqb-true next c (and_parts (set_of world older) (next == c) this).1)
      ]

  -- another of the world stands there still
  stays : (c : ℕ) → set_of world c ≡ true → (c ≡ older → ⊥) → set_of now c ≡ true
  stays c e other = succeeded_is world older next c
      ∙ or_left _ _ (and_from (set_of world c) (not (c == older)) e (ap not (ne_eqb c older other)))

  -- and the next node does
  is_there : set_of now next ≡ true
  is_there = succeeded_is world older next next
      ∙ or_right (set_of world next && not (next == older)) _
      (and_from (set_of world older) (next == next) known (eq-eqb next next refl))

  -- who has started has started
  keeps : (c : ℕ) → with_older world c ≡ true → with_older now c ≡ true
  keeps c = succeeded_keeps world older next c is.named (let e = is.is in omega (arith, e))

  pub left_then : HaveLeft now left
  left_then = record {
    one = λ a b there here same. one a b (stands a there) (stands b here) same;
    started = λ c e. keeps c (gone.started c e);
    older = λ c started out.
        let m = reached now c started in behind c out m.0 m.2 m.3 (stands m.0 m.1);
  }
    where
      one : (a b : ℕ) → ((set_of world a ≡ true) × (a ≡ older → ⊥)) ⊎ (next ≡ a)
          → ((set_of world b ≡ true) × (b ≡ older → ⊥)) ⊎ (next ≡ b) → name_of a ≡ name_of b → a ≡ b
      one a b (inl p) (inl q) same = gone.one a b p.0 q.0 same
      one a b (inl p) (inr q) same = absurd (p.1 (gone.one a older p.0 known (same ∙ ap name_of (sym q) ∙ is.named)))
      one a b (inr p) (inl q) same = absurd (q.1 (gone.one b older q.0 known (sym same ∙ ap name_of (sym p) ∙ is.named)))
      one a b (inr p) (inr q) same = sym p ∙ q

      behind : (c : ℕ) → set_of now c ≡ false → (m : ℕ) → name_of m ≡ name_of c → c ≤ m
          → ((set_of world m ≡ true) × (m ≡ older → ⊥)) ⊎ (next ≡ m) → with_older left c ≡ true
      behind c out m named less (inl p) = elim (cases_eq c older) [
        | inl same ↦ ap (with_older left) same ∙ away
        | inr other ↦ go (set_of world c) refl other
      ]
        where
          go : (b : Bool) → set_of world c ≡ b → (c ≡ older → ⊥) → with_older left c ≡ true
          go true e other = absurd (one_way (set_of now c) (stays c e other) out)
          go false e other = gone.older c (reaching world m c p.0 named less) e
      behind c out m named less (inr p) =
          closed left c older away (sym named ∙ ap name_of (sym p) ∙ is.named)
          (let e = is.is in omega (arith, less, p, e, other))
        where
          other : c ≡ next → ⊥
          other same = one_way (set_of now c) (ap (set_of now) same ∙ is_there) out

  -- so what a node knows of has
  op_keeps : (op : Op) → IsOpWithin world op → IsOpWithin now op
  op_keeps (Join k m) w = keeps m w
  op_keeps (Admission j pairs) w = keeps j w
  op_keeps (Name k c) w = tt
  op_keeps (Strike p) w = tt

  current_keeps : (o : Option Op) → IsCurrentWithin world o → IsCurrentWithin now o
  current_keeps None w = tt
  current_keeps (Some op) w = op_keeps op w

  phase_keeps : (p : Phase) → IsPhaseWithin world p → IsPhaseWithin now p
  phase_keeps (Asking r) w = λ c e. keeps c (w c e)
  phase_keeps Waiting w = tt
  phase_keeps (Writing asked reply) w = λ c e. keeps c (w c e)
  phase_keeps (Joining k m) w = keeps m w

  call_keeps : (p : LockPhase) → IsCallWithin world p → IsCallWithin now p
  call_keeps (LockPhase.Asking r) w = λ c e. keeps c (w c e)
  call_keeps LockPhase.Waiting w = tt
  call_keeps (LockPhase.Deleting owing) w = λ c e. keeps c (w c e)

-- a node that was told that another has left stays whole where the next of that name stands in its world
pub whole_replaced : (h : CoreState) (w : List ℕ) (older next : ℕ) → IsWhole h → IsNext older next → set_of h.world older ≡ true
    → with_older h.told older ≡ true → w ≡ succeeded older next h.world → IsWhole (record h { world = w })
whole_replaced h w older next whole is known away same =
    subst (λ (xs : List ℕ). IsWhole (record h { world = xs })) (sym same) (record {
      self = whole.self;
      members = λ c e. stays h.world h.told older next whole.told is known away c (whole.members c e)
          (λ this. one_way (with_older h.told c) (ap (with_older h.told) this ∙ away) (whole.apart c e));
      told = left_then h.world h.told older next whole.told is known away;
      apart = whole.apart;
      queue = λ k d l. op_keeps h.world h.told older next whole.told is known away (get_or h.registrar.queue k d)
          (whole.queue k d l);
      current = current_keeps h.world h.told older next whole.told is known away h.registrar.current whole.current;
      awaited = λ c e. keeps h.world h.told older next whole.told is known away c (whole.awaited c e);
      phase = phase_keeps h.world h.told older next whole.told is known away h.phase whole.phase;
      watch = whole.watch;
      suspected = whole.suspected;
      calls = whole.calls;
      called = λ k d l. call_keeps h.world h.told older next whole.told is known away (get_or (seen h.calls) k d).phase
          (whole.called k d l);
    })
