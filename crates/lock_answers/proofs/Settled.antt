-- A node where nothing that is on its way lessens what a process has there: it stays so by each rule, as long as the
-- process asks for nothing.
use Rattle.std.proofs.Common.{ℕ, Bool, true, false, ◌==◌, ◌≡◌, ◌≤◌, ◌+◌, ◌-◌, List, [], ◌∷◌, ◌++◌, refl, sym, ap, ◌∙◌, subst, arith}
use Rattle.std.specs.Prelude.{not, ◌&&◌, ◌||◌, filter, if◌then◌else◌}
use Rattle.std.proofs.lemmas.Bool.{eqb-true}
use Rattle.registry_model.specs.Process.{Process, is_process}
use Rattle.registry_model.proofs.Updates.{by_test}
use Rattle.protocol_model.specs.Letter.{Id, is_id, Letter}
use Rattle.protocol_model.specs.LockTable.{Locks, is_grant_of, count, is_free_for, grant, give_back}
use Rattle.protocol_model.specs.Node.{Node}
use Rattle.protocol_model.specs.Watch.{is_dead}
use Rattle.protocol_model.specs.ClientLocks.{is_no_more}
use Rattle.protocol_model.specs.World.{Opening, World, left}
use Rattle.moves.proofs.Rules
use Rattle.moves.proofs.Rules.{Rule, May, effect, turn_by}
use Rattle.moves.proofs.Invariants.{IsUp}
use Rattle.walk.proofs.Orders.{effect-node}
use Rattle.leftovers.proofs.Ids.{is_process_same, is_process_self}
use Rattle.leftovers.proofs.LockTables.{pair_off, count-grant_other, count-give_back, count-give_back_other, count-drop_holder, count-drop_node}
use Rattle.leftovers.proofs.Sessions.{Ask, Takes, Echo, View, Owed, due_if, view, settled, settled_le, fits, due, Live}
use Rattle.leftovers.proofs.SessionMoves.{take_front}
use Rattle.leftovers.proofs.Mail.{asks}
use Rattle.leftovers.proofs.Clients.{Numbers, lives, IsLive, live_parts, lives_by, call_at, Clients}
use Rattle.leftovers.proofs.Calling.{ups_of, downs_of, held_of, num_of}
use Rattle.leftovers.proofs.Serving.{front_named}
use Rattle.leftovers.proofs.Growing.{gone_keeps}
use Rattle.leftovers.proofs.Parts.{locks_by, parts}

-- nothing that is on its way lessens what p has at x
abbrev pub Stands : World → Process → ℕ → Type 0
Stands w p x = (id : Id) → settled id (ups_of w p x) (held_of w p x id) ≡ held_of w p x id

-- as where nothing is on its way
pub stands_alone : (w : World) (p : Process) (x : ℕ) → ups_of w p x ≡ [] → Stands w p x
stands_alone w p x e id = ap (λ (us : List Ask). settled id us (held_of w p x id)) e

-- nothing is due from a node that owes at most its acknowledgement
nothing_due : (id : Id) (b : Bool) (downs : List Echo) → due id (due_if b) downs ≡ 0
nothing_due id true downs = refl
nothing_due id false downs = refl

no_take : (id : Id) (b : Bool) → due_if b ≡ Owed id → ⊥
no_take id true e = cc
no_take id false e = cc

-- what then is on its way leaves as much as the process holds
left_over : (w : World) (num : Numbers) (p : Process) (x : ℕ) (v : View) (b : Bool) → v ≡ due_if b
    → Live v (ups_of w p x) (downs_of w p x) (held_of w p x) (num_of num p x) → (id : Id)
    → settled id (ups_of w p x) (held_of w p x id) ≡ num p id x
left_over w num p x v b e l id =
    let sum : settled id (ups_of w p x) (held_of w p x id) ≡ num p id x + due id v (downs_of w p x) = l.sum id in
    let none : due id v (downs_of w p x) ≡ 0 = ap (λ (u : View). due id u (downs_of w p x)) e
    ∙ nothing_due id b (downs_of w p x) in
    omega (arith, sum, none)

-- who is dropped has no count
count_dropped : (f : Process → Bool) (id : Id) (p : Process) (t : Locks) → f p ≡ false
    → count id p (filter (λ g. f g.holder) t) ≡ 0
count_dropped f id p [] h = refl
count_dropped f id p (g ∷ t) h = go (f g.holder) refl (count_dropped f id p t h)
  where
    other : f g.holder ≡ true → (c : Bool) → is_process g.holder p ≡ c → is_grant_of id p g ≡ false
    other k true e = cc (ap f (is_process_same g.holder p e), h, k)
    other k false e = ap (λ (c : Bool). is_id g.id id && c) e ∙ none (is_id g.id id)
      where
        none : (c : Bool) → (c && false) ≡ false
        none true = refl
        none false = refl

    go : (b : Bool) → f g.holder ≡ b → count id p (filter (λ g. f g.holder) t) ≡ 0
        → count id p (if b then g ∷ filter (λ g. f g.holder) t else filter (λ g. f g.holder) t) ≡ 0
    go true k e = ap (λ (c : Bool). if c then g.count else count id p (filter (λ g. f g.holder) t))
        (other k (is_process g.holder p) refl) ∙ e
    go false k e = e

-- what is dropped is no more than what was there
dropped_less : (f : Process → Bool) (id : Id) (p : Process) (t : Locks) (b : Bool) → f p ≡ b
    → (b ≡ true → count id p (filter (λ g. f g.holder) t) ≡ count id p t)
    → count id p (filter (λ g. f g.holder) t) ≤ count id p t
dropped_less f id p t true h same = omega (arith, same refl)
dropped_less f id p t false h same = omega (arith, count_dropped f id p t h)

-- who runs behind a rule ran before it
pub node_ran : (o : Opening) (a : ℕ) (r : Rule) (w : World) (x : ℕ) → left (effect o a r w) x ≡ false → left w x ≡ false
node_ran o a Rules.Leaves w x h = by_test a (λ y b. (if b then true else left w y) ≡ false → left w y ≡ false) (λ k. cc k)
    (λ y ne k. k) x h
node_ran o a _ w x h = h

-- and who lives behind it lived before
pub process_lived : (o : Opening) (a : ℕ) (r : Rule) (w : World) (p : Process) → lives o (effect o a r w) p ≡ true
    → lives o w p ≡ true
process_lived o a r w p h = go (left w p.node) (is_dead (w.node p.node).watch p.serial) refl refl (is_no_more w p) refl
  where
    l : IsLive o (effect o a r w) p
    l = live_parts o (effect o a r w) p h

    stays : is_no_more (effect o a r w) p ≡ false
    stays = rw (l.up, l.alive) refl

    go : (b d : Bool) → left w p.node ≡ b → is_dead (w.node p.node).watch p.serial ≡ d → (g : Bool) → is_no_more w p ≡ g
        → lives o w p ≡ true
    go b d eb ed true e = absurd (cc (gone_keeps o a w r p e, stays))
    go false false eb ed false e = lives_by o w p (record
        { inside = l.inside; up = eb; client = l.client; alive = ed })
    go true d eb ed false e = absurd (cc (ap (λ (b : Bool). b || is_dead (w.node p.node).watch p.serial) eb, e))
    go false true eb ed false e = absurd
        (cc (ap (λ (b : Bool). b || is_dead (w.node p.node).watch p.serial) eb ∙ ed, e))

module _ (o : Opening) (a : ℕ) (w : World) (num : Numbers) (C : Clients o w num) (p : Process)
    (living : lives o w p ≡ true) where
  -- a process that asks for nothing is granted nothing
  no_request : (f : ℕ) (id : Id) (b : Bool) → IsUp o w a → view (call_at w p) a ≡ due_if b
      → Rules.IsFront o a w f (Letter.SetLock id p) → ⊥
  no_request f id b up v front = no_take was.0 b (sym v ∙ was.1)
    where
      home : p.node ≡ f
      home = eqb-true p.node f (front_named o f a w (Letter.SetLock id p) (C.named f a) front)

      first : ups_of w p a ≡ Takes id ∷ asks p front.0
      first = ap (λ (i : ℕ). asks p (w.links.queue i a)) home ∙ ap (asks p) front.1
          ∙ ap (λ (c : Bool). (if c then Takes id ∷ [] else []) ++ asks p front.0) (is_process_self p)

      was : (j : Id) × (view (call_at w p) a ≡ Owed j) × (id ≡ j) × (asks p front.0 ≡ []) × (downs_of w p a ≡ [])
      was = take_front (view (call_at w p) a) id (asks p front.0) (downs_of w p a)
          (subst (λ (us : List Ask). fits (view (call_at w p) a) us (downs_of w p a) ≡ true) first
          (C.sessions p a living up).fit)

  -- what the rule's own lock table has of p is no more than before
  less_here : (r : Rule) → May o a w r → (b : Bool) → view (call_at w p) a ≡ due_if b → (id : Id)
      → count id p (locks_by r (w.node a).locks) ≤ count id p (w.node a).locks
  less_here (Rules.Judges f i q) m b v id = go (is_free_for i q (w.node a).locks) (is_process q p) refl
    where
      go : (t c : Bool) → is_process q p ≡ c
          → count id p (if t then grant i q (w.node a).locks else (w.node a).locks) ≤ count id p (w.node a).locks
      go false c e = omega arith
      go true false e = omega (arith, count-grant_other i q id p (w.node a).locks (pair_off i q id p e))
      go true true e = absurd (no_request f i b (m.inside, m.running) v
          (subst (λ (k : Process). Rules.IsFront o a w f (Letter.SetLock i k)) (is_process_same q p e) m.front.1))
  less_here (Rules.TakesBack f i q ack) m b v id = go (is_process q p) refl
    where
      less : (c : Bool) (k : ℕ) → (if c then k - 1 else k) ≤ k
      less true k = omega arith
      less false k = omega arith

      go : (c : Bool) → is_process q p ≡ c
          → count id p (give_back i q (w.node a).locks) ≤ count id p (w.node a).locks
      go false e = omega (arith, count-give_back_other i q id p (w.node a).locks (pair_off i q id p e))
      go true e = subst (λ (k : Process). count id p (give_back i k (w.node a).locks) ≤ count id p (w.node a).locks)
          (sym (is_process_same q p e)) (omega (
            arith,
            count-give_back i p (w.node a).locks (C.tables a) id,
            less (is_id i id) (count id p (w.node a).locks),
          ))
  less_here (Rules.Releases f q) m b v id = dropped_less (λ k. not (is_process k q)) id p (w.node a).locks
      (not (is_process p q)) refl (λ e. count-drop_holder q id p (w.node a).locks (go (is_process p q) e))
    where
      go : (c : Bool) → not c ≡ true → c ≡ false
      go false e = refl
      go true e = cc
  less_here (Rules.IsTold f) m b v id = dropped_less (λ k. not (k.node == f)) id p (w.node a).locks
      (not (p.node == f)) refl (λ e. count-drop_node f id p (w.node a).locks (go (p.node == f) e))
    where
      go : (c : Bool) → not c ≡ true → c ≡ false
      go false e = refl
      go true e = cc
  less_here _ m b v id = omega arith

  -- and so at each node
  less_after : (r : Rule) → May o a w r → (x : ℕ) (b : Bool) → view (call_at w p) x ≡ due_if b → (id : Id)
      → held_of (effect o a r w) p x id ≤ held_of w p x id
  less_after r m x b v id = subst (λ (f : ℕ → Node). count id p (f x).locks ≤ count id p (w.node x).locks)
      (sym (effect-node o a r w))
      (by_test a (λ y t. view (call_at w p) y ≡ due_if b
      → count id p (if t then (turn_by o a w r).node else w.node y).locks ≤ count id p (w.node y).locks)
      (λ k. subst (λ (t : Locks). count id p t ≤ count id p (w.node a).locks) (sym (parts o a w r).locks)
      (less_here r m b k id))
      (λ y ne k. omega arith) x v)

  -- a rule that leaves p's numbers keeps that nothing lessens what p has there
  pub stands_keeps : (r : Rule) → May o a w r → (num1 : Numbers) → Clients o (effect o a r w) num1
      → lives o (effect o a r w) p ≡ true → (x : ℕ) → IsUp o (effect o a r w) x → (b b1 : Bool)
      → view (call_at w p) x ≡ due_if b → view (call_at (effect o a r w) p) x ≡ due_if b1
      → ((id : Id) → num1 p id x ≡ num p id x) → Stands w p x → Stands (effect o a r w) p x
  stands_keeps r m num1 C1 living1 x up1 b b1 v v1 same S id = omega (
    arith,
    left_over w num p x (view (call_at w p) x) b v (C.sessions p x living (up1.0, node_ran o a r w x up1.1)) id,
    left_over (effect o a r w) num1 p x (view (call_at (effect o a r w) p) x) b1 v1
        (C1.sessions p x living1 up1) id,
    same id,
    S id,
    less_after r m x b v id,
    settled_le id (ups_of (effect o a r w) p x) (held_of (effect o a r w) p x id),
  )

  -- there p holds what the lock table says
  pub stands_counts : (x : ℕ) → IsUp o w x → (b : Bool) → view (call_at w p) x ≡ due_if b → Stands w p x → (id : Id)
      → held_of w p x id ≡ num p id x
  stands_counts x up b v S id = sym (S id)
      ∙ left_over w num p x (view (call_at w p) x) b v (C.sessions p x living up) id
