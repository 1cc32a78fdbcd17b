-- No lock call counts a node as granted that was told to have left: what each rule but a notice makes of it.
use Rattle.std.proofs.Common.{ℕ, Bool, true, false, ◌==◌, ◌≡◌, Some, refl, sym, ap, ◌∙◌, subst}
use Rattle.std.specs.Prelude.{not, ◌||◌, if◌then◌else◌}
use Rattle.std.proofs.lemmas.Bool.{eq-eqb}
use Rattle.registry_model.specs.Process.{Nodes}
use Rattle.registry_model.specs.Table.{Table}
use Rattle.registry_model.specs.Registry.{Replica}
use Rattle.protocol_model.specs.Round.{Mark, Out, Later, Owes, Granted, Round, is_out, is_granted, greatest, begin, asked, asked_too, owes, answer, mark_down, down, granted}
use Rattle.protocol_model.specs.Letter.{Letter}
use Rattle.protocol_model.specs.Node.{Node, Current, LockPhase, call_of, targets}
use Rattle.protocol_model.specs.Client.{is_spent, in_phase}
use Rattle.protocol_model.specs.World.{Opening, World, left, opening_world}
use Rattle.registry_model.proofs.Updates.{by_test}
use Rattle.moves.proofs.Rules
use Rattle.moves.proofs.Rules.{Rule}
use Rattle.moves.proofs.Invariants
use Rattle.moves.proofs.Invariants.{Each}
use Rattle.walk.proofs.Joins.{joining_lone}
use Rattle.walk.proofs.Welcomes.{lone_alone}
use Rattle.walk.proofs.Orders.{effect-node}
use Rattle.leftovers.proofs.Grounds.{Base, replicas}
use Rattle.leftovers.proofs.Parts.{replica_by, parts}
use Rattle.leftovers.proofs.Departures.{admitted-told}
use Rattle.leftovers.proofs.Rounds.{Answered, Own, Stays, Opened, mark_answered}
use Rattle.leftovers.proofs.Phases.{Puts, Drops, StepOk, AllPhases, step_of, phases_stepped, calls_turn, put_home}
use Rattle.leftovers.proofs.Near.{Near, NearIn, is_near}

-- none of those who were told to have left counts as granted
abbrev pub ClearIn : Nodes → LockPhase → Type 0
ClearIn told (LockPhase.Asking r) = (x : ℕ) → told x ≡ true → granted r x ≡ false
ClearIn told LockPhase.Waiting = Unit {0}
ClearIn told (LockPhase.Deleting owing) = Unit {0}

abbrev pub ClearAt : Node → Type 0
ClearAt v = AllPhases (ClearIn v.replica.told) v.calls

abbrev pub Clear : World → Type 0
Clear w = (a : ℕ) → ClearAt (w.node a)

-- a round that begins has no grant
pub granted_begin : (n : ℕ) (s : Nodes) (x : ℕ) → granted (begin n s) x ≡ false
granted_begin n s x = go (s x) (x == greatest n s)
  where
    go : (b e : Bool) → is_granted (if b then (if e then Owes else Later) else Out) ≡ false
    go true true = refl
    go true false = refl
    go false e = refl

-- an answer of another gives none
pub granted_answer : (f : ℕ) (g : Bool) (r : Round) → owes r f ≡ true → (x : ℕ) → (x ≡ f → ⊥)
    → granted r x ≡ false → granted (answer f g r) x ≡ false
granted_answer f g r owe x ne h = go ((answer f g r).mark x) (mark_answered f g r owe x)
  where
    too : (m : Mark) → is_granted m ≡ false → is_granted (asked_too m) ≡ false
    too Later e = refl
    too _ e = e

    go : (m : Mark) → Answered f g x (r.mark x) m → is_granted m ≡ false
    go m (Own e) = absurd (ne e)
    go m Stays = h
    go m Opened = too (r.mark x) h

-- who is down has no grant
not_down : (m : Mark) → is_granted (mark_down m) ≡ false
not_down Out = refl
not_down _ = refl

-- nor does a departure
pub granted_down : (d : ℕ) (r : Round) (x : ℕ) → granted r x ≡ false → granted (down d r) x ≡ false
granted_down d r x h = by_test d
    (λ y t. is_granted (r.mark y) ≡ false → is_granted (if t then mark_down (r.mark d) else r.mark y) ≡ false)
    (λ k. not_down (r.mark d)) (λ y ne k. k) x h

-- who has gone down has none
pub granted_gone : (d : ℕ) (r : Round) → granted (down d r) d ≡ false
granted_gone d r = rw (eq-eqb d d refl) (not_down (r.mark d))

-- who granted was asked
pub granted_asked : (r : Round) (x : ℕ) → granted r x ≡ true → asked r x ≡ true
granted_asked r x h = go (r.mark x) h
  where
    go : (m : Mark) → is_granted m ≡ true → not (is_out m) ≡ true
    go Granted e = refl
    go Out e = cc
    go _ e = refl

-- reads `Down`
abbrev pub is_notice : Rule → Bool
is_notice (Rules.IsTold f) = true
is_notice _ = false

module _ (o : Opening) (a : ℕ) (w : World) (B : Base o w) where
  -- a call that is put has no grant of those
  put_clear : (r : Rule) → Rules.May o a w r → ClearAt (w.node a)
      → StepOk (λ c. ClearIn (w.node a).replica.told c.phase) (step_of o.bound (w.node a) r)
  put_clear (Rules.AsksLock c) m C = λ x h. granted_begin o.bound (targets (w.node a).replica.members c.target) x
  put_clear (Rules.HearsLock f id g c r) m C = λ x h. granted_answer f g r m.tested.3 x
      (λ e. cc (ap (w.node a).replica.told e, h, m.tested.0))
      (subst (ClearIn (w.node a).replica.told) m.tested.2.phase (C c.holder c m.tested.2.call) x h)
  put_clear (Rules.MarksLockDown d c r) m C = λ x h. granted_down d r x
      (subst (ClearIn (w.node a).replica.told) m.tested.1.phase (C c.holder c m.tested.1.call) x h)
  put_clear (Rules.GivesUpLock c r given) m C = go (is_spent c.retries)
    where
      go : (b : Bool) → StepOk (λ c. ClearIn (w.node a).replica.told c.phase)
          (if b then Drops c.holder else Puts (in_phase LockPhase.Waiting c))
      go true = tt
      go false = tt
  put_clear r m C = tt

  stepped_clear : (r : Rule) → Rules.May o a w r → ClearAt (w.node a)
      → AllPhases (ClearIn (w.node a).replica.told) (Rules.turn_by o a w r).node.calls
  stepped_clear r m C p c e = phases_stepped (ClearIn (w.node a).replica.told) a (w.node a).calls (B.ordered a)
      (step_of o.bound (w.node a) r) (put_home o a w (B.ordered a) r m.tested) (put_clear r m C) C p c
      (sym (ap (call_of p) (calls_turn o a w r)) ∙ e)

  -- a node that is welcomed asked itself alone, beside nodes that it was told of before, and isn't told that it left
  welcomed_clear : (f k : ℕ) (members : Nodes) (pairs : Table) (told : Nodes) (phase : LockPhase)
      → (w.node a).current ≡ Current.Joining k f → Invariants.IsUp o w a → ((d : ℕ) → told d ≡ true → left w d ≡ true)
      → NearIn (w.node a).replica phase → ClearIn (w.node a).replica.told phase
      → ClearIn (λ d. (w.node a).replica.told d || told d) phase
  welcomed_clear f k members pairs told LockPhase.Waiting waits up gone near C = tt
  welcomed_clear f k members pairs told (LockPhase.Deleting owing) waits up gone near C = tt
  welcomed_clear f k members pairs told (LockPhase.Asking r) waits up gone near C = λ x h. by x h (granted r x) refl
    where
      before : (x : ℕ) → is_near (w.node a).replica x ≡ true → ((w.node a).replica.told x || told x) ≡ true
          → (w.node a).replica.told x ≡ true
      before x near h = go ((w.node a).replica.told x) ((w.node a).replica.members x) (told x) refl refl near h
        where
          go : (b m t : Bool) → (w.node a).replica.members x ≡ m → told x ≡ t → (m || b) ≡ true → (b || t) ≡ true
              → b ≡ true
          go true m t j l n q = refl
          go false true true j l n q =
              let same : x ≡ a = lone_alone o w (replicas o w B) a x up (joining_lone w B.once a k f waits) j in
              cc (ap (left w) same, gone x l, up.1)
          go false true false j l n q = q
          go false false t j l n q = n

      by : (x : ℕ) → ((w.node a).replica.told x || told x) ≡ true → (b : Bool) → granted r x ≡ b → b ≡ false
      by x h true e = absurd (cc (C x (before x (near x (granted_asked r x e)) h), e))
      by x h false e = refl

  clear_turn : (r : Rule) → is_notice r ≡ false → Rules.May o a w r → Near w → ClearAt (w.node a)
      → ClearAt (Rules.turn_by o a w r).node
  clear_turn r quiet m N C p c e = subst (λ (u : Replica). ClearIn u.told c.phase) (sym (parts o a w r).replica)
      (go r quiet m e)
    where
      go : (r : Rule) → is_notice r ≡ false → Rules.May o a w r
          → call_of p (Rules.turn_by o a w r).node.calls ≡ Some c
          → ClearIn (replica_by a r (w.node a).replica).told c.phase
      go (Rules.IsTold f) q m e = cc
      go (Rules.IsAdmitted f j settled) q m e = subst (λ (s : Nodes). ClearIn s c.phase)
          (sym (admitted-told a j settled (w.node a).replica)) (stepped_clear (Rules.IsAdmitted f j settled) m C p c e)
      go (Rules.IsWelcomed f k members pairs told fate) q m e = welcomed_clear f k members pairs told c.phase
          m.tested.1 (m.inside, m.running) letter.2 (N a p c e)
          (stepped_clear (Rules.IsWelcomed f k members pairs told fate) m C p c e)
        where
          letter : Invariants.IsProper o w f a (Letter.Welcome members pairs told fate)
          letter = (subst (Each (Invariants.IsProper o w f a)) m.front.1.1
              (B.all.proper.letters f a m.running)).0
      go r q m e = stepped_clear r m C p c e

  pub clear_keeps : (r : Rule) → is_notice r ≡ false → Rules.May o a w r → Near w → Clear w
      → Clear (Rules.effect o a r w)
  clear_keeps r quiet m N C = subst (λ (f : ℕ → Node). (x : ℕ) → ClearAt (f x)) (sym (effect-node o a r w))
      (by_test a (λ x t. ClearAt (if t then (Rules.turn_by o a w r).node else w.node x))
      (clear_turn r quiet m N (C a)) (λ x ne. C x))

pub clear_opens : (o : Opening) → Clear (opening_world o)
clear_opens o a p c e = cc
