-- Lock calls ask members only, or nodes that were told to have left.
use Rattle.std.proofs.Common.{ℕ, Bool, true, false, ◌≡◌, refl, sym, ap, ◌∙◌, subst}
use Rattle.std.specs.Prelude.{◌||◌, if◌then◌else◌}
use Rattle.registry_model.specs.Process.{Nodes, at}
use Rattle.registry_model.specs.Registry.{Replica}
use Rattle.protocol_model.specs.Round.{asked}
use Rattle.protocol_model.specs.Reading.{admitted, welcomed}
use Rattle.protocol_model.specs.Node.{Node, LockPhase, Target, targets, call_of}
use Rattle.protocol_model.specs.Client.{is_spent, in_phase}
use Rattle.protocol_model.specs.World.{Opening, World, opening_world}
use Rattle.registry_model.proofs.Updates.{by_test}
use Rattle.headline.proofs.Indices.{both}
use Rattle.headline.proofs.Rules
use Rattle.headline.proofs.Rules.{Rule}
use Rattle.walk.proofs.Killing.{admitted-members}
use Rattle.walk.proofs.Orders.{effect-node}
use Rattle.leftovers.proofs.Grounds.{Base, wide}
use Rattle.leftovers.proofs.Parts.{replica_by, parts}
use Rattle.leftovers.proofs.Departures.{told_by_rule}
use Rattle.headline.proofs.Ongoing.{asked_answer, asked_down, asked_begin}
use Rattle.leftovers.proofs.Phases.{StepOk, Puts, Drops, AllPhases, step_of, phases_stepped, calls_turn, put_home}

-- is a member, or was told to have left
abbrev pub is_near : Replica → ℕ → Bool
is_near v x = v.members x || v.told x

abbrev pub AllNear : Replica → Nodes → Type 0
AllNear v s = (x : ℕ) → s x ≡ true → is_near v x ≡ true

abbrev pub NearIn : Replica → LockPhase → Type 0
NearIn v (LockPhase.Asking r) = AllNear v (asked r)
NearIn v LockPhase.Waiting = Unit {0}
NearIn v (LockPhase.Deleting owing) = AllNear v owing

abbrev pub NearAt : Node → Type 0
NearAt v = AllPhases (NearIn v.replica) v.calls

abbrev pub Near : World → Type 0
Near w = (a : ℕ) → NearAt (w.node a)

member_near : (v : Replica) (x : ℕ) → v.members x ≡ true → is_near v x ≡ true
member_near v x h = rw h refl

pub target_member : (members : Nodes) (t : Target) (x : ℕ) → targets members t x ≡ true → members x ≡ true
target_member members Target.All x h = h
target_member members (Target.Named names) x h = (both (members x) _ h).0

less_of : (s : Nodes) (d x : ℕ) → at s d false x ≡ true → s x ≡ true
less_of s d x h = by_test d (λ y t. (if t then false else s y) ≡ true → s y ≡ true) (λ k. cc) (λ y ne k. k) x h

near_along : (v u : Replica) → ((x : ℕ) → is_near v x ≡ true → is_near u x ≡ true) → (p : LockPhase) → NearIn v p
    → NearIn u p
near_along v u h (LockPhase.Asking r) n = λ x e. h x (n x e)
near_along v u h LockPhase.Waiting n = tt
near_along v u h (LockPhase.Deleting owing) n = λ x e. h x (n x e)

or_by : (b c d e : Bool) → (b || c) ≡ true → (b ≡ true → (d || e) ≡ true) → (c ≡ true → (d || e) ≡ true)
    → (d || e) ≡ true
or_by true c d e h f g = f refl
or_by false true d e h f g = g refl
or_by false false d e h f g = cc

told_near : (v : Replica) (x : ℕ) → v.told x ≡ true → is_near v x ≡ true
told_near v x h = go (v.members x) (v.told x) h
  where
    go : (b c : Bool) → c ≡ true → (b || c) ≡ true
    go true c k = refl
    go false c k = k

module _ (o : Opening) (a : ℕ) (w : World) (B : Base o w) where
  -- who is near stays near
  near_stays : (r : Rule) → Rules.May o a w r → (x : ℕ) → is_near (w.node a).replica x ≡ true
      → is_near (replica_by a r (w.node a).replica) x ≡ true
  near_stays (Rules.IsAdmitted f j settled) m x h = or_by ((w.node a).replica.members x) ((w.node a).replica.told x)
      ((admitted a j settled (w.node a).replica).members x) ((admitted a j settled (w.node a).replica).told x) h
      (λ e. member_near (admitted a j settled (w.node a).replica) x (admitted-members a j settled (w.node a).replica x e))
      (λ e. told_near (admitted a j settled (w.node a).replica) x
      (told_by_rule a (Rules.IsAdmitted f j settled) (w.node a).replica x e))
  near_stays (Rules.IsWelcomed f k members pairs told fate) m x h =
      or_by ((w.node a).replica.members x) ((w.node a).replica.told x)
      ((welcomed a members pairs told fate (w.node a).replica).members x)
      ((welcomed a members pairs told fate (w.node a).replica).told x) h
      (λ e. member_near (welcomed a members pairs told fate (w.node a).replica) x
      (wide o w B f a k members pairs told fate m.front.1.0 m.inside m.running m.tested.0 m.tested.1 m.front.1.1 x e))
      (λ e. told_near (welcomed a members pairs told fate (w.node a).replica) x
      (told_by_rule a (Rules.IsWelcomed f k members pairs told fate) (w.node a).replica x e))
  near_stays (Rules.IsTold f) m x h = by_test f
      (λ y t. ((w.node a).replica.members y || (w.node a).replica.told y) ≡ true
      → ((if t then false else (w.node a).replica.members y) || (if t then true else (w.node a).replica.told y)) ≡ true)
      (λ k. refl) (λ y ne k. k) x h
  near_stays _ m x h = h

  abbrev v : Replica
  v = (w.node a).replica

  -- a call that is put asks none but those
  put_near : (r : Rule) → Rules.May o a w r → NearAt (w.node a)
      → StepOk (λ c. NearIn v c.phase) (step_of o.bound (w.node a) r)
  put_near (Rules.AsksLock c) m N = λ x e. member_near v x (target_member v.members c.target x
      (sym (asked_begin o.bound (targets v.members c.target) x) ∙ e))
  put_near (Rules.HearsLock f id granted c r) m N = λ x e.
      subst (NearIn v) m.tested.2.phase (N c.holder c m.tested.2.call) x (sym (asked_answer f granted r m.tested.3 x) ∙ e)
  put_near (Rules.MarksLockDown d c r) m N = λ x e.
      subst (NearIn v) m.tested.1.phase (N c.holder c m.tested.1.call) x (sym (asked_down d r x) ∙ e)
  put_near (Rules.GivesUpLock c r granted) m N = go (is_spent c.retries)
    where
      go : (b : Bool) → StepOk (λ c. NearIn v c.phase)
          (if b then Drops c.holder else Puts (in_phase LockPhase.Waiting c))
      go true = tt
      go false = tt
  put_near (Rules.DeletesLock c) m N = λ x e. member_near v x (target_member v.members c.target x e)
  put_near (Rules.CountsGivenBack f c owing) m N = λ x e.
      subst (NearIn v) m.tested.1.phase (N c.holder c m.tested.1.call) x (less_of owing f x e)
  put_near (Rules.CountsLockDown d c owing) m N = λ x e.
      subst (NearIn v) m.tested.1.phase (N c.holder c m.tested.1.call) x (less_of owing d x e)
  put_near r m N = tt

  near_turn : (r : Rule) → Rules.May o a w r → NearAt (w.node a) → NearAt (Rules.turn_by o a w r).node
  near_turn r m N p c e = subst (λ (u : Replica). NearIn u c.phase) (sym (parts o a w r).replica)
      (near_along v (replica_by a r v) (near_stays r m) c.phase
      (phases_stepped (NearIn v) a (w.node a).calls (B.ordered a) (step_of o.bound (w.node a) r)
      (put_home o a w (B.ordered a) r m.tested) (put_near r m N) N p c
      (sym (ap (call_of p) (calls_turn o a w r)) ∙ e)))

  pub near_keeps : (r : Rule) → Rules.May o a w r → Near w → Near (Rules.effect o a r w)
  near_keeps r m N = subst (λ (f : ℕ → Node). (x : ℕ) → NearAt (f x)) (sym (effect-node o a r w))
      (by_test a (λ x t. NearAt (if t then (Rules.turn_by o a w r).node else w.node x)) (near_turn r m (N a))
      (λ x ne. N x))

pub near_opens : (o : Opening) → Near (opening_world o)
near_opens o a p c e = cc
