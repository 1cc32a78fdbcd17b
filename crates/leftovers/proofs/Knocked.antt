-- A node that waits for a running contact has a join under way with it.
use Rattle.std.proofs.Common.{ℕ, Bool, true, false, ◌==◌, ◌≡◌, refl, sym, ap, ◌∙◌, subst, inl, inr}
use Rattle.std.specs.Prelude.{not, ◌&&◌, if◌then◌else◌}
use Rattle.std.proofs.lemmas.Bool.{cases_eq, eq-eqb}
use Rattle.registry_model.specs.Process.{at}
use Rattle.protocol_model.specs.Round.{opens, rest, answer}
use Rattle.protocol_model.specs.Letter.{Letter, Global}
use Rattle.protocol_model.specs.LockTable.{is_free_for, grant}
use Rattle.protocol_model.specs.Node.{Node, Current, LockPhase}
use Rattle.protocol_model.specs.Turn.{begun, at_work, with_locks, keep_call, send_all, send}
use Rattle.protocol_model.specs.Registrar.{registrar}
use Rattle.protocol_model.specs.Client.{in_phase, close_call, give_lock, is_spent}
use Rattle.protocol_model.specs.World.{Opening, World, left, opening_world}
use Rattle.registry_model.proofs.Updates.{by_test, at_same, at_other}
use Rattle.headline.proofs.Indices.{at_pair}
use Rattle.headline.proofs.Rules
use Rattle.headline.proofs.Rules.{Rule}
use Rattle.headline.proofs.Invariants.{IsUp, replica}
use Rattle.walk.proofs.Orders.{effect-node}
use Rattle.headline.proofs.Tokens.{Gate, Away, Knock, Wait, Turned, Entering, is_away}
use Rattle.headline.proofs.Gates.{Gates, shut}
use Rattle.headline.proofs.Joins.{gate_by, gates_keep}
use Rattle.headline.proofs.Departs.{gate_dropped}
use Rattle.headline.proofs.Together
use Rattle.leftovers.proofs.Grounds.{Base, replicas}
use Rattle.headline.proofs.Base.{effect-turn}

-- its join is under way
abbrev pub AreOpen : Opening → World → (ℕ → ℕ → Gate) → Type 0
AreOpen o w gate = (j m k : ℕ) → IsUp o w j → IsUp o w m → (w.node j).current ≡ Current.Joining k m
    → is_away (gate j m) ≡ false

pub record Knocked (o : Opening) (w : World) : Type 0 where
  pub gate : ℕ → ℕ → Gate
  pub gates : Gates o w gate
  pub open_gates : AreOpen o w gate

abbrev is_ask : Rule → Bool
is_ask (Rules.AsksJoin k m ops) = true
is_ask _ = false

module _ (o : Opening) (a : ℕ) (w : World) where
  abbrev v : Node
  v = w.node a

  -- no other rule begins a wait
  joining_kept : (r : Rule) → is_ask r ≡ false → (k m : ℕ)
      → (Rules.turn_by o a w r).node.current ≡ Current.Joining k m → v.current ≡ Current.Joining k m
  joining_kept (Rules.AsksJoin n c ops) h k m = λ e. cc h
  joining_kept (Rules.Begins op ops) h k m = λ e. cc e
  joining_kept (Rules.BeginsStrike s) h k m = λ e. cc e
  joining_kept (Rules.Retries op) h k m = λ e. cc e
  joining_kept (Rules.HearsAnswer f id g op r) h k m = go (opens f g r)
    where
      go : (t : Bool) → (at_work (Current.Asking op (answer f g r))
          (if t then send_all o.bound (λ y. rest r y && not (v.replica.told y)) (Letter.SetLock (Global a) (registrar a))
          (begun v) else begun v)).node.current ≡ Current.Joining k m → v.current ≡ Current.Joining k m
      go true = λ e. cc e
      go false = λ e. cc e
  joining_kept (Rules.MarksDown d op r) h k m = λ e. cc e
  joining_kept (Rules.GivesUp op r granted) h k m = λ e. cc e
  joining_kept (Rules.Grants n c r) h k m = λ e. cc e
  joining_kept (Rules.Denies n c r) h k m = λ e. cc e
  joining_kept (Rules.Strikes p r) h k m = λ e. cc e
  joining_kept (Rules.Admits j pairs r) h k m = λ e. cc e
  joining_kept (Rules.Passes j pairs r) h k m = λ e. cc e
  joining_kept (Rules.CountsApplied f op s awaited reply) h k m = λ e. cc e
  joining_kept (Rules.CountsDown d op s awaited reply) h k m = λ e. cc e
  joining_kept (Rules.Finishes op s awaited reply) h k m = λ e. cc e
  joining_kept (Rules.EndsJoin f n) h k m = λ e. cc e
  joining_kept (Rules.IsWelcomed f n members pairs told fate) h k m = λ e. cc e
  joining_kept (Rules.LosesContact n c) h k m = λ e. cc e
  joining_kept (Rules.HearsLock f id g c r) h k m = go (opens f g r)
    where
      go : (t : Bool) → (keep_call (in_phase (LockPhase.Asking (answer f g r)) c)
          (if t then send_all o.bound (λ y. rest r y && not (v.replica.told y)) (Letter.SetLock c.id c.holder)
          (begun v) else begun v)).node.current ≡ Current.Joining k m → v.current ≡ Current.Joining k m
      go true = λ e. e
      go false = λ e. e
  joining_kept (Rules.GivesUpLock c r granted) h k m = go (is_spent c.retries)
    where
      go : (t : Bool) → (if t then close_call o.bound a c false (give_lock o.bound a c granted (begun v))
          else keep_call (in_phase LockPhase.Waiting c) (give_lock o.bound a c granted (begun v))).node.current
          ≡ Current.Joining k m → v.current ≡ Current.Joining k m
      go true = λ e. e
      go false = λ e. e
  joining_kept (Rules.Judges f id p) h k m = go (is_free_for id p v.locks)
    where
      go : (t : Bool) → (send f (Letter.LockAnswer id p t)
          (if t then with_locks (grant id p) (begun v) else begun v)).node.current ≡ Current.Joining k m
          → v.current ≡ Current.Joining k m
      go true = λ e. e
      go false = λ e. e
  joining_kept (Rules.TakesBack f id p true) h k m = λ e. e
  joining_kept (Rules.TakesBack f id p false) h k m = λ e. e
  joining_kept r h k m = λ e. e

  -- who waits behind a rule that isn't its beginning waited before
  joined_before : (r : Rule) → is_ask r ≡ false → (j k m : ℕ)
      → ((Rules.effect o a r w).node j).current ≡ Current.Joining k m → (w.node j).current ≡ Current.Joining k m
  joined_before r h j k m e = by_test a
      (λ x t. (if t then (Rules.turn_by o a w r).node else w.node x).current ≡ Current.Joining k m
      → (w.node x).current ≡ Current.Joining k m)
      (joining_kept r h k m) (λ x ne q. q) j
      (sym (ap (λ (f : ℕ → Node). (f j).current) (effect-node o a r w)) ∙ e)

  up_before : (r : Rule) (j : ℕ) → IsUp o (Rules.effect o a r w) j → IsUp o w j
  up_before Rules.Leaves j u = (u.0, go (j == a) refl u.1)
    where
      go : (t : Bool) → (j == a) ≡ t → (if t then true else left w j) ≡ false → left w j ≡ false
      go true e h = cc h
      go false e h = h
  up_before r j u = (u.0, ap (λ (x : World). left x j) (effect-turn o a w r refl) ∙ u.1)

  -- a gate that is set aside from those that are asked
  elsewhere : (gate : ℕ → ℕ → Gate) (x y : ℕ) (g : Gate) (j m : ℕ) → is_away (gate j m) ≡ false
      → (j ≡ x → m ≡ y → is_away g ≡ false) → is_away (at_pair gate x y g j m) ≡ false
  elsewhere gate x y g j m open_now here = by_test x
      (λ p s. (p ≡ x → m ≡ y → is_away g ≡ false) → is_away (gate p m) ≡ false
      → is_away (if s then (if m == y then g else gate p m) else gate p m) ≡ false)
      (λ h i. by_test y (λ q t. (q ≡ y → is_away g ≡ false) → is_away (gate x q) ≡ false
      → is_away (if t then g else gate x q) ≡ false) (λ h2 i2. h2 refl) (λ q ne h2 i2. i2) m (h refl) i)
      (λ p ne h i. i) j here open_now

  module _ (B : Base o w) (gate : ℕ → ℕ → Gate) (K : AreOpen o w gate) where
    told_up : (d : ℕ) → left w a ≡ false → v.replica.told d ≡ true → IsUp o w d → ⊥
    told_up d running h u = cc (B.all.proper.told_left a d running h, u.1)

    gates_open : (r : Rule) → Rules.May o a w r → AreOpen o (Rules.effect o a r w) (gate_by o a w r gate)
    gates_open (Rules.AsksJoin k m ops) M j c n uj uc e = elim (cases_eq j a) [
      | inl i ↦ here i
      | inr ne ↦ elsewhere gate a m (Knock (replica o w a).table) j c
          (K j c n (up_before (Rules.AsksJoin k m ops) j uj) (up_before (Rules.AsksJoin k m ops) c uc)
          (sym (ap (λ (x : Node). x.current) (at_other w.node a (Rules.turn_by o a w (Rules.AsksJoin k m ops)).node j ne))
          ∙ e)) (λ q z. absurd (ne q))
    ]
      where
        here : j ≡ a → is_away (at_pair gate a m (Knock (replica o w a).table) j c) ≡ false
        here i =
            let now : Current.Joining k m ≡ Current.Joining n c = sym (ap (λ (x : Node). x.current)
            (ap (λ (y : ℕ). at w.node a
            (Rules.turn_by o a w (Rules.AsksJoin k m ops)).node y) i
            ∙ at_same w.node a (Rules.turn_by o a w (Rules.AsksJoin k m ops)).node)) ∙ e in
            let same : m ≡ c = cc now in
            rw (eq-eqb j a i, eq-eqb c m (sym same)) refl
    gates_open (Rules.QueuesJoin f pairs) M j c n uj uc e = elsewhere gate f a (Wait pairs) j c
        (K j c n uj uc (joined_before (Rules.QueuesJoin f pairs) refl j n c e)) (λ q z. refl)
    gates_open (Rules.RefusesJoin f pairs) M j c n uj uc e = elsewhere gate f a Turned j c
        (K j c n uj uc (joined_before (Rules.RefusesJoin f pairs) refl j n c e)) (λ q z. refl)
    gates_open (Rules.Admits i pairs r) M j c n uj uc e = elsewhere gate i a Entering j c
        (K j c n uj uc (joined_before (Rules.Admits i pairs r) refl j n c e)) (λ q z. refl)
    gates_open (Rules.Passes i pairs r) M j c n uj uc e = elsewhere gate i a Away j c
        (K j c n uj uc (joined_before (Rules.Passes i pairs r) refl j n c e))
        (λ q z. absurd (told_up i M.running M.tested.1 (subst (IsUp o w) q uj)))
    gates_open (Rules.EndsJoin f k) M j c n uj uc e = elsewhere gate a f Away j c
        (K j c n uj uc (joined_before (Rules.EndsJoin f k) refl j n c e)) (λ q z. absurd (free q))
      where
        free : j ≡ a → ⊥
        free q = cc (sym (ap (λ (x : Node). x.current) (ap (λ (y : ℕ). at w.node a
            (Rules.turn_by o a w (Rules.EndsJoin f k)).node y) q
            ∙ at_same w.node a (Rules.turn_by o a w (Rules.EndsJoin f k)).node)) ∙ e)
    gates_open (Rules.IsWelcomed f k members pairs told fate) M j c n uj uc e = elsewhere gate a f Away j c
        (K j c n uj uc (joined_before (Rules.IsWelcomed f k members pairs told fate) refl j n c e))
        (λ q z. absurd (free q))
      where
        free : j ≡ a → ⊥
        free q = cc (sym (ap (λ (x : Node). x.current) (ap (λ (y : ℕ). at w.node a
            (Rules.turn_by o a w (Rules.IsWelcomed f k members pairs told fate)).node y) q
            ∙ at_same w.node a (Rules.turn_by o a w (Rules.IsWelcomed f k members pairs told fate)).node)) ∙ e)
    gates_open (Rules.LosesContact k m) M j c n uj uc e = elsewhere gate a m Away j c
        (K j c n uj uc (joined_before (Rules.LosesContact k m) refl j n c e))
        (λ q z. absurd (told_up m M.running M.tested.0 (subst (IsUp o w) z uc)))
    gates_open (Rules.Drops f l) M j c n uj uc e = dropped l
        (K j c n uj uc (joined_before (Rules.Drops f l) refl j n c e))
      where
        dropped : (x : Letter) → is_away (gate j c) ≡ false → is_away (gate_dropped a f x gate j c) ≡ false
        dropped (Letter.JoinAsk p) h = elsewhere gate f a Away j c h
            (λ q z. absurd (told_up f M.running M.tested.0 (subst (IsUp o w) q uj)))
        dropped _ h = h
    gates_open r M j c n uj uc e = K j c n (up_before r j uj) (up_before r c uc) (joined_before r refl j n c e)

pub knocked_keeps : (o : Opening) (a : ℕ) (w : World) (r : Rule) → Base o w → Base o (Rules.effect o a r w)
    → Rules.May o a w r → Knocked o w → Knocked o (Rules.effect o a r w)
knocked_keeps o a w r B B2 m K = record {
  gate = gate_by o a w r K.gate;
  gates = gates_keep o a w r K.gate B.all.proper (replicas o w B) (replicas o (Rules.effect o a r w) B2)
      (Together.owners o w B.all) (B.all.joins.once a) m K.gates;
  open_gates = gates_open o a w B K.gate K.open_gates r m;
}

pub knocked_opens : (o : Opening) → Knocked o (opening_world o)
knocked_opens o = record {
  gate = λ j m. Away;
  gates = record {
    knock = λ j m h. refl;
    back = λ j m h. refl;
    queued = λ j m h. refl;
    facts = λ j m. shut o (opening_world o) j m;
  };
  open_gates = λ j m k uj um e. cc e;
}
