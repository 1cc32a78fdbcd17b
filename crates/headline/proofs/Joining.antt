-- A node has joined, or waits to join, exactly while it shows so or a join call of it isn't answered.
use Rattle.std.proofs.Common.{ℕ, Bool, true, false, ◌≡◌, Option, List, [], ◌∷◌, ◌++◌, refl, sym, ap, ◌∙◌, subst, inl, inr}
use Rattle.std.specs.Prelude.{◌⊎◌, ◌||◌, Contains, if◌then◌else◌, flat_map}
use Rattle.std.specs.List.{list_any}
use Rattle.std.proofs.lemmas.List.Elements.{Contains-append_cases, Contains-append_right}
use Rattle.std.proofs.Math.Bool.{or-true}
use Rattle.registry_model.specs.Call.{Reply}
use Rattle.registry_model.proofs.Lists.{Contains-cases, Contains-front, Contains-nil}
use Rattle.registry_model.proofs.Updates.{by_test}
use Rattle.protocol_model.specs.Letter.{Letter}
use Rattle.protocol_model.specs.LockTable.{is_free_for}
use Rattle.protocol_model.specs.Node.{Node, Op, Current}
use Rattle.protocol_model.specs.Event.{is_join, is_joining, has_joined}
use Rattle.protocol_model.specs.Fit.{NameAs, JoinAs}
use Rattle.protocol_model.specs.World.{Opening, World, WorldEvent, place, opening_world, join_number}
use Rattle.protocol_model.specs.Course.{Played, seen}
use Rattle.protocol_model.specs.Refusals.{WaitsToJoin}
use Rattle.moves.proofs.Rules
use Rattle.moves.proofs.Rules.{Rule, Walked}
use Rattle.moves.proofs.Invariants.{Replicas}
use Rattle.walk.proofs.Orders.{effect-node}
use Rattle.walk.proofs.Runs.{rules_of}
use Rattle.fitting.proofs.Accounts.{undecided, numbered_op, replies_to}
use Rattle.fitting.proofs.Chains
use Rattle.fitting.proofs.Theorem
use Rattle.fitting.proofs.Unanswered.{Waits, open_waits, joining_waits, waits_open}
use Rattle.client_locks.proofs.Growing.{same_judge, same_take_back, same_ask_rest, same_refuse}
use Rattle.headline.specs.Clauses.{world}
use Rattle.headline.proofs.Together.{Whole, whole_opens, event_walks}
use Rattle.headline.proofs.Story.{ground}

-- the registrar has a round for a join
abbrev pub asks_join : Current → Bool
asks_join (Current.Asking op r) = is_join op
asks_join (Current.Waiting op) = is_join op
asks_join _ = false

-- no registrar has
abbrev pub NoneAsks : World → Type 0
NoneAsks w = (a : ℕ) → asks_join (w.node a).current ≡ false

module _ (o : Opening) (a : ℕ) where
  -- so it is behind each rule
  none_made : (w : World) (r : Rule) → Rules.May o a w r → asks_join (w.node a).current ≡ false
      → asks_join (Rules.turn_by o a w r).node.current ≡ false
  none_made w (Rules.Begins op ops) m h = m.tested.2
  none_made w (Rules.BeginsStrike s) m h = refl
  none_made w (Rules.Retries op) m h = sym (ap asks_join m.tested) ∙ h
  none_made w (Rules.AsksJoin k j ops) m h = refl
  none_made w (Rules.HearsAnswer f id g op r) m h = sym (ap asks_join m.tested.1) ∙ h
  none_made w (Rules.MarksDown d op r) m h = sym (ap asks_join m.tested.1) ∙ h
  none_made w (Rules.GivesUp op r s) m h = sym (ap asks_join m.tested.0) ∙ h
  none_made w (Rules.Grants k call r) m h = refl
  none_made w (Rules.Denies k call r) m h = refl
  none_made w (Rules.Strikes p r) m h = refl
  none_made w (Rules.Admits j pairs r) m h = refl
  none_made w (Rules.Passes j pairs r) m h = refl
  none_made w (Rules.CountsApplied f op asked awaited reply) m h = refl
  none_made w (Rules.CountsDown d op asked awaited reply) m h = refl
  none_made w (Rules.Finishes op asked awaited reply) m h = refl
  none_made w (Rules.EndsJoin f k) m h = refl
  none_made w (Rules.IsWelcomed f k members pairs told fate) m h = refl
  none_made w (Rules.LosesContact k j) m h = refl
  none_made w (Rules.Judges f id p) m h = ap asks_join
      (same_judge o.bound a f (join_number w) id p (is_free_for id p (w.node a).locks) (w.node a)).current ∙ h
  none_made w (Rules.TakesBack f id p ack) m h = ap asks_join
      (same_take_back o.bound a f (join_number w) id p ack (w.node a)).current ∙ h
  none_made w (Rules.HearsLock f id g c r) m h = ap asks_join
      (same_ask_rest o.bound a f g (Letter.SetLock c.id c.holder) r (w.node a)).current ∙ h
  none_made w (Rules.GivesUpLock c r granted) m h = ap asks_join (same_refuse o.bound a c granted (w.node a)).current
      ∙ h
  none_made w _ m h = h

  -- and behind a chain of them
  none_chain : (rs : List Rule) (w : World) → Rules.MayAll o a rs w → NoneAsks w → NoneAsks (Rules.effects o a rs w)
  none_chain [] w m N = N
  none_chain (r ∷ rs) w m N = none_chain rs (Rules.effect o a r w) m.1
      (λ b. ap (λ (f : ℕ → Node). asks_join (f b).current) (effect-node o a r w)
      ∙ by_test a (λ b t. asks_join (if t then (Rules.turn_by o a w r).node else w.node b).current ≡ false)
      (none_made w r m.0 (N a)) (λ b ne. N b) b)

-- so it is behind every list of events
pub none_asks : (o : Opening) (es : List WorldEvent) → NoneAsks (world o es)
none_asks o es = Chains.course_keeps o (Whole o) (ground o) (λ w ps. NoneAsks w)
    (λ w e ps W is N. let H : Walked o w e = event_walks o w e W is in
    subst NoneAsks H.world (none_chain o (place e) (rules_of o w e H) w H.may N))
    es (opening_world o) [] (whole_opens o) (λ a. refl)

-- a join that is ahead waits, in the queue or for its contact
joins_ahead : (f : ℕ → Option Reply) (c : Current) (ops : List Op) (k m : ℕ)
    → Contains (undecided f c ++ flat_map numbered_op ops) (JoinAs k m) → asks_join c ≡ false
    → (is_joining c || list_any is_join ops) ≡ true
joins_ahead f c ops k m h none = elim (Contains-append_cases (undecided f c) (flat_map numbered_op ops) (JoinAs k m) h) [
  | inl i ↦ at c none i
  | inr i ↦ ap (λ (b : Bool). is_joining c || b) (in_queue ops i) ∙ or-true (is_joining c)
]
  where
    one : (op : Op) → Contains (numbered_op op) (JoinAs k m) → is_join op ≡ true
    one (Op.Join j l) i = refl
    one (Op.Name j call) i = elim (Contains-cases (NameAs j call) [] (JoinAs k m) i) [
      | inl e ↦ cc
      | inr none ↦ absurd (Contains-nil (JoinAs k m) none)
    ]
    one (Op.Strike p) i = absurd (Contains-nil (JoinAs k m) i)
    one (Op.Admission j pairs) i = absurd (Contains-nil (JoinAs k m) i)

    at : (c : Current) → asks_join c ≡ false → Contains (undecided f c) (JoinAs k m)
        → (is_joining c || list_any is_join ops) ≡ true
    at (Current.Asking op r) n i = cc (n, one op i)
    at (Current.Waiting op) n i = cc (n, one op i)
    at (Current.Joining j l) n i = refl
    at Current.Free n i = absurd (Contains-nil (JoinAs k m) i)
    at (Current.Writing op asked awaited reply) n i = absurd (Contains-nil (JoinAs k m) i)

    in_queue : (ops : List Op) → Contains (flat_map numbered_op ops) (JoinAs k m) → list_any is_join ops ≡ true
    in_queue [] i = absurd (Contains-nil (JoinAs k m) i)
    in_queue (op ∷ ops) i = elim (Contains-append_cases (numbered_op op) (flat_map numbered_op ops) (JoinAs k m) i) [
      | inl j ↦ ap (λ (b : Bool). b || list_any is_join ops) (one op j)
      | inr j ↦ ap (λ (b : Bool). is_join op || b) (in_queue ops j) ∙ or-true (is_join op)
    ]

-- and a join in the queue is ahead
ahead_joins : (ops : List Op) → list_any is_join ops ≡ true
    → (k : ℕ) × (m : ℕ) × Contains (flat_map numbered_op ops) (JoinAs k m)
ahead_joins [] e = cc
ahead_joins (Op.Join k m ∷ ops) e = (k, m, Contains-front (JoinAs k m) (flat_map numbered_op ops))
ahead_joins (op ∷ ops) e = let (k, m, i) : (k : ℕ) × (m : ℕ) × Contains (flat_map numbered_op ops) (JoinAs k m) =
    ahead_joins ops e in
    (k, m, Contains-append_right (numbered_op op) (flat_map numbered_op ops) (JoinAs k m) i)

module _ (o : Opening) (w : World) (ps : List Played) (X : Theorem.Kept o w ps) (R : Replicas o w) (a : ℕ) where
  -- what a node that has joined, or waits to, shows or waits for
  pub joined_or_waits : has_joined (w.node a) ≡ true → ((seen o w).node a).joined ≡ true ⊎ WaitsToJoin ps a
  joined_or_waits e = go (w.node a).replica.joined refl (w.node a).current refl e
    where
      waiting : (k : ℕ) × (m : ℕ) × Waits o w ps X.book X.spares R a k m → WaitsToJoin ps a
      waiting (k, m, W) = record { number = k; contact = m; accepted = W.0; unanswered = W.1 }

      queued : list_any is_join (w.node a).queue ≡ true → WaitsToJoin ps a
      queued h =
          let (k, m, i) : (k : ℕ) × (m : ℕ) × Contains (flat_map numbered_op (w.node a).queue) (JoinAs k m) =
          ahead_joins (w.node a).queue h in
          waiting (
            k,
            m,
            open_waits o w ps X.book X.spares R a k m
                (Contains-append_right (undecided (replies_to X.book.accounts.gate a) (w.node a).current)
                (flat_map numbered_op (w.node a).queue) (JoinAs k m) i),
          )

      go : (b : Bool) → (w.node a).replica.joined ≡ b → (c : Current) → (w.node a).current ≡ c
          → (b || is_joining c || list_any is_join (w.node a).queue) ≡ true
          → ((w.node a).replica.joined ≡ true) ⊎ WaitsToJoin ps a
      go true i c j h = inl i
      go false i (Current.Joining k m) j h = inr (waiting (joining_waits o w ps X.book X.spares R a k m j))
      go false i Current.Free j h = inr (queued h)
      go false i (Current.Asking op r) j h = inr (queued h)
      go false i (Current.Waiting op) j h = inr (queued h)
      go false i (Current.Writing op asked awaited reply) j h = inr (queued h)

  -- and who shows or waits for that has joined, or waits to
  pub has_joined_or_waits : NoneAsks w → ((seen o w).node a).joined ≡ true ⊎ WaitsToJoin ps a
      → has_joined (w.node a) ≡ true
  has_joined_or_waits none (inl shown) =
      ap (λ (b : Bool). b || is_joining (w.node a).current || list_any is_join (w.node a).queue) shown
  has_joined_or_waits none (inr W) =
      last (w.node a).replica.joined (is_joining (w.node a).current) (list_any is_join (w.node a).queue)
      (elim (waits_open o w ps X.book X.spares R a W.number W.contact (W.accepted, W.unanswered)) [
        | inl i ↦ joins_ahead (replies_to X.book.accounts.gate a) (w.node a).current (w.node a).queue W.number
            W.contact i (none a)
        | inr i ↦ ap (λ (b : Bool). b || list_any is_join (w.node a).queue) i
      ])
    where
      last : (b c d : Bool) → (c || d) ≡ true → (b || c || d) ≡ true
      last true c d h = refl
      last false c d h = h
