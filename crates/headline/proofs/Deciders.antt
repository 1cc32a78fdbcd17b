-- Who decides an operation has the global lock: every running node of its group has given it to that node, and to no
-- other, as long as the step goes on.
use Rattle.std.proofs.Common.{ℕ, Bool, true, false, ◌≡◌, Option, Some, None, List, [], ◌∷◌, ◌++◌, refl, sym, ap, ◌∙◌, subst}
use Rattle.std.specs.Prelude.{fold, if◌then◌else◌}
use Rattle.std.specs.List.{list_all}
use Rattle.std.proofs.lemmas.Bool.{and_parts}
use Rattle.std.proofs.lemmas.List.{append-nil, append_assoc}
use Rattle.std.proofs.lemmas.List.Sums.{fold-append}
use Rattle.registry_model.specs.Process.{at}
use Rattle.registry_model.specs.Call.{Reply}
use Rattle.registry_model.specs.History.{Entry, Standing, after, standing_of}
use Rattle.registry_model.specs.HistoryLaws.{decided_by}
use Rattle.protocol_model.specs.Round.{Round, opens}
use Rattle.protocol_model.specs.LockTable.{Locks}
use Rattle.protocol_model.specs.Client.{is_spent}
use Rattle.protocol_model.specs.Node.{Node, Op}
use Rattle.protocol_model.specs.Turn.{Turn, begun, enter}
use Rattle.protocol_model.specs.Registrar.{answer_op}
use Rattle.protocol_model.specs.World.{Opening, in_cluster, World, WorldEvent, place, join_number, opening_world, refusal, turn_of, accepted, run}
use Rattle.protocol_model.specs.Course.{Played, Seen, played, entries_of, course, global_given, seen}
use Rattle.protocol_model.specs.Headline.{standing, HasTheLock, DecidedUnderLock}
use Rattle.registry_model.proofs.Updates.{by_test}
use Rattle.moves.proofs.Rules
use Rattle.moves.proofs.Rules.{Rule, Walked, IsHeld}
use Rattle.moves.proofs.Invariants.{IsUp, standing_at}
use Rattle.walk.proofs.ChainKinds.{leaves_locks}
use Rattle.walk.proofs.Chains.{LeaveLocks}
use Rattle.walk.proofs.Walk.{OrderedWalk, walked_in_order}
use Rattle.lock_sessions.proofs.Given.{held_given}
use Rattle.replicas.proofs.Deciding
use Rattle.replicas.proofs.Steps.{standing_of-effect}
use Rattle.fitting.proofs.Made.{entered, entries_made}
use Rattle.headline.proofs.Together.{Whole, alone, replicas, heard_joins, widens, rule_whole, course_keeps}
use Rattle.headline.proofs.Making.{strikes_own}
use Rattle.headline.proofs.Courses.{history_push, last_step, no_last_step}

-- a test between two turns with the same lock table
locks-if : (b : Bool) (u v : Turn) (t : Locks) → u.node.locks ≡ t → v.node.locks ≡ t
    → (if b then u else v).node.locks ≡ t
locks-if true u v t x y = x
locks-if false u v t x y = y

-- an answer to a name call leaves it
locks-answer_op : (n a : ℕ) (op : Op) (reply : Option Reply) (u : Turn)
    → (answer_op n a op reply u).node.locks ≡ u.node.locks
locks-answer_op n a (Op.Name k call) (Some reply) u = refl
locks-answer_op n a (Op.Name k call) None u = refl
locks-answer_op n a _ reply u = refl

-- a rule that leaves the lock table leaves it
locks_left : (o : Opening) (a : ℕ) (number : ℕ → ℕ) (r : Rule) (v : Node) → leaves_locks r ≡ true
    → (Rules.made o a number r (begun v)).node.locks ≡ v.locks
locks_left o a number (Rules.Judges f id p) v e = cc
locks_left o a number (Rules.TakesBack f id p ack) v e = cc
locks_left o a number (Rules.Releases f p) v e = cc
locks_left o a number (Rules.IsTold f) v e = cc
locks_left o a number (Rules.HearsAnswer f id granted op r) v e = locks-if (opens f granted r) _ _ v.locks refl refl
locks_left o a number (Rules.HearsLock f id granted c r) v e = locks-if (opens f granted r) _ _ v.locks refl refl
locks_left o a number (Rules.GivesUpLock c r granted) v e = locks-if (is_spent c.retries) _ _ v.locks refl refl
locks_left o a number (Rules.Finishes op asked awaited reply) v e = locks-answer_op o.bound a op reply
    (enter (Entry.Done a) (begun v))
locks_left o a number _ v e = refl

-- a rule changes its own node alone
node_by : (o : Opening) (a : ℕ) (w : World) (r : Rule)
    → (Rules.effect o a r w).node ≡ at w.node a (Rules.turn_by o a w r).node
node_by o a w Rules.Leaves = refl
node_by o a w _ = refl

module _ (o : Opening) where
  -- each of these entries, the first of which comes behind s, is decided by a node that has the global lock
  abbrev pub AreUnderLock : Seen → Standing → List Entry → Type 0
  AreUnderLock now s [] = Unit {0}
  AreUnderLock now s (e ∷ es) =
      ((a : ℕ) → decided_by e ≡ Some a → HasTheLock o s a now) × AreUnderLock now (after s e) es

  -- further entries
  under-append : (now : Seen) (es fs : List Entry) (s : Standing) → AreUnderLock now s es
      → AreUnderLock now (fold after s es) fs → AreUnderLock now s (es ++ fs)
  under-append now [] fs s u v = v
  under-append now (e ∷ es) fs s u v = (u.0, under-append now es fs (after s e) u.1 v)

  -- where no lock table has changed since
  under_same : (now later : Seen) → ((c b : ℕ) → later.given c b ≡ now.given c b) → (es : List Entry) (s : Standing)
      → AreUnderLock now s es → AreUnderLock later s es
  under_same now later same [] s u = tt
  under_same now later same (e ∷ es) s u =
      (λ a d c b g run. same c b ∙ u.0 a d c b g run, under_same now later same es (after s e) u.1)

  -- one of them
  under_one : (now : Seen) (earlier later : List Entry) (e : Entry) (s : Standing) (a : ℕ)
      → AreUnderLock now s (earlier ++ e ∷ later) → decided_by e ≡ Some a → HasTheLock o (fold after s earlier) a now
  under_one now [] later e s a u d = u.0 a d
  under_one now (f ∷ earlier) later e s a u d = under_one now earlier later e (after s f) a u.1 d

  module _ (a : ℕ) where
    -- a node whose round is held has the global lock
    held_lock : (w : World) (op : Op) (r : Round) → Whole o w → IsUp o w a → IsHeld o.bound (w.node a) op r
        → HasTheLock o (standing_at o w) a (seen o w)
    held_lock w op r W up held c b group run =
        held_given o w W.kept.proper W.kept.locks a c op r up c_up held
        (Deciding.is_member o w W.kept.proper (alone o w W.kept) (heard_joins o w W.kept) W.kept.known a up op r held
        c c_up.1 group) b
      where
        c_up : IsUp o w c
        c_up = (run.0, sym ((replicas o w W.kept).departed c) ∙ run.1)

    -- an entry that node a decides
    decides : (s : Standing) (now : Seen) (b : ℕ) → Some a ≡ Some b → HasTheLock o s a now → HasTheLock o s b now
    decides s now b e h = subst (λ (x : ℕ). HasTheLock o s x now) (one e) h
      where
        one : Some a ≡ Some b → a ≡ b
        one e = cc

    -- what a rule enters is decided by a node that has the global lock before it
    entered_under : (w : World) (r : Rule) → Whole o w → Rules.May o a w r
        → AreUnderLock (seen o w) (standing_at o w) (entered a (join_number w) r (w.node a))
    entered_under w (Rules.LooksUp look) W m = (λ b d. cc, tt)
    entered_under w (Rules.Exits p) W m = (λ b d. cc, tt)
    entered_under w (Rules.SkipsJoin k c ops) W m = (λ b d. cc, tt)
    entered_under w (Rules.Grants k call r) W m = (
      λ b d. decides (standing_at o w) (seen o w) b d
          (held_lock w (Op.Name k call) r W (m.inside, m.running) m.tested.0),
      tt,
    )
    entered_under w (Rules.Denies k call r) W m = (
      λ b d. decides (standing_at o w) (seen o w) b d
          (held_lock w (Op.Name k call) r W (m.inside, m.running) m.tested.0),
      tt,
    )
    entered_under w (Rules.Strikes p r) W m = (
      λ b d. decides (standing_at o w) (seen o w) b (ap Some (sym (strikes_own o a w p r W m)) ∙ d)
          (held_lock w (Op.Strike p) r W (m.inside, m.running) m.tested),
      tt,
    )
    entered_under w (Rules.Admits j pairs r) W m = (
      λ b d. decides (standing_at o w) (seen o w) b d
          (held_lock w (Op.Admission j pairs) r W (m.inside, m.running) m.tested.0),
      tt,
    )
    entered_under w (Rules.Finishes op asked awaited reply) W m = (λ b d. cc, tt)
    entered_under w (Rules.RefusesJoin f pairs) W m = (λ b d. cc, tt)
    entered_under w (Rules.IsTold f) W m = (λ b d. cc, tt)
    entered_under w (Rules.LosesContact k c) W m = (λ b d. cc, tt)
    entered_under w Rules.Leaves W m = (λ b d. cc, tt)
    entered_under w _ W m = tt

    -- a rule that leaves the lock table of its node leaves all lock tables
    given_left : (w : World) (r : Rule) → leaves_locks r ≡ true → (c b : ℕ)
        → (seen o (Rules.effect o a r w)).given c b ≡ (seen o w).given c b
    given_left w r e c b = ap (λ (t : Locks). global_given t b) (tables c)
      where
        tables : (c : ℕ) → ((Rules.effect o a r w).node c).locks ≡ (w.node c).locks
        tables c = ap (λ (f : ℕ → Node). (f c).locks) (node_by o a w r)
            ∙ by_test a (λ c b. (if b then (Rules.turn_by o a w r).node else w.node c).locks ≡ (w.node c).locks)
            (locks_left o a (join_number w) r (w.node a) e) (λ c ne. refl) c

    -- what a rule enters is so behind it
    rule_under : (w : World) (r : Rule) → Whole o w → Rules.May o a w r
        → AreUnderLock (seen o (Rules.effect o a r w)) (standing_at o w) (Rules.turn_by o a w r).entries
    rule_under w r W m =
        subst (AreUnderLock (seen o (Rules.effect o a r w)) (standing_at o w))
        (sym (entries_made o a (join_number w) r (w.node a)))
        (go r m)
      where
        left_so : (r : Rule) → Rules.May o a w r → leaves_locks r ≡ true
            → AreUnderLock (seen o (Rules.effect o a r w)) (standing_at o w) (entered a (join_number w) r (w.node a))
        left_so r m e = under_same (seen o w) (seen o (Rules.effect o a r w)) (given_left w r e)
            (entered a (join_number w) r (w.node a)) (standing_at o w) (entered_under w r W m)

        go : (r : Rule) → Rules.May o a w r
            → AreUnderLock (seen o (Rules.effect o a r w)) (standing_at o w) (entered a (join_number w) r (w.node a))
        go (Rules.Judges f id p) m = tt
        go (Rules.TakesBack f id p ack) m = tt
        go (Rules.Releases f p) m = tt
        go (Rules.IsTold f) m = (λ b d. cc, tt)
        go r m = left_so r m refl

    -- a chain behind it, which leaves the lock table
    chain_under : (rs : List Rule) (w : World) (s : Standing) (es : List Entry) → Whole o w → Rules.MayAll o a rs w
        → list_all leaves_locks rs ≡ true → AreUnderLock (seen o w) s es → standing_at o w ≡ fold after s es
        → AreUnderLock (seen o (Rules.effects o a rs w)) s (es ++ Rules.entries_by o a rs w)
    chain_under [] w s es W m e u past = subst (AreUnderLock (seen o w) s) (sym (append-nil es)) u
    chain_under (r ∷ rs) w s es W m e u past =
        subst (AreUnderLock (seen o (Rules.effects o a (r ∷ rs) w)) s)
        (append_assoc es turn.entries (Rules.entries_by o a rs next))
        (chain_under rs next s (es ++ turn.entries) (rule_whole o a w r W m.0) m.1 parts.1
        (under-append (seen o next) es turn.entries s
        (under_same (seen o w) (seen o next) (given_left w r parts.0) es s u)
        (subst (λ (t : Standing). AreUnderLock (seen o next) t turn.entries) past (rule_under w r W m.0)))
        (standing_of-effect o a w r ∙ ap (λ (t : Standing). fold after t turn.entries) past
        ∙ sym (fold-append after s es turn.entries)))
      where
        turn : Turn
        turn = Rules.turn_by o a w r

        next : World
        next = Rules.effect o a r w

        parts : (leaves_locks r ≡ true) × (list_all leaves_locks rs ≡ true)
        parts = and_parts (leaves_locks r) (list_all leaves_locks rs) e

    -- a chain of which the first rule may change it
    rules_under : (rs : List Rule) (w : World) → Whole o w → Rules.MayAll o a rs w → LeaveLocks rs
        → AreUnderLock (seen o (Rules.effects o a rs w)) (standing_at o w) (Rules.entries_by o a rs w)
    rules_under [] w W m e = tt
    rules_under (r ∷ rs) w W m e =
        chain_under rs (Rules.effect o a r w) (standing_at o w) (Rules.turn_by o a w r).entries
        (rule_whole o a w r W m.0) m.1 e (rule_under w r W m.0) (standing_of-effect o a w r)

  -- what an accepted event enters is decided by a node that has the global lock behind it
  pub event_under : (w : World) (e : WorldEvent) → Whole o w → refusal o w e ≡ None
      → AreUnderLock (seen o (accepted o w e)) (standing_at o w) (turn_of o w e).entries
  event_under w e W r =
      subst (AreUnderLock (seen o (accepted o w e)) (standing_at o w)) h.walk.entries
      (subst (λ (v : World). AreUnderLock (seen o v) (standing_at o w) (Rules.entries_by o (place e) rules w))
      h.walk.world
      (rules_under (place e) rules w W h.walk.may h.locks))
    where
      h : OrderedWalk o w e
      h = walked_in_order o w e W.ordered (widens o w W.kept W.once) r

      rules : List Rule
      rules = Rules.first_by o (place e) w e ++ h.walk.rest

  -- the history is what the events added, and who decides in the last of them has the global lock behind it
  pub record Decided (ps : List Played) (w : World) : Type 0 where
    pub history : w.history ≡ entries_of ps
    pub under_lock : DecidedUnderLock o ps (seen o w)

  -- each accepted event
  decided_keeps : (ps : List Played) (w : World) (e : WorldEvent) → Decided ps w → Whole o w
      → Whole o (accepted o w e) → refusal o w e ≡ None → Walked o w e
      → Decided (ps ++ played o w e ∷ []) (accepted o w e)
  decided_keeps ps w e S W V r H = record {
    history = history_push o ps w e S.history;
    under_lock = λ before p earlier later x a i. last_step (λ before q. (earlier later : List Entry) (x : Entry) (a : ℕ)
        → q.entries ≡ earlier ++ x ∷ later → decided_by x ≡ Some a
        → HasTheLock o (fold after (standing o before) earlier) a (seen o (accepted o w e))) ps (played o w e) last
        before p i earlier later x a;
  }
    where
      last : (earlier later : List Entry) (x : Entry) (a : ℕ) → (turn_of o w e).entries ≡ earlier ++ x ∷ later
          → decided_by x ≡ Some a
          → HasTheLock o (fold after (standing o ps) earlier) a (seen o (accepted o w e))
      last earlier later x a split d = under_one (seen o (accepted o w e)) earlier later x (standing o ps) a
          (subst (AreUnderLock (seen o (accepted o w e)) (standing o ps)) split
          (subst (λ (s : Standing). AreUnderLock (seen o (accepted o w e)) s (turn_of o w e).entries)
          (ap (standing_of (in_cluster o)) S.history) (event_under w e W r))) d

  -- nothing was decided yet
  decided_opens : Decided [] (opening_world o)
  decided_opens = record { history = refl; under_lock = λ before p earlier later x a e. no_last_step before p e }

-- Who decides an operation in the last step has the global lock behind it
pub decided : (o : Opening) (es : List WorldEvent)
    → DecidedUnderLock o (course o (opening_world o) es) (seen o (run o (opening_world o) es))
decided o es = (course_keeps o (Decided o) (decided_keeps o) (decided_opens o) es).under_lock
