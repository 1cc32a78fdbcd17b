-- Which serials are given: no two spawns give one process.
use mathlib.Core.Logic.{◌⊎◌}
use Rattle.std.proofs.Common.{ℕ, Bool, true, false, ◌≡◌, ◌<◌, ◌≤◌, None, List, [], ◌∷◌, ◌++◌, refl, sym, ap, ◌∙◌, subst, arith, inl, inr}
use Rattle.std.specs.Prelude.{Contains}
use Rattle.std.specs.List.{list_all}
use Rattle.std.proofs.lemmas.Bool.{cases_eq, and_parts}
use Rattle.std.proofs.lemmas.List.Elements.{Contains-append_cases}
use Rattle.registry_model.specs.Process.{Process}
use Rattle.registry_model.specs.Call.{Reply, Pid}
use Rattle.registry_model.specs.History.{Entry}
use Rattle.registry_model.proofs.Lists.{Contains-cases, Contains-nil}
use Rattle.registry_model.proofs.Updates.{at_same, at_other}
use Rattle.protocol_model.specs.Letter.{Letter, Global}
use Rattle.protocol_model.specs.LockTable.{is_free_for}
use Rattle.protocol_model.specs.Watch.{Watch, next_serial}
use Rattle.protocol_model.specs.Node.{Node}
use Rattle.protocol_model.specs.Event.{Call, Event, Answer}
use Rattle.protocol_model.specs.Turn.{begun, enter}
use Rattle.protocol_model.specs.Registrar.{registrar}
use Rattle.protocol_model.specs.Answers.{answer_to, IsSpawnOf}
use Rattle.protocol_model.specs.World.{Opening, World, WorldEvent, At, Deliver, place, refusal, turn_of, accepted, opening_world, join_number}
use Rattle.protocol_model.specs.Course.{Played, played}
use Rattle.protocol_model.specs.Headline.{EachStep}
use Rattle.protocol_model.proofs.Serials.{next_serial-new}
use Rattle.protocol_model.proofs.Waiting.{accepted-node}
use Rattle.moves.proofs.Rules
use Rattle.moves.proofs.Rules.{Rule, is_quiet, Walked}
use Rattle.walk.proofs.Orders.{effect-node}
use Rattle.fitting.proofs.Chains
use Rattle.fitting.proofs.Rests.{spawned-answers, place_runs}
use Rattle.fitting.proofs.Replies.{answers_given}
use Rattle.fitting.proofs.Theorem
use Rattle.client_locks.proofs.Growing.{node_answer_op, same_judge, same_take_back, same_ask_rest, same_refuse}
use Rattle.headline.specs.Clauses.{events, world}
use Rattle.headline.specs.Laws.{SpawnsAnew}
use Rattle.headline.proofs.Together.{Whole, whole_opens, event_walks}
use Rattle.headline.proofs.Story.{ground}
use Rattle.headline.proofs.Joiners.{each_step_push}

-- the greatest serial that node b gave
abbrev pub serial_at : World → ℕ → ℕ
serial_at w b = (w.node b).watch.last_serial

-- the process that a `spawn` at node a gives
abbrev pub next_at : World → ℕ → Process
next_at w a = record { node = a; serial = next_serial (w.node a).watch }

-- a rule that gives no serial
abbrev gives_none : Rule → Bool
gives_none Rules.Spawns = false
gives_none _ = true

-- quiet rules give none
none_quiet : (r : Rule) → is_quiet r ≡ true → gives_none r ≡ true
none_quiet Rules.Spawns q = cc
none_quiet _ q = refl

module _ (o : Opening) (a : ℕ) where
  -- it leaves the greatest as it is
  serial_made : (w : World) (r : Rule) → gives_none r ≡ true
      → (Rules.turn_by o a w r).node.watch.last_serial ≡ serial_at w a
  serial_made w Rules.Spawns g = cc
  serial_made w (Rules.Judges f id p) g = ap (λ (x : Watch). x.last_serial)
      (same_judge o.bound a f (join_number w) id p (is_free_for id p (w.node a).locks) (w.node a)).watch
  serial_made w (Rules.TakesBack f id p ack) g = ap (λ (x : Watch). x.last_serial)
      (same_take_back o.bound a f (join_number w) id p ack (w.node a)).watch
  serial_made w (Rules.HearsAnswer f id granted op r) g = ap (λ (x : Watch). x.last_serial)
      (same_ask_rest o.bound a f granted (Letter.SetLock (Global a) (registrar a)) r (w.node a)).watch
  serial_made w (Rules.HearsLock f id granted c r) g = ap (λ (x : Watch). x.last_serial)
      (same_ask_rest o.bound a f granted (Letter.SetLock c.id c.holder) r (w.node a)).watch
  serial_made w (Rules.Finishes op asked awaited reply) g = ap (λ (v : Node). v.watch.last_serial)
      (node_answer_op o.bound a op reply (enter (Entry.Done a) (begun (w.node a))))
  serial_made w (Rules.GivesUpLock c r granted) g = ap (λ (x : Watch). x.last_serial)
      (same_refuse o.bound a c granted (w.node a)).watch
  serial_made w _ g = refl

  -- behind a rule the greatest is that of the node's turn
  serial_effect : (w : World) (r : Rule)
      → serial_at (Rules.effect o a r w) a ≡ (Rules.turn_by o a w r).node.watch.last_serial
  serial_effect w r = ap (λ (f : ℕ → Node). (f a).watch.last_serial) (effect-node o a r w)
      ∙ ap (λ (v : Node). v.watch.last_serial) (at_same w.node a (Rules.turn_by o a w r).node)

  -- a chain of rules that give none leaves it
  serial_chain : (first rest : List Rule) (w : World) → list_all gives_none first ≡ true → list_all is_quiet rest ≡ true
      → serial_at (Rules.effects o a (first ++ rest) w) a ≡ serial_at w a
  serial_chain [] [] w g q = refl
  serial_chain [] (r ∷ rest) w g q =
      let both : (is_quiet r ≡ true) × (list_all is_quiet rest ≡ true) =
      and_parts (is_quiet r) (list_all is_quiet rest) q in
      serial_chain [] rest (Rules.effect o a r w) refl both.1 ∙ serial_effect w r
      ∙ serial_made w r (none_quiet r both.0)
  serial_chain (r ∷ first) rest w g q =
      let both : (gives_none r ≡ true) × (list_all gives_none first ≡ true) =
      and_parts (gives_none r) (list_all gives_none first) g in
      serial_chain first rest (Rules.effect o a r w) both.1 q ∙ serial_effect w r ∙ serial_made w r both.0

  -- what reads a letter gives none
  first_gives_none : (f : ℕ) (ls : List Letter) → list_all gives_none (Rules.first_by_letter o a f ls) ≡ true
  first_gives_none f (Letter.Down ∷ ls) = refl
  first_gives_none f _ = refl

-- the greatest at b behind this event: a `spawn` gives the next serial, and no other event gives one
abbrev pub SerialBehind : Opening → World → WorldEvent → ℕ → Type 0
SerialBehind o w e b = (serial_at (accepted o w e) b ≡ serial_at w b)
    ⊎ ((e ≡ At b (Event.Calling Call.Spawn)) × (serial_at (accepted o w e) b ≡ next_serial (w.node b).watch))

module _ (o : Opening) where
  -- behind a `spawn` it is the one that was next
  serial_spawned : (w : World) (a : ℕ) → Walked o w (At a (Event.Calling Call.Spawn))
      → serial_at (accepted o w (At a (Event.Calling Call.Spawn))) a ≡ next_serial (w.node a).watch
  serial_spawned w a H = ap (λ (v : World). serial_at v a) (sym H.world)
      ∙ serial_chain o a [] H.rest (Rules.effect o a Rules.Spawns w) refl H.quiet ∙ serial_effect o a w Rules.Spawns

  -- behind another event it is as it was
  serial_kept : (w : World) (e : WorldEvent) (H : Walked o w e)
      → list_all gives_none (Rules.first_by o (place e) w e) ≡ true
      → serial_at (accepted o w e) (place e) ≡ serial_at w (place e)
  serial_kept w e H g = ap (λ (v : World). serial_at v (place e)) (sym H.world)
      ∙ serial_chain o (place e) (Rules.first_by o (place e) w e) H.rest w g H.quiet

  -- at the place of an event
  serial_here : (w : World) (e : WorldEvent) → Walked o w e → SerialBehind o w e (place e)
  serial_here w (At a (Event.Calling Call.Spawn)) H = inr (refl, serial_spawned w a H)
  serial_here w (Deliver f t) H = inl (serial_kept w (Deliver f t) H (first_gives_none o t f (w.links.queue f t)))
  serial_here w e H = inl (serial_kept w e H refl)

  -- and at each node
  pub serial_behind : (w : World) (e : WorldEvent) → Whole o w → refusal o w e ≡ None → (b : ℕ) → SerialBehind o w e b
  serial_behind w e W is b = elim (cases_eq b (place e)) [
    | inl here ↦ subst (SerialBehind o w e) (sym here) (serial_here w e (event_walks o w e W is))
    | inr ne ↦ inl (ap (λ (f : ℕ → Node). (f b).watch.last_serial) (accepted-node o w e)
        ∙ ap (λ (v : Node). v.watch.last_serial) (at_other w.node (place e) (turn_of o w e).node b ne))
  ]

  -- so it never falls
  serial_rises : (w : World) (e : WorldEvent) → Whole o w → refusal o w e ≡ None → (b : ℕ)
      → serial_at w b ≤ serial_at (accepted o w e) b
  serial_rises w e W is b = elim (serial_behind w e W is b) [
    | inl same ↦ omega (arith, same)
    | inr given ↦ omega (arith, given.1, next_serial-new (w.node b).watch)
  ]

  -- what a `spawn` answers
  pub spawn_answers : (w : World) (ps : List Played) (a : ℕ) → Theorem.Kept o w ps
      → refusal o w (At a (Event.Calling Call.Spawn)) ≡ None
      → (played o w (At a (Event.Calling Call.Spawn))).answers ≡ answer_to a 0 (Pid (next_at w a)) ∷ []
  spawn_answers w ps a X is = answers_given o w (At a (Event.Calling Call.Spawn)) is
      ∙ spawned-answers o.bound a (next_serial (w.node a).watch) (w.node a)
      (X.apart.rested a (place_runs o w (At a (Event.Calling Call.Spawn)) is))

  -- that is the process that it gives
  pub spawn_gives : (w : World) (ps : List Played) (a : ℕ) (q : Process) → Theorem.Kept o w ps
      → refusal o w (At a (Event.Calling Call.Spawn)) ≡ None
      → Contains (played o w (At a (Event.Calling Call.Spawn))).answers (answer_to a 0 (Pid q)) → next_at w a ≡ q
  spawn_gives w ps a q X is c = elim (Contains-cases (answer_to a 0 (Pid (next_at w a))) [] (answer_to a 0 (Pid q))
      (subst (λ (xs : List Answer). Contains xs (answer_to a 0 (Pid q))) (spawn_answers w ps a X is) c)) [
        | inl same ↦ ap (λ (s : Answer). process_of s.reply) same
        | inr none ↦ absurd (Contains-nil (answer_to a 0 (Pid q)) none)
      ]
    where
      process_of : Reply → Process
      process_of (Pid p) = p
      process_of _ = q

  -- so the serial that a step gives is above the greatest before it, and the greatest behind it
  step_gives : (w : World) (e : WorldEvent) (ps : List Played) → Whole o w → Theorem.Kept o w ps → refusal o w e ≡ None
      → (q : Process) → IsSpawnOf (played o w e) q
      → (serial_at w q.node < q.serial) × (q.serial ≤ serial_at (accepted o w e) q.node)
  step_gives w e ps W X is q I = (subst Goal (sym I.event) given) is I.answer
    where
      Goal : WorldEvent → Type 0
      Goal e = refusal o w e ≡ None → Contains (played o w e).answers (answer_to q.node 0 (Pid q))
          → (serial_at w q.node < q.serial) × (q.serial ≤ serial_at (accepted o w e) q.node)

      given : Goal (At q.node (Event.Calling Call.Spawn))
      given is c =
          let serial : next_serial (w.node q.node).watch ≡ q.serial =
          ap (λ (p : Process). p.serial) (spawn_gives w ps q.node q X is c) in (
            omega (arith, next_serial-new (w.node q.node).watch),
            omega (arith, serial_spawned w q.node (event_walks o w (At q.node (Event.Calling Call.Spawn)) W is)),
          )

  -- what is kept of spawns: the serials that were given are at most the greatest
  pub record Given (w : World) (ps : List Played) : Type 0 where
    pub kept : Theorem.Kept o w ps
    pub below : (p : Played) (q : Process) → Contains ps p → IsSpawnOf p q → q.serial ≤ serial_at w q.node
    pub anew : EachStep ps SpawnsAnew

  pub given_opens : Given (opening_world o) []
  given_opens = record {
    kept = Theorem.kept_run o (Whole o) (ground o) (whole_opens o) [];
    below = λ p q c I. absurd (Contains-nil p c);
    anew = none;
  }
    where
      none : EachStep [] SpawnsAnew
      none [] p later e = cc
      none (x ∷ before) p later e = cc

  pub given_keeps : (w : World) (e : WorldEvent) (ps : List Played) → Whole o w → refusal o w e ≡ None → Given w ps
      → Given (accepted o w e) (ps ++ played o w e ∷ [])
  given_keeps w e ps W is G = record {
    kept = Theorem.kept_on o (Whole o) (ground o) (whole_opens o) [] w e ps W is G.kept;
    below = λ p q c I. elim (Contains-append_cases ps (played o w e ∷ []) p c) [
      | inl h ↦ omega (arith, G.below p q h I, serial_rises w e W is q.node)
      | inr h ↦ elim (Contains-cases (played o w e) [] p h) [
        | inl same ↦ (step_gives w e ps W G.kept is q (subst (λ (x : Played). IsSpawnOf x q) (sym same) I)).1
        | inr none ↦ absurd (Contains-nil p none)
      ]
    ];
    anew = each_step_push SpawnsAnew ps (played o w e) G.anew
        (λ q I s c J. absurd (omega (arith, G.below s q c J, (step_gives w e ps W G.kept is q I).0)));
  }

  -- so no two spawns give one process
  pub spawns_anew : (es : List WorldEvent) → EachStep (events o es) SpawnsAnew
  spawns_anew es = given.anew
    where
      given : Given (world o es) (events o es)
      given = Chains.course_keeps o (Whole o) (ground o) Given given_keeps es (opening_world o) [] (whole_opens o)
          given_opens
