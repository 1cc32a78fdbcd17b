-- A quiet world of names rests, and has answered its calls: it does so as the world in which all nodes that haven't started were
-- told of all that have left.
use Rattle.std.proofs.Common.{ℕ, Bool, true, false, ◌≡◌, List, [], ◌++◌, refl, sym, ap, subst, ◌∙◌}
use Rattle.std.specs.Prelude.{Contains}
use Rattle.protocol_model.specs.Watch.{owed, is_dead}
use Rattle.protocol_model.specs.Node.{Node, Current, LockPhase, LockCall}
use Rattle.protocol_model.specs.Event.{is_waiting}
use Rattle.protocol_model.specs.World.{Opening, World, opening_world, run}
use Rattle.protocol_model.specs.Quiet.{Runs}
use Rattle.protocol_model.proofs.Courses.{run-append}
use Rattle.named_events.specs.NodeNames.{NamedOpening, opening_of}
use Rattle.named_events.specs.NamedWorld.{NamedWorld, NamedEvent, has_started, after_events, as_events}
use Rattle.named_events.specs.Restarts.{IsUp}
use Rattle.named_events.proofs.NamedRuns.{named_runs_are_runs}
use Rattle.named_events.proofs.LeftOfNames
use Rattle.no_dead_end.specs.QuietWorlds.{admissions, AtRest, Idle, Refused, Knocks, IsAtRest, QuietWorldsRest}
use Rattle.no_dead_end.proofs.QuietWorlds.{leave_accepted, quiet_worlds_rest}
use Rattle.no_dead_end.proofs.CallsAnswered.{deletion_answered, call_answered, rest_is_free}
use Rattle.named_events.specs.Worlds.{of_nodes, IsQuiet}
use Rattle.named_events.specs.WorldsOfNames.{of_names, OfNames}
use Rattle.no_dead_end.specs.Answering.{QuietWorldsAnswer, SettledWorldsAnswer}

module _ (o : NamedOpening) (es : List NamedEvent) (q : IsQuiet (of_names o) (after_events o es)) where
  abbrev O : Opening
  O = opening_of o

  abbrev w : NamedWorld
  w = after_events o es

  -- the world in which they were told
  abbrev u : World
  u = LeftOfNames.u o es

  there : IsAtRest (Runs O u) O u
  there = subst (QuietWorldsRest (of_nodes O) (LeftOfNames.E o es ++ LeftOfNames.F o es))
      (run-append O (opening_world O) (LeftOfNames.E o es) (LeftOfNames.F o es)
      ∙ ap (λ (v : World). run O v (LeftOfNames.F o es)) (sym (named_runs_are_runs o es)))
      (quiet_worlds_rest O (LeftOfNames.E o es ++ LeftOfNames.F o es)) (LeftOfNames.quiet o es q)

  same : (c : ℕ) → IsUp o w c → u.node c ≡ w.world.node c
  same c up = LeftOfNames.same o es c up

  runs : (c : ℕ) → IsUp o w c → Runs O u c
  runs c up = (up.inside, LeftOfNames.left_same o es c ∙ up.stays)

  -- who runs there and has joined has started
  joined_up : (m : ℕ) → Runs O u m → (u.node m).replica.joined ≡ true → IsUp o w m
  joined_up m r j = go (has_started o w m) refl
    where
      go : (t : Bool) → has_started o w m ≡ t → IsUp o w m
      go true e = record { inside = r.0; started = e; stays = sym (LeftOfNames.left_same o es m) ∙ r.1 }
      go false e = cc (
        ap (λ (v : Node). v.replica.joined) ((LeftOfNames.caught o es).fresh m (LeftOfNames.is_late o es m e r.0)),
        j,
      )

  rests : (c : ℕ) → IsUp o w c → AtRest (IsUp o w) w.world c (w.world.node c).current
  rests c up = subst (AtRest (IsUp o w) w.world c) (ap (λ (v : Node). v.current) (same c up))
      (go (u.node c).current (there.registrars c (runs c up)))
    where
      go : (x : Current) → AtRest (Runs O u) u c x → AtRest (IsUp o w) w.world c x
      go x (Idle none free) = Idle (ap (λ (v : Node). v.queue) (sym (same c up)) ∙ none)
          (ap (λ (v : Node). owed c v.replica.table v.watch) (sym (same c up)) ∙ free)
      go x (Refused op) = Refused op
      go x (Knocks k m r j i n) =
          let host : IsUp o w m = joined_up m r j in
          let its : w.world.node m ≡ u.node m = sym (same m host) in
          Knocks k m host (ap (λ (v : Node). v.replica.joined) its ∙ j) (ap (λ (v : Node). is_waiting v.current) its ∙ i)
          (ap (admissions c) its ∙ n)

  pub names_rest : IsAtRest (IsUp o w) O w.world
  names_rest = record {
    registrars = rests;
    calls = λ c call up i. there.calls c call (runs c up)
        (subst (λ (v : Node). Contains v.calls call) (sym (same c up)) i);
    leaves = λ c up. leave_accepted (IsUp o w) O w.world c up.inside up.stays (rests c up);
  }

pub quiet_names_rest : OfNames QuietWorldsRest
quiet_names_rest o es q = names_rest o es q

-- the world of names is that of its events
module _ (o : NamedOpening) (es : List NamedEvent) where
  abbrev v : World
  v = run (opening_of o) (opening_world (opening_of o)) (as_events o es)

  is_run : (after_events o es).world ≡ v
  is_run = named_runs_are_runs o es

  pub deletions : QuietWorldsAnswer (of_names o) es (after_events o es)
  deletions q a k p up D alive = deletion_answered (opening_of o) (as_events o es) a k p D
      (subst (λ (x : World). (c : LockCall) → Contains (x.node a).calls c → c.phase ≡ LockPhase.Waiting) is_run
      (λ c i. (names_rest o es q).calls a c up i))
      (subst (λ (x : World). is_dead (x.node a).watch p.serial ≡ false) is_run alive)

  pub numbered : SettledWorldsAnswer (of_names o) es (after_events o es)
  numbered S a n up i = call_answered (opening_of o) (as_events o es) a
      (subst (λ (x : World). (x.node a).current ≡ Current.Free) is_run F.0)
      (subst (λ (x : World). (x.node a).queue ≡ []) is_run F.1) n i
    where
      F : (((after_events o es).world.node a).current ≡ Current.Free) × (((after_events o es).world.node a).queue ≡ [])
      F = rest_is_free (IsUp o (after_events o es)) (after_events o es).world a S.retried up
          ((names_rest o es S.quiet).registrars a up)

pub quiet_names_answer : OfNames QuietWorldsAnswer
quiet_names_answer o es = deletions o es

pub settled_names_answer : OfNames SettledWorldsAnswer
settled_names_answer o es = numbered o es
