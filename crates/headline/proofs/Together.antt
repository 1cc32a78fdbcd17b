-- All families of invariants together: each rule keeps them all, so they hold after every list of events.
use Rattle.std.proofs.Common.{ℕ, ◌≡◌, None, List, [], ◌∷◌, ◌++◌, sym, subst}
use Rattle.protocol_model.specs.Event.{Answer}
use Rattle.protocol_model.specs.Turn.{Turn}
use Rattle.registry_model.specs.History.{Entry}
use Rattle.std.proofs.lemmas.List.{append-nil, append_assoc}
use Rattle.protocol_model.specs.World.{Opening, World, WorldEvent, place, turn_of, opening_world, refusal, accepted, run}
use Rattle.protocol_model.specs.Course.{Played, played, course}
use Rattle.moves.proofs.Rules
use Rattle.moves.proofs.Rules.{Rule, Ordered, Walked}
use Rattle.moves.proofs.Invariants.{Proper, Exclusive, Replicas, JoinsKnown}
use Rattle.walk.proofs.Receiving.{WelcomeWidens}
use Rattle.walk.proofs.Runs
use Rattle.walk.proofs.Runs.{rules_of}
use Rattle.walk.proofs.Joins.{JoinsOnce}
use Rattle.walk.proofs.Welcomes.{lone_alone, welcome_widens}
use Rattle.lock_sessions.proofs.Departures.{proper_keeps, proper_opens}
use Rattle.lock_sessions.proofs.Locking.{Locks}
use Rattle.lock_sessions.proofs.LockRules.{locks_keeps, locks_opens}
use Rattle.lock_sessions.proofs.Exclusion.{exclusive}
use Rattle.replicas.proofs.States.{lone_owners}
use Rattle.replicas.proofs.Known.{Known}
use Rattle.replicas.proofs.Keeps.{replicas_known, known_opens, known_keeps}
use Rattle.fitting.proofs.Gates.{Joins}
use Rattle.fitting.proofs.Shown.{LoneOwners}
use Rattle.fitting.proofs.Joins.{joins_keeps, joins_opens, joins_known}

module _ (o : Opening) where
  -- all that holds between two rules
  pub record All (w : World) : Type 0 where
    pub proper : Proper o w
    pub locks : Locks o w
    pub known : Known o w
    pub joins : Joins o w

  -- it holds at the opening
  pub all_opens : All (opening_world o)
  all_opens = record {
    proper = proper_opens o;
    locks = locks_opens o;
    known = known_opens o;
    joins = joins_opens o;
  }

  -- and what the families say to each other follows
  pub alone : (w : World) → All w → Exclusive o w
  alone w I = exclusive o w I.proper I.locks

  pub replicas : (w : World) → All w → Replicas o w
  replicas w I = replicas_known o w I.known

  pub heard_joins : (w : World) → All w → JoinsKnown o w
  heard_joins w I = joins_known o w I.joins

  -- the names of a lone node are of its own processes
  pub owners : (w : World) → All w → LoneOwners o w
  owners w I = lone_owners o w (replicas w I)

  -- a node that is welcomed keeps its members
  pub widens : (w : World) → All w → JoinsOnce w → WelcomeWidens o w
  widens w I once = welcome_widens o w once I.proper (lone_alone o w (replicas w I))

  -- each rule keeps it
  pub all_keeps : (a : ℕ) (w : World) (r : Rule) → All w → Ordered w → Rules.May o a w r → All (Rules.effect o a r w)
  all_keeps a w r I sorted m =
      let K : Known o (Rules.effect o a r w) = known_keeps o w I.proper (alone w I) (heard_joins w I) I.known a r m in
      record {
        proper = proper_keeps o a w r I.proper m;
        locks = locks_keeps o a w r I.proper I.locks m;
        known = K;
        joins = joins_keeps o a w r I.proper (replicas w I) (replicas_known o (Rules.effect o a r w) K)
            (owners w I) I.joins m;
      }

  -- what a world has between two events: all this, its lock calls in order, and each node joins once
  abbrev pub Whole : World → Type 0
  Whole w = Runs.Kept o All widens all_keeps w

  pub whole_opens : Whole (opening_world o)
  whole_opens = Runs.kept_opens o All widens all_keeps all_opens

  -- so it holds after every list of events
  pub run_whole : (es : List WorldEvent) → Whole (run o (opening_world o) es)
  run_whole es = Runs.run_kept o All widens all_keeps all_opens es

  pub accepted_whole : (w : World) (e : WorldEvent) → Whole w → refusal o w e ≡ None → Whole (accepted o w e)
  accepted_whole w e W r = Runs.accepted_keeps o All widens all_keeps w e W r

  -- G: what is said of the accepted events so far and of the world behind them. What each accepted event keeps of it
  -- holds after every list of events
  pub course_keeps : (G : List Played → World → Type 0)
      → ((ps : List Played) (w : World) (e : WorldEvent) → G ps w → Whole w → Whole (accepted o w e)
      → refusal o w e ≡ None → Walked o w e
      → G (ps ++ played o w e ∷ []) (accepted o w e))
      → G [] (opening_world o) → (es : List WorldEvent) → G (course o (opening_world o) es) (run o (opening_world o) es)
  course_keeps G step begins es = Runs.course_keeps o All widens all_keeps G
      (λ ps w e g W r k. step ps w e g W (accepted_whole w e W r) r k) all_opens begins es

  -- K: what is said of the entries and the answers of a step so far, and of the world behind them. What every rule
  -- keeps of it holds of each accepted event
  module _ (K : List Entry → List Answer → World → Type 0) (a : ℕ)
      (step : (w : World) (r : Rule) (es : List Entry) (ss : List Answer) → K es ss w → Whole w
      → Whole (Rules.effect o a r w) → Rules.May o a w r
      → K (es ++ (Rules.turn_by o a w r).entries) (ss ++ (Rules.turn_by o a w r).answers) (Rules.effect o a r w)) where
    chain_makes : (rs : List Rule) (w : World) (es : List Entry) (ss : List Answer) → K es ss w → Whole w
        → Rules.MayAll o a rs w
        → K (es ++ Rules.entries_by o a rs w) (ss ++ Rules.answers_by o a rs w) (Rules.effects o a rs w)
    chain_makes [] w es ss k W m = subst (λ (xs : List Entry). K xs (ss ++ []) w) (sym (append-nil es))
        (subst (λ (xs : List Answer). K es xs w) (sym (append-nil ss)) k)
    chain_makes (r ∷ rs) w es ss k W m =
        subst (λ (xs : List Entry). K xs (ss ++ Rules.answers_by o a (r ∷ rs) w) (Rules.effects o a (r ∷ rs) w))
        (append_assoc es turn.entries (Rules.entries_by o a rs later))
        (subst (λ (xs : List Answer). K ((es ++ turn.entries) ++ Rules.entries_by o a rs later) xs
        (Rules.effects o a (r ∷ rs) w))
        (append_assoc ss turn.answers (Rules.answers_by o a rs later))
        (chain_makes rs later (es ++ turn.entries) (ss ++ turn.answers) (step w r es ss k W V m.0) V m.1))
      where
        turn : Turn
        turn = Rules.turn_by o a w r

        later : World
        later = Rules.effect o a r w

        V : Whole later
        V = Runs.rule_keeps o All widens all_keeps a w r W m.0

    -- the same of an event that is such a chain
    pub event_makes : (w : World) (e : WorldEvent) → place e ≡ a → Whole w → Walked o w e → K [] [] w
        → K (turn_of o w e).entries (turn_of o w e).answers (accepted o w e)
    event_makes w e here W h k =
        subst (λ (xs : List Entry). K xs (turn_of o w e).answers (accepted o w e)) h.entries
        (subst (λ (xs : List Answer). K (Rules.entries_by o (place e) (rules_of o w e h) w) xs (accepted o w e))
        h.answers
        (subst (K (Rules.entries_by o (place e) (rules_of o w e h) w)
        (Rules.answers_by o (place e) (rules_of o w e h) w)) h.world
        (subst (λ (b : ℕ). Rules.MayAll o b (rules_of o w e h) w
        → K (Rules.entries_by o b (rules_of o w e h) w) (Rules.answers_by o b (rules_of o w e h) w)
        (Rules.effects o b (rules_of o w e h) w))
        (sym here) (chain_makes (rules_of o w e h) w [] [] k W) h.may)))

  pub rule_whole : (a : ℕ) (w : World) (r : Rule) → Whole w → Rules.May o a w r → Whole (Rules.effect o a r w)
  rule_whole a w r W m = Runs.rule_keeps o All widens all_keeps a w r W m

  -- an accepted event is a chain of rules
  pub event_walks : (w : World) (e : WorldEvent) → Whole w → refusal o w e ≡ None → Walked o w e
  event_walks w e W r = Runs.walks o All widens all_keeps w e W r
