-- What the opening has and every rule keeps holds after every list of events; and what every rule adds to the entries
-- and the answers of its event.
use Rattle.std.proofs.Common.{ℕ, true, ◌≡◌, Option, Some, None, List, [], ◌∷◌, ◌++◌, refl, sym, subst, ap, ◌∙◌}
use Rattle.std.specs.Prelude.{is_none, if◌then◌else◌}
use Rattle.std.specs.List.{list_all}
use Rattle.std.proofs.lemmas.List.{append-nil, append_assoc}
use Rattle.registry_model.specs.History.{Entry}
use Rattle.protocol_model.specs.Event.{Answer, Refusal}
use Rattle.protocol_model.specs.World.{Opening, World, WorldEvent, place, opening_world, refusal, turn_of, accepted, happens, run}
use Rattle.protocol_model.specs.Course.{Played, played, course}
use Rattle.moves.proofs.Indices.{both}
use Rattle.moves.proofs.Rules
use Rattle.moves.proofs.Rules.{Rule, is_quiet, Ordered, Walked}
use Rattle.protocol_model.specs.Turn.{Turn}
use Rattle.walk.proofs.Chains.{effects-append, entries_by-append, answers_by-append, may_all-parts}
use Rattle.walk.proofs.Receiving.{WelcomeWidens}
use Rattle.walk.proofs.Walk.{event_walked}
use Rattle.walk.proofs.Orders.{ordered_keeps, ordered_opens}
use Rattle.walk.proofs.Joins.{JoinsOnce, joins_once_opens, joins_once_keeps}

-- the chain of an event
abbrev pub rules_of : (o : Opening) (w : World) (e : WorldEvent) → Walked o w e → List Rule
rules_of o w e h = Rules.first_by o (place e) w e ++ h.rest

-- an accepted event brings the entries of its chain
pub played-entries : (o : Opening) (w : World) (e : WorldEvent) (h : Walked o w e)
    → (played o w e).entries ≡ Rules.entries_by o (place e) (rules_of o w e h) w
played-entries o w e h = sym h.entries

-- and its answers
pub played-answers : (o : Opening) (w : World) (e : WorldEvent) (h : Walked o w e) → refusal o w e ≡ None
    → (played o w e).answers ≡ Rules.answers_by o (place e) (rules_of o w e h) w
played-answers o w e h r =
    ap (λ (x : Option Refusal). if is_none x then (turn_of o w e).answers else []) r ∙ sym h.answers

-- a refused event changes nothing
pub happens-refused : (o : Opening) (w : World) (e : WorldEvent) (r : Refusal) → refusal o w e ≡ Some r
    → happens o w e ≡ w
happens-refused o w e r h = ap (λ (x : Option Refusal). if is_none x then accepted o w e else w) h

-- an accepted event makes the world of its turn
pub happens-accepted : (o : Opening) (w : World) (e : WorldEvent) → refusal o w e ≡ None
    → happens o w e ≡ accepted o w e
happens-accepted o w e h = ap (λ (x : Option Refusal). if is_none x then accepted o w e else w) h

-- F: what every rule keeps, and by which a node that is welcomed keeps its members
module _ (o : Opening) (F : World → Type 0) (wide : (w : World) → F w → JoinsOnce w → WelcomeWidens o w)
    (keeps : (a : ℕ) (w : World) (r : Rule) → F w → Ordered w → Rules.May o a w r → F (Rules.effect o a r w)) where
  -- It holds, the lock calls of each node stand in order, and each node asks to join at most once
  pub record Kept (w : World) : Type 0 where
    pub kept : F w
    pub ordered : Ordered w
    pub once : JoinsOnce w

  -- so it is at the opening, where F is
  pub kept_opens : F (opening_world o) → Kept (opening_world o)
  kept_opens opens = record { kept = opens; ordered = ordered_opens o; once = joins_once_opens o }

  -- a rule keeps it
  pub rule_keeps : (a : ℕ) (w : World) (r : Rule) → Kept w → Rules.May o a w r → Kept (Rules.effect o a r w)
  rule_keeps a w r k m = record {
    kept = keeps a w r k.kept k.ordered m;
    ordered = ordered_keeps o a w r k.ordered m;
    once = joins_once_keeps o a w r k.once m;
  }

  -- a chain of rules keeps it
  pub chain_keeps : (a : ℕ) (rs : List Rule) (w : World) → Kept w → Rules.MayAll o a rs w
      → Kept (Rules.effects o a rs w)
  chain_keeps a [] w k m = k
  chain_keeps a (r ∷ rs) w k m = chain_keeps a rs (Rules.effect o a r w) (rule_keeps a w r k m.0) m.1

  -- a world that is kept walks
  pub walks : (w : World) (e : WorldEvent) → Kept w → refusal o w e ≡ None → Walked o w e
  walks w e k r = event_walked o w e k.ordered (wide w k.kept k.once) r

  -- an accepted event keeps it
  pub accepted_keeps : (w : World) (e : WorldEvent) → Kept w → refusal o w e ≡ None → Kept (accepted o w e)
  accepted_keeps w e k r =
      let h : Walked o w e = walks w e k r in
      subst Kept h.world (chain_keeps (place e) (rules_of o w e h) w k h.may)

  -- and every event
  pub happens_keeps : (w : World) (e : WorldEvent) → Kept w → Kept (happens o w e)
  happens_keeps w e k = go (refusal o w e) refl
    where
      go : (x : Option Refusal) → refusal o w e ≡ x → Kept (if is_none x then accepted o w e else w)
      go None r = accepted_keeps w e k r
      go (Some x) r = k

  -- and every list of events
  pub run_keeps_from : (es : List WorldEvent) (w : World) → Kept w → Kept (run o w es)
  run_keeps_from [] w k = k
  run_keeps_from (e ∷ es) w k = run_keeps_from es (happens o w e) (happens_keeps w e k)

  -- so what the opening has holds of every world along the way
  pub run_kept : F (opening_world o) → (es : List WorldEvent) → Kept (run o (opening_world o) es)
  run_kept opens es = run_keeps_from es (opening_world o) (kept_opens opens)

  -- above all F
  pub run_keeps : F (opening_world o) → (es : List WorldEvent) → F (run o (opening_world o) es)
  run_keeps opens es = (run_kept opens es).kept

  -- G: what is said of the accepted events so far and the world behind them. What every accepted event keeps of it
  -- holds after every list of events
  pub course_keeps : (G : List Played → World → Type 0)
      → ((ps : List Played) (w : World) (e : WorldEvent) → G ps w → Kept w → refusal o w e ≡ None → Walked o w e
      → G (ps ++ played o w e ∷ []) (accepted o w e))
      → F (opening_world o) → G [] (opening_world o)
      → (es : List WorldEvent) → G (course o (opening_world o) es) (run o (opening_world o) es)
  course_keeps G step opens begins es = from es [] (opening_world o) begins (kept_opens opens)
    where
      from : (es : List WorldEvent) (ps : List Played) (w : World) → G ps w → Kept w
          → G (ps ++ course o w es) (run o w es)
      from [] ps w g k = subst (λ (qs : List Played). G qs w) (sym (append-nil ps)) g
      from (e ∷ es) ps w g k = go (refusal o w e) refl (from es)
        where
          next : Option Refusal → World
          next x = if is_none x then accepted o w e else w

          go : (x : Option Refusal) → refusal o w e ≡ x
              → ((qs : List Played) (v : World) → G qs v → Kept v → G (qs ++ course o v es) (run o v es))
              → G (ps ++ ((if is_none x then played o w e ∷ [] else []) ++ course o (next x) es)) (run o (next x) es)
          go None r more = subst (λ (qs : List Played). G qs (run o (accepted o w e) es))
              (append_assoc ps (played o w e ∷ []) (course o (accepted o w e) es))
              (more (ps ++ played o w e ∷ []) (accepted o w e) (step ps w e g k r (walks w e k r))
              (accepted_keeps w e k r))
          go (Some x) r more = more ps w g k

  -- K: what is said of the entries and the answers of a step so far, and of the world behind them
  module _ (K : List Entry → List Answer → World → Type 0) (a : ℕ)
      (step : (w : World) (r : Rule) (es : List Entry) (ss : List Answer)
      → is_quiet r ≡ true → K es ss w → Kept w → Rules.May o a w r
      → K (es ++ (Rules.turn_by o a w r).entries) (ss ++ (Rules.turn_by o a w r).answers) (Rules.effect o a r w)) where
    -- what every quiet rule keeps of it, a chain of them keeps
    pub chain_makes : (rs : List Rule) (w : World) (es : List Entry) (ss : List Answer) → list_all is_quiet rs ≡ true
        → K es ss w → Kept w → Rules.MayAll o a rs w
        → K (es ++ Rules.entries_by o a rs w) (ss ++ Rules.answers_by o a rs w) (Rules.effects o a rs w)
    chain_makes [] w es ss q g k m = subst (λ (xs : List Entry). K xs (ss ++ []) w) (sym (append-nil es))
        (subst (λ (xs : List Answer). K es xs w) (sym (append-nil ss)) g)
    chain_makes (r ∷ rs) w es ss q g k m =
        subst (λ (xs : List Entry). K xs (ss ++ Rules.answers_by o a (r ∷ rs) w) (Rules.effects o a (r ∷ rs) w))
        (append_assoc es turn.entries (Rules.entries_by o a rs later))
        (subst (λ (xs : List Answer). K ((es ++ turn.entries) ++ Rules.entries_by o a rs later) xs
        (Rules.effects o a (r ∷ rs) w))
        (append_assoc ss turn.answers (Rules.answers_by o a rs later))
        (chain_makes rs later (es ++ turn.entries) (ss ++ turn.answers) quiet.1 (step w r es ss quiet.0 g k m.0)
        (rule_keeps a w r k m.0) m.1))
      where
        turn : Turn
        turn = Rules.turn_by o a w r

        later : World
        later = Rules.effect o a r w

        quiet : (is_quiet r ≡ true) × (list_all is_quiet rs ≡ true)
        quiet = both (is_quiet r) (list_all is_quiet rs) q

  -- an accepted event keeps it where its own rule does, and every quiet rule
  pub walk_makes : (K : List Entry → List Answer → World → Type 0) (w : World) (e : WorldEvent) → Kept w
      → (h : Walked o w e)
      → ((x : World) (r : Rule) (es : List Entry) (ss : List Answer) → is_quiet r ≡ true → K es ss x → Kept x
      → Rules.May o (place e) x r
      → K (es ++ (Rules.turn_by o (place e) x r).entries) (ss ++ (Rules.turn_by o (place e) x r).answers)
      (Rules.effect o (place e) r x))
      → K (Rules.entries_by o (place e) (Rules.first_by o (place e) w e) w)
      (Rules.answers_by o (place e) (Rules.first_by o (place e) w e) w)
      (Rules.effects o (place e) (Rules.first_by o (place e) w e) w)
      → K (turn_of o w e).entries (turn_of o w e).answers (accepted o w e)
  walk_makes K w e k h step g =
      subst (λ (xs : List Entry). K xs (turn_of o w e).answers (accepted o w e))
      (sym (entries_by-append o (place e) first h.rest w) ∙ h.entries)
      (subst (λ (xs : List Answer). K
      (Rules.entries_by o (place e) first w ++ Rules.entries_by o (place e) h.rest behind) xs (accepted o w e))
      (sym (answers_by-append o (place e) first h.rest w) ∙ h.answers)
      (subst (K (Rules.entries_by o (place e) first w ++ Rules.entries_by o (place e) h.rest behind)
      (Rules.answers_by o (place e) first w ++ Rules.answers_by o (place e) h.rest behind))
      (sym (effects-append o (place e) first h.rest w) ∙ h.world)
      (chain_makes K (place e) step h.rest behind (Rules.entries_by o (place e) first w)
      (Rules.answers_by o (place e) first w)
      h.quiet g (chain_keeps (place e) first w k may.0) may.1)))
    where
      first : List Rule
      first = Rules.first_by o (place e) w e

      behind : World
      behind = Rules.effects o (place e) first w

      may : Rules.MayAll o (place e) first w × Rules.MayAll o (place e) h.rest behind
      may = may_all-parts o (place e) first h.rest w h.may
