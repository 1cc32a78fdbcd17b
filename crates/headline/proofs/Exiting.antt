-- Who was let exit is dead from that step on.
use Rattle.std.proofs.Common.{ℕ, Bool, true, false, ◌==◌, ◌≡◌, None, List, [], ◌∷◌, ◌++◌, refl, sym, ap, ◌∙◌, subst, inl, inr}
use Rattle.std.specs.Prelude.{◌||◌, if◌then◌else◌, Contains}
use Rattle.std.specs.List.{list_any}
use Rattle.std.proofs.lemmas.Bool.{eq-eqb, eqb-true}
use Rattle.std.proofs.lemmas.List.Elements.{Contains-append_cases}
use Rattle.registry_model.specs.Process.{Process, at}
use Rattle.registry_model.proofs.Lists.{Contains-cases, Contains-nil}
use Rattle.registry_model.proofs.Updates.{at_same, by_test}
use Rattle.protocol_model.specs.Watch.{is_dead}
use Rattle.protocol_model.specs.Node.{Node}
use Rattle.protocol_model.specs.Event.{Event}
use Rattle.protocol_model.specs.World.{Opening, World, WorldEvent, At, place, opening_world, refusal, accepted}
use Rattle.protocol_model.specs.Course.{Played, played, seen}
use Rattle.moves.proofs.Indices.{both}
use Rattle.moves.proofs.Rules
use Rattle.moves.proofs.Rules.{Rule, Walked}
use Rattle.walk.proofs.Orders.{effect-node}
use Rattle.walk.proofs.Runs.{rules_of}
use Rattle.fitting.proofs.Chains
use Rattle.client_locks.proofs.Growing.{dead_grows}
use Rattle.headline.specs.Clauses.{ExitsKillAtOnce}
use Rattle.headline.proofs.Together.{Whole, whole_opens, event_walks}
use Rattle.headline.proofs.Story.{ground}

-- who died last is dead
pub dead_last : (ds : List ℕ) (s : ℕ) → list_any (λ d. d == s) (ds ++ s ∷ []) ≡ true
dead_last [] s = rw (eq-eqb s s refl) refl
dead_last (d ∷ ds) s = go (d == s) (dead_last ds s)
  where
    go : (b : Bool) → list_any (λ d. d == s) (ds ++ s ∷ []) ≡ true
        → (b || list_any (λ d. d == s) (ds ++ s ∷ [])) ≡ true
    go true k = refl
    go false k = k

module _ (o : Opening) where
  -- no rule brings a dead process back to life
  dead_rule : (a : ℕ) (r : Rule) (w : World) (b s : ℕ) → is_dead (w.node b).watch s ≡ true
      → is_dead ((Rules.effect o a r w).node b).watch s ≡ true
  dead_rule a r w b s h = ap (λ (f : ℕ → Node). is_dead (f b).watch s) (effect-node o a r w)
      ∙ by_test a (λ x t. is_dead (w.node x).watch s ≡ true
      → is_dead (if t then (Rules.turn_by o a w r).node else w.node x).watch s ≡ true)
      (dead_grows o a w r s) (λ x ne k. k) b h

  dead_rules : (a : ℕ) (rs : List Rule) (w : World) (b s : ℕ) → is_dead (w.node b).watch s ≡ true
      → is_dead ((Rules.effects o a rs w).node b).watch s ≡ true
  dead_rules a [] w b s h = h
  dead_rules a (r ∷ rs) w b s h = dead_rules a rs (Rules.effect o a r w) b s (dead_rule a r w b s h)

  -- nor does an event
  pub dead_event : (w : World) (e : WorldEvent) → Walked o w e → (b s : ℕ) → is_dead (w.node b).watch s ≡ true
      → is_dead ((accepted o w e).node b).watch s ≡ true
  dead_event w e H b s h = ap (λ (x : World). is_dead (x.node b).watch s) (sym H.world)
      ∙ dead_rules (place e) (rules_of o w e H) w b s h

  -- an exit kills in its own step
  pub exit_kills : (w : World) (a : ℕ) (q : Process) → Walked o w (At a (Event.Exiting q))
      → is_dead ((accepted o w (At a (Event.Exiting q))).node q.node).watch q.serial ≡ true
  exit_kills w a q H = ap (λ (x : World). is_dead (x.node q.node).watch q.serial) (sym H.world)
      ∙ dead_rules a H.rest (Rules.effect o a (Rules.Exits q) w) q.node q.serial
      (ap (λ (f : ℕ → Node). is_dead (f q.node).watch q.serial) (effect-node o a (Rules.Exits q) w)
      ∙ ap (λ (b : ℕ). is_dead (at w.node a died b).watch q.serial) home
      ∙ ap (λ (v : Node). is_dead v.watch q.serial) (at_same w.node a died)
      ∙ dead_last (w.node a).watch.dead q.serial)
    where
      died : Node
      died = (Rules.turn_by o a w (Rules.Exits q)).node

      home : q.node ≡ a
      home = let m : Rules.May o a w (Rules.Exits q) = H.may.0 in eqb-true q.node a (both _ _ (both _ _ m.tested.0).0).0

  -- those that were let exit are dead
  abbrev Exited : World → List Played → Type 0
  Exited w ps = (p : Played) (a : ℕ) (q : Process) → Contains ps p → p.event ≡ At a (Event.Exiting q)
      → (seen o w).dead q ≡ true

  exited_keeps : (w : World) (e : WorldEvent) (ps : List Played) → Whole o w → refusal o w e ≡ None → Exited w ps
      → Exited (accepted o w e) (ps ++ played o w e ∷ [])
  exited_keeps w e ps W is X p a q c i = elim (Contains-append_cases ps (played o w e ∷ []) p c) [
    | inl h ↦ dead_event w e H q.node q.serial (X p a q h i)
    | inr h ↦ elim (Contains-cases (played o w e) [] p h) [
      | inl same ↦ subst Goal (sym (ap (λ (x : Played). x.event) same ∙ i)) (exit_kills w a q) H
      | inr none ↦ absurd (Contains-nil p none)
    ]
  ]
    where
      H : Walked o w e
      H = event_walks o w e W is

      Goal : WorldEvent → Type 0
      Goal e = Walked o w e → is_dead ((accepted o w e).node q.node).watch q.serial ≡ true

-- who was let exit is dead from that step on
pub exits_kill_at_once : ExitsKillAtOnce
exits_kill_at_once o es = Chains.course_keeps o (Whole o) (ground o) (Exited o) (exited_keeps o) es (opening_world o) []
    (whole_opens o) (λ p a q c. absurd (Contains-nil p c))
