-- What is linked, and the exits at the end of a console.
use Rattle.std.proofs.Common.{ℕ, Bool, false, ◌≡◌, ◌<◌, List, [], ◌∷◌, ◌++◌, Option, None, Result, Ok, Err, MatchResult, IfOk, length, refl, subst, inl, inr}
use Rattle.registry_model.specs.Process.{Process}
use Rattle.command_lines.specs.declared.Reply.{Reply}
use Rattle.node_seats.specs.declared.fault.SeatFault.{SeatFault}
use Rattle.text_lines.specs.declared.faults.StreamFault.{StreamFault}
use Rattle.console.specs.Commands.{LineSays}
use Rattle.console.specs.Consoles.{Answering, EndsBy, Exits, HeedsSpawnLink, MayAnswer, MaySpawnLinked, SpawnsLinked, Stands, Stops, Talk, TalkStops, TalksUntil, talk}
use Rattle.console.specs.Links.{own_text}
use Rattle.term.specs.declared.limits.TheConstants.{MOST_LINKS}
use Rattle.console.specs.Outcomes.{outcome_text}
use Rattle.console.specs.declared.ends.ConsoleEnd.{ConsoleEnd}
use Rattle.console.specs.declared.orders.Order.TheVariants.{Exit}
use Rattle.console.specs.declared.orders.Command.TheVariants.{SpawnLink}

module _ {S : Type 0} (answers : Answering S) where
  -- one process more was asked to exit
  pub Exits-push : (ps : List Process) (s t u : S) (p : Process) (r : Result Reply SeatFault)
      → Exits answers ps s t → answers t (Exit p) false r u → Exits answers (ps ++ p ∷ []) s u
  Exits-push [] s t u p r e a = (r, u, subst (λ (x : S). answers x (Exit p) false r u) e a, refl)
  Exits-push (q ∷ ps) s t u p r e a = (e.0, e.1, e.2, Exits-push ps e.1 t u p r e.3 a)

  -- the line of an answer is printed, or there is no memory for it
  pub spawn_said : {A F : Type 0} (bytes_of : A → List ℕ) (s t : Talk S) (outcome : Result Reply SeatFault) (r : Result A F)
      → length s.links < MOST_LINKS → SpawnsLinked answers s outcome t → IfOk r (λ line. bytes_of line ≡ outcome_text outcome)
      → MatchResult r (λ line. HeedsSpawnLink answers s (bytes_of line) t) (λ _. MaySpawnLinked answers s t)
  spawn_said bytes_of s t outcome (Ok line) few spawns says = inl (few, outcome, spawns, says)
  spawn_said bytes_of s t outcome (Err _) few spawns says = inr (outcome_text outcome, inl (few, outcome, spawns, refl))

  -- so the line that asked for it was answered, or nothing was asked for it
  pub MayAnswer-spawned : (stands : Stands S) (stays : Bool) (line : List ℕ) (s t : Talk S) → LineSays stays (own_text s.links) line (Ok SpawnLink)
      → MaySpawnLinked answers s t → MayAnswer answers stands stays line s t
  MayAnswer-spawned stands stays line s t says may = elim may [
    | inl same ↦ inl same
    | inr heeds ↦ inr (heeds.0, None, (Ok SpawnLink, says, (heeds.1, refl)))
  ]

  -- a conversation that began with nothing linked, and then the exits of what it left linked
  module _ (stands : Stands S) (stays : Bool) (most : ℕ) (input rest old new : Option (List ℕ)) (s u t : S) (none links : List Process) where
    pub ended_behind_exits : (r : Result ConsoleEnd StreamFault) → none ≡ []
        → MatchResult r (TalksUntil answers stands stays most input rest old new (talk s none) (talk u links))
        (TalkStops answers stands stays most input rest old new (talk s none) (talk u links))
        → Exits answers links u t
        → MatchResult r (EndsBy answers stands stays most input rest old new s t) (Stops answers stands stays most input rest old new s t)
    ended_behind_exits (Ok how) is talked exits =
        (talk u links, subst (λ (ps : List Process). TalksUntil answers stands stays most input rest old new (talk s ps) (talk u links) how) is talked, exits)
    ended_behind_exits (Err fault) is talked exits =
        (talk u links, subst (λ (ps : List Process). TalkStops answers stands stays most input rest old new (talk s ps) (talk u links) fault) is talked, exits)
