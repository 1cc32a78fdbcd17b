-- What each answer keeps, a whole conversation keeps.
use Rattle.std.proofs.Common.{ℕ, Bool, false, List, [], ◌∷◌, ◌≡◌, Option, Some, None, Result, Ok, Err, sym, ap, subst, inl, inr}
use Rattle.registry_model.specs.Process.{Process}
use Rattle.command_lines.specs.declared.Call.TheVariants.{Spawn, RegisteredNames}
use Rattle.command_lines.specs.declared.Reply.{Reply}
use Rattle.command_lines.specs.declared.faults.LineFault.{LineFault}
use Rattle.node_seats.specs.declared.fault.SeatFault.{SeatFault}
use Rattle.text_lines.specs.declared.faults.StreamFault.{StreamFault}
use Rattle.text_lines.specs.declared.faults.StreamFault.TheVariants.{Read, Write, TooManyLines, Memory}
use Rattle.console.specs.Consoles.{Answering, Stands, Talk, begun, Exits, SpawnsLinked, HeedsSpawnLink, HeedsInquiry, Heeds, AnswersLine, AnswersAll, TalkStops, Serves, Stops}
use Rattle.console.specs.Links.{may_wait}
use Rattle.console.specs.declared.ends.ConsoleEnd.{ConsoleEnd}
use Rattle.console.specs.declared.orders.Order.{Order}
use Rattle.console.specs.declared.orders.Order.TheVariants.{Exit, Call, Whereis, Wait}
use Rattle.console.specs.declared.orders.Command.{Command}
use Rattle.console.specs.declared.orders.Command.TheVariants.{Ask, SpawnLink, Quit, Shutdown, Status, Fence, Help, NamesFrom, Inquire}
use Rattle.console.specs.declared.orders.Inquiry.{Inquiry}
use Rattle.console.specs.declared.orders.Inquiry.TheVariants as inquiry

-- what holds between a state and itself, goes on from one to the next, and holds behind each answer
module _ {S : Type 0} (answers : Answering S) (stands : Stands S) (stays : Bool) (R : S → S → Type 0) (same : (s : S) → R s s)
    (onward : (s t u : S) → R s t → R t u → R s u)
    (asked : (s : S) (o : Order) (linked : Bool) (r : Result Reply SeatFault) (t : S) → answers s o linked r t → R s t) where
  equal : (s t : S) → t ≡ s → R s t
  equal s t e = subst (λ (x : S). R s x) (sym e) (same s)

  unchanged : (s t : Talk S) → t ≡ s → R s.state t.state
  unchanged s t e = equal s.state t.state (ap (λ (k : Talk S). k.state) e)

  exits : (ps : List Process) (s t : S) → Exits answers ps s t → R s t
  exits [] s t e = equal s t e
  exits (p ∷ ps) s t e = onward s e.1 t (asked s (Exit p) false e.0 e.1 e.2) (exits ps e.1 t e.3)

  spawned : (s : Talk S) (r : Result Reply SeatFault) (t : Talk S) → SpawnsLinked answers s r t → R s.state t.state
  spawned s r t (inl h) = asked s.state (Call Spawn) false r t.state h.0
  spawned s r t (inr h) = unchanged s t h.1

  spawn_heeded : (s : Talk S) (text : List ℕ) (t : Talk S) → HeedsSpawnLink answers s text t → R s.state t.state
  spawn_heeded s text t (inl h) = spawned s h.1 t h.2
  spawn_heeded s text t (inr h) = unchanged s t h.1

  inquired : (s : S) (ps : List Process) (i : Inquiry) (text : List ℕ) (t : S) → HeedsInquiry answers stands s ps i text t → R s t
  inquired s ps (inquiry.Describe p said) text t h = equal s t h.3
  inquired s ps (inquiry.Description p) text t h = equal s t h.3
  inquired s ps (inquiry.Find x) text t h = asked s (Whereis x) false h.0 t h.1
  inquired s ps (inquiry.Wait a) text t h = asked s (Wait a) (may_wait (Wait a) ps) h.0 t h.1

  heeded : (s : Talk S) (said : Result Command LineFault) (text : List ℕ) (t : Talk S) (ended : Option ConsoleEnd)
      → Heeds answers stands stays s said text t ended → R s.state t.state
  heeded s (Ok (Ask order)) text t ended h = asked s.state order (may_wait order s.links) h.0 t.state h.1
  heeded s (Ok SpawnLink) text t ended h = spawn_heeded s text t h.0
  heeded s (Ok Quit) text t ended h = unchanged s t h.1
  heeded s (Ok Shutdown) text t ended h = unchanged s t h.1
  heeded s (Ok Status) text t ended h = unchanged s t h.3
  heeded s (Ok Fence) text t ended h = unchanged s t h.3
  heeded s (Ok Help) text t ended h = unchanged s t h.1
  heeded s (Ok (NamesFrom prefix)) text t ended h = asked s.state (Call RegisteredNames) false h.0.0 t.state h.0.1
  heeded s (Ok (Inquire i)) text t ended h = inquired s.state s.links i text t.state h.0
  heeded s (Err f) text t ended h = unchanged s t h.1

  line_answered : (line : List ℕ) (s : Talk S) (text : List ℕ) (t : Talk S) (ended : Option ConsoleEnd)
      → AnswersLine answers stands stays line s text t ended → R s.state t.state
  line_answered line s text t ended h = heeded s h.0 text t ended h.2

  all_answered : (lines : List (List ℕ)) (s : Talk S) (texts : List (List ℕ)) (t : Talk S) (ended : Option ConsoleEnd)
      → AnswersAll answers stands stays lines s texts t ended → R s.state t.state
  all_answered [] s [] t ended h = unchanged s t h.0
  all_answered [] s (o ∷ os) t ended h = absurd h
  all_answered (l ∷ ls) s [] t ended h = absurd h
  all_answered (l ∷ ls) s (o ∷ os) t ended h = elim h [
    | inl e ↦ onward s.state e.0.state t.state (line_answered l s o e.0 None e.1) (all_answered ls e.0 os t ended e.2)
    | inr e ↦ line_answered l s o t (Some e.0) e.1
  ]

  module _ (most : ℕ) (input rest old new : Option (List ℕ)) where
    stopped : (s t : Talk S) (f : StreamFault) → TalkStops answers stands stays most input rest old new s t f → R s.state t.state
    stopped s t Read h = all_answered h.0.taken s h.0.texts t None h.0.answered
    stopped s t TooManyLines h = all_answered h.0.taken s h.0.texts t None h.0.answered
    stopped s t Write h = all_answered h.1.taken s h.1.texts t h.0 h.1.answered
    stopped s t Memory h = all_answered h.1.taken s h.1.texts t h.0 h.1.answered

    pub serves_keeps : (s t : S) → Serves answers stands stays most input rest old new s t → R s t
    serves_keeps s t h = onward s h.0.state t (all_answered h.1.taken (begun s) h.1.texts h.0 h.1.ended h.1.answered)
        (exits h.0.links h.0.state t h.2)

    pub stops_keeps : (s t : S) (f : StreamFault) → Stops answers stands stays most input rest old new s t f → R s t
    stops_keeps s t f h = onward s h.0.state t (stopped (begun s) h.0 f h.1) (exits h.0.links h.0.state t h.2)
