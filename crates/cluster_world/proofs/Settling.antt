-- Events that are played as each comes next, and the deliveries of a `settle`, which end.
use Rattle.std.proofs.Common.{ℕ, zero, suc, Bool, true, false, ◌≡◌, ◌<◌, Option, Some, None, List, [], ◌∷◌, ◌++◌, get_or, length, refl, sym, ap, subst, ◌∙◌, arith}
use Rattle.std.specs.Prelude.{MatchBool}
use Rattle.std.proofs.lemmas.List.{length-map, map-append}
use Rattle.getting_through.specs.NodeNames.{NamedOpening, opening_of as all_creations}
use Rattle.getting_through.specs.NamedWorld.{NamedWorld, NamedEvent, named_refusal, happens_named, run_named, after_events}
use Rattle.getting_through.specs.NamedScript.{next_named, named_deliveries_left}
use Rattle.getting_through.specs.Restarts.{IsUp}
use Rattle.getting_through.specs.Lifted.{events_played}
use Rattle.getting_through.specs.Settling.{SettlesByName}
use Rattle.getting_through.specs.Answering.{DeletionsAreAnswered}
use Rattle.getting_through.specs.NamedNoDeadEnd.{named_work}
use Rattle.getting_through.specs.QuietWorlds.{IsAtRest}
use Rattle.getting_through.proofs.Settling.{settling_delivers_the_first}
use Rattle.getting_through.proofs.NamedDeliveries.{deliveries_by_names_lower}
use Rattle.getting_through.proofs.NamedQuiet.{quiet_names_rest, quiet_names_answer}
use Rattle.term.specs.Nodes.{text_in, name_of}
use Rattle.term.proofs.NodePlaces.{place-Some}
use Rattle.link.specs.MeshState.{place}
use Rattle.node_core.specs.declared.Answer.{Answer}
use Rattle.world_events.specs.declared.events.WorldEvent.{WorldEvent}
use Rattle.world_events.specs.declared.events.WorldEvent.TheVariants.{Deliver}
use Rattle.world_events.specs.Events.{named_event}
use Rattle.cluster_world.specs.declared.admission.Delivery.{Delivery}
use Rattle.cluster_world.specs.WorldState.{WorldState, nodes_of}
use Rattle.cluster_world.specs.Agreeing.{Agrees, IsRunOf}
use Rattle.cluster_world.specs.Playing.{Keeps, Played, WaitsOn, events_of}
use Rattle.cluster_world.specs.Seen.{names_of, named}
use Rattle.cluster_world.specs.Settling.{IsNextLetter, HasNext, DeliversInto, AreNext, PlaysOn, GoesOn, Settles}
use Rattle.cluster_world.specs.Whole.{IsWhole}
use Rattle.cluster_world.proofs.Agreeing.{agrees}
use Rattle.cluster_world.proofs.Locks.{locks_behind}
use Rattle.cluster_world.proofs.Leftovers.{leaves_nothing}
use Rattle.cluster_world.proofs.Running.{went_nowhere, stands_still, went_one, went_along}
use Rattle.cluster_world.proofs.Steps.{core_name}
use Rattle.getting_through.specs.Worlds.{IsQuiet}
use Rattle.getting_through.specs.WorldsOfNames.{of_names}

-- the deliveries of `settle` from a world on
module _ (o : NamedOpening) where
  -- the next delivery, and those behind it
  pub settle-next : (m : ℕ) (w : NamedWorld) (e : NamedEvent) → next_named o w ≡ Some e → named_deliveries_left o (suc m) w ≡ e
      ∷ named_deliveries_left o m (happens_named o w e)
  settle-next m w e h = ap (λ (x : Option NamedEvent). elim x as (λ _. List NamedEvent)
      [ None ↦ [] | Some e ↦ e ∷ named_deliveries_left o m (happens_named o w e) ]) h

  -- none, where no letter waits
  pub settle-none : (m : ℕ) (w : NamedWorld) → next_named o w ≡ None → named_deliveries_left o m w ≡ []
  settle-none zero w h = refl
  settle-none (suc m) w h = ap (λ (x : Option NamedEvent). elim x as (λ _. List NamedEvent)
      [ None ↦ [] | Some e ↦ e ∷ named_deliveries_left o m (happens_named o w e) ]) h

-- events behind others
pub are_next-append : (o : NamedOpening) (next : NamedWorld → Option NamedEvent) (w : NamedWorld) (es ds : List NamedEvent)
    → AreNext o next w es → AreNext o next (run_named o w es) ds → AreNext o next w (es ++ ds)
are_next-append o next w [] ds all more = more
are_next-append o next w (e ∷ es) ds all more = (all.0, are_next-append o next (happens_named o w e) es ds all.1 more)

-- where no letter waits behind events
module _ (o : NamedOpening) (es : List NamedEvent) (w : NamedWorld) (made : w ≡ after_events o es) (none : next_named o w ≡ None) where
  L : SettlesByName o es w
  L = subst (SettlesByName o es) (sym made) (settling_delivers_the_first o es)

  pub quiet : IsQuiet (of_names o) w
  quiet = L.quiet.0 (L.none.0 none)

  pub quiet_rests : IsAtRest (IsUp o w) (all_creations o) w.world
  quiet_rests = subst (λ (v : NamedWorld). IsQuiet (of_names o) v → IsAtRest (IsUp o v) (all_creations o) v.world) (sym made)
      (quiet_names_rest o es) quiet

  pub quiet_answers : DeletionsAreAnswered (IsUp o w) (events_played o es) w.world
  quiet_answers = subst (λ (v : NamedWorld). IsQuiet (of_names o) v → DeletionsAreAnswered (IsUp o v) (events_played o es) v.world)
      (sym made) (quiet_names_answer o es) quiet

-- a delivery that was played leaves less work
pub delivery_lowers : (f t : ℕ) (old new : WorldState) (given now : List Answer) → IsWhole old → Played (Deliver f t) old new given now
    → named_work (names_of new) (named new) < named_work (names_of old) (named old)
delivery_lowers f t old new given now whole P = subst (λ (k : ℕ). k < named_work o (named old)) (sym made)
    (subst (λ (v : NamedWorld). named_refusal o v e ≡ None → named_work o (happens_named o v e) < named_work o v)
    (sym whole.reached) ((deliveries_by_names_lower o whole.events).lowers (text_in f) (text_in t)) P.accepted)
  where
    o : NamedOpening
    o = names_of old

    e : NamedEvent
    e = named_event (Deliver f t)

    made : named_work (names_of new) (named new) ≡ named_work o (happens_named o (named old) e)
    made = ap (λ (p : NamedOpening). named_work p (named new)) P.names ∙ ap (named_work o) P.happens

module _ (next : NamedOpening → NamedWorld → Option NamedEvent) where
  -- nothing was played yet
  pub plays_nothing : (h : WorldState) (given : List Answer) → PlaysOn next h h given given
  plays_nothing h given = record { events = []; are = tt; played = went_nowhere h given }

  -- nothing more was played
  pub plays_still : (old mid new : WorldState) (given now : List Answer) → PlaysOn next old mid given now → named new ≡ named mid
      → PlaysOn next old new given now
  plays_still old mid new given now P same = record {
    events = P.events;
    are = P.are;
    played = stands_still P.events old mid new given now P.played same;
  }

  -- the next event was played
  pub plays_one : (e : WorldEvent) (old new : WorldState) (given now : List Answer) → next (names_of old) (named old) ≡ Some (named_event e)
      → Played e old new given now → PlaysOn next old new given now
  plays_one e old new given now first P =
      record { events = e ∷ []; are = (first, tt); played = went_one e old new given now P }

  -- others were played behind those
  pub plays_along : (old mid new : WorldState) (given before now : List Answer) → Keeps old mid → PlaysOn next old mid given before
      → PlaysOn next mid new before now → PlaysOn next old new given now
  plays_along old mid new given before now K P Q = record {
    events = P.events ++ Q.events;
    are = subst (AreNext o (next o) (named old)) (sym (map-append named_event P.events Q.events))
        (are_next-append o (next o) (named old) (events_of P.events) (events_of Q.events) P.are
        (subst (λ (w : NamedWorld). AreNext o (next o) w (events_of Q.events)) P.played.world
        (subst (λ (p : NamedOpening). AreNext p (next p) (named mid) (events_of Q.events)) K.names Q.are)));
    played = went_along P.events Q.events old mid new given before now P.played K Q.played;
  }
    where
      o : NamedOpening
      o = names_of old

  -- and so all holds behind them
  pub goes_on : (old new : WorldState) (now : List Answer) → Keeps old new → PlaysOn next old new [] now → GoesOn next old new now
  goes_on old new now K P = record {
    events = P.events;
    are = P.are;
    played = P.played;
    agrees = A;
    locks = locks_behind P.events now old new A;
    leaves_nothing = leaves_nothing P.events now old new A;
  }
    where
      A : Agrees P.events now old new
      A = agrees P.events now old new K P.played.world P.played.answers

-- what is kept twice is kept
pub keeps_on : (old mid new : WorldState) → Keeps old mid → Keeps mid new → Keeps old new
keeps_on old mid new K L = record { names = L.names ∙ K.names; cluster = L.cluster ∙ K.cluster }

-- one of two facts, by a test
pub at_true : (P Q : Type 0) (b : Bool) → b ≡ true → MatchBool b P Q → P
at_true P Q true e h = h
at_true P Q false e h = absurd (cc e)

pub at_false : (P Q : Type 0) (b : Bool) → b ≡ false → MatchBool b P Q → Q
at_false P Q true e h = absurd (cc e)
at_false P Q false e h = h

-- the reader of the next letter has a core
pub has_core : (h : WorldState) → IsWhole h → (t p : ℕ) → place t (nodes_of h) ≡ Some p → p < length h.cores
has_core h whole t p e =
    let at_place : (p < length (nodes_of h)) × (get_or (nodes_of h) p 0 ≡ t) = place-Some t (nodes_of h) p e in
    omega (arith, at_place.0, ap (λ (ns : List ℕ). length ns) whole.names, length-map h.cores core_name)

-- and the protocol accepts the delivery
pub has_next : (d : Delivery) (h : WorldState) → IsNextLetter d h → HasNext h
has_next d h L = record {
  sender = name_of d.sender;
  receiver = name_of d.receiver;
  next = L.next;
  accepted = L.ready.admitted.accepted;
}

-- it doesn't matter how a world is held
pub next_still : (old new : WorldState) → Keeps old new → named new ≡ named old → HasNext old → HasNext new
next_still old new K same H = record {
  sender = H.sender;
  receiver = H.receiver;
  next = ap (λ (p : NamedOpening). next_named p (named new)) K.names ∙ ap (next_named (names_of old)) same ∙ H.next;
  accepted = ap (λ (p : NamedOpening). named_refusal p (named new) (named_event (Deliver H.sender H.receiver))) K.names
      ∙ ap (λ (w : NamedWorld). named_refusal (names_of old) w (named_event (Deliver H.sender H.receiver))) same ∙ H.accepted;
}

-- one delivery more
pub delivers_more : (old mid new : WorldState) (given before now : List Answer) → Keeps old mid → PlaysOn next_named old mid given before
    → DeliversInto mid new before now → PlaysOn next_named old new given now
delivers_more old mid new given before now K P D = plays_along next_named old mid new given before now K P
    (plays_one next_named (Deliver D.sender D.receiver) mid new before now D.next D.played)

-- all were made, and the world is settled
pub settles : (old new : WorldState) (now : List Answer) → IsWhole old → Keeps old new → PlaysOn next_named old new [] now
    → WaitsOn None new → Settles old new now
settles old new now whole K P none = record {
  goes_on = G;
  ended = none;
  rests = quiet_rests (names_of new) (whole.events ++ events_of G.events) (named new) (made whole.events whole.reached) none;
  answered = λ before is. quiet_answers (names_of new) (before ++ events_of G.events) (named new) (made before is) none;
}
  where
    G : GoesOn next_named old new now
    G = goes_on next_named old new now K P

    made : (before : List NamedEvent) → IsRunOf before old → named new ≡ after_events (names_of new) (before ++ events_of G.events)
    made before is = (G.agrees before is).0.is_run
