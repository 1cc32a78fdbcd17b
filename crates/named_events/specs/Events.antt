-- What a named event is in the world that the world of named nodes is made of. It is so behind restarts, too. What an accepted
-- restart makes of the world is told by `RestartsStartAnew`.
-- x, f and t are node names, c and d creations, n, m and s nodes, es and ds events, the oldest first.
use mathlib.Core.Logic.{◌⊎◌}
use Rattle.std.specs.Prelude.{ℕ, ◌≡◌, ◌<◌, ◌≤◌, is_none, option_map, Some, None, map, List, [], ◌∷◌, ◌++◌, if◌then◌else◌}
use Rattle.protocol_model.specs.Event.{Event, NoSuchNode}
use Rattle.protocol_model.specs.World.{WorldEvent, opening_world, refusal, answers, happens}
use Rattle.protocol_model.specs.SharedLaws.{NamesNode}
use Rattle.creations.specs.NodeNames.{NamedOpening, node_of, name_of, creation_of, opening_of}
use Rattle.creations.specs.NamedWorld.{NamedWorld, NamedEvent, At, AtNode, Deliver, Restart, NamedRefusal, Plain, next_node, named_refusal, plain_accepted, named_answers, happens_named, run_named, after_events, as_events}
use Rattle.creations.specs.Restarts.{who_left}

module _ (o : NamedOpening) (w : NamedWorld) where
  -- n has started: it is the present node of its name, or an older one
  abbrev pub HasStarted : ℕ → Type 0
  HasStarted n = creation_of o n ≤ w.present (name_of o n)

  -- The named event is this event of the world: it is refused and answered as that is, where it is accepted that is what is played,
  -- and it makes of the world what that makes; the present creations stay
  pub record IsTheEvent (named : NamedEvent) (e : WorldEvent) : Type 0 where
    pub refused : named_refusal o w named ≡ option_map Plain (refusal (opening_of o) w.world e)
    pub played : plain_accepted o w named ≡ (if is_none (refusal (opening_of o) w.world e) then e ∷ [] else [])
    pub answered : named_answers o w named ≡ answers (opening_of o) w.world e
    pub world : (happens_named o w named).world ≡ happens (opening_of o) w.world e
    pub present : (happens_named o w named).present ≡ w.present

  -- it is refused for this reason, so nothing is played or answered, and nothing changes
  pub record IsRefused (named : NamedEvent) (why : NamedRefusal) : Type 0 where
    pub refused : named_refusal o w named ≡ Some why
    pub unplayed : plain_accepted o w named ≡ []
    pub unanswered : named_answers o w named ≡ []
    pub unchanged : happens_named o w named ≡ w

  -- both are refused the same, are answered the same, and make the same of the world, by the same events of it
  pub record ComeToTheSame (named other : NamedEvent) : Type 0 where
    pub refused : named_refusal o w named ≡ named_refusal o w other
    pub played : plain_accepted o w named ≡ plain_accepted o w other
    pub answered : named_answers o w named ≡ named_answers o w other
    pub happened : happens_named o w named ≡ happens_named o w other

  -- s is the oldest node of f of which a letter waits for n; where there is none, the present one
  pub record IsOldestSender (f n s : ℕ) : Type 0 where
    pub creation : ℕ
    pub first : 1 ≤ creation
    pub last : creation ≤ w.present f
    pub node : s ≡ node_of o f creation
    pub older : (d : ℕ) → 1 ≤ d → d < creation → w.world.links.queue (node_of o f d) n ≡ []
    pub waits : (w.world.links.queue s n ≡ [] → ⊥) ⊎ (creation ≡ w.present f)

  pub record EventsAreOfNodes : Type 0 where
    -- an event at a node is that event of the world, where the node has started, and the contact, if it names one
    pub at_node : (n : ℕ) (e : Event) → ((m : ℕ) → NamesNode (WorldEvent.At n e) m → HasStarted m) →
        IsTheEvent (AtNode n e) (WorldEvent.At n e)
    -- what hasn't started is no node
    pub at_none : (n m : ℕ) (e : Event) → NamesNode (WorldEvent.At n e) m → (HasStarted m → ⊥) →
        IsRefused (AtNode n e) (Plain NoSuchNode)
    -- an event at a name is that at its present node
    pub at_name : (x : ℕ) (e : Event) → ComeToTheSame (At x e) (AtNode (node_of o x (w.present x)) e)
    -- a delivery from name to name is that from the first node of the sender that has a letter to the present node of the receiver
    pub delivery : (f t : ℕ) → (s : ℕ) × IsOldestSender f (node_of o t (w.present t)) s
        × IsTheEvent (Deliver f t) (WorldEvent.Deliver s (node_of o t (w.present t)))
    -- a restart that is accepted is played as the deliveries of the notices to the new node: of each that has left, rising
    pub restart : (x : ℕ) → named_refusal o w (Restart x) ≡ None →
        plain_accepted o w (Restart x) ≡ map (λ d. WorldEvent.Deliver d (next_node o w x)) (who_left o w)
    -- whatever is refused is answered nothing and changes nothing, a restart, too
    pub refused : (e : NamedEvent) (why : NamedRefusal) → named_refusal o w e ≡ Some why → IsRefused e why

-- So it is behind all events
abbrev pub NamedEventsAreOfNodes : Type 0
NamedEventsAreOfNodes = (o : NamedOpening) (es : List NamedEvent) → EventsAreOfNodes o (after_events o es)

-- A world of named nodes opens as a world does, each name with its first node, and events happen and are played one after the other
pub record EventsFollow (o : NamedOpening) : Type 0 where
  pub world : (after_events o []).world ≡ opening_world (opening_of o)
  pub present : (x : ℕ) → (after_events o []).present x ≡ 1
  pub next : (es : List NamedEvent) (e : NamedEvent) → after_events o (es ++ e ∷ []) ≡ happens_named o (after_events o es) e
  pub unplayed : as_events o [] ≡ []
  pub plays : (es : List NamedEvent) (e : NamedEvent) →
      as_events o (es ++ e ∷ []) ≡ as_events o es ++ plain_accepted o (after_events o es) e
  -- and behind events others go on from the world that those have made
  pub behind : (es ds : List NamedEvent) → run_named o (after_events o es) ds ≡ after_events o (es ++ ds)

-- So it is in every opening
abbrev pub NamedEventsFollow : Type 0
NamedEventsFollow = (o : NamedOpening) → EventsFollow o
