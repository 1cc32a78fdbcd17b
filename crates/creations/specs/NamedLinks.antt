-- Links by name: what the nodes of one name have sent to the present node of another, as one list.
use Rattle.std.specs.Prelude.{ℕ, true, false, ◌≡◌, ◌⊎◌, Some, None, map, flat_map, drop, List, [], ◌∷◌, ◌++◌}
use Rattle.protocol_model.specs.Letter.{Letter}
use Rattle.protocol_model.specs.Event.{EmptyLink}
use Rattle.protocol_model.specs.Turn.{sent_to}
use Rattle.protocol_model.specs.World.{WorldEvent, left, turn_of}
use Rattle.creations.specs.NodeNames.{NamedOpening, is_name, first_nodes, opening_of}
use Rattle.creations.specs.NamedWorld.{NamedWorld, NamedEvent, Deliver, Plain, present_node, sender_to, named_refusal, happens_named, after_events}
use Rattle.creations.specs.Restarts.{IsReplaced}

-- a letter, and the node that sent it
pub record Sent : Type 0 where
  pub sender : ℕ
  pub letter : Letter

-- letters of node n
abbrev pub sent_by : ℕ → List Letter → List Sent
sent_by n ls = map (λ l. record { sender = n; letter = l }) ls

module _ (o : NamedOpening) (w : NamedWorld) where
  -- the letters on the link from name to name, the oldest first: those of older nodes come before those of younger ones
  abbrev pub named_queue : ℕ → ℕ → List Sent
  named_queue f t = flat_map (λ n. sent_by n (w.world.links.queue n (present_node o w t))) (first_nodes o f (w.present f))

module _ (o : NamedOpening) (w : NamedWorld) where
  -- What a list by name says of the links of nodes
  pub record LinksAreByName : Type 0 where
    -- a delivery that is accepted takes its front
    pub front : (f t : ℕ) → named_refusal o w (Deliver f t) ≡ None →
        (l : Letter) × (ls : List Letter) × (rest : List Sent)
        × (w.world.links.queue (sender_to o w f t) (present_node o w t) ≡ l ∷ ls)
        × (named_queue o w f t ≡ record { sender = sender_to o w f t; letter = l } ∷ rest)
    -- and leaves the rest
    pub behind : (f t : ℕ) → (f ≡ t → ⊥) → named_refusal o w (Deliver f t) ≡ None →
        named_queue o (happens_named o w (Deliver f t)) f t ≡ drop 1 (named_queue o w f t)
    -- from a name to itself, too, and then behind it what the present node sends itself in that step
    pub behind_own : (t : ℕ) → named_refusal o w (Deliver t t) ≡ None →
        named_queue o (happens_named o w (Deliver t t)) t t ≡ drop 1 (named_queue o w t t)
        ++ sent_by (present_node o w t) (sent_to (present_node o w t)
        (turn_of (opening_of o) w.world (WorldEvent.Deliver (sender_to o w t t) (present_node o w t))).sends)
    -- it is refused so only where the list is empty
    pub empty : (f t : ℕ) → named_refusal o w (Deliver f t) ≡ Some (Plain EmptyLink) → named_queue o w f t ≡ []
    -- and it is where it is empty, from a name of the world to one whose present node hasn't left
    pub refused : (f t : ℕ) → is_name o f ≡ true → is_name o t ≡ true → left w.world (present_node o w t) ≡ false →
        named_queue o w f t ≡ [] → named_refusal o w (Deliver f t) ≡ Some (Plain EmptyLink)
    -- a node that was replaced sends nothing more: of what it sent the oldest letter is taken, or all vanishes with who is to read it
    pub older : (e : NamedEvent) (d t : ℕ) → IsReplaced o w d →
        (let later = (happens_named o w e).world.links.queue d t in
        (later ≡ w.world.links.queue d t) ⊎ (later ≡ drop 1 (w.world.links.queue d t)) ⊎ (later ≡ []))

-- So it is at any time
abbrev pub LinksAreAlwaysByName : Type 0
LinksAreAlwaysByName = (o : NamedOpening) (es : List NamedEvent) → LinksAreByName o (after_events o es)
