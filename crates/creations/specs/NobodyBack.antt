-- Until a name comes back a world of named nodes is that of the first node of each name.
use Rattle.std.specs.Prelude.{ℕ, true, ◌==◌, ◌&&◌, ◌*◌, ◌≡◌, Bool, option_map, List, map}
use Rattle.std.specs.List.{list_all}
use Rattle.protocol_model.specs.World.{Opening, World, WorldEvent, in_world, place, other, left, opening_world, refusal, answers, run}
use Rattle.creations.specs.NodeNames.{NamedOpening, span, name_of, creation_of}
use Rattle.creations.specs.NamedWorld.{NamedWorld, NamedEvent, AtNode, Deliver, Plain, named_refusal, named_answers, after_events}

-- the world of the first nodes alone, with the same numbers
abbrev pub first_opening : NamedOpening → Opening
first_opening o = record {
  bound = o.bound * span o;
  nodes = λ n. o.names (name_of o n) && (creation_of o n == 1);
  cluster = λ n. o.cluster (name_of o n) && (creation_of o n == 1);
}

-- an event of it, in the world of named nodes
abbrev pub as_named : NamedOpening → WorldEvent → NamedEvent
as_named o (WorldEvent.At n e) = AtNode n e
as_named o (WorldEvent.Deliver f t) = Deliver (name_of o f) (name_of o t)

-- the nodes of an event are first nodes of the world
abbrev pub is_among_first : NamedOpening → WorldEvent → Bool
is_among_first o e = in_world (first_opening o) (place e) && in_world (first_opening o) (other e)

module _ (o : NamedOpening) (es : List WorldEvent) where
  -- the world of first nodes behind these events, and that of named nodes behind the same ones
  abbrev pub first_world : World
  first_world = run (first_opening o) (opening_world (first_opening o)) es

  abbrev pub named_world : NamedWorld
  named_world = after_events o (map (as_named o) es)

  -- They are alike: each name has its first node still, and what can be seen of the nodes is the same; so is what an event comes to
  pub record AreAlike : Type 0 where
    pub present : (x : ℕ) → named_world.present x ≡ 1
    pub nodes : (n : ℕ) → named_world.world.node n ≡ first_world.node n
    pub queues : (f t : ℕ) → creation_of o t ≡ 1 → named_world.world.links.queue f t ≡ first_world.links.queue f t
    pub departures : (n : ℕ) → left named_world.world n ≡ left first_world n
    pub history : named_world.world.history ≡ first_world.history
    pub refusals : (e : WorldEvent) → is_among_first o e ≡ true →
        named_refusal o named_world (as_named o e) ≡ option_map Plain (refusal (first_opening o) first_world e)
    pub answers : (e : WorldEvent) → is_among_first o e ≡ true →
        named_answers o named_world (as_named o e) ≡ answers (first_opening o) first_world e

-- So it is behind all events of first nodes
abbrev pub NobodyCameBack : Type 0
NobodyCameBack = (o : NamedOpening) (es : List WorldEvent) → list_all (is_among_first o) es ≡ true → AreAlike o es
