-- Runs by names: each creation of a name is a node of its own in them.
use Rattle.std.specs.Prelude.{◌≡◌, List, [], ◌∷◌}
use Rattle.protocol_model.specs.World.{Opening, World, place, happens, answers, opening_world}
use Rattle.closings.specs.Merging.{Step, IsInOrder, happening, events_in}
use Rattle.creations.specs.NodeNames.{NamedOpening, opening_of}
use Rattle.creations.specs.NamedWorld.{NamedEvent, as_events}
use Rattle.fences.specs.Grants.{IsRun}

-- each of these steps is one of its own node, and is answered as the world answers it
abbrev pub AreTold : Opening → World → List Step → Type 0
AreTold o w [] = Unit {0}
AreTold o w (s ∷ ss) = (place (happening s) ≡ s.node) × (s.entry.answers ≡ answers o w (happening s))
    × AreTold o (happens o w (happening s)) ss

-- a run by names: steps by their stamps, and those of one stamp by their nodes, which are what these events of named nodes are in
-- the world; a restart is there as the deliveries of its notices
pub record IsNamedRun (o : NamedOpening) (es : List NamedEvent) (ss : List Step) : Type 0 where
  pub order : IsInOrder ss
  pub events : events_in ss ≡ as_events o es
  pub told : AreTold (opening_of o) (opening_world (opening_of o)) ss

-- it is a run
abbrev pub RunsByNamesAreRuns : Type 0
RunsByNamesAreRuns = (o : NamedOpening) (es : List NamedEvent) (ss : List Step) → IsNamedRun o es ss → IsRun (opening_of o) ss
