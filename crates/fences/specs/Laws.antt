-- The law of fences: who holds a resource later has the greater number.
use Rattle.std.specs.Prelude.{ℕ, true, ◌≡◌, ◌⊎◌, ◌<◌, ◌↔◌, List, ◌∷◌, ◌++◌}
use Rattle.registry_model.specs.declared.limits.TheConstants.{MOST_NODES}
use Rattle.registry_model.specs.Table.{Table}
use Rattle.protocol_model.specs.World.{Opening, in_world}
use Rattle.closings.specs.Alone.{LogEntry}
use Rattle.closings.specs.Merging.{Step, IsMerged}
use Rattle.closings.specs.Laws.{ConsistentEnds}
use Rattle.fences.specs.Grants.{IsRun, fence, ArePlaces, Grant, RunsAt, IsRequested, IsLater, AreRivals, ComesFirst}

-- numbers are ordered by stamp, and those of one stamp by place
abbrev pub FencesAreOrdered : Type 0
FencesAreOrdered = (place : ℕ → ℕ) (s t : Step) → place s.node < MOST_NODES → place t.node < MOST_NODES →
    (fence place s < fence place t)
    ↔ ((s.entry.stamp < t.entry.stamp) ⊎ ((s.entry.stamp ≡ t.entry.stamp) × (place s.node < place t.node)))

-- consistent ends, merged into one run, are a run
abbrev pub MergedEndsAreRuns : Type 0
MergedEndsAreRuns = (o : Opening) (logs : ℕ → List LogEntry) (tables : ℕ → Table) (ss : List Step) →
    ConsistentEnds o logs tables → IsMerged logs ss → IsRun o ss

-- where places rise as nodes do, numbers rise along a run
abbrev pub FencesRise : Type 0
FencesRise = (o : Opening) (place : ℕ → ℕ) (before between later : List Step) (s t : Step) → ArePlaces o place →
    ((a b : ℕ) → in_world o a ≡ true → in_world o b ≡ true → a < b → place a < place b) →
    IsRun o (before ++ (s ∷ between ++ t ∷ later)) → fence place s < fence place t

-- and whatever the places, those of one node rise along it
abbrev pub OwnFencesRise : Type 0
OwnFencesRise = (o : Opening) (place : ℕ → ℕ) (before between later : List Step) (s t : Step) → s.node ≡ t.node →
    IsRun o (before ++ (s ∷ between ++ t ∷ later)) → fence place s < fence place t

-- Where a grant asked a node that runs when it is answered, that node took its request before, and has had the lock for its holder
-- since
abbrev pub GrantsAreRequested : Type 0
GrantsAreRequested = (o : Opening) (ss : List Step) (g : Grant o ss) (c : ℕ) → IsRun o ss → g.tries.last.asks c ≡ true →
    RunsAt g c → IsRequested g c

-- Of two grants of one resource under different requesters that asked a common node, which runs when the later is answered, the
-- later has the greater stamp, and so the greater number, whatever the places
abbrev pub LaterGrantsAreGreater : Type 0
LaterGrantsAreGreater = (o : Opening) (place : ℕ → ℕ) (ss : List Step) (g h : Grant o ss) (c : ℕ) → ArePlaces o place →
    IsRun o ss → AreRivals g h c → RunsAt h c → IsLater g h →
    (g.step.entry.stamp < h.step.entry.stamp) × (fence place g.step < fence place h.step)

-- And where it runs when each is answered, they have it there in turn, first the one with the lesser number
abbrev pub GrantsAreInTurn : Type 0
GrantsAreInTurn = (o : Opening) (place : ℕ → ℕ) (ss : List Step) (g h : Grant o ss) (c : ℕ) → ArePlaces o place →
    IsRun o ss → AreRivals g h c → RunsAt g c → RunsAt h c →
    ((fence place g.step < fence place h.step) × ComesFirst g h c)
    ⊎ ((fence place h.step < fence place g.step) × ComesFirst h g c)
