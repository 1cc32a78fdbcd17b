-- What a log stands for of which no step is kept.
use Rattle.std.specs.Prelude.{ℕ, ◌-◌, ◌^◌, Option, None, Some, List, [], ◌∷◌, ◌++◌, map}
use Rattle.node_log.specs.declared.forgotten_log.LastStep.{LastStep}
use Rattle.node_log.specs.Entries.{SeatedEntry, event_at}

-- it has room for a step more where there were fewer than these
abbrev pub most_steps : ℕ
most_steps = 2 ^ 64 - 1

-- the step that was put last, as a log of this node has it
abbrev pub step_of : ℕ → LastStep → SeatedEntry
step_of node s = record { stamp = s.stamp; seat = s.seat; event = event_at node s.event; answers = s.answers.items }

-- all steps: those before the last, and the last
abbrev pub steps_of : ℕ → List (LastStep × Unit {0}) → Option LastStep → List SeatedEntry
steps_of node before None = []
steps_of node before (Some last) = map (λ p. step_of node p.0) before ++ step_of node last ∷ []
