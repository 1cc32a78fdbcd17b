-- A step is put behind the others of a log of which none is kept.
use Rattle.std.proofs.Common.{ℕ, ◌≡◌, Some, List, [], ◌∷◌, ◌++◌, ap}
use Rattle.std.proofs.lemmas.List.{map-append}
use Rattle.node_log.specs.declared.forgotten_log.LastStep.{LastStep}
use Rattle.node_log.specs.Entries.{SeatedEntry}
use Rattle.node_log.specs.Forgotten.{step_of, steps_of}

pub pushed : (node : ℕ) (before : List (LastStep × Unit {0})) (last step : LastStep)
    → steps_of node (before ++ (last, tt) ∷ []) (Some step) ≡ steps_of node before (Some last) ++ step_of node step ∷ []
pushed node before last step = ap (λ (steps : List SeatedEntry). steps ++ step_of node step ∷ [])
    (map-append (λ p. step_of node p.0) before ((last, tt) ∷ []))
