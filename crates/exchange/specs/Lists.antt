-- What the processes of a node were sent, by their serials.
use Rattle.std.specs.Prelude.{ℕ, ◌==◌, Option, Some, None, List, [], ◌∷◌, ◌++◌, if◌then◌else◌}
use Rattle.std.specs.Map.{lookup}
use Rattle.registry_model.specs.Settlement.{Notice}

-- the list, if there is one
abbrev pub or_none : Option (List Notice) → List Notice
or_none None = []
or_none (Some list) = list

-- what the process of this serial was sent
abbrev pub list_under : ℕ → List (ℕ × List Notice) → List Notice
list_under serial lists = or_none (lookup (λ s. serial == s) lists)

-- a list of one process, behind which a notice came to the process of this serial
abbrev pub with_notice : ℕ → Notice → ℕ → List Notice → List Notice
with_notice to notice serial list = if to == serial then list ++ notice ∷ [] else list
