-- A process owns a name exactly where a first one is found.
use Rattle.std.proofs.Common.{Bool, true, false, ◌≡◌, Some, [], ◌∷◌, refl}
use Rattle.std.specs.Prelude.{is_some, if◌then◌else◌, ◌||◌}
use Rattle.registry_model.specs.Process.{Process, is_process}
use Rattle.registry_model.specs.Table.{Table, owns}
use Rattle.name_table.specs.Owners.{name_of}

pub is_some-name_of : (p : Process) (t : Table) → is_some (name_of p t) ≡ owns p t
is_some-name_of p [] = refl
is_some-name_of p (e ∷ t) = go (is_process e.owner p) (is_some-name_of p t)
  where
    go : (b : Bool) → is_some (name_of p t) ≡ owns p t → is_some (if b then Some e.name else name_of p t)
        ≡ (b || owns p t)
    go true h = refl
    go false h = h
