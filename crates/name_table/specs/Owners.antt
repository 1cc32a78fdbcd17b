-- The names of one process.
use Rattle.std.specs.Prelude.{Option, Some, None, [], ◌∷◌, if◌then◌else◌}
use Rattle.registry_model.specs.Process.{Text, Process, is_process}
use Rattle.registry_model.specs.Table.{Table}

-- the least name that p owns: the first, since names rise
abbrev pub name_of : Process → Table → Option Text
name_of p [] = None
name_of p (e ∷ t) = if is_process e.owner p then Some e.name else name_of p t
