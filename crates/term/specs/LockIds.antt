-- What the ids of locks are made of.
use Rattle.std.specs.Prelude.{[], ◌∷◌}
use Rattle.registry_model.specs.Process.{Text, text_of}

-- the text `global`, the resource under which the registrars of the nodes agree on names
unfoldable pub global_text : Text
global_text = text_of (103 ∷ 108 ∷ 111 ∷ 98 ∷ 97 ∷ 108 ∷ [])
