-- The texts that are kept of names.
use Rattle.std.specs.Prelude.{ℕ, List, string_bytes}
use Rattle.world_history.specs.declared.kept_name.KeptText.{KeptText}
use Rattle.world_history.specs.declared.kept_name.KeptText.TheVariants.{Short, Long}

-- the bytes of a text
abbrev pub bytes_in : KeptText → List ℕ
bytes_in (Short s) = s.bytes
bytes_in (Long s) = string_bytes s
