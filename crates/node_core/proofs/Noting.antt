-- Which changes concern a watch.
use Rattle.std.proofs.Common.{false, ◌≡◌, refl}
use Rattle.registry_model.specs.Table.{Pair}
use Rattle.name_table.specs.declared.change.Change.{Change}
use Rattle.name_table.specs.declared.change.Change.TheVariants.{Put, Remove, StrikeOwner}
use Rattle.name_table.specs.Changes.{change_of, is_put}

-- what is no put here is none to the registry
pub not_put : (c : Change) → ((e : Pair) → c ≡ Put e → ⊥) → is_put (change_of c) ≡ false
not_put (Put e) none = absurd (none e refl)
not_put (Remove x) none = refl
not_put (StrikeOwner p) none = refl
