-- Why a letter isn't put into a tray.
use Rattle.std.specs.Prelude.{Bool, true, false, ◌≡◌}
use Rattle.link.specs.declared.faults.LinkFault.{LinkFault}
use Rattle.link.specs.declared.faults.LinkFault.TheVariants.{NoSuchNode, Memory}

-- whether the tray has its receiver tells why
abbrev pub IsUnsent : LinkFault → Bool → Type 0
IsUnsent NoSuchNode known = known ≡ false
IsUnsent Memory known = known ≡ true
IsUnsent _ known = ⊥
