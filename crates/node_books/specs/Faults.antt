-- Why a moment isn't written down.
use Rattle.std.specs.Prelude.{◌≡◌, ◌<◌, ◌-◌, ◌^◌, length}
use mathlib.Core.List.{IsPrefix}
use Rattle.node_books.specs.declared.fault.ScribeFault.{ScribeFault}
use Rattle.node_books.specs.declared.fault.ScribeFault.TheVariants.{Full, Overtaken}
use Rattle.node_books.specs.Books.{Known}

-- The book has no number for one more; or it goes on behind what was known of it
abbrev pub IsWhy : ScribeFault → Known → Type 0
IsWhy Full s = length s.log ≡ 2 ^ 64 - 1
IsWhy (Overtaken all) s = (all.book ≡ s.book) × IsPrefix s.log all.log × (length s.log < length all.log)
