-- The serial that is left to spawn, if there is one.
use Rattle.std.proofs.Common.{ℕ, Some, None, false, ◌≡◌, ◌<◌, ◌≤◌, ◌+◌, refl, arith}
use Rattle.std.proofs.lemmas.Bool.{lt-ltb, le-ltb}
use Rattle.protocol_model.specs.Watch.{Watch, is_dead, next_serial}
use Rattle.protocol_model.specs.Event.{last_u32}
use Rattle.protocol_model.proofs.Serials.{AreDeadTo, next_serial-is, next_serial-above}
use Rattle.exit_watch.specs.WatchState.{serial_left}

module _ (w : Watch) where
  -- the serial that is left: the first that lives, where none above all serials of the type has to be looked at
  pub serial_left-some : (s : ℕ) → w.last_serial + 1 ≤ s → s ≤ last_u32 → AreDeadTo w (w.last_serial + 1) s →
      is_dead w s ≡ false → serial_left w ≡ Some s
  serial_left-some s l u dead live =
      rw (next_serial-is w s l dead live) (rw (le-ltb last_u32 s u) refl)

  pub serial_left-none : (s : ℕ) → w.last_serial + 1 ≤ s → last_u32 < s → AreDeadTo w (w.last_serial + 1) s →
      serial_left w ≡ None
  serial_left-none s l u dead = rw (lt-ltb last_u32 (next_serial w) (omega (arith, next_serial-above w s l dead))) refl
