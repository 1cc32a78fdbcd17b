-- What holds a lock call up that waits. es: the events so far; w: the world that they made; a: a node; c and d: lock calls that wait
-- there; q: a process; x: a node that is asked.
use Rattle.std.specs.Prelude.{ℕ, Bool, true, false, ◌&&◌, ◌||◌, ◌==◌, ◌≡◌, ◌≤◌, nat_lt, List}
use Rattle.registry_model.specs.Process.{Process}
use Rattle.protocol_model.specs.Round.{greatest}
use Rattle.protocol_model.specs.Letter.{Id, is_id, is_resource}
use Rattle.protocol_model.specs.LockTable.{last_count}
use Rattle.protocol_model.specs.Node.{LockCall}
use Rattle.protocol_model.specs.World.{Opening, World, WorldEvent}
use Rattle.protocol_model.specs.ClientLocks.{holds_count, Holds}
use Rattle.waiting_lock_calls.specs.Retried.{asks, IsRival}

-- whom the call asks first: the boss of its round
abbrev pub boss_of : Opening → World → ℕ → LockCall → ℕ
boss_of o w a c = greatest o.bound (asks w a c)

-- d comes before c: its boss is less, or the same and its process is
abbrev pub comes_before : Opening → World → ℕ → LockCall → LockCall → Bool
comes_before o w a d c =
    nat_lt (boss_of o w a d) (boss_of o w a c)
    || (boss_of o w a d == boss_of o w a c) && nat_lt d.holder.serial c.holder.serial

-- The call is held up by a lock: where it asks, its resource is held under another requester, or its process holds the lock as often
-- as can be. Or it is held up by a rival before it, which is held up itself
pub data HeldUp (o : Opening) (es : List WorldEvent) (w : World) (a : ℕ) : LockCall → Type 0 where
  Taken : (c : LockCall) (x : ℕ) (q : Process) (i : Id) → asks w a c x ≡ true → Holds o es q i x → is_resource i c.id ≡ true →
      is_id i c.id ≡ false → HeldUp o es w a c
  Full : (c : LockCall) (x : ℕ) → asks w a c x ≡ true → last_count ≤ holds_count o es c.holder c.id x → HeldUp o es w a c
  Behind : (c d : LockCall) → IsRival w a c d → comes_before o w a d c ≡ true → HeldUp o es w a d → HeldUp o es w a c
