-- What a lock table says to one that asks, and what it has then.
use Rattle.std.specs.Prelude.{◌≡◌, true, Option, Some, None, if◌then◌else◌}
use Rattle.registry_model.specs.Process.{Process}
use Rattle.protocol_model.specs.Letter.{Id}
use Rattle.protocol_model.specs.LockTable.{Locks, count, is_free_for, grant}
use Rattle.lock_table.specs.declared.verdict.Verdict.{Verdict}
use Rattle.lock_table.specs.declared.verdict.Verdict.TheVariants.{Grant, Refuse}
use Rattle.lock_table.specs.Ids.{requester_of}

-- granted, unless a lock of some id keeps the holder from it
abbrev pub verdict_of : Option Id → Verdict
verdict_of None = Grant
verdict_of (Some id) = Refuse (requester_of id)

-- one grant more, where it is free for the holder
abbrev pub asked : Id → Process → Locks → Locks
asked id p t = if is_free_for id p t then grant id p t else t

-- the holder may have the lock, and has it not yet
abbrev pub IsFirstGrant : Id → Process → Locks → Type 0
IsFirstGrant id p t = (is_free_for id p t ≡ true) × (count id p t ≡ 0)
