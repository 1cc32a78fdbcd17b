-- The ids of locks as the protocol has them.
use Rattle.std.specs.Prelude.{◌==◌, if◌then◌else◌}
use Rattle.registry_model.specs.Process.{Text}
use Rattle.protocol_model.specs.Letter.{Id, Global, Client}
use Rattle.term.specs.declared.lock_id.LockId.{LockId}
use Rattle.term.specs.LockIds.{global_text}

-- the resource `global` under a requester, which is a node, or another resource
abbrev pub id_of : LockId → Id
id_of lock = if lock.resource == global_text then Global lock.requester else Client lock.resource lock.requester

-- in whose name a lock of this id is held
abbrev pub requester_of : Id → Text
requester_of (Global a) = a
requester_of (Client r q) = q

-- what the lock is on
abbrev pub resource_of : Id → Text
resource_of (Global a) = global_text
resource_of (Client r q) = r
