-- Lock calls as the protocol has them.
use Rattle.protocol_model.specs.Node.{LockPhase, LockCall as AnyCall}
use Rattle.term.specs.NodeSets.{set_of}
use Rattle.lock_table.specs.Ids.{id_of}
use Rattle.locker.specs.RoundState.{seen}
use Rattle.transaction.specs.Calls.{target_of, retries_of}
use Rattle.lock_calls.specs.declared.call.CallPhase.{CallPhase}
use Rattle.lock_calls.specs.declared.call.CallPhase.TheVariants.{Asking, Waiting, Deleting}
use Rattle.lock_calls.specs.declared.call.LockCall.{LockCall}

abbrev pub phase_of : CallPhase → LockPhase
phase_of (Asking round) = LockPhase.Asking (seen round)
phase_of Waiting = LockPhase.Waiting
phase_of (Deleting owing) = LockPhase.Deleting (set_of owing)

abbrev pub as_call : LockCall → AnyCall
as_call c = record {
  holder = c.holder;
  number = c.number;
  id = id_of c.id;
  target = target_of c.nodes;
  retries = retries_of c.retries;
  phase = phase_of c.phase;
}
