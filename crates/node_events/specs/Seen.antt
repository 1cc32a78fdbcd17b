-- What a node hears, answers and enters, as the protocol has it.
use Rattle.std.specs.Prelude.{ℕ, Bool, true, false, Option, Some, None}
use Rattle.registry_model.specs.Call.{NameCall as AnyNameCall, Look as AnyLook, Reply as AnyReply}
use Rattle.registry_model.specs.History.{Entry as AnyEntry}
use Rattle.protocol_model.specs.Event.{Call as AnyCall, Answer as AnyAnswer, Refusal as AnyRefusal}
use Rattle.exit_watch.specs.declared.faults.WatchFault.{WatchFault}
use Rattle.exit_watch.specs.declared.faults.WatchFault.TheVariants as fault
use Rattle.transaction.specs.Calls.{target_of, retries_of}
use Rattle.transaction.specs.Ops.{name_call_of}
use Rattle.node_events.specs.declared.events.Answer.{Answer}
use Rattle.node_events.specs.declared.events.Call.{Call}
use Rattle.node_events.specs.declared.events.Call.TheVariants.{
  Spawn,
  Whereis,
  RegisteredNames,
  Notices,
  Register,
  ReRegister,
  Unregister,
  SetLock as SetsLock,
  DelLock as DeletesLock,
  Join as JoinBy,
}
use Rattle.node_events.specs.declared.events.Entry.{Entry}
use Rattle.node_events.specs.declared.events.Entry.TheVariants.{
  Name,
  Strike,
  Exit,
  Done,
  Read,
  Left,
  Told,
  Joined as HasJoined,
  NotMember as IsRefused,
  ContactLeft as LostContact,
}
use Rattle.node_events.specs.declared.events.Look.{Look}
use Rattle.node_events.specs.declared.events.Look.TheVariants.{
  Whereis as LooksUp,
  RegisteredNames as LooksAtAll,
  Notices as LooksAtNotices,
}
use Rattle.node_events.specs.declared.events.Reply.{Reply}
use Rattle.node_events.specs.declared.events.Reply.TheVariants.{
  Yes,
  No,
  Ok,
  UnknownNode,
  True,
  False,
  Joined,
  NotMember,
  ContactLeft,
  Pid,
  Undefined,
  Names,
  Notices as HasNotices,
}
use Rattle.node_events.specs.declared.events.StepFault.{StepFault}
use Rattle.node_events.specs.declared.events.StepFault.TheVariants.{
  NotLive,
  Busy,
  Reserved,
  UnknownNode as UnknownMember,
  AlreadyJoined,
  NoSuchProcess,
  AlreadyExited,
  SerialsSpent,
  NothingToRetry,
  HoldsLock,
  CallsSpent,
  Memory,
}

abbrev pub reply_of : Reply → AnyReply
reply_of Yes = AnyReply.Yes
reply_of No = AnyReply.No
reply_of Ok = AnyReply.Ok
reply_of UnknownNode = AnyReply.UnknownNode
reply_of True = AnyReply.True
reply_of False = AnyReply.False
reply_of Joined = AnyReply.Joined
reply_of NotMember = AnyReply.NotMember
reply_of ContactLeft = AnyReply.ContactLeft
reply_of (Pid p) = AnyReply.Pid p
reply_of Undefined = AnyReply.Undefined
reply_of (Names list) = AnyReply.Names list.names.items
reply_of (HasNotices list) = AnyReply.Notices list.notices.items

-- it is a list, so a copy takes memory
abbrev pub is_list : Reply → Bool
is_list (Names list) = true
is_list (HasNotices list) = true
is_list _ = false

abbrev pub look_of : Look → AnyLook
look_of (LooksUp x) = AnyLook.Whereis x
look_of LooksAtAll = AnyLook.RegisteredNames
look_of (LooksAtNotices p) = AnyLook.NoticesOf p

abbrev pub answer_of : Answer → AnyAnswer
answer_of s = record { node = s.node; number = s.call; reply = reply_of s.reply }

-- an entry, where the current join of j has the number `number j`
abbrev pub entry_by : (ℕ → ℕ) → Entry → AnyEntry
entry_by number (Name a k c r) = AnyEntry.Name a k (name_call_of c) (reply_of r)
entry_by number (Strike p) = AnyEntry.Strike p
entry_by number (Exit p) = AnyEntry.Exit p
entry_by number (Done a) = AnyEntry.Done a
entry_by number (Read a l r) = AnyEntry.Read a (look_of l) (reply_of r)
entry_by number (Left a) = AnyEntry.Left a
entry_by number (Told a d) = AnyEntry.Told a d
entry_by number (HasJoined j m) = AnyEntry.Join j (number j) m AnyReply.Joined
entry_by number (IsRefused j m) = AnyEntry.Join j (number j) m AnyReply.NotMember
entry_by number (LostContact j k m) = AnyEntry.Join j k m AnyReply.ContactLeft

-- no join of another node has its number yet: a node doesn't know it
abbrev pub unnumbered : ℕ → ℕ
unnumbered j = 0

abbrev pub entry_of : Entry → AnyEntry
entry_of e = entry_by unnumbered e

abbrev pub call_of : Call → AnyCall
call_of Spawn = AnyCall.Spawn
call_of (Whereis x) = AnyCall.LookUp (AnyLook.Whereis x)
call_of RegisteredNames = AnyCall.LookUp AnyLook.RegisteredNames
call_of (Notices p) = AnyCall.LookUp (AnyLook.NoticesOf p)
call_of (Register pair) = AnyCall.OnName (AnyNameCall.Register pair)
call_of (ReRegister pair) = AnyCall.OnName (AnyNameCall.ReRegister pair)
call_of (Unregister x) = AnyCall.OnName (AnyNameCall.Unregister x)
call_of (SetsLock p id nodes retries) =
    AnyCall.SetLock p id.resource id.requester (target_of nodes) (retries_of retries)
call_of (DeletesLock p id nodes) = AnyCall.DelLock p id.resource id.requester (target_of nodes)
call_of (JoinBy m) = AnyCall.JoinBy m

-- the protocol's refusal; want of memory is none of its
abbrev pub fault_of : StepFault → Option AnyRefusal
fault_of (NotLive p) = Some (AnyRefusal.NotLive p)
fault_of (Busy p) = Some (AnyRefusal.Busy p)
fault_of Reserved = Some AnyRefusal.Reserved
fault_of UnknownMember = Some AnyRefusal.UnknownNode
fault_of AlreadyJoined = Some AnyRefusal.AlreadyJoined
fault_of NoSuchProcess = Some AnyRefusal.NoSuchProcess
fault_of AlreadyExited = Some AnyRefusal.AlreadyExited
fault_of SerialsSpent = Some AnyRefusal.SerialsSpent
fault_of NothingToRetry = Some AnyRefusal.NothingToRetry
fault_of HoldsLock = Some AnyRefusal.HoldsLock
fault_of CallsSpent = Some AnyRefusal.CallsSpent
fault_of Memory = None

-- the fault of a step for the watch's
abbrev pub step_fault_of : WatchFault → StepFault
step_fault_of fault.SerialsSpent = SerialsSpent
step_fault_of fault.NoSuchProcess = NoSuchProcess
step_fault_of fault.AlreadyExited = AlreadyExited
step_fault_of fault.Memory = Memory

-- memory was refused
abbrev pub is_memory : StepFault → Bool
is_memory Memory = true
is_memory _ = false
