-- The entries that a world keeps, and what is kept of them.
use Rattle.std.specs.Prelude.{ℕ, ◌==◌, List, [], ◌∷◌, if◌then◌else◌}
use Rattle.transaction.specs.declared.op.NameCall.{NameCall}
use Rattle.node_events.specs.declared.events.Entry.{Entry}
use Rattle.node_events.specs.declared.events.Entry.TheVariants as at_node
use Rattle.node_events.specs.declared.events.Look.{Look}
use Rattle.node_events.specs.declared.events.Reply.{Reply}
use Rattle.world_history.specs.declared.entered.Entered.{Entered}
use Rattle.world_history.specs.declared.entry.HistoryEntry.{HistoryEntry}
use Rattle.world_history.specs.declared.kept.KeptCall.{KeptCall}
use Rattle.world_history.specs.declared.kept.KeptCall.TheVariants.{Register, ReRegister, Unregister}
use Rattle.world_history.specs.declared.kept.KeptReply.{KeptReply}
use Rattle.world_history.specs.declared.kept.KeptReply.TheVariants.{Yes, No, Ok, UnknownNode, True, False, Joined, NotMember, ContactLeft, Pid, Undefined, Names, Notices as AllNotices}
use Rattle.world_history.specs.declared.kept.Kept.{Kept}
use Rattle.world_history.specs.declared.kept.Kept.TheVariants.{Name, Strike, Join, Done, Exit, Left, Told, Whereis, RegisteredNames as AllNames, Notices as NoticesOf, Restart, Whole}

-- the call that is kept
abbrev pub call_in : KeptCall → NameCall
call_in (Register pair) = NameCall.Register pair
call_in (ReRegister pair) = NameCall.ReRegister pair
call_in (Unregister x) = NameCall.Unregister x

-- the reply that is kept
abbrev pub reply_in : KeptReply → Reply
reply_in Yes = Reply.Yes
reply_in No = Reply.No
reply_in Ok = Reply.Ok
reply_in UnknownNode = Reply.UnknownNode
reply_in True = Reply.True
reply_in False = Reply.False
reply_in Joined = Reply.Joined
reply_in NotMember = Reply.NotMember
reply_in ContactLeft = Reply.ContactLeft
reply_in (Pid p) = Reply.Pid p
reply_in Undefined = Reply.Undefined
reply_in (Names list) = Reply.Names list.value
reply_in (AllNotices list) = Reply.Notices list.value

-- an entry of a node, where the join that it decides for another node has this number
abbrev pub numbered : ℕ → Entry → HistoryEntry
numbered number (at_node.Name a k c r) = HistoryEntry.Name a k c r
numbered number (at_node.Strike p) = HistoryEntry.Strike p
numbered number (at_node.Exit p) = HistoryEntry.Exit p
numbered number (at_node.Done a) = HistoryEntry.Done a
numbered number (at_node.Read a l r) = HistoryEntry.Read a l r
numbered number (at_node.Left a) = HistoryEntry.Left a
numbered number (at_node.Told a d) = HistoryEntry.Told a d
numbered number (at_node.Joined j m) = HistoryEntry.Join j number m Reply.Joined
numbered number (at_node.NotMember j m) = HistoryEntry.Join j number m Reply.NotMember
numbered number (at_node.ContactLeft j k m) = HistoryEntry.Join j k m Reply.ContactLeft

-- so it is kept whole
abbrev pub entered_in : Entered → HistoryEntry
entered_in e = numbered e.number e.entry

-- the entry that is kept
abbrev pub entry_in : Kept → HistoryEntry
entry_in (Name d) = HistoryEntry.Name d.value.node.value d.value.number (call_in d.value.call) (reply_in d.value.reply)
entry_in (Strike p) = HistoryEntry.Strike p
entry_in (Join j k m r) = HistoryEntry.Join j.value k m.value (reply_in r)
entry_in (Done a) = HistoryEntry.Done a.value
entry_in (Exit p) = HistoryEntry.Exit p
entry_in (Left a) = HistoryEntry.Left a.value
entry_in (Told a d) = HistoryEntry.Told a.value d.value
entry_in (Whereis a x r) = HistoryEntry.Read a.value (Look.Whereis x) (reply_in r)
entry_in (AllNames a r) = HistoryEntry.Read a.value Look.RegisteredNames (reply_in r)
entry_in (NoticesOf a p r) = HistoryEntry.Read a.value (Look.Notices p) (reply_in r)
entry_in (Restart a) = HistoryEntry.Restart a.value
entry_in (Whole e) = entered_in e.value

-- the nodes listed, where the first that is the older one is replaced
abbrev pub replaced : ℕ → ℕ → List ℕ → List ℕ
replaced older next [] = []
replaced older next (c ∷ nodes) = if c == older then next ∷ nodes else c ∷ replaced older next nodes
