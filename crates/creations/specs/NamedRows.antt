-- Rows about node names that come back, in worlds of three numbers a name: two creations and one that is none.
use Rattle.std.specs.Prelude.{ℕ, true, ◌==◌, ◌≡◌, ◌||◌, List, [], ◌∷◌}
use Rattle.registry_model.specs.Process.{Text, Process, Nodes}
use Rattle.registry_model.specs.Table.{Rule}
use Rattle.registry_model.specs.Call.{NameCall, Reply, Whereis, Yes, Joined, ContactLeft, UnknownNode, Undefined, Pid, True, False}
use Rattle.protocol_model.specs.Node.{Times}
use Rattle.protocol_model.specs.Event.{Call, Event, Refusal, NoSuchNode, NodeLeft, EmptyLink}
use Rattle.protocol_model.specs.RowWords.{a, b, c, p, q, x, y, z, pid, owned}
use Rattle.protocol_model.specs.Check.{keeps_headline}
use Rattle.creations.specs.NodeNames.{NamedOpening, named_target, opening_of}
use Rattle.creations.specs.NamedWorld.{At, AtNode, Deliver, Restart, Plain, StillRunning, NotToldYet, CreationsSpent}
use Rattle.creations.specs.NamedScript.{NamedLine, Play, Settle, TableAt, MembersAt, NamedOutput, Said, Okay, Started, Error, Settled, TableIs, MembersAre, NamedRow, named_output, row_events}

-- the definitions compute the row: the world prints what it has to, and the test of the headline passes behind each event
pub record NamedComputes (r : NamedRow) : Type 0 where
  pub prints : named_output r ≡ r.prints
  pub keeps : keeps_headline (opening_of r.opening) (row_events r) ≡ true

-- The nodes of the names a to c, of the first two creations
abbrev pub a1 : ℕ
a1 = 0

abbrev pub a2 : ℕ
a2 = 1

abbrev pub b1 : ℕ
b1 = 3

abbrev pub b2 : ℕ
b2 = 4

abbrev pub c1 : ℕ
c1 = 6

-- the names below a bound, of which these are joined; the others are lone
abbrev pub names_joined : ℕ → Nodes → NamedOpening
names_joined n joined = record { bound = n; names = λ name. true; cluster = joined; last = 2 }

-- a is joined with b; c, where there is one, is lone
abbrev pub names_below : ℕ → NamedOpening
names_below n = names_joined n (λ name. (name == a) || (name == b))

-- The words in which rows are written
abbrev pub call : ℕ → Call → NamedLine
call name deed = Play (At name (Event.Calling deed))

abbrev pub spawn : ℕ → NamedLine
spawn name = call name Call.Spawn

abbrev pub register : ℕ → Text → Process → NamedLine
register name text owner =
    call name (Call.OnName (NameCall.Register (record { name = text; owner = owner; rule = Rule.Exit })))

abbrev pub whereis : ℕ → Text → NamedLine
whereis name text = call name (Call.LookUp (Whereis text))

-- the contact is a node
abbrev pub join : ℕ → ℕ → NamedLine
join name contact = call name (Call.JoinBy contact)

abbrev pub leave : ℕ → NamedLine
leave name = Play (At name Event.Leave)

-- a `set_lock` of node names, with this many retries
abbrev pub set_lock_at : Process → Text → Text → List ℕ → ℕ → NamedLine
set_lock_at holder resource requester nodes retries = Play (AtNode holder.node (Event.Calling
    (Call.SetLock holder resource requester (named_target (names_below 2) nodes) (Times retries))))

abbrev pub retry : ℕ → NamedLine
retry name = Play (At name Event.Retry)

abbrev pub exit : Process → NamedLine
exit process = Play (AtNode process.node (Event.Exiting process))

abbrev pub restart : ℕ → NamedLine
restart name = Play (Restart name)

abbrev pub deliver : ℕ → ℕ → NamedLine
deliver sender receiver = Play (Deliver sender receiver)

abbrev pub said : ℕ → ℕ → Reply → NamedOutput
said node number reply = Said (record { node = node; number = number; reply = reply })

abbrev pub given : Process → NamedOutput
given process = said process.node 0 (Pid process)

-- a node leaves, and its name comes back once its departure is told: with nothing of what it had, and as another node
abbrev pub name_comes_back : NamedRow
name_comes_back = record {
  opening = names_below 2;
  limit = 1000;
  lines = spawn a ∷ register a x (pid a1 1) ∷ Settle ∷ leave a ∷ restart a ∷ Settle ∷ restart b ∷ restart a ∷ spawn a ∷ whereis a x
      ∷ join a b1 ∷ Settle ∷ register b y (pid a1 1) ∷ register b y (pid a2 1) ∷ Settle ∷ TableAt a ∷ MembersAt b ∷ [];
  prints = given (pid a1 1) ∷ said a1 1 Yes ∷ Settled ∷ Okay ∷ Error (NotToldYet b1) ∷ Settled ∷ Error StillRunning ∷ Started a2
      ∷ given (pid a2 1) ∷ said a2 0 Undefined ∷ said a2 1 Joined ∷ Settled ∷ said b1 1 UnknownNode ∷ said b1 2 Yes ∷ Settled
      ∷ TableIs (owned y (pid a2 1) []) ∷ MembersAre (a2 ∷ b1 ∷ []) ∷ [];
}

-- a restart waits until each running node was told, a lone one too; a name has no more creations than there are numbers
abbrev pub restart_waits_for_all : NamedRow
restart_waits_for_all = record {
  opening = names_below 3;
  limit = 1000;
  lines = restart c ∷ leave a ∷ restart a ∷ deliver a b ∷ restart a ∷ join c a2 ∷ deliver a c ∷ restart a ∷ leave a ∷ Settle ∷ restart a
      ∷ [];
  prints = Error StillRunning ∷ Okay ∷ Error (NotToldYet b1) ∷ Error (NotToldYet c1) ∷ Error (Plain NoSuchNode) ∷ Started a2 ∷ Okay
      ∷ Settled ∷ Error CreationsSpent ∷ [];
}

-- a node that left stays known by its own text: as a contact, and where one of its processes is named
abbrev pub older_node_is_another : NamedRow
older_node_is_another = record {
  opening = names_below 3;
  limit = 1000;
  lines = spawn a ∷ exit (pid a2 1) ∷ leave a ∷ Settle ∷ restart a ∷ exit (pid a1 1) ∷ spawn a ∷ join a a1 ∷ join a b1 ∷ Settle
      ∷ MembersAt b ∷ [];
  prints = given (pid a1 1) ∷ Error (Plain NoSuchNode) ∷ Okay ∷ Settled ∷ Started a2 ∷ Error (Plain NodeLeft) ∷ given (pid a2 1)
      ∷ said a2 1 ContactLeft ∷ said a2 2 Joined ∷ Settled ∷ MembersAre (a2 ∷ b1 ∷ []) ∷ [];
}

-- a lock call by names asks the nodes that have them where it is tried: a call that waited asks the node that came back, where nobody
-- has the lock
abbrev pub retry_asks_the_new_node : NamedRow
retry_asks_the_new_node = record {
  opening = names_below 2;
  limit = 1000;
  lines = spawn b ∷ spawn b ∷ set_lock_at (pid b1 1) z p (a ∷ []) 0 ∷ Settle ∷ set_lock_at (pid b1 2) z q (a ∷ []) 1 ∷ Settle
      ∷ leave a ∷ Settle ∷ restart a ∷ join a b1 ∷ Settle ∷ retry b ∷ Settle ∷ spawn a
      ∷ set_lock_at (pid a2 1) z p (a ∷ []) 0 ∷ Settle ∷ [];
  prints = given (pid b1 1) ∷ given (pid b1 2) ∷ said b1 1 True ∷ Settled ∷ Settled ∷ Okay ∷ Settled ∷ Started a2 ∷ said a2 1 Joined
      ∷ Settled ∷ said b1 2 True ∷ Settled ∷ given (pid a2 1) ∷ said a2 2 False ∷ Settled ∷ [];
}

-- a lock call is refused while no member has one of its names: until the node that came back has joined
abbrev pub name_without_a_member : NamedRow
name_without_a_member = record {
  opening = names_below 2;
  limit = 1000;
  lines = spawn b ∷ leave a ∷ Settle ∷ set_lock_at (pid b1 1) z p (a ∷ b ∷ []) 0 ∷ restart a
      ∷ set_lock_at (pid b1 1) z p (a ∷ b ∷ []) 0 ∷ join a b1 ∷ Settle ∷ set_lock_at (pid b1 1) z p (a ∷ b ∷ []) 0 ∷ Settle ∷ [];
  prints = given (pid b1 1) ∷ Okay ∷ Settled ∷ Error (Plain Refusal.UnknownNode) ∷ Started a2 ∷ Error (Plain Refusal.UnknownNode)
      ∷ said a2 1 Joined ∷ Settled ∷ said b1 1 True ∷ Settled ∷ [];
}

-- what an older node sent and a running node hasn't read yet stays that node's: here its wish to join, which is dropped, since its
-- reader was told of it by a welcome, and its `Down`
abbrev pub older_letters_are_dropped : NamedRow
older_letters_are_dropped = record {
  opening = names_joined 3 (λ name. name == a);
  limit = 1000;
  lines = join b c1 ∷ leave b ∷ deliver b a ∷ join c a1 ∷ deliver c a ∷ deliver a a ∷ deliver a a ∷ deliver a c ∷ restart b
      ∷ deliver b c ∷ deliver b c ∷ deliver b c ∷ Settle ∷ MembersAt c ∷ MembersAt b ∷ [];
  prints = Okay ∷ said c1 1 Joined ∷ Started b2 ∷ Error (Plain EmptyLink) ∷ Settled ∷ MembersAre (a1 ∷ c1 ∷ [])
      ∷ MembersAre (b2 ∷ []) ∷ [];
}
