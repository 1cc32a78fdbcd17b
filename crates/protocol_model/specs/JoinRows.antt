-- Rows about lone nodes that join.
use Rattle.std.specs.Prelude.{[], ◌∷◌}
use Rattle.registry_model.specs.Call.{Yes, Ok, True, Joined, NotMember, ContactLeft, Pid, Undefined, Names}
use Rattle.protocol_model.specs.Event.{Refusal, NotLive}
use Rattle.protocol_model.specs.Script.{Row, Settle, TableAt, MembersAt, Okay, Error, Settled, TableIs, MembersAre}
use Rattle.protocol_model.specs.RowWords.{row, world_of, a, b, c, d, e, q, r, x, y, z, pid, spawn, register, re_register, unregister, whereis, names, set_lock, del_lock, join, deliver, retry, exit, leave, said, shown, given, owned}

-- in a clash the process on the lesser node keeps the name: here the cluster's
abbrev pub cluster_wins_the_clash : Row
cluster_wins_the_clash = row (world_of 4 (a ∷ b ∷ []) (d ∷ []))
    (spawn a ∷ spawn d ∷ spawn d ∷ register a x (pid a 1) ∷ register d x (pid d 1) ∷ register d z (pid d 2) ∷ Settle
    ∷ join d a ∷ Settle ∷ TableAt a ∷ TableAt b ∷ TableAt d ∷ MembersAt b ∷ exit (pid d 1) ∷ [])
    (given (pid a 1) ∷ given (pid d 1) ∷ given (pid d 2) ∷ said a 1 Yes ∷ said d 1 Yes ∷ said d 2 Yes ∷ Settled
    ∷ said d 3 Joined ∷ Settled ∷ TableIs (owned x (pid a 1) (owned z (pid d 2) []))
    ∷ TableIs (owned x (pid a 1) (owned z (pid d 2) [])) ∷ TableIs (owned x (pid a 1) (owned z (pid d 2) []))
    ∷ MembersAre (a ∷ b ∷ d ∷ []) ∷ Error Refusal.AlreadyExited ∷ [])

-- here it is the joiner's process, and the other name of the one that dies is struck
abbrev pub joiner_wins_the_clash : Row
joiner_wins_the_clash = row (world_of 2 (b ∷ []) (a ∷ []))
    (spawn b ∷ spawn a ∷ register b x (pid b 1) ∷ re_register b y (pid b 1) ∷ register a x (pid a 1) ∷ Settle
    ∷ join a b ∷ Settle ∷ TableAt a ∷ TableAt b ∷ [])
    (given (pid b 1) ∷ given (pid a 1) ∷ said a 1 Yes ∷ said b 1 Yes ∷ said b 2 Yes ∷ Settled ∷ said a 2 Joined
    ∷ Settled ∷ TableIs (owned x (pid a 1) []) ∷ TableIs (owned x (pid a 1) []) ∷ [])

-- a round that began before a join and ends after it gives its grants back
abbrev pub members_grow_during_a_round : Row
members_grow_during_a_round = row (world_of 4 (a ∷ b ∷ c ∷ []) (d ∷ []))
    (spawn a ∷ register a x (pid a 1) ∷ join d b ∷ deliver d b ∷ deliver b c ∷ deliver c b ∷ deliver b a ∷ deliver b b
    ∷ deliver a b ∷ deliver b b ∷ deliver b a ∷ deliver b b ∷ deliver b c ∷ deliver b d ∷ deliver a b ∷ deliver b b
    ∷ deliver c b ∷ deliver d b ∷ deliver b c ∷ Settle ∷ whereis a x ∷ retry a ∷ Settle ∷ whereis d x ∷ [])
    (given (pid a 1) ∷ said d 1 Joined ∷ Settled ∷ shown a Undefined ∷ said a 1 Yes ∷ Settled
    ∷ shown d (Pid (pid a 1)) ∷ [])

-- a lone node takes nobody in, and a node that has left neither takes in nor joins
abbrev pub refused_joins : Row
refused_joins = row (world_of 5 (a ∷ []) (d ∷ e ∷ []))
    (join d e ∷ Settle ∷ leave a ∷ join d a ∷ Settle ∷ join a d ∷ [])
    (said d 1 NotMember ∷ Settled ∷ Okay ∷ said d 2 ContactLeft ∷ Settled ∷ Error Refusal.NodeLeft ∷ [])

-- an owner's node leaves during an admission, and the joiner is told before its contact is
abbrev pub owner_leaves_during_an_admission : Row
owner_leaves_during_an_admission = row (world_of 4 (a ∷ b ∷ []) (d ∷ []))
    (spawn b ∷ register b x (pid b 1) ∷ Settle ∷ join d a ∷ deliver d a ∷ deliver a b ∷ leave b ∷ deliver b d
    ∷ deliver b a ∷ deliver a a ∷ deliver a a ∷ deliver a d ∷ TableAt d ∷ TableAt a ∷ Settle ∷ TableAt a
    ∷ MembersAt a ∷ [])
    (given (pid b 1) ∷ said b 1 Yes ∷ Settled ∷ Okay ∷ said d 1 Joined ∷ TableIs [] ∷ TableIs (owned x (pid b 1) [])
    ∷ Settled ∷ TableIs [] ∷ MembersAre (a ∷ d ∷ []) ∷ [])

-- a joined node joins no more
abbrev pub member_joins_again : Row
member_joins_again = row (world_of 2 (a ∷ b ∷ []) [])
    (join a b ∷ [])
    (Error Refusal.AlreadyJoined ∷ [])

-- a node whose own welcome is on its way takes nobody in yet
abbrev pub welcome_on_its_way : Row
welcome_on_its_way = row (world_of 3 (a ∷ []) (b ∷ c ∷ []))
    (join b a ∷ deliver b a ∷ deliver a a ∷ deliver a a ∷ join c b ∷ deliver c b ∷ deliver b c ∷ Settle ∷ MembersAt b
    ∷ join c b ∷ Settle ∷ MembersAt c ∷ [])
    (said c 1 NotMember ∷ said b 1 Joined ∷ Settled ∷ MembersAre (a ∷ b ∷ []) ∷ said c 2 Joined ∷ Settled
    ∷ MembersAre (a ∷ b ∷ c ∷ []) ∷ [])

-- a joiner that leaves before its admission is decided is never admitted
abbrev pub joiner_leaves_early : Row
joiner_leaves_early = row (world_of 3 (a ∷ b ∷ []) (c ∷ []))
    (spawn c ∷ register c x (pid c 1) ∷ Settle ∷ join c a ∷ deliver c a ∷ leave c ∷ deliver c a ∷ Settle ∷ MembersAt b
    ∷ names b ∷ [])
    (given (pid c 1) ∷ said c 1 Yes ∷ Settled ∷ Okay ∷ Settled ∷ MembersAre (a ∷ b ∷ []) ∷ shown b (Names []) ∷ [])

-- a process that a clash kills holds no lock any longer
abbrev pub killed_holder_keeps_no_lock : Row
killed_holder_keeps_no_lock = row (world_of 3 (b ∷ c ∷ []) (a ∷ []))
    (spawn b ∷ spawn a ∷ register b x (pid b 1) ∷ register a x (pid a 1) ∷ Settle ∷ set_lock (pid b 1) r q 0
    ∷ join a c ∷ Settle ∷ set_lock (pid a 1) r z 0 ∷ Settle ∷ del_lock (pid b 1) r q ∷ exit (pid b 1) ∷ [])
    (given (pid b 1) ∷ given (pid a 1) ∷ said a 1 Yes ∷ said b 1 Yes ∷ Settled ∷ said b 2 True ∷ said a 2 Joined
    ∷ Settled ∷ said a 3 True ∷ Settled ∷ Error (NotLive (pid b 1)) ∷ Error Refusal.AlreadyExited ∷ [])

-- a process that a clash kills before it was spawned is never spawned
abbrev pub killed_before_it_was_spawned : Row
killed_before_it_was_spawned = row (world_of 2 (a ∷ []) (b ∷ []))
    (spawn a ∷ register a x (pid a 1) ∷ register b x (pid b 2) ∷ Settle ∷ join b a ∷ Settle ∷ exit (pid b 2) ∷ spawn b
    ∷ exit (pid b 2) ∷ spawn b ∷ exit (pid b 2) ∷ TableAt b ∷ [])
    (given (pid a 1) ∷ said a 1 Yes ∷ said b 1 Yes ∷ Settled ∷ said b 2 Joined ∷ Settled ∷ Error Refusal.NoSuchProcess
    ∷ given (pid b 1) ∷ Error Refusal.NoSuchProcess ∷ given (pid b 3) ∷ Error Refusal.AlreadyExited
    ∷ TableIs (owned x (pid a 1) []) ∷ [])

-- a joiner learns of a departure by its welcome alone, before the notice comes
abbrev pub departure_learnt_by_a_welcome : Row
departure_learnt_by_a_welcome = row (world_of 3 (a ∷ b ∷ []) (c ∷ []))
    (leave b ∷ deliver b a ∷ join c a ∷ deliver c a ∷ deliver a a ∷ deliver a a ∷ deliver a c ∷ MembersAt c ∷ Settle
    ∷ MembersAt c ∷ [])
    (Okay ∷ said c 1 Joined ∷ MembersAre (a ∷ c ∷ []) ∷ Settled ∷ MembersAre (a ∷ c ∷ []) ∷ [])

-- a contact that the joiner was told has left isn't asked
abbrev pub contact_known_to_have_left : Row
contact_known_to_have_left = row (world_of 4 (a ∷ []) (d ∷ []))
    (leave a ∷ deliver a d ∷ join d a ∷ [])
    (Okay ∷ said d 1 ContactLeft ∷ [])

-- a node that was told of a departure reads nothing more from that node: here its wish to join
abbrev pub departed_node_is_not_read : Row
departed_node_is_not_read = row (world_of 3 (a ∷ []) (b ∷ c ∷ []))
    (join b c ∷ leave b ∷ deliver b a ∷ join c a ∷ deliver c a ∷ deliver a a ∷ deliver a a ∷ deliver a c ∷ deliver b c
    ∷ deliver c c ∷ [])
    (Okay ∷ said c 1 Joined ∷ Error Refusal.EmptyLink ∷ [])

-- a node has one unanswered join at most, whether it runs or waits
abbrev pub one_join_at_a_time : Row
one_join_at_a_time = row (world_of 5 (a ∷ []) (d ∷ e ∷ []))
    (join d a ∷ join d a ∷ unregister e x ∷ join e a ∷ join e a ∷ Settle ∷ [])
    (Error Refusal.AlreadyJoined ∷ Error Refusal.AlreadyJoined ∷ said d 1 Joined ∷ said e 1 Ok ∷ said e 2 Joined
    ∷ Settled ∷ [])

-- a joiner that has left is made no member by an admission that comes after its notice
abbrev pub admitted_joiner_has_left : Row
admitted_joiner_has_left = row (world_of 3 (a ∷ b ∷ []) (c ∷ []))
    (join c a ∷ deliver c a ∷ deliver a b ∷ deliver b a ∷ deliver a a ∷ deliver a a ∷ deliver a c ∷ leave c
    ∷ deliver c b ∷ deliver a b ∷ MembersAt b ∷ Settle ∷ MembersAt a ∷ [])
    (said c 1 Joined ∷ Okay ∷ MembersAre (a ∷ b ∷ []) ∷ Settled ∷ MembersAre (a ∷ b ∷ []) ∷ [])
