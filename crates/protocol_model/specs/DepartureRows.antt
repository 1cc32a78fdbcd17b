-- Rows about nodes that leave.
use Rattle.std.specs.Prelude.{[], ◌∷◌}
use Rattle.registry_model.specs.Call.{Yes, True, False}
use Rattle.protocol_model.specs.Event.{Refusal}
use Rattle.protocol_model.specs.Script.{Row, Settle, TableAt, MembersAt, Okay, Error, Settled, TableIs, MembersAre}
use Rattle.protocol_model.specs.RowWords.{row, world_of, a, b, c, q, r, s, x, z, pid, spawn, register, whereis, set_lock, set_lock_at, del_lock, deliver, retry, leave, said, given, owned}

-- the greatest node leaves while it is asked, and a retry asks the next
abbrev pub boss_leaves_while_asked : Row
boss_leaves_while_asked = row (world_of 3 (a ∷ b ∷ c ∷ []) [])
    (spawn a ∷ register a x (pid a 1) ∷ leave c ∷ deliver a c ∷ Settle ∷ retry a ∷ Settle ∷ MembersAt a ∷ [])
    (given (pid a 1) ∷ Okay ∷ Error Refusal.NodeLeft ∷ Settled ∷ said a 1 Yes ∷ Settled ∷ MembersAre (a ∷ b ∷ [])
    ∷ [])

-- the owner's node leaves after the grant; a node that was told writes nothing for it
abbrev pub owner_leaves_between_grant_and_write : Row
owner_leaves_between_grant_and_write = row (world_of 3 (a ∷ b ∷ c ∷ []) [])
    (spawn b ∷ register a x (pid b 1) ∷ deliver a c ∷ deliver c a ∷ deliver a a ∷ deliver a a ∷ deliver a b ∷ leave b
    ∷ deliver b c ∷ deliver b a ∷ deliver a a ∷ deliver a c ∷ TableAt a ∷ TableAt c ∷ deliver a a ∷ deliver c a
    ∷ deliver b a ∷ TableAt a ∷ [])
    (given (pid b 1) ∷ Okay ∷ TableIs (owned x (pid b 1) []) ∷ TableIs [] ∷ said a 1 Yes ∷ TableIs [] ∷ [])

-- a node that holds the global lock may not leave, and one that has left does nothing more
abbrev pub no_leave_in_a_hold : Row
no_leave_in_a_hold = row (world_of 1 (a ∷ []) [])
    (spawn a ∷ register a x (pid a 1) ∷ deliver a a ∷ deliver a a ∷ leave a ∷ deliver a a ∷ deliver a a ∷ leave a
    ∷ whereis a x ∷ [])
    (given (pid a 1) ∷ Error Refusal.HoldsLock ∷ said a 1 Yes ∷ Okay ∷ Error Refusal.NodeLeft ∷ [])

-- a departed holder has its lock until its departure is known, and then no longer
abbrev pub departed_holder_keeps_nothing : Row
departed_holder_keeps_nothing = row (world_of 2 (a ∷ b ∷ []) [])
    (spawn b ∷ spawn a ∷ set_lock (pid b 1) r q 0 ∷ Settle ∷ leave b ∷ set_lock (pid a 1) r z 0 ∷ Settle
    ∷ set_lock (pid a 1) r z 0 ∷ Settle ∷ [])
    (given (pid b 1) ∷ given (pid a 1) ∷ said b 1 True ∷ Settled ∷ Okay ∷ said a 1 False ∷ Settled ∷ said a 2 True
    ∷ Settled ∷ [])

-- one notice of a departure ends several rounds of a node, by serial
abbrev pub one_notice_ends_many_rounds : Row
one_notice_ends_many_rounds = row (world_of 2 (a ∷ b ∷ []) [])
    (spawn a ∷ spawn a ∷ register a x (pid a 1) ∷ set_lock (pid a 1) r q 0 ∷ set_lock_at (pid a 2) s q (b ∷ []) 0
    ∷ leave b ∷ deliver b a ∷ Settle ∷ retry a ∷ Settle ∷ [])
    (given (pid a 1) ∷ given (pid a 2) ∷ Okay ∷ said a 2 False ∷ said a 3 False ∷ Settled ∷ said a 1 Yes ∷ Settled
    ∷ [])

-- a call none of whose nodes is a member any longer is answered `false` on its retry
abbrev pub no_node_left_to_ask : Row
no_node_left_to_ask = row (world_of 2 (a ∷ b ∷ []) [])
    (spawn a ∷ spawn b ∷ set_lock_at (pid b 1) r q (b ∷ []) 0 ∷ Settle ∷ set_lock_at (pid a 1) r z (b ∷ []) 5 ∷ Settle
    ∷ leave b ∷ Settle ∷ retry a ∷ Settle ∷ [])
    (given (pid a 1) ∷ given (pid b 1) ∷ said b 1 True ∷ Settled ∷ Settled ∷ Okay ∷ Settled ∷ said a 1 False ∷ Settled
    ∷ [])

-- a node leaves before it answers a round, which is held all the same and waits for it no more
abbrev pub round_goes_on_without_a_departed_node : Row
round_goes_on_without_a_departed_node = row (world_of 3 (a ∷ b ∷ c ∷ []) [])
    (spawn a ∷ register a x (pid a 1) ∷ deliver a c ∷ deliver c a ∷ leave b ∷ deliver b a ∷ Settle ∷ MembersAt a
    ∷ TableAt c ∷ [])
    (given (pid a 1) ∷ Okay ∷ said a 1 Yes ∷ Settled ∷ MembersAre (a ∷ c ∷ []) ∷ TableIs (owned x (pid a 1) []) ∷ [])

-- the greatest node leaves after its grant, which counts on
abbrev pub boss_leaves_after_its_grant : Row
boss_leaves_after_its_grant = row (world_of 3 (a ∷ b ∷ c ∷ []) [])
    (spawn a ∷ register a x (pid a 1) ∷ deliver a c ∷ deliver c a ∷ leave c ∷ deliver c a ∷ Settle ∷ MembersAt a
    ∷ TableAt b ∷ [])
    (given (pid a 1) ∷ Okay ∷ said a 1 Yes ∷ Settled ∷ MembersAre (a ∷ b ∷ []) ∷ TableIs (owned x (pid a 1) []) ∷ [])

-- a node leaves before it gives a lock up, and the deletion waits for it no more
abbrev pub deletion_goes_on_without_a_departed_node : Row
deletion_goes_on_without_a_departed_node = row (world_of 2 (a ∷ b ∷ []) [])
    (spawn a ∷ set_lock (pid a 1) r q 0 ∷ Settle ∷ del_lock (pid a 1) r q ∷ leave b ∷ Settle ∷ [])
    (given (pid a 1) ∷ said a 1 True ∷ Settled ∷ Okay ∷ said a 2 True ∷ Settled ∷ [])
