-- Rows about clients' locks.
use Rattle.std.specs.Prelude.{[], ◌∷◌}
use Rattle.registry_model.specs.Call.{True, False, Joined}
use Rattle.protocol_model.specs.Event.{Refusal, Busy, global_resource}
use Rattle.protocol_model.specs.Script.{Row, Settle, Okay, Error, Settled}
use Rattle.protocol_model.specs.RowWords.{row, world_of, a, b, c, stranger, nosuch, p, q, r, z, pid, spawn, set_lock, set_lock_at, set_lock_endless, del_lock, del_lock_at, join, retry, exit, said, given}

-- processes that use one requester share a lock, and another requester waits for all of them
abbrev pub holders_are_counted : Row
holders_are_counted = row (world_of 2 (a ∷ b ∷ []) [])
    (spawn a ∷ spawn a ∷ spawn b ∷ set_lock (pid a 1) r q 0 ∷ Settle ∷ set_lock (pid a 1) r q 0 ∷ Settle
    ∷ set_lock (pid a 2) r q 0 ∷ Settle ∷ del_lock (pid a 1) r q ∷ Settle ∷ set_lock (pid b 1) r z 0 ∷ Settle
    ∷ del_lock (pid a 1) r q ∷ Settle ∷ set_lock (pid b 1) r z 0 ∷ Settle ∷ del_lock (pid a 2) r q ∷ Settle
    ∷ set_lock (pid b 1) r z 0 ∷ Settle ∷ set_lock (pid b 1) global_resource z 0 ∷ del_lock (pid b 1) nosuch z
    ∷ Settle ∷ [])
    (given (pid a 1) ∷ given (pid a 2) ∷ given (pid b 1) ∷ said a 1 True ∷ Settled ∷ said a 2 True ∷ Settled
    ∷ said a 3 True ∷ Settled ∷ said a 4 True ∷ Settled ∷ said b 1 False ∷ Settled ∷ said a 5 True ∷ Settled
    ∷ said b 2 False ∷ Settled ∷ said a 6 True ∷ Settled ∷ said b 3 True ∷ Settled ∷ Error Refusal.Reserved
    ∷ said b 4 True ∷ Settled ∷ [])

-- a refused call uses its retry up; the locks of a dead holder are free
abbrev pub retries_and_a_dead_holder : Row
retries_and_a_dead_holder = row (world_of 1 (a ∷ []) [])
    (spawn a ∷ spawn a ∷ set_lock (pid a 1) r q 0 ∷ Settle ∷ set_lock (pid a 2) r z 1 ∷ Settle ∷ retry a ∷ Settle
    ∷ exit (pid a 1) ∷ Settle ∷ set_lock (pid a 2) r z 0 ∷ Settle ∷ [])
    (given (pid a 1) ∷ given (pid a 2) ∷ said a 1 True ∷ Settled ∷ Settled ∷ said a 2 False ∷ Settled ∷ Okay ∷ Settled
    ∷ said a 3 True ∷ Settled ∷ [])

-- a process has one unanswered lock call at most
abbrev pub one_lock_call_at_a_time : Row
one_lock_call_at_a_time = row (world_of 1 (a ∷ []) [])
    (spawn a ∷ set_lock (pid a 1) r q 0 ∷ set_lock (pid a 1) r q 0 ∷ Settle ∷ retry a ∷ [])
    (given (pid a 1) ∷ Error (Busy (pid a 1)) ∷ said a 1 True ∷ Settled ∷ Error Refusal.NothingToRetry ∷ [])

-- one resource has two requesters at two nodes; who is no member can't be asked, and is passed over by `del_lock`
abbrev pub locks_at_named_nodes : Row
locks_at_named_nodes = row (world_of 2 (a ∷ b ∷ []) [])
    (spawn a ∷ spawn b ∷ set_lock_at (pid a 1) r p (a ∷ []) 0 ∷ Settle ∷ set_lock_at (pid b 1) r q (b ∷ []) 0 ∷ Settle
    ∷ set_lock_at (pid a 1) r p (a ∷ b ∷ []) 0 ∷ Settle ∷ set_lock_at (pid a 1) r p (a ∷ stranger ∷ []) 0
    ∷ del_lock_at (pid a 1) r p (stranger ∷ []) ∷ del_lock_at (pid a 1) r p (a ∷ []) ∷ Settle ∷ [])
    (given (pid a 1) ∷ given (pid b 1) ∷ said a 1 True ∷ Settled ∷ said b 1 True ∷ Settled ∷ said a 2 False ∷ Settled
    ∷ Error Refusal.UnknownNode ∷ said a 3 True ∷ said a 4 True ∷ Settled ∷ [])

-- a call with retries without end is tried until it has the lock
abbrev pub retries_without_end : Row
retries_without_end = row (world_of 1 (a ∷ []) [])
    (spawn a ∷ spawn a ∷ set_lock (pid a 1) r q 0 ∷ Settle ∷ set_lock_endless (pid a 2) r z ∷ Settle ∷ retry a
    ∷ Settle ∷ retry a ∷ Settle ∷ del_lock (pid a 1) r q ∷ Settle ∷ retry a ∷ Settle ∷ [])
    (given (pid a 1) ∷ given (pid a 2) ∷ said a 1 True ∷ Settled ∷ Settled ∷ Settled ∷ Settled ∷ said a 3 True
    ∷ Settled ∷ said a 2 True ∷ Settled ∷ [])

-- who sets a lock twice deletes it twice before another requester gets it
abbrev pub set_twice_deleted_twice : Row
set_twice_deleted_twice = row (world_of 1 (a ∷ []) [])
    (spawn a ∷ spawn a ∷ set_lock (pid a 1) r q 0 ∷ Settle ∷ set_lock (pid a 1) r q 0 ∷ Settle
    ∷ del_lock (pid a 1) r q ∷ Settle ∷ set_lock (pid a 2) r z 0 ∷ Settle ∷ del_lock (pid a 1) r q ∷ Settle
    ∷ set_lock (pid a 2) r z 0 ∷ Settle ∷ [])
    (given (pid a 1) ∷ given (pid a 2) ∷ said a 1 True ∷ Settled ∷ said a 2 True ∷ Settled ∷ said a 3 True ∷ Settled
    ∷ said a 4 False ∷ Settled ∷ said a 5 True ∷ Settled ∷ said a 6 True ∷ Settled ∷ [])

-- a refused lock call gives back what it was granted at other nodes
abbrev pub refused_lock_call_gives_all_back : Row
refused_lock_call_gives_all_back = row (world_of 2 (a ∷ b ∷ []) [])
    (spawn a ∷ spawn b ∷ set_lock_at (pid a 1) r p (a ∷ []) 0 ∷ Settle ∷ set_lock (pid b 1) r q 0 ∷ Settle
    ∷ set_lock_at (pid a 1) r p (b ∷ []) 0 ∷ Settle ∷ [])
    (given (pid a 1) ∷ given (pid b 1) ∷ said a 1 True ∷ Settled ∷ said b 1 False ∷ Settled ∷ said a 2 True ∷ Settled
    ∷ [])

-- of two requesters that ask at once, at one node, one gets the lock
abbrev pub two_requesters_at_once : Row
two_requesters_at_once = row (world_of 1 (a ∷ []) [])
    (spawn a ∷ spawn a ∷ set_lock (pid a 1) r q 0 ∷ set_lock (pid a 2) r z 0 ∷ Settle ∷ [])
    (given (pid a 1) ∷ given (pid a 2) ∷ said a 1 True ∷ said a 2 False ∷ Settled ∷ [])

-- a lock of all members is one at each of them: another requester doesn't get it at the greatest
abbrev pub all_members_are_asked : Row
all_members_are_asked = row (world_of 2 (a ∷ b ∷ []) [])
    (spawn a ∷ spawn a ∷ set_lock (pid a 1) r q 0 ∷ set_lock_at (pid a 2) r z (b ∷ []) 0 ∷ Settle ∷ [])
    (given (pid a 1) ∷ given (pid a 2) ∷ said a 1 True ∷ said a 2 False ∷ Settled ∷ [])

-- a retry asks the members of now: also a node that has joined since the call was refused
abbrev pub retry_asks_the_members_of_now : Row
retry_asks_the_members_of_now = row (world_of 3 (a ∷ b ∷ []) (c ∷ []))
    (spawn a ∷ spawn b ∷ set_lock (pid a 1) r q 0 ∷ Settle ∷ set_lock (pid b 1) r z 1 ∷ Settle ∷ join c a ∷ Settle
    ∷ del_lock (pid a 1) r q ∷ Settle ∷ retry b ∷ Settle ∷ [])
    (given (pid a 1) ∷ given (pid b 1) ∷ said a 1 True ∷ Settled ∷ Settled ∷ said c 1 Joined ∷ Settled
    ∷ said a 2 True ∷ Settled ∷ said b 1 True ∷ Settled ∷ [])

-- who asks behind the letter that gives a lock back gets it, though the node has the lock for another when that letter comes
abbrev pub asked_behind_a_deletion : Row
asked_behind_a_deletion = row (world_of 1 (a ∷ []) [])
    (spawn a ∷ spawn a ∷ set_lock (pid a 1) r q 0 ∷ Settle ∷ del_lock (pid a 1) r q ∷ set_lock (pid a 2) r z 0 ∷ Settle
    ∷ [])
    (given (pid a 1) ∷ given (pid a 2) ∷ said a 1 True ∷ Settled ∷ said a 2 True ∷ said a 3 True ∷ Settled ∷ [])
