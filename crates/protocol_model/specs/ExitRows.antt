-- Rows about processes that die.
use Rattle.std.specs.Prelude.{[], ◌∷◌}
use Rattle.registry_model.specs.Call.{Yes, Ok, True, Pid, Undefined, Names}
use Rattle.protocol_model.specs.Event.{Refusal, NotLive}
use Rattle.protocol_model.specs.Script.{Row, Settle, TableAt, Okay, Error, Settled, TableIs}
use Rattle.protocol_model.specs.RowWords.{row, world_of, a, b, d, q, r, x, y, z, pid, spawn, register, re_register, unregister, whereis, names, set_lock, retry, exit, said, shown, given, owned}

-- a process has a second name by `re_register`, and both are struck when it dies
abbrev pub second_name_and_both_struck : Row
second_name_and_both_struck = row (world_of 1 (a ∷ []) [])
    (spawn a ∷ register a x (pid a 1) ∷ re_register a y (pid a 1) ∷ Settle ∷ TableAt a ∷ exit (pid a 1) ∷ Settle
    ∷ TableAt a ∷ [])
    (given (pid a 1) ∷ said a 1 Yes ∷ said a 2 Yes ∷ Settled ∷ TableIs (owned x (pid a 1) (owned y (pid a 1) []))
    ∷ Okay ∷ Settled ∷ TableIs [] ∷ [])

-- an owner that dies while its call waits is registered, and struck
abbrev pub owner_dies_while_its_call_waits : Row
owner_dies_while_its_call_waits = row (world_of 1 (a ∷ []) [])
    (spawn a ∷ spawn a ∷ register a x (pid a 1) ∷ register a y (pid a 2) ∷ exit (pid a 2) ∷ Settle ∷ names a ∷ [])
    (given (pid a 1) ∷ given (pid a 2) ∷ Okay ∷ said a 1 Yes ∷ said a 2 Yes ∷ Settled ∷ shown a (Names (x ∷ [])) ∷ [])

-- a dead owner is found until its strike; a name that it is given afterwards is struck too, on a retry
abbrev pub dead_owner_is_struck : Row
dead_owner_is_struck = row (world_of 2 (a ∷ b ∷ []) [])
    (spawn a ∷ register a x (pid a 1) ∷ Settle ∷ exit (pid a 1) ∷ whereis b x ∷ Settle ∷ whereis b x
    ∷ register b y (pid a 1) ∷ Settle ∷ names b ∷ retry a ∷ Settle ∷ names b ∷ exit (pid a 1) ∷ exit (pid b 9) ∷ [])
    (given (pid a 1) ∷ said a 1 Yes ∷ Settled ∷ Okay ∷ shown b (Pid (pid a 1)) ∷ Settled ∷ shown b Undefined
    ∷ said b 1 Yes ∷ Settled ∷ shown b (Names (y ∷ [])) ∷ Settled ∷ shown b (Names []) ∷ Error Refusal.AlreadyExited
    ∷ Error Refusal.NoSuchProcess ∷ [])

-- a strike comes before the calls that wait, so the name is free for them
abbrev pub strike_comes_before_waiting_calls : Row
strike_comes_before_waiting_calls = row (world_of 1 (a ∷ []) [])
    (spawn a ∷ spawn a ∷ register a x (pid a 1) ∷ Settle ∷ unregister a z ∷ register a x (pid a 2) ∷ exit (pid a 1)
    ∷ Settle ∷ whereis a x ∷ [])
    (given (pid a 1) ∷ given (pid a 2) ∷ said a 1 Yes ∷ Settled ∷ Okay ∷ said a 2 Ok ∷ said a 3 Yes ∷ Settled
    ∷ shown a (Pid (pid a 2)) ∷ [])

-- a lock call of a process that dies is never answered, and what it was granted is free
abbrev pub dead_caller_is_not_answered : Row
dead_caller_is_not_answered = row (world_of 1 (a ∷ []) [])
    (spawn a ∷ spawn a ∷ set_lock (pid a 1) r q 0 ∷ exit (pid a 1) ∷ Settle ∷ set_lock (pid a 2) r z 0 ∷ Settle ∷ [])
    (given (pid a 1) ∷ given (pid a 2) ∷ Okay ∷ Settled ∷ said a 2 True ∷ Settled ∷ [])

-- a lone node, too, strikes its dead owner at the end of a round, and the name stands until then
abbrev pub lone_node_strikes_in_a_round : Row
lone_node_strikes_in_a_round = row (world_of 4 [] (d ∷ []))
    (spawn d ∷ register d x (pid d 1) ∷ Settle ∷ TableAt d ∷ exit (pid d 1) ∷ TableAt d ∷ Settle ∷ TableAt d ∷ [])
    (given (pid d 1) ∷ said d 1 Yes ∷ Settled ∷ TableIs (owned x (pid d 1) []) ∷ Okay
    ∷ TableIs (owned x (pid d 1) []) ∷ Settled ∷ TableIs [] ∷ [])

-- a process is dead at once when it exits: its lock call is refused before any letter is delivered
abbrev pub dead_at_once : Row
dead_at_once = row (world_of 2 (a ∷ b ∷ []) [])
    (spawn a ∷ exit (pid a 1) ∷ set_lock (pid a 1) r q 0 ∷ [])
    (given (pid a 1) ∷ Okay ∷ Error (NotLive (pid a 1)) ∷ [])
