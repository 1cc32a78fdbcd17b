-- Rows about names.
use Rattle.std.specs.Prelude.{[], ◌∷◌}
use Rattle.registry_model.specs.Call.{Yes, No, Ok, UnknownNode, Pid, Undefined, Names}
use Rattle.protocol_model.specs.Script.{Row, Settle, TableAt, Settled, TableIs}
use Rattle.protocol_model.specs.RowWords.{row, world_of, a, b, c, d, stranger, w, x, y, z, zz, pid, spawn, register, re_register, unregister, whereis, names, deliver, said, shown, given, owned}

-- a name that was registered is found
abbrev pub registered_name_is_found : Row
registered_name_is_found = row (world_of 1 (a ∷ []) [])
    (spawn a ∷ register a x (pid a 1) ∷ Settle ∷ whereis a x ∷ [])
    (given (pid a 1) ∷ said a 1 Yes ∷ Settled ∷ shown a (Pid (pid a 1)) ∷ [])

-- a node finds the name that it gives away as soon as it has written it, before the call is answered
abbrev pub write_is_found_at_once : Row
write_is_found_at_once = row (world_of 1 (a ∷ []) [])
    (register a x (pid a 1) ∷ deliver a a ∷ deliver a a ∷ whereis a x ∷ deliver a a ∷ whereis a x ∷ Settle ∷ [])
    (shown a Undefined ∷ shown a (Pid (pid a 1)) ∷ said a 1 Yes ∷ Settled ∷ [])

-- before any call there is no name
abbrev pub nothing_is_registered_yet : Row
nothing_is_registered_yet = row (world_of 1 (a ∷ []) [])
    (whereis a x ∷ names a ∷ [])
    (shown a Undefined ∷ shown a (Names []) ∷ [])

-- a name that one node registers is found at another
abbrev pub every_node_finds_the_name : Row
every_node_finds_the_name = row (world_of 3 (a ∷ b ∷ c ∷ []) [])
    (spawn a ∷ register a x (pid a 1) ∷ Settle ∷ whereis c x ∷ [])
    (given (pid a 1) ∷ said a 1 Yes ∷ Settled ∷ shown c (Pid (pid a 1)) ∷ [])

-- a process that has a name gets no second one
abbrev pub process_has_one_name : Row
process_has_one_name = row (world_of 1 (a ∷ []) [])
    (spawn a ∷ register a x (pid a 1) ∷ register a y (pid a 1) ∷ Settle ∷ names a ∷ [])
    (given (pid a 1) ∷ said a 1 Yes ∷ said a 2 No ∷ Settled ∷ shown a (Names (x ∷ [])) ∷ [])

-- a name that nobody has is unregistered all the same
abbrev pub nothing_to_unregister : Row
nothing_to_unregister = row (world_of 1 (a ∷ []) [])
    (unregister a zz ∷ Settle ∷ names a ∷ [])
    (said a 1 Ok ∷ Settled ∷ shown a (Names []) ∷ [])

-- an owner on a lone node is on no member
abbrev pub owner_on_a_lone_node : Row
owner_on_a_lone_node = row (world_of 4 (a ∷ []) (d ∷ []))
    (spawn d ∷ register a x (pid d 1) ∷ Settle ∷ names a ∷ [])
    (given (pid d 1) ∷ said a 1 UnknownNode ∷ Settled ∷ shown a (Names []) ∷ [])

-- no second name for a process, no name that is in use, none for an owner on no node of the world
abbrev pub who_gets_no_name : Row
who_gets_no_name = row (world_of 1 (a ∷ []) [])
    (spawn a ∷ register a x (pid a 1) ∷ register a y (pid a 1) ∷ register a x (pid a 2)
    ∷ register a w (pid stranger 1) ∷ Settle ∷ whereis a y ∷ [])
    (given (pid a 1) ∷ said a 1 Yes ∷ said a 2 No ∷ said a 3 No ∷ said a 4 UnknownNode ∷ Settled ∷ shown a Undefined
    ∷ [])

-- a name moves to another process and is unregistered; a lone node sees nothing of it
abbrev pub name_moves_and_goes : Row
name_moves_and_goes = row (world_of 4 (a ∷ b ∷ []) (d ∷ []))
    (spawn a ∷ spawn b ∷ register a x (pid a 1) ∷ Settle ∷ re_register b x (pid b 1) ∷ Settle ∷ whereis a x
    ∷ unregister a x ∷ Settle ∷ names b ∷ names d ∷ [])
    (given (pid a 1) ∷ given (pid b 1) ∷ said a 1 Yes ∷ Settled ∷ said b 1 Yes ∷ Settled ∷ shown a (Pid (pid b 1))
    ∷ said a 2 Ok ∷ Settled ∷ shown b (Names []) ∷ shown d (Names []) ∷ [])

-- a name doesn't move to an owner on a lone node either
abbrev pub name_moves_to_members_alone : Row
name_moves_to_members_alone = row (world_of 4 (a ∷ []) (d ∷ []))
    (spawn d ∷ re_register a x (pid d 1) ∷ Settle ∷ names a ∷ [])
    (given (pid d 1) ∷ said a 1 UnknownNode ∷ Settled ∷ shown a (Names []) ∷ [])

-- a lone node, too, refuses a name call at the end of a round, and nothing changes
abbrev pub lone_node_refuses_in_a_round : Row
lone_node_refuses_in_a_round = row (world_of 4 [] (d ∷ []))
    (spawn d ∷ register d x (pid d 1) ∷ Settle ∷ register d y (pid d 1) ∷ TableAt d ∷ register d z (pid stranger 1)
    ∷ TableAt d ∷ Settle ∷ TableAt d ∷ [])
    (given (pid d 1) ∷ said d 1 Yes ∷ Settled ∷ TableIs (owned x (pid d 1) []) ∷ TableIs (owned x (pid d 1) [])
    ∷ said d 2 No ∷ said d 3 UnknownNode ∷ Settled ∷ TableIs (owned x (pid d 1) []) ∷ [])
