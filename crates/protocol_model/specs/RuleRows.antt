-- Rows about names that both a joiner and the cluster have, under each rule.
use Rattle.std.specs.Prelude.{[], ◌∷◌}
use Rattle.registry_model.specs.Table.{Notify, NotifyAll}
use Rattle.registry_model.specs.Call.{Yes, Joined, Pid, Undefined}
use Rattle.protocol_model.specs.Event.{Refusal}
use Rattle.protocol_model.specs.Script.{Row, Settle, TableAt, Okay, Error, Settled, TableIs}
use Rattle.protocol_model.specs.RowWords.{row, world_of, a, b, d, x, y, pid, spawn, register_under, register, re_register, notices, whereis, join, deliver, exit, said, shown, given, sent, lost, lost_as, owned_under, owned}

-- who loses a name under `notify` is sent a notice, and lives
abbrev pub loser_is_notified : Row
loser_is_notified = row (world_of 4 (a ∷ []) (d ∷ []))
    (spawn a ∷ spawn d ∷ register_under a x (pid a 1) Notify ∷ register d x (pid d 1) ∷ Settle ∷ join d a ∷ Settle
    ∷ TableAt d ∷ notices (pid d 1) ∷ notices (pid a 1) ∷ exit (pid d 1) ∷ [])
    (given (pid a 1) ∷ given (pid d 1) ∷ said a 1 Yes ∷ said d 1 Yes ∷ Settled ∷ said d 2 Joined ∷ Settled
    ∷ TableIs (owned_under x (pid a 1) Notify []) ∷ sent (pid d 1) (lost x ∷ []) ∷ sent (pid a 1) [] ∷ Okay ∷ [])

-- under `notify_all` nobody has the name afterwards, and both are sent a notice; other names of theirs stay
abbrev pub both_are_notified : Row
both_are_notified = row (world_of 4 (a ∷ []) (d ∷ []))
    (spawn a ∷ spawn d ∷ register_under a x (pid a 1) NotifyAll ∷ re_register a y (pid a 1) ∷ register d x (pid d 1)
    ∷ Settle ∷ join d a ∷ Settle ∷ TableAt a ∷ TableAt d ∷ notices (pid a 1) ∷ notices (pid d 1) ∷ [])
    (given (pid a 1) ∷ given (pid d 1) ∷ said a 1 Yes ∷ said a 2 Yes ∷ said d 1 Yes ∷ Settled ∷ said d 2 Joined ∷ Settled
    ∷ TableIs (owned y (pid a 1) []) ∷ TableIs (owned y (pid a 1) []) ∷ sent (pid a 1) (lost_as x (pid d 1) ∷ [])
    ∷ sent (pid d 1) (lost_as x (pid a 1) ∷ []) ∷ [])

-- the rule of the cluster's entry decides, and the winner keeps its own
abbrev pub winner_keeps_its_rule : Row
winner_keeps_its_rule = row (world_of 2 (b ∷ []) (a ∷ []))
    (spawn b ∷ spawn a ∷ register_under b x (pid b 1) Notify ∷ register_under a x (pid a 1) NotifyAll ∷ Settle ∷ join a b
    ∷ Settle ∷ TableAt b ∷ notices (pid b 1) ∷ [])
    (given (pid b 1) ∷ given (pid a 1) ∷ said a 1 Yes ∷ said b 1 Yes ∷ Settled ∷ said a 2 Joined ∷ Settled
    ∷ TableIs (owned_under x (pid a 1) NotifyAll []) ∷ sent (pid b 1) (lost x ∷ []) ∷ [])

-- a process is sent what it was noted for before it was spawned, and what it was sent stays when it is dead
abbrev pub notices_of_who_isnt_there : Row
notices_of_who_isnt_there = row (world_of 2 (a ∷ []) (b ∷ []))
    (register_under a x (pid a 1) Notify ∷ register b x (pid b 1) ∷ Settle ∷ join b a ∷ Settle ∷ notices (pid b 1)
    ∷ spawn b ∷ notices (pid b 1) ∷ exit (pid b 1) ∷ notices (pid b 1) ∷ [])
    (said a 1 Yes ∷ said b 1 Yes ∷ Settled ∷ said b 2 Joined ∷ Settled ∷ Error Refusal.NoSuchProcess ∷ given (pid b 1)
    ∷ sent (pid b 1) (lost x ∷ []) ∷ Okay ∷ sent (pid b 1) (lost x ∷ []) ∷ [])

-- a name that nobody has by an admission goes at each member when it is admitted, and at the joiner by its welcome
abbrev pub name_goes_at_each_member : Row
name_goes_at_each_member = row (world_of 4 (a ∷ b ∷ []) (d ∷ []))
    (register_under a x (pid b 1) NotifyAll ∷ register d x (pid d 1) ∷ Settle ∷ join d a ∷ deliver d a ∷ deliver a b
    ∷ deliver b a ∷ deliver a a ∷ deliver a a ∷ deliver a d ∷ whereis d x ∷ whereis b x ∷ deliver a b ∷ whereis b x
    ∷ spawn b ∷ notices (pid b 1) ∷ Settle ∷ whereis a x ∷ [])
    (said a 1 Yes ∷ said d 1 Yes ∷ Settled ∷ said d 2 Joined ∷ shown d Undefined ∷ shown b (Pid (pid b 1))
    ∷ shown b Undefined ∷ given (pid b 1) ∷ sent (pid b 1) (lost_as x (pid d 1) ∷ []) ∷ Settled ∷ shown a Undefined ∷ [])
