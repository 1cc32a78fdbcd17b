-- Rows about notices: two of one join.
use Rattle.std.specs.Prelude.{ℕ, [], ◌∷◌}
use Rattle.registry_model.specs.Process.{Text, Process}
use Rattle.registry_model.specs.Table.{Rule, Notify, NotifyAll}
use Rattle.registry_model.specs.Call.{NameCall, Yes, Joined}
use Rattle.protocol_model.specs.Event.{Call}
use Rattle.protocol_model.specs.Script.{Line, Row, Settle, Settled}
use Rattle.protocol_model.specs.RowWords.{row, world_of, a, d, x, y, z, pid, call, spawn, register_under, register, re_register, notices, join, said, given, sent, lost, lost_as}

-- a `re_register` under a rule
abbrev pub re_register_under : ℕ → Text → Process → Rule → Line
re_register_under n name owner rule =
    call n (Call.OnName (NameCall.ReRegister (record { name = name; owner = owner; rule = rule })))

-- who loses two names in one join is sent both notices, by name, and none that is for another process of its node
abbrev pub two_notices_of_one_join : Row
two_notices_of_one_join = row (world_of 4 (a ∷ []) (d ∷ []))
    (spawn a ∷ spawn d ∷ spawn d ∷ register_under a x (pid a 1) Notify ∷ re_register_under a y (pid a 1) Notify
    ∷ re_register_under a z (pid a 1) Notify ∷ register d x (pid d 1) ∷ register d y (pid d 2) ∷ re_register d z (pid d 1) ∷ Settle
    ∷ notices (pid d 1) ∷ join d a ∷ Settle ∷ notices (pid d 1) ∷ notices (pid d 2) ∷ notices (pid a 1) ∷ [])
    (given (pid a 1) ∷ given (pid d 1) ∷ given (pid d 2) ∷ said a 1 Yes ∷ said a 2 Yes ∷ said a 3 Yes ∷ said d 1 Yes ∷ said d 2 Yes
    ∷ said d 3 Yes ∷ Settled ∷ sent (pid d 1) [] ∷ said d 4 Joined ∷ Settled ∷ sent (pid d 1) (lost x ∷ lost z ∷ [])
    ∷ sent (pid d 2) (lost y ∷ []) ∷ sent (pid a 1) [] ∷ [])

-- and where nobody has the names afterwards, each of the two that had both
abbrev pub both_are_sent_two : Row
both_are_sent_two = row (world_of 4 (a ∷ []) (d ∷ []))
    (spawn a ∷ spawn a ∷ spawn d ∷ register_under a x (pid a 1) NotifyAll ∷ re_register_under a y (pid a 1) NotifyAll
    ∷ register d x (pid d 1) ∷ re_register d y (pid d 1) ∷ Settle ∷ join d a ∷ Settle ∷ notices (pid a 1) ∷ notices (pid a 2)
    ∷ notices (pid d 1) ∷ [])
    (given (pid a 1) ∷ given (pid a 2) ∷ given (pid d 1) ∷ said a 1 Yes ∷ said a 2 Yes ∷ said d 1 Yes ∷ said d 2 Yes ∷ Settled
    ∷ said d 3 Joined ∷ Settled ∷ sent (pid a 1) (lost_as x (pid d 1) ∷ lost_as y (pid d 1) ∷ []) ∷ sent (pid a 2) []
    ∷ sent (pid d 1) (lost_as x (pid a 1) ∷ lost_as y (pid a 1) ∷ []) ∷ [])
