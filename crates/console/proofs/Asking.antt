-- What a call is answered that is asked at seats which are lent.
use Rattle.std.proofs.Common.{Bool, true, false, ◌≡◌, Result}
use Rattle.command_lines.specs.declared.Call.{Call}
use Rattle.command_lines.specs.declared.Call.TheVariants.{Spawn, Whereis, RegisteredNames, Notices, Register, ReRegister, Unregister, SetLock, DelLock, Join}
use Rattle.command_lines.specs.declared.Reply.{Reply}
use Rattle.node_seats.specs.declared.fault.SeatFault.{SeatFault}
use Rattle.node_seats.specs.Knowing.{Known}
use Rattle.console.specs.declared.orders.Order.TheVariants as order
use Rattle.console.specs.Lent.{LentAnswers, LentGives, LentTries}
use Rattle.console.specs.Locking.{sets_lock}

-- one for a lock is what its tries came to
pub tries_answer : (c : Call) (k l : Known) (linked : Bool) (r : Result Reply SeatFault) → sets_lock c ≡ true → LentTries c k r l
    → LentAnswers k (order.Call c) linked r l
tries_answer (SetLock p id nodes retries) k l linked r is tried = tried
tries_answer (DelLock p id nodes) k l linked r is tried = cc is
tries_answer Spawn k l linked r is tried = cc is
tries_answer (Whereis x) k l linked r is tried = cc is
tries_answer RegisteredNames k l linked r is tried = cc is
tries_answer (Notices p) k l linked r is tried = cc is
tries_answer (Register pair) k l linked r is tried = cc is
tries_answer (ReRegister pair) k l linked r is tried = cc is
tries_answer (Unregister x) k l linked r is tried = cc is
tries_answer (Join m) k l linked r is tried = cc is

-- any other is what it was answered at a seat
pub calls_answer : (c : Call) (k l : Known) (linked : Bool) (r : Result Reply SeatFault) → sets_lock c ≡ false
    → LentGives k (order.Call c) r l → LentAnswers k (order.Call c) linked r l
calls_answer (SetLock p id nodes retries) k l linked r is gives = cc is
calls_answer (DelLock p id nodes) k l linked r is gives = gives
calls_answer Spawn k l linked r is gives = gives
calls_answer (Whereis x) k l linked r is gives = gives
calls_answer RegisteredNames k l linked r is gives = gives
calls_answer (Notices p) k l linked r is gives = gives
calls_answer (Register pair) k l linked r is gives = gives
calls_answer (ReRegister pair) k l linked r is gives = gives
calls_answer (Unregister x) k l linked r is gives = gives
calls_answer (Join m) k l linked r is gives = gives
