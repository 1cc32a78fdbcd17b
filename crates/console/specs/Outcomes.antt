-- What an answer is printed as.
use Rattle.std.specs.Prelude.{ℕ, List, Result, Ok, Err}
use Rattle.command_lines.specs.NodeEventsSeen.{reply_of}
use Rattle.command_lines.specs.declared.Reply.{Reply}
use Rattle.node_seats.specs.declared.fault.SeatFault.{SeatFault}
pub use Rattle.node_seats.specs.Faults.{seat_word}
use Rattle.command_lines.specs.Printing.{ended, error_line, reply_text}

-- the line of a reply, or of a refusal
abbrev pub outcome_text : Result Reply SeatFault → List ℕ
outcome_text (Ok r) = ended (reply_text (reply_of r))
outcome_text (Err f) = error_line (seat_word f)
