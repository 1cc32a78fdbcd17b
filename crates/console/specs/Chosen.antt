-- The names that begin with a text.
use Rattle.std.specs.Prelude.{ℕ, Bool, bytes_eq, filter, if◌then◌else◌, length, take, List, [], ◌∷◌, Result, Ok}
use Rattle.term.specs.Spelling.{bytes_of}
use Rattle.command_lines.specs.declared.Reply.{Reply}
use Rattle.command_lines.specs.declared.Reply.TheVariants.{Names}
use Rattle.command_lines.specs.Printing.{ended, names_text}
use Rattle.node_seats.specs.declared.fault.SeatFault.{SeatFault}
use Rattle.console.specs.Outcomes.{outcome_text}

-- the first bytes of a name are those of this one
abbrev pub begins_with : ℕ → ℕ → Bool
begins_with prefix name = bytes_eq (bytes_of prefix) (take (length (bytes_of prefix)) (bytes_of name))

-- those among names of which that is so, in their order
abbrev pub names_from : ℕ → List ℕ → List ℕ
names_from prefix names = filter (begins_with prefix) names

-- a blank and a name that is so; nothing for another
abbrev pub name_if : ℕ → ℕ → List ℕ
name_if prefix name = if begins_with prefix name then 32 ∷ bytes_of name else []

-- the line of them, where a look-up of all names was answered so, or of whatever else it was answered
abbrev pub chosen_text : ℕ → Result Reply SeatFault → List ℕ
chosen_text prefix (Ok (Names list)) = ended (names_text (names_from prefix list.names.items))
chosen_text prefix r = outcome_text r
