-- The lines on which a server that stays tells what happens.
use Rattle.std.specs.Prelude.{ℕ, Bool, true, false, nat_lt, ◌-◌, if◌then◌else◌, Option, Some, None, List, ◌∷◌, ◌++◌, codes, Result, Ok, Err}
use Rattle.std.specs.Fmt.{decimal}
use Rattle.term.specs.Spelling.{name_bytes, node_bytes}
use Rattle.text_lines.specs.declared.faults.StreamFault.{StreamFault}
use Rattle.text_lines.specs.declared.faults.StreamFault.TheVariants as fault
use Rattle.console.specs.declared.ends.ConsoleEnd.{ConsoleEnd}
use Rattle.console.specs.declared.ends.ConsoleEnd.TheVariants as by
use Rattle.console.specs.declared.status.Load.{Load}
use Rattle.server.specs.declared.staying.descriptors.TheConstants.{OTHERS}
use Rattle.server.specs.declared.staying.desk.Message.{Message}
use Rattle.server.specs.declared.staying.desk.Message.TheVariants as message
use Rattle.server.specs.declared.staying.notes.Note.{Note}
use Rattle.server.specs.declared.staying.notes.Note.TheVariants.{Taken, Parted, NotAttached, TooMany, AcceptFailed, FewDescriptors, Spent}
use Rattle.server.specs.declared.staying.notes.Supply.{Supply}
use Rattle.server.specs.declared.staying.notes.Supply.TheVariants.{Calls, Serials}
use Rattle.server.specs.declared.staying.notes.Parting.{Parting}
use Rattle.server.specs.declared.staying.notes.Parting.TheVariants.{Quit, Input, Shutdown, Read, Write, Lines, Memory}

-- how a console ended that was served
abbrev pub parting_of : Result ConsoleEnd StreamFault → Parting
parting_of (Ok by.Quit) = Quit
parting_of (Ok by.Input) = Input
parting_of (Ok by.Shutdown) = Shutdown
parting_of (Err fault.Read) = Read
parting_of (Err fault.Write) = Write
parting_of (Err fault.TooManyLines) = Lines
parting_of (Err fault.Memory) = Memory

-- whether it asked for the end of the server
abbrev pub asks_for_the_end : Parting → Bool
asks_for_the_end Shutdown = true
asks_for_the_end _ = false

-- what is said then to the desk beside how it ended
abbrev pub shutdown_by : Parting → Option Message
shutdown_by Shutdown = Some message.Shutdown
shutdown_by _ = None

-- whether a message asks for the end of the server
abbrev pub is_shutdown : Message → Bool
is_shutdown message.Shutdown = true
is_shutdown _ = false

-- the word for how it ended
abbrev pub parting_word : Parting → List ℕ
parting_word Quit = codes "quit"
parting_word Input = codes "input"
parting_word Shutdown = codes "shutdown"
parting_word Read = codes "read"
parting_word Write = codes "write"
parting_word Lines = codes "lines"
parting_word Memory = codes "memory"

-- what is told of these numbers of a node, where they are nearly spent
abbrev pub note_if : Bool → Supply → ℕ → Option Note
note_if true supply node = Some (Spent supply node)
note_if false supply node = None

-- for how many consoles the descriptors serve, of which so many may be open and so many are: some are needed otherwise
abbrev pub served_by : ℕ → ℕ → ℕ
served_by most in_use = most - in_use - OTHERS

-- what is told where they serve for so many, and so many are wanted
abbrev pub note_if_short : ℕ → ℕ → Option Note
note_if_short served wanted = if nat_lt served wanted then Some (FewDescriptors served wanted) else None

-- what a server bears that serves so many consoles, in so much memory
abbrev pub load_of : ℕ → ℕ → Load
load_of consoles memory = record { consoles = consoles; memory = memory }

-- what is told of the console with this number
abbrev pub told_of : ℕ → List ℕ → List ℕ
told_of console text = codes "console " ++ decimal console ++ 32 ∷ text

-- the text of the line on which it is told
abbrev pub note_text : Note → List ℕ
note_text (Taken console) = told_of console (codes "taken")
note_text (Parted console node parting) = told_of console (name_bytes node ++ codes " ended " ++ parting_word parting)
note_text (NotAttached console) = told_of console (codes "not_attached")
note_text TooMany = codes "too_many_consoles"
note_text AcceptFailed = codes "accept failed"
note_text (FewDescriptors served wanted) = codes "descriptors for " ++ decimal served ++ codes " of " ++ decimal wanted ++ codes " consoles"
note_text (Spent Calls node) = codes "calls of " ++ node_bytes node ++ codes ": 90 % spent"
note_text (Spent Serials node) = codes "serials of " ++ node_bytes node ++ codes ": 90 % spent"
