-- What a line that isn't empty asks for.
use Rattle.std.specs.Prelude.{ℕ, Bool, ◌≡◌, nat_lt, List, length, if◌then◌else◌, Option, Some, None, Result, Ok, Err}
use Rattle.std.specs.List.{list_all}
use Rattle.protocol_model.specs.NamedEvents.{NamedEvent, Play, Settle, TableAt, MembersAt}
use Rattle.term.specs.Nodes.{text_in}
use Rattle.world_events.specs.Events.{own_event_of, named_event}
use Rattle.command_lines.specs.declared.faults.LineFault.{LineFault}
use Rattle.command_lines.specs.declared.faults.LineFault.TheVariants.{LineTooLong, NotAscii}
use Rattle.command_lines.specs.declared.grammar.LineCommand.{LineCommand}
use Rattle.term.specs.declared.limits.TheConstants.{LONGEST_LINE}
use Rattle.text_lines.specs.Words.{words}
use Rattle.command_lines.specs.Grammar.{ScriptLine, Scripted, Finish, WordsAsk, WordsNameNodes}

-- each byte is below 128
abbrev pub is_ascii : List ℕ → Bool
is_ascii line = list_all (λ b. nat_lt b 128) line

-- why a line is refused before its words are looked at
abbrev pub unread : List ℕ → Option LineFault
unread line = if nat_lt LONGEST_LINE (length line) then Some LineTooLong else (if is_ascii line then None else Some NotAscii)

-- what a line asks for that can be read, or why it is refused
abbrev pub AsksUnless : Option LineFault → List ℕ → Result ScriptLine LineFault → Type 0
AsksUnless (Some f) line r = r ≡ Err f
AsksUnless None line r = WordsAsk (words line) r

-- what a line asks for, or why it is refused
abbrev pub LineAsks : List ℕ → Result ScriptLine LineFault → Type 0
LineAsks line r = AsksUnless (unread line) line r

-- a line that can be read asks for a lock call that names nodes
abbrev pub LineNamesNodes : List ℕ → Type 0
LineNamesNodes line = (unread line ≡ None) × WordsNameNodes (words line)

-- a command of the program, as a line of a script
abbrev pub line_in : LineCommand → ScriptLine
line_in (LineCommand.Play e) = Scripted (Play (named_event e))
line_in (LineCommand.At x e) = Scripted (Play (NamedEvent.At (text_in x) (own_event_of e)))
line_in LineCommand.Settle = Scripted Settle
line_in LineCommand.Finish = Finish
line_in (LineCommand.Table x) = Scripted (TableAt (text_in x))
line_in (LineCommand.Members x) = Scripted (MembersAt (text_in x))

-- what was read, as what a line asks for
abbrev pub asked_by : Result LineCommand LineFault → Result ScriptLine LineFault
asked_by (Ok t) = Ok (line_in t)
asked_by (Err f) = Err f
