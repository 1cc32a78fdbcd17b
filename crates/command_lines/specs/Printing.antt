-- What is printed, as bytes.
use Rattle.std.specs.Prelude.{ℕ, Bool, true, false, codes, ◌==◌, flat_map, List, [], ◌∷◌, ◌++◌, if◌then◌else◌, Option, Some, None}
use Rattle.std.specs.Fmt.{decimal}
use Rattle.registry_model.specs.Process.{Process}
use Rattle.registry_model.specs.Call.{Reply}
use Rattle.registry_model.specs.Settlement.{Notice}
use Rattle.registry_model.specs.Table.{Pair, Rule}
use Rattle.protocol_model.specs.Event.{Answer}
use Rattle.protocol_model.specs.NamedEvents.{NamedOutput, Said, Okay, Started, Error, Settled, SettleLimit, TableIs, MembersAre}
use Rattle.term.specs.Spelling.{bytes_of, node_bytes, dot}
use Rattle.term.specs.declared.faults.TextFault.TheVariants as text
pub use Rattle.world_events.specs.NodeEventsWords.{plain_word, refusal_word, word_for, step_word}
pub use Rattle.world_events.specs.Words.{start_word}
use Rattle.command_lines.specs.declared.faults.LineFault.{LineFault}
use Rattle.command_lines.specs.declared.faults.LineFault.TheVariants.{BadLine, LineTooLong, NotAscii, Text, Start, Memory}

-- the word for which a line is refused before it is played
abbrev pub word_of : LineFault → List ℕ
word_of BadLine = codes "bad_line"
word_of LineTooLong = codes "line_too_long"
word_of NotAscii = codes "not_ascii"
word_of (Text text.Empty) = codes "empty"
word_of (Text text.TooLong) = codes "too_long"
word_of (Text (text.BadByte place)) = codes "bad_byte"
word_of (Text text.BadCreation) = codes "bad_creation"
word_of (Text text.BadSerial) = codes "bad_serial"
word_of (Text text.BadRule) = codes "bad_rule"
word_of (Text text.TooManyNodes) = codes "too_many_nodes"
word_of (Start fault) = start_word fault
word_of Memory = codes "memory"

-- a process: its node, a dot and its serial
abbrev pub pid_text : Process → List ℕ
pid_text p = node_bytes p.node ++ dot ∷ decimal p.serial

-- names, in their order
abbrev pub names_text : List ℕ → List ℕ
names_text names = codes "names" ++ flat_map (λ x. 32 ∷ bytes_of x) names

-- what stands in a table's line behind a process for the name's rule: nothing for `exit`
abbrev pub rule_text : Rule → List ℕ
rule_text Rule.Exit = []
rule_text Rule.Notify = codes ",notify"
rule_text Rule.NotifyAll = codes ",notify_all"

-- a name, its process, and its rule unless that is `exit`
abbrev pub pair_text : Pair → List ℕ
pair_text e = bytes_of e.name ++ 61 ∷ pid_text e.owner ++ rule_text e.rule

-- the other process of a notice, if it has one
abbrev pub other_text : Option Process → List ℕ
other_text None = []
other_text (Some p) = 61 ∷ pid_text p

-- a notice: the name that was lost, and behind it the process that lost it too, where nobody has it
abbrev pub notice_text : Notice → List ℕ
notice_text n = bytes_of n.name ++ other_text n.other

-- notices, in the order in which they came
abbrev pub notices_text : List Notice → List ℕ
notices_text notices = codes "notices" ++ flat_map (λ n. 32 ∷ notice_text n) notices

-- a reply
abbrev pub reply_text : Reply → List ℕ
reply_text Reply.Yes = codes "yes"
reply_text Reply.No = codes "no"
reply_text Reply.Ok = codes "ok"
reply_text Reply.UnknownNode = codes "unknown_node"
reply_text Reply.True = codes "true"
reply_text Reply.False = codes "false"
reply_text Reply.Joined = codes "joined"
reply_text Reply.NotMember = codes "not_member"
reply_text Reply.ContactLeft = codes "contact_left"
reply_text (Reply.Pid p) = pid_text p
reply_text Reply.Undefined = codes "undefined"
reply_text (Reply.Names names) = names_text names
reply_text (Reply.Notices notices) = notices_text notices

-- it is one word, whatever was asked for
abbrev pub is_word : Reply → Bool
is_word (Reply.Pid p) = false
is_word (Reply.Names names) = false
is_word (Reply.Notices notices) = false
is_word _ = true

-- an answer: the reply, and before that of a numbered call the node, `#` and the number
abbrev pub answer_text : Answer → List ℕ
answer_text s =
    if s.number == 0 then reply_text s.reply else node_bytes s.node ++ 35 ∷ decimal s.number ++ 32 ∷ reply_text s.reply

-- a line: its text and a line feed
abbrev pub ended : List ℕ → List ℕ
ended text = text ++ 10 ∷ []

-- a refusal
abbrev pub error_line : List ℕ → List ℕ
error_line word = ended (codes "error " ++ word)

-- a line that is printed
pub data Shown : Type 0 where
  Shows : (output : NamedOutput) → Shown
  Refuses : (fault : LineFault) → Shown  -- the line was not played
  Finished : Shown  -- nothing waits in the world but lock calls

-- its bytes
abbrev pub output_line : NamedOutput → List ℕ
output_line (Said s) = ended (answer_text s)
output_line Okay = ended (codes "ok")
output_line (Started n) = ended (node_bytes n)
output_line (Error r) = error_line (refusal_word r)
output_line Settled = ended (codes "settled")
output_line SettleLimit = error_line (codes "settle_limit")
output_line (TableIs table) = ended (codes "table" ++ flat_map (λ e. 32 ∷ pair_text e) table)
output_line (MembersAre members) = ended (codes "members" ++ flat_map (λ a. 32 ∷ node_bytes a) members)

abbrev pub shown_line : Shown → List ℕ
shown_line (Shows o) = output_line o
shown_line (Refuses f) = error_line (word_of f)
shown_line Finished = ended (codes "finished")

-- the lines of answers
abbrev pub answers_text : List Answer → List ℕ
answers_text given = flat_map (λ s. output_line (Said s)) given

-- all bytes that are printed
abbrev pub shown_text : List Shown → List ℕ
shown_text shown = flat_map shown_line shown

-- it is no refusal
abbrev pub is_fine_output : NamedOutput → Bool
is_fine_output (Error r) = false
is_fine_output SettleLimit = false
is_fine_output _ = true

abbrev pub is_fine : Shown → Bool
is_fine (Shows o) = is_fine_output o
is_fine (Refuses f) = false
is_fine Finished = true
