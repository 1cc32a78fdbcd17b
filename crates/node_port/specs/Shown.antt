-- The lines that go out, but for those of letters and of what letters order.
use Rattle.std.specs.Prelude.{ℕ, Bool, true, false, codes, flat_map, List, [], ◌∷◌, ◌++◌, Option, Some, None, Result, Ok, Err}
use Rattle.std.specs.Fmt.{decimal}
use Rattle.registry_model.specs.Process.{Process, Text}
use Rattle.term.specs.NodeLists.{list_of_nodes}
use Rattle.term.specs.Spelling.{bytes_of, node_bytes}
use Rattle.command_lines.specs.declared.faults.LineFault.{LineFault}
use Rattle.command_lines.specs.declared.faults.LineFault.TheVariants as line
use Rattle.letter_lines.specs.declared.faults.LetterFault.{LetterFault}
use Rattle.letter_lines.specs.declared.faults.LetterFault.TheVariants as letter
use Rattle.command_lines.specs.Printing.{ended, pid_text, reply_text, word_of}
use Rattle.node_loop.specs.declared.replies.TaskFault.{TaskFault}
pub use Rattle.node_loop.specs.Words.{task_word}
use Rattle.node_loop.specs.Told.{Came, Answered, Made, Left, Told}

-- a line that goes out
pub data Shown : Type 0 where
  Puts : (name : Text) → (owner : Process) → Shown  -- the process has the name
  Removes : (name : Text) → Shown  -- nobody has it
  Strikes : (owner : Process) → Shown  -- the process has no name
  Drops : (node : ℕ) → Shown  -- no process of the node has one
  Clears : Shown  -- nobody has any
  Stands : (joined : Bool) → (members : List ℕ) → Shown  -- the node is joined with these, or lone
  Tells : (told : Told) → Shown  -- what came of what was asked under a tag
  Counts : (tag steps : ℕ) → Shown  -- how many steps the node has made
  Refuses : (tag : Option ℕ) → (fault : LineFault) → Shown  -- a line was not done
  Gaps : (node number : ℕ) → Shown  -- a line wasn't the next of its link
  Strays : Shown  -- a letter is one that no node says, as far as this one knows
  Misses : Shown  -- no other node of the world is meant
  Untells : Shown  -- the node wasn't told that the one before has left
  Waits : Shown  -- something waits to be tried again
  Spends : Shown  -- no stamp is left for a step

-- what came of a task
abbrev pub outcome_text : Result Came TaskFault → List ℕ
outcome_text (Ok (Answered stamp a)) = reply_text a.reply
outcome_text (Ok Made) = codes "ok"
outcome_text (Ok Left) = codes "ok"
outcome_text (Err f) = codes "error " ++ task_word f

-- whether a node is joined
abbrev pub standing_word : Bool → List ℕ
standing_word true = codes "joined"
standing_word false = codes "lone"

-- a tag and a space, where there is one
abbrev pub tag_text : Option ℕ → List ℕ
tag_text None = []
tag_text (Some tag) = decimal tag ++ 32 ∷ []

-- the fault of a line that says this part of no letter
abbrev pub line_fault_of : LetterFault → LineFault
line_fault_of letter.BadLine = line.BadLine
line_fault_of (letter.Text fault) = line.Text fault
line_fault_of letter.Memory = line.Memory

-- the text of a line
abbrev pub shown_text : Shown → List ℕ
shown_text (Puts x p) = codes "put " ++ (bytes_of x ++ 32 ∷ pid_text p)
shown_text (Removes x) = codes "remove " ++ bytes_of x
shown_text (Strikes p) = codes "strike " ++ pid_text p
shown_text (Drops n) = codes "drop " ++ node_bytes n
shown_text Clears = codes "clear"
shown_text (Stands joined members) = codes "state " ++ (standing_word joined ++ 32 ∷ list_of_nodes members)
shown_text (Tells told) = decimal told.ticket.number ++ 32 ∷ outcome_text told.outcome
shown_text (Counts tag steps) = decimal tag ++ 32 ∷ decimal steps
shown_text (Refuses tag fault) = tag_text tag ++ (codes "error " ++ word_of fault)
shown_text (Gaps node number) = codes "gap " ++ (node_bytes node ++ 32 ∷ decimal number)
shown_text Strays = codes "error stray_letter"
shown_text Misses = codes "error no_such_node"
shown_text Untells = codes "error not_told_yet"
shown_text Waits = codes "wait"
shown_text Spends = codes "error stamps_spent"

-- the line, with its end
abbrev pub shown_line : Shown → List ℕ
shown_line s = ended (shown_text s)

-- lines, one behind the other
abbrev pub shown_lines : List Shown → List ℕ
shown_lines ss = flat_map shown_line ss
