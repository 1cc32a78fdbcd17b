-- What the words behind a tag ask of the node.
use Rattle.std.specs.Prelude.{ℕ, Bool, true, false, ◌≡◌, ◌==◌, ◌||◌, ◌⊎◌, bytes_eq, codes, if◌then◌else◌, take, Option, Some, None, List, [], ◌∷◌, Ok}
use Rattle.registry_model.specs.Process.{Process}
use Rattle.term.specs.declared.limits.TheConstants.{MOST_WORDS}
use Rattle.protocol_model.specs.Event.{Event}
use Rattle.protocol_model.specs.NamedEvents.{At, AtNode, Play}
use Rattle.text_lines.specs.Words.{words}
use Rattle.command_lines.specs.Grammar.{ScriptLine, Scripted, WordsAsk}
use Rattle.command_lines.specs.Printing.{pid_text}
use Rattle.node_loop.specs.Held.{Looping}
use Rattle.term.specs.Nodes.{name_of}
use Rattle.term.specs.Spelling.{name_bytes}

-- a line that begins so names its node next in a script
abbrev pub is_call_word : List ℕ → Bool
is_call_word word = bytes_eq word (codes "spawn") || bytes_eq word (codes "register") || bytes_eq word (codes "re_register")
    || bytes_eq word (codes "unregister") || bytes_eq word (codes "join") || bytes_eq word (codes "leave")

-- a process stands first behind this word
abbrev pub process_first : List ℕ → Bool
process_first word = bytes_eq word (codes "exit") || bytes_eq word (codes "set_lock") || bytes_eq word (codes "del_lock")

-- a process stands second behind it
abbrev pub process_second : List ℕ → Bool
process_second word = bytes_eq word (codes "register") || bytes_eq word (codes "re_register")

-- words begin with such a word
abbrev pub begins_as : (List ℕ → Bool) → List (List ℕ) → Bool
begins_as is [] = false
begins_as is (word ∷ texts) = is word

-- words with the name of a node behind the first
abbrev pub with_node : List ℕ → List (List ℕ) → List (List ℕ)
with_node node [] = []
with_node node (word ∷ texts) = word ∷ node ∷ texts

-- words ask what this line of a script does: one with the name of the node, where a script has that there
abbrev pub AsksAsScript : List ℕ → List (List ℕ) → ScriptLine → Type 0
AsksAsScript node ws line =
    ((begins_as is_call_word ws ≡ true) × WordsAsk (with_node node ws) (Ok line))
    ⊎ ((begins_as process_first ws ≡ true) × WordsAsk ws (Ok line))

-- a line of a script asks a node for this event
abbrev pub IsAsked : ScriptLine → Event → Type 0
IsAsked (Scripted (Play (AtNode n e))) event = e ≡ event
IsAsked (Scripted (Play (At x e))) event = e ≡ event
IsAsked line event = ⊥

-- words ask the node of this name for an event, as a line of a script does
abbrev pub WordsAskFor : List ℕ → List (List ℕ) → Event → Type 0
WordsAskFor node ws event = (line : ScriptLine) × AsksAsScript node ws line × IsAsked line event

-- what a text means, by whether a process stands there: `self` is the process of this text then
abbrev pub meant_by : List ℕ → Bool → List ℕ → List ℕ
meant_by own true text = if bytes_eq text (codes "self") then own else text
meant_by own false text = text

-- what words mean where this process was spawned last
abbrev pub meant : List ℕ → List (List ℕ) → List (List ℕ)
meant own (word ∷ text ∷ next ∷ texts) =
    word ∷ meant_by own (process_first word) text ∷ meant_by own (process_second word) next ∷ texts
meant own (word ∷ text ∷ []) = word ∷ meant_by own (process_first word) text ∷ []
meant own ws = ws

-- by what a node reads: the text of its name, and what `self` stands for
pub record Reader : Type 0 where
  pub node : List ℕ
  pub own : List ℕ

-- the process that was spawned last, or the word itself where none was
abbrev pub own_bytes : Option Process → List ℕ
own_bytes None = codes "self"
own_bytes (Some process) = pid_text process

-- the process of a node with its last serial, if it has spawned one
abbrev pub last_process : ℕ → ℕ → Option Process
last_process node serial = if serial == 0 then None else Some (record { node = node; serial = serial })

-- by what a node of this name reads where this process was spawned last
abbrev pub reads_as : ℕ → Option Process → Reader
reads_as name last = record { node = name_bytes name; own = own_bytes last }

-- by what the loop of a node reads
abbrev pub reader_of : Looping → Reader
reader_of a = reads_as (name_of a.log.node) (last_process a.log.node a.core.watch.watch.last_serial)

-- a text asks a node for this event: by its first words, of which no line has so many
abbrev pub TextAsksFor : Reader → List ℕ → Event → Type 0
TextAsksFor reader text event = WordsAskFor reader.node (meant reader.own (take MOST_WORDS (words text))) event
