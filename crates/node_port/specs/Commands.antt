-- What the lines say that come in.
use Rattle.std.specs.Prelude.{ℕ, Bool, true, false, ◌≡◌, ◌≢◌, ◌==◌, codes, List, ◌∷◌, ◌++◌, Option, Some, None, Ok}
use Rattle.std.specs.List.{All}
use Rattle.term.specs.Spelling.{SpellsNode}
use Rattle.command_lines.specs.Commands.{unread}
use Rattle.command_lines.specs.Events.{own_event_of}
use Rattle.command_lines.specs.declared.LocalEvent.{LocalEvent}
use Rattle.command_lines.specs.declared.faults.LineFault.{LineFault}
use Rattle.letter_lines.specs.Grammar.{TextReads}
use Rattle.letter_lines.specs.declared.part.Part.{Part}
use Rattle.letter_lines.specs.declared.faults.LetterFault.{LetterFault}
use Rattle.wire_end.specs.declared.line.LinkLine.{LinkLine}
use Rattle.node_port.specs.Asking.{Reader, TextAsksFor}
use Rattle.node_port.specs.Numbers.{SpellsNumber}
use Rattle.node_port.specs.declared.commands.Command.{Command}
use Rattle.node_port.specs.declared.commands.Command.TheVariants.{Ask, Steps, Letter, Down, Started, Tick}
use Rattle.node_port.specs.declared.commands.Refused.{Refused as ARefused}

-- no byte is a space
abbrev pub HasNoSpace : List ℕ → Type 0
HasNoSpace bytes = All (λ b. (b == 32) ≡ false) bytes

-- a text cut at its first space: what stands before it, and what stands behind it
pub record IsCut (bytes front back : List ℕ) : Type 0 where
  pub is : bytes ≡ front ++ 32 ∷ back
  pub first : HasNoSpace front

-- a text can't be cut so
abbrev pub HasNoCut : List ℕ → Type 0
HasNoCut bytes = (front back : List ℕ) → IsCut bytes front back → ⊥

-- a text tells a line of a link: its number, its stamp, and what it says
pub record TellsLine (bytes : List ℕ) (line : LinkLine) : Type 0 where
  pub number : List ℕ
  pub stamp : List ℕ
  pub text : List ℕ
  pub is : bytes ≡ number ++ 32 ∷ (stamp ++ 32 ∷ text)
  pub place : SpellsNumber number line.number
  pub sent : SpellsNumber stamp line.stamp
  pub says : TextReads text (Ok line.part)

-- a text tells no line of a link, or no part of a letter
abbrev pub TellsNoLine : List ℕ → Type 0
TellsNoLine bytes = (line : LinkLine) → TellsLine bytes line → ⊥

abbrev pub TellsNoPart : List ℕ → Type 0
TellsNoPart text = (part : Part) → TextReads text (Ok part) → ⊥

-- these bytes are a line of the link with this node
pub record IsLinkLine (bytes : List ℕ) (from : ℕ) (line : LinkLine) : Type 0 where
  pub node : List ℕ
  pub rest : List ℕ
  pub is : bytes ≡ codes "letter " ++ (node ++ 32 ∷ rest)
  pub sender : SpellsNode node from
  pub tells : TellsLine rest line

-- they are the line that this node is gone
pub record IsDownLine (bytes : List ℕ) (node : ℕ) : Type 0 where
  pub text : List ℕ
  pub is : bytes ≡ codes "down " ++ text
  pub spells : SpellsNode text node

-- they are the line that a node has started
pub record IsStartedLine (bytes : List ℕ) (node : ℕ) : Type 0 where
  pub text : List ℕ
  pub is : bytes ≡ codes "started " ++ text
  pub spells : SpellsNode text node

-- they are a tag, and behind it this text
pub record IsTagged (bytes : List ℕ) (tag : ℕ) (text : List ℕ) : Type 0 where
  pub digits : List ℕ
  pub is : bytes ≡ digits ++ 32 ∷ text
  pub number : SpellsNumber digits tag

-- they have no tag
abbrev pub HasNoTag : List ℕ → Type 0
HasNoTag bytes = (tag : ℕ) (text : List ℕ) → IsTagged bytes tag text → ⊥

-- something else is asked under this tag than how many steps there are
pub record AsksUnder (bytes : List ℕ) (tag : ℕ) : Type 0 where
  pub text : List ℕ
  pub tagged : IsTagged bytes tag text
  pub asks : text ≢ codes "steps"

-- this event is, as this node reads it
pub record AsksFor (reader : Reader) (bytes : List ℕ) (tag : ℕ) (event : LocalEvent) : Type 0 where
  pub text : List ℕ
  pub tagged : IsTagged bytes tag text
  pub asks : text ≢ codes "steps"
  pub event_is : TextAsksFor reader text (own_event_of event)

-- what a command says of its line, as this node reads it
abbrev pub Says : Reader → List ℕ → Command → Type 0
Says reader bytes (Ask tag event) = AsksFor reader bytes tag event
Says reader bytes (Steps tag) = IsTagged bytes tag (codes "steps")
Says reader bytes (Letter from line) = IsLinkLine bytes from line
Says reader bytes (Down node) = IsDownLine bytes node
Says reader bytes (Started node) = IsStartedLine bytes node
Says reader bytes Tick = bytes ≡ codes "tick"

-- they are none of the lines that have no tag
pub record SaysNothing (bytes : List ℕ) : Type 0 where
  pub letter : (from : ℕ) (line : LinkLine) → IsLinkLine bytes from line → ⊥
  pub down : (node : ℕ) → IsDownLine bytes node → ⊥
  pub started : (node : ℕ) → IsStartedLine bytes node → ⊥
  pub tick : bytes ≢ codes "tick"

-- what is refused under a tag, or under none: something is asked under it, or there is none, and it is none of the other lines either
abbrev pub Refuses : List ℕ → Option ℕ → Type 0
Refuses bytes (Some tag) = AsksUnder bytes tag
Refuses bytes None = HasNoTag bytes × SaysNothing bytes

-- why a line is refused: it can't be read, or what it says
abbrev pub RefusedFor : Option LineFault → List ℕ → ARefused → Type 0
RefusedFor (Some fault) bytes refused = (refused.tag ≡ None) × (refused.fault ≡ fault)
RefusedFor None bytes refused = Refuses bytes refused.tag

abbrev pub IsRefused : List ℕ → ARefused → Type 0
IsRefused bytes refused = RefusedFor (unread bytes) bytes refused

-- how a line is taken: what it says is done; or it says nothing, and is refused, under a tag or under none; or it is of no other node of the
-- world; or it is a line of a link that isn't the next of it, or that says no part of the letter which those before it began, or that ends a
-- letter which no node says, as far as this one knows; or a node is to have started, and it wasn't told that the one before it has left
pub data Taken : Type 0 where
  Follows : (command : Command) → Taken
  Refused : (tag : Option ℕ) (fault : LineFault) → Taken
  Strange : (command : Command) → Taken
  Misplaced : (from : ℕ) (line : LinkLine) → Taken
  Unfit : (from : ℕ) (line : LinkLine) (fault : LetterFault) → Taken
  Astray : (from : ℕ) (line : LinkLine) → Taken
  Untold : (next : ℕ) → Taken

-- a line that is taken so says so
abbrev pub IsTaken : Reader → List ℕ → Taken → Type 0
IsTaken reader bytes (Follows command) = Says reader bytes command
IsTaken reader bytes (Refused tag fault) = IsRefused bytes (record { tag = tag; fault = fault })
IsTaken reader bytes (Strange command) = Says reader bytes command
IsTaken reader bytes (Misplaced from line) = IsLinkLine bytes from line
IsTaken reader bytes (Unfit from line fault) = IsLinkLine bytes from line
IsTaken reader bytes (Astray from line) = IsLinkLine bytes from line
IsTaken reader bytes (Untold next) = IsStartedLine bytes next

-- how a command may be taken
abbrev pub TakenAs : Command → Taken → Type 0
TakenAs c (Follows d) = d ≡ c
TakenAs c (Refused tag fault) = ⊥
TakenAs c (Strange d) = d ≡ c
TakenAs c (Misplaced from line) = c ≡ Letter from line
TakenAs c (Unfit from line fault) = c ≡ Letter from line
TakenAs c (Astray from line) = c ≡ Letter from line
TakenAs c (Untold next) = c ≡ Started next

-- steps may be made for it
abbrev pub is_done : Taken → Bool
is_done (Follows (Steps tag)) = false
is_done (Follows (Started next)) = false
is_done (Follows command) = true
is_done _ = false
