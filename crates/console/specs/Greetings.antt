-- The first line of a console.
use Rattle.std.specs.Prelude.{ℕ, Bool, true, false, ◌≡◌, ◌⊎◌, ◌&&◌, ⊤, bytes_eq, codes, List, [], ◌∷◌, Option, Some, None, Result, Ok, Err, if◌then◌else◌}
use Rattle.std.specs.Io.KnownBytes.{Appends, Keeps}
use Rattle.term.specs.NodeSets.{set_of}
use Rattle.term.specs.Spelling.{SpellsNodeName, RefusesText}
use Rattle.term.specs.declared.faults.TextFault.{TextFault}
use Rattle.command_lines.specs.declared.faults.LineFault.{LineFault}
use Rattle.command_lines.specs.declared.faults.LineFault.TheVariants.{Text}
use Rattle.command_lines.specs.Commands.{unread}
use Rattle.command_lines.specs.Printing.{ended, error_line}
use Rattle.text_lines.specs.declared.faults.StreamFault.{StreamFault}
use Rattle.text_lines.specs.declared.faults.StreamFault.TheVariants.{Write, Memory}
use Rattle.text_lines.specs.Lines.{LosesLines, HasNoLine, StopsAtLine}
use Rattle.term.specs.declared.limits.TheConstants.{MOST_LINES}
use Rattle.text_lines.specs.Words.{words}
use Rattle.text_lines.specs.Writing.{AppendsPart}
use Rattle.console.specs.Faults.{greet_word}
use Rattle.console.specs.declared.faults.GreetFault.{GreetFault}
use Rattle.console.specs.declared.faults.GreetFault.TheVariants.{Line, NotAllowed, NotAttached, NoSuchNode}

-- what is printed where something is done that has no reply
abbrev pub okay : List ℕ
okay = ended (codes "ok")

-- the node, if it is one of these
abbrev pub one_of : List ℕ → ℕ → Result ℕ GreetFault
one_of nodes n = if set_of nodes n then Ok n else Err NoSuchNode

-- which of these nodes a text names, or why none
abbrev pub NamesNode : List ℕ → List ℕ → Result ℕ GreetFault → Type 0
NamesNode nodes text r =
    ((n : ℕ) × SpellsNodeName text n × (r ≡ one_of nodes n))
    ⊎ ((f : TextFault) × RefusesText text f × (r ≡ Err (Line (Text f))))

abbrev pub AttachesIf : Bool → List ℕ → List ℕ → Result ℕ GreetFault → Type 0
AttachesIf true nodes text r = NamesNode nodes text r
AttachesIf false nodes text r = r ≡ Err NotAttached

-- to which of these nodes words attach a console that needn't show anything, or why to none
abbrev pub WordsAttach : List ℕ → List (List ℕ) → Result ℕ GreetFault → Type 0
WordsAttach nodes (word ∷ text ∷ []) r = AttachesIf (bytes_eq word (codes "attach")) nodes text r
WordsAttach nodes _ r = r ≡ Err NotAttached

abbrev pub AttachesUnless : Option LineFault → List ℕ → List ℕ → Result ℕ GreetFault → Type 0
AttachesUnless (Some f) nodes line r = r ≡ Err (Line f)
AttachesUnless None nodes line r = WordsAttach nodes (words line) r

-- the first and the third of three words show this cookie
abbrev pub is_shown : List ℕ → List ℕ → List ℕ → Bool
is_shown word shown cookie = bytes_eq word (codes "attach") && bytes_eq shown cookie

abbrev pub AllowsIf : Bool → List ℕ → List ℕ → Result ℕ GreetFault → Type 0
AllowsIf true nodes text r = NamesNode nodes text r
AllowsIf false nodes text r = r ≡ Err NotAllowed

-- to which of these nodes words attach a console that must show this cookie, or why to none
abbrev pub WordsShow : List ℕ → List ℕ → List (List ℕ) → Result ℕ GreetFault → Type 0
WordsShow cookie nodes (word ∷ text ∷ shown ∷ []) r = AllowsIf (is_shown word shown cookie) nodes text r
WordsShow cookie nodes _ r = r ≡ Err NotAllowed

-- a line that can't be read shows nothing
abbrev pub AllowsUnless : Option LineFault → List ℕ → List ℕ → List ℕ → Result ℕ GreetFault → Type 0
AllowsUnless (Some f) cookie nodes line r = r ≡ Err NotAllowed
AllowsUnless None cookie nodes line r = WordsShow cookie nodes (words line) r

-- to which of these nodes a line attaches a console, which must show the cookie where there is one, or why to none
abbrev pub LineAttaches : Option (List ℕ) → List ℕ → List ℕ → Result ℕ GreetFault → Type 0
LineAttaches None nodes line r = AttachesUnless (unread line) nodes line r
LineAttaches (Some cookie) nodes line r = AllowsUnless (unread line) cookie nodes line r

-- a line shows the cookie behind `attach` and a text, where there is one
abbrev pub Shows : Option (List ℕ) → List ℕ → Type 0
Shows None line = ⊤
Shows (Some cookie) line = (text : List ℕ) × (words line ≡ codes "attach" ∷ text ∷ cookie ∷ [])

-- the one line that was read does
abbrev pub ShowsFirst : Option (List ℕ) → Option (List ℕ) → Option (List ℕ) → Type 0
ShowsFirst cookie input rest = (line : List ℕ) × LosesLines input rest (line ∷ []) × Shows cookie line

-- what the line is answered
abbrev pub greeting_text : Result ℕ GreetFault → List ℕ
greeting_text (Ok n) = okay
greeting_text (Err f) = error_line (greet_word f)

-- the node, where there is one
abbrev pub node_in : Result ℕ GreetFault → Option ℕ
node_in (Ok n) = Some n
node_in (Err f) = None

-- a first line was read, and nothing behind it, and this is to be answered, if there is a place for whom it attaches
pub record ReadsFirst (cookie : Option (List ℕ)) (nodes : List ℕ) (input rest old new : Option (List ℕ)) (answer : Result ℕ GreetFault) : Type 0 where
  pub line : List ℕ
  pub read : LosesLines input rest (line ∷ [])
  pub attaches : LineAttaches cookie nodes line answer
  pub kept : Keeps old new

-- a first line was read, and nothing behind it; it was answered
pub record AnswersFirst (cookie : Option (List ℕ)) (nodes : List ℕ) (input rest old new : Option (List ℕ)) (found : Option ℕ) : Type 0 where
  pub line : List ℕ
  pub answer : Result ℕ GreetFault
  pub read : LosesLines input rest (line ∷ [])
  pub attaches : LineAttaches cookie nodes line answer
  pub found_is : found ≡ node_in answer
  pub wrote : Appends old new (greeting_text answer)

-- there is no line, and nothing was written
pub record HasNoFirst (input rest old new : Option (List ℕ)) (found : Option ℕ) : Type 0 where
  pub read : LosesLines input rest []
  pub none : HasNoLine rest
  pub found_is : found ≡ None
  pub kept : Keeps old new

-- A console was greeted, and is attached to the node that was found, if one was
abbrev pub Greets : Option (List ℕ) → List ℕ → Option (List ℕ) → Option (List ℕ) → Option (List ℕ) → Option (List ℕ) → Option ℕ → Type 0
Greets cookie nodes input rest old new found =
    AnswersFirst cookie nodes input rest old new found ⊎ HasNoFirst input rest old new found

-- the first line wasn't read, and nothing was written
abbrev pub StopsFirst : Option (List ℕ) → Option (List ℕ) → Option (List ℕ) → Option (List ℕ) → StreamFault → Type 0
StopsFirst input rest old new f = StopsAtLine input rest MOST_LINES f × Keeps old new

-- it was read, and a part of its answer was written
pub record CutsFirst (cookie : Option (List ℕ)) (nodes : List ℕ) (input rest old new : Option (List ℕ)) (f : StreamFault) : Type 0 where
  pub line : List ℕ
  pub answer : Result ℕ GreetFault
  pub read : LosesLines input rest (line ∷ [])
  pub attaches : LineAttaches cookie nodes line answer
  pub wrote : AppendsPart old new (greeting_text answer)
  pub fault_is : (f ≡ Write) ⊎ (f ≡ Memory)

-- A console wasn't greeted
abbrev pub GreetStops : Option (List ℕ) → List ℕ → Option (List ℕ) → Option (List ℕ) → Option (List ℕ) → Option (List ℕ) → StreamFault → Type 0
GreetStops cookie nodes input rest old new f =
    StopsFirst input rest old new f ⊎ CutsFirst cookie nodes input rest old new f
