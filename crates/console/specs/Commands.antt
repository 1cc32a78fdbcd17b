-- What a line of a console says.
use Rattle.std.specs.Prelude.{ℕ, Bool, true, false, ◌≡◌, ◌≢◌, ◌⊎◌, ◌&&◌, ◌||◌, bytes_eq, codes, if◌then◌else◌, not, drop, length, unwrap_or, List, [], ◌∷◌, Option, Some, None, Result, Ok, Err}
use Rattle.registry_model.specs.Call.{Register, ReRegister, Unregister, RegisteredNames, NoticesOf, Whereis as LooksUp}
use Rattle.protocol_model.specs.Event.{Calling, Exiting, Leave as Leaving, Spawn, OnName, LookUp, JoinBy}
use Rattle.term.specs.declared.rule.Rule.TheVariants as rule
use Rattle.registry_model.specs.Process.{Process}
use Rattle.term.specs.Spelling.{SpellsText, RefusesText, SpellsPid, RefusesPid}
use Rattle.std.specs.List.{after_first, position}
use Rattle.descriptions.specs.Texts.{SpellsDescription, RefusesDescription}
use Rattle.command_lines.specs.NodeEventsSeen.{call_of}
use Rattle.command_lines.specs.declared.faults.LineFault.{LineFault}
use Rattle.command_lines.specs.declared.faults.LineFault.TheVariants.{BadLine, Text}
use Rattle.command_lines.specs.Grammar.{ScriptLine as Line, Contact, Name, Pid, Rule, Row, row, row_of, at_node, call_at, pair_for, AsksBy, FirstRefused, WordsAsk, Finish}
use Rattle.command_lines.specs.Commands.{unread}
use Rattle.text_lines.specs.Words.{is_space, words}
use Rattle.console.specs.declared.orders.Order.{Order}
use Rattle.console.specs.declared.orders.Order.TheVariants.{Call, Whereis, Exit, Leave, Wait as Waits}
use Rattle.console.specs.declared.orders.Awaited.TheVariants.{Taken, Lost}
use Rattle.console.specs.declared.orders.Inquiry.{Inquiry}
use Rattle.console.specs.declared.orders.Inquiry.TheVariants.{Describe, Description, Find, Wait}
use Rattle.console.specs.declared.orders.Command.{Command}
use Rattle.console.specs.declared.orders.Command.TheVariants.{Ask, SpawnLink, Quit, Shutdown, Status, Fence, Help, NamesFrom, Inquire}

-- what the node n is asked, as a line of a script asks it. To wait is no event of the protocol: it stands as what no line of a console asks
abbrev pub line_in : ℕ → Order → Line
line_in n (Call c) = at_node n (Calling (call_of c))
line_in n (Whereis x) = at_node n (Calling (LookUp (LooksUp x)))
line_in n (Exit p) = at_node n (Exiting p)
line_in n Leave = at_node n Leaving
line_in n (Waits awaited) = Finish

-- the same, or why the line is refused
abbrev pub asked_of : ℕ → Result Order LineFault → Result Line LineFault
asked_of n (Ok o) = Ok (line_in n o)
asked_of n (Err f) = Err f

-- the lines that a console has of its own: each asks its node n, which none names. Where a name may have a rule and has none, that is
-- `exit`
abbrev pub own_lines : ℕ → List Row
own_lines n =
    row (codes "spawn") [] (call_at n Spawn)
    ∷ row (codes "exit") (Pid ∷ []) (λ p. at_node n (Exiting p))
    ∷ row (codes "notices") (Pid ∷ []) (λ p. call_at n (LookUp (NoticesOf p)))
    ∷ row (codes "register") (Name ∷ Pid ∷ []) (λ x p. call_at n (OnName (Register (pair_for x p rule.Exit))))
    ∷ row (codes "register") (Name ∷ Pid ∷ Rule ∷ []) (λ x p r. call_at n (OnName (Register (pair_for x p r))))
    ∷ row (codes "re_register") (Name ∷ Pid ∷ []) (λ x p. call_at n (OnName (ReRegister (pair_for x p rule.Exit))))
    ∷ row (codes "re_register") (Name ∷ Pid ∷ Rule ∷ []) (λ x p r. call_at n (OnName (ReRegister (pair_for x p r))))
    ∷ row (codes "unregister") (Name ∷ []) (λ x. call_at n (OnName (Unregister x)))
    ∷ row (codes "whereis") (Name ∷ []) (λ x. call_at n (LookUp (LooksUp x)))
    ∷ row (codes "names") [] (call_at n (LookUp RegisteredNames))
    ∷ row (codes "join") (Contact ∷ []) (λ m. call_at n (JoinBy m))
    ∷ row (codes "leave") [] (at_node n Leaving)
    ∷ []

-- what a line of its own asks, whichever the console's node is
abbrev pub AsksOwn : List ℕ → List (List ℕ) → Result Order LineFault → Type 0
AsksOwn word texts r = (n : ℕ) → AsksBy (row_of word texts (own_lines n)) texts (asked_of n r)

-- the lines that begin so are those of lock calls
abbrev pub is_lock_word : List ℕ → Bool
is_lock_word word = bytes_eq word (codes "set_lock") || bytes_eq word (codes "del_lock")

-- what a line of a lock call asks: what it asks in a script, but of the console's node and not of the holder's
abbrev pub AsksAsScript : List ℕ → List (List ℕ) → Result Order LineFault → Type 0
AsksAsScript word texts r = (holders : ℕ) × WordsAsk (word ∷ texts) (asked_of holders r)

abbrev pub AsksFor : Bool → List ℕ → List (List ℕ) → Result Order LineFault → Type 0
AsksFor true word texts r = AsksAsScript word texts r
AsksFor false word texts r = AsksOwn word texts r

-- what words ask that are no lock call
abbrev pub OwnAsk : List (List ℕ) → Result Order LineFault → Type 0
OwnAsk [] r = r ≡ Err BadLine
OwnAsk (word ∷ texts) r = AsksOwn word texts r

-- words begin as a lock call does
abbrev pub begins_lock : List (List ℕ) → Bool
begins_lock [] = false
begins_lock (word ∷ texts) = is_lock_word word

-- what words ask of the console's node, or why they are refused
abbrev pub WordsAskNode : List (List ℕ) → Result Order LineFault → Type 0
WordsAskNode [] r = r ≡ Err BadLine
WordsAskNode (word ∷ texts) r = AsksFor (is_lock_word word) word texts r

-- a process stands first behind this word
abbrev pub process_first : List ℕ → Bool
process_first word = bytes_eq word (codes "exit") || bytes_eq word (codes "notices") || bytes_eq word (codes "describe") || is_lock_word word

-- a process stands second behind it
abbrev pub process_second : List ℕ → Bool
process_second word = bytes_eq word (codes "register") || bytes_eq word (codes "re_register") || bytes_eq word (codes "wait")

-- what a text means, by whether a process stands there: `self` is the process of this text then, where the console has one of its own
abbrev pub meant_by : Option (List ℕ) → Bool → List ℕ → List ℕ
meant_by (Some own) true text = if bytes_eq text (codes "self") then own else text
meant_by _ _ text = text

-- what words mean in a console with this process of its own, or with none: their processes are spelled
abbrev pub meant : Option (List ℕ) → List (List ℕ) → List (List ℕ)
meant own (word ∷ text ∷ next ∷ texts) =
    word ∷ meant_by own (process_first word) text ∷ meant_by own (process_second word) next ∷ texts
meant own (word ∷ text ∷ []) = word ∷ meant_by own (process_first word) text ∷ []
meant own words = words

-- the words that ask for a process that is linked to the console
abbrev pub spawn_link : List (List ℕ)
spawn_link = codes "spawn_link" ∷ []

-- the words that end a console
abbrev pub quit : List (List ℕ)
quit = codes "quit" ∷ []

-- the words that end a server
abbrev pub shutdown : List (List ℕ)
shutdown = codes "shutdown" ∷ []

-- the words that ask how the node and the server stand
abbrev pub status : List (List ℕ)
status = codes "status" ∷ []

-- the word that asks by which step the console was granted a lock last
abbrev pub fence : List (List ℕ)
fence = codes "fence" ∷ []

-- the word that asks which lines there are
abbrev pub help : List (List ℕ)
help = codes "help" ∷ []

-- the words that ask for the names that begin with this text
abbrev pub names_with : List ℕ → List (List ℕ)
names_with text = codes "names" ∷ text ∷ []

-- the words ask what a server knows that stays: they are as many as such a line has
abbrev pub inquires : List (List ℕ) → Bool
inquires (word ∷ text ∷ []) = bytes_eq word (codes "describe") || bytes_eq word (codes "find") || bytes_eq word (codes "wait")
inquires (word ∷ text ∷ next ∷ []) = bytes_eq word (codes "wait")
inquires ws = false

-- what a word with one text asks then: a text in the place of a process is refused as one, and any other as a name
abbrev pub InquiresOfOne : List ℕ → List ℕ → Result Inquiry LineFault → Type 0
InquiresOfOne word text (Ok (Description p)) = (word ≡ codes "describe") × SpellsPid text p
InquiresOfOne word text (Ok (Find x)) = (word ≡ codes "find") × SpellsText text x
InquiresOfOne word text (Ok (Wait (Taken x))) = (word ≡ codes "wait") × SpellsText text x
InquiresOfOne word text (Err (Text f)) =
    ((word ≡ codes "describe") × RefusesPid text f) ⊎ (((word ≡ codes "find") ⊎ (word ≡ codes "wait")) × RefusesText text f)
InquiresOfOne word text r = ⊥

-- what `wait` with two texts asks
abbrev pub AwaitsLoss : List ℕ → List ℕ → Result Inquiry LineFault → Type 0
AwaitsLoss text next (Ok (Wait (Lost x p))) = SpellsText text x × SpellsPid next p
AwaitsLoss text next (Err (Text f)) = FirstRefused (Name ∷ Pid ∷ []) (text ∷ next ∷ []) f
AwaitsLoss text next r = ⊥

-- what such words ask, or why they are refused
abbrev pub Inquires : List (List ℕ) → Result Inquiry LineFault → Type 0
Inquires (word ∷ text ∷ []) r = InquiresOfOne word text r
Inquires (word ∷ text ∷ next ∷ []) r = (word ≡ codes "wait") × AwaitsLoss text next r
Inquires ws r = ⊥

-- words are these, of a line that a server has which stays, and no other
abbrev pub SaysAtStaying : Bool → List (List ℕ) → List (List ℕ) → Type 0
SaysAtStaying stays these ws = (stays ≡ true) × (ws ≡ these)

-- they aren't, or the server doesn't stay
abbrev pub SaysElse : Bool → List (List ℕ) → List (List ℕ) → Type 0
SaysElse stays these ws = stays ≡ true → ws ≢ these

-- they do none of what only a console does: it asks its node
abbrev pub IsAsking : Bool → List (List ℕ) → Type 0
IsAsking stays ws = (ws ≢ quit) × SaysElse stays shutdown ws × (ws ≢ spawn_link) × SaysElse stays status ws × SaysElse stays fence ws
    × SaysElse stays help ws × ((text : List ℕ) → SaysElse stays (names_with text) ws) × (stays ≡ true → inquires ws ≡ false)

-- a text in the place of such a beginning says this: it is refused as a name is
abbrev pub BeginsNames : List ℕ → Result Command LineFault → Type 0
BeginsNames text (Ok (NamesFrom prefix)) = SpellsText text prefix
BeginsNames text (Err (Text f)) = RefusesText text f
BeginsNames text _ = ⊥

-- words ask for the names that begin with a text, which says this
abbrev pub AsksForSome : Bool → List (List ℕ) → Result Command LineFault → Type 0
AsksForSome stays ws r = (text : List ℕ) × SaysAtStaying stays (names_with text) ws × BeginsNames text r

-- words ask what a server knows that stays, or are refused as such
abbrev pub AsksServer : Bool → List (List ℕ) → Result Inquiry LineFault → Type 0
AsksServer stays ws r = (stays ≡ true) × Inquires ws r

-- what words say in a console, of a server that stays or of another, or why they are refused
abbrev pub WordsSay : Bool → List (List ℕ) → Result Command LineFault → Type 0
WordsSay stays ws (Ok Quit) = ws ≡ quit
WordsSay stays ws (Ok Shutdown) = SaysAtStaying stays shutdown ws
WordsSay stays ws (Ok SpawnLink) = ws ≡ spawn_link
WordsSay stays ws (Ok Status) = SaysAtStaying stays status ws
WordsSay stays ws (Ok Fence) = SaysAtStaying stays fence ws
WordsSay stays ws (Ok Help) = SaysAtStaying stays help ws
WordsSay stays ws (Ok (NamesFrom prefix)) = AsksForSome stays ws (Ok (NamesFrom prefix))
WordsSay stays ws (Ok (Inquire inquiry)) = AsksServer stays ws (Ok inquiry)
WordsSay stays ws (Ok (Ask o)) = IsAsking stays ws × WordsAskNode ws (Ok o)
WordsSay stays ws (Err f) = (IsAsking stays ws × WordsAskNode ws (Err f)) ⊎ AsksForSome stays ws (Err f) ⊎ AsksServer stays ws (Err f)

-- words say something of a process: more than its text stands behind `describe`
abbrev pub describes : List (List ℕ) → Bool
describes (word ∷ process ∷ text ∷ more) = bytes_eq word (codes "describe")
describes ws = false

-- the text of that process
abbrev pub second : List (List ℕ) → List ℕ
second (word ∷ text ∷ more) = text
second ws = []

-- how many spaces stand before the first word of a line
abbrev pub spaces_before : List ℕ → ℕ
spaces_before line = unwrap_or (position (λ b. not (is_space b)) line) (length line)

-- what stands behind that word and one space
abbrev pub behind_word : List ℕ → List ℕ
behind_word line = after_first is_space (drop (spaces_before line) line)

-- what the text of a process and a text to its right say: the first of them that is none is refused
abbrev pub SaysOf : List ℕ → List ℕ → Result Command LineFault → Type 0
SaysOf process text (Ok (Inquire (Describe p said))) = SpellsPid process p × SpellsDescription text said
SaysOf process text (Err (Text f)) = RefusesPid process f ⊎ (((p : Process) × SpellsPid process p) × RefusesDescription text f)
SaysOf process text r = ⊥

-- what a line says that can be read, in a console with this process of its own, or with none: where it says something of a process, that is
-- all that stands behind its second word and one space, to the byte; else its words say it
abbrev pub SaysBy : Bool → Bool → Option (List ℕ) → List ℕ → Result Command LineFault → Type 0
SaysBy true stays own line r = SaysOf (meant_by own true (second (words line))) (behind_word (behind_word line)) r
SaysBy false stays own line r = WordsSay stays (meant own (words line)) r

abbrev pub TextSays : Bool → Option (List ℕ) → List ℕ → Result Command LineFault → Type 0
TextSays stays own line r = SaysBy (stays && describes (words line)) stays own line r

abbrev pub SaysUnless : Bool → Option (List ℕ) → Option LineFault → List ℕ → Result Command LineFault → Type 0
SaysUnless stays own (Some f) line r = r ≡ Err f
SaysUnless stays own None line r = TextSays stays own line r

-- what a line says, in a console with this process of its own, or with none, or why it is refused: an empty one is a bad line, too
abbrev pub LineSays : Bool → Option (List ℕ) → List ℕ → Result Command LineFault → Type 0
LineSays stays own line r = SaysUnless stays own (unread line) line r
