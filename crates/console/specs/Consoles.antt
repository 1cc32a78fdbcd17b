-- What a console asks and prints for its lines.
use Rattle.std.specs.Prelude.{ℕ, Bool, false, ⊤, ◌≡◌, ◌<◌, ◌≤◌, ◌+◌, ◌⊎◌, codes, unwrap_or, length, List, [], ◌∷◌, ◌++◌, Option, Some, None, Result, Ok, Err}
use Rattle.std.specs.List.{concat}
use Rattle.std.specs.Io.KnownBytes.{Appends}
use Rattle.registry_model.specs.Process.{Process}
use Rattle.command_lines.specs.declared.Call.TheVariants.{Spawn, RegisteredNames}
use Rattle.command_lines.specs.declared.Reply.{Reply}
use Rattle.command_lines.specs.declared.Reply.TheVariants.{Pid}
use Rattle.node_seats.specs.declared.fault.SeatFault.{SeatFault}
use Rattle.node_seats.specs.declared.fault.SeatFault.TheVariants as seat
use Rattle.command_lines.specs.declared.faults.LineFault.{LineFault}
use Rattle.command_lines.specs.Printing.{error_line, word_of}
use Rattle.text_lines.specs.declared.faults.StreamFault.{StreamFault}
use Rattle.text_lines.specs.declared.faults.StreamFault.TheVariants.{Read, Write, TooManyLines, Memory}
use Rattle.text_lines.specs.Lines.{BeginsWithLines, LosesLines, LosesInto, HasNoLine, HasNoFeed, IsWithinLine, count_of, count_of_all}
use Rattle.term.specs.declared.limits.TheConstants.{MOST_LINES, MOST_LINKS}
use Rattle.text_lines.specs.Writing.{AppendsPart, Growth}
use Rattle.console.specs.Chosen.{chosen_text}
use Rattle.console.specs.Commands.{LineSays}
use Rattle.console.specs.Fences.{fence_outcome}
use Rattle.console.specs.Greetings.{okay}
use Rattle.console.specs.Help.{help_line}
use Rattle.console.specs.Links.{left_by, linked_by, may_wait, own_text}
use Rattle.console.specs.Outcomes.{outcome_text}
use Rattle.console.specs.declared.ends.ConsoleEnd.{ConsoleEnd}
use Rattle.console.specs.declared.ends.ConsoleEnd.TheVariants as by
use Rattle.console.specs.declared.orders.Order.{Order}
use Rattle.console.specs.declared.orders.Order.TheVariants.{Call, Exit, Wait, Whereis}
use Rattle.console.specs.declared.orders.Command.{Command}
use Rattle.console.specs.declared.orders.Command.TheVariants.{Ask, SpawnLink, Quit, Shutdown, Status, Fence, Help, NamesFrom, Inquire}
use Rattle.console.specs.declared.orders.Inquiry.{Inquiry}
use Rattle.console.specs.declared.orders.Inquiry.TheVariants as inquiry
use Rattle.console.specs.declared.describing.DescribeFault.{DescribeFault}
use Rattle.console.specs.declared.status.Status.{Status as Standing}
use Rattle.console.specs.Describing.{Fact, Said, Says, Stand, describe_text, description_text, look_up_text}
use Rattle.console.specs.Statuses.{status_outcome}

-- what an order may be answered, and what is left then; whether it is the call of a linked process that may wait is told with it
abbrev pub Answering : Type 0 → Type 1
Answering S = S → Order → Bool → Result Reply SeatFault → S → Type 0

-- how things may stand at the node and the server
abbrev pub Stands : Type 0 → Type 1
Stands S = S → Fact → Type 0

-- how a conversation stands: who answers, as contracts see them, and the processes that are linked to the console, in their order
pub record Talk (S : Type 0) : Type 0 where
  pub state : S
  pub links : List Process

module _ {S : Type 0} where
  abbrev pub talk : S → List Process → Talk S
  talk s links = record { state = s; links = links }

  -- at its beginning nothing is linked
  abbrev pub begun : S → Talk S
  begun s = talk s []

-- these first lines count for no more than the most; with the next one they count for more, or that one does for more than a
-- reader's lines may
abbrev pub GoesTooFar : Option (List ℕ) → ℕ → List (List ℕ) → Type 0
GoesTooFar input most ls = (line : List ℕ) × BeginsWithLines input (ls ++ line ∷ []) × (count_of_all ls ≤ most)
    × ((most < count_of_all (ls ++ line ∷ [])) ⊎ (MOST_LINES < count_of line))

module _ {S : Type 0} (answers : Answering S) where
  -- each of these processes was asked to exit, once, in their order, whatever was answered
  abbrev pub Exits : List Process → S → S → Type 0
  Exits [] s t = t ≡ s
  Exits (p ∷ ps) s t = (r : Result Reply SeatFault) × (u : S) × answers s (Exit p) false r u × Exits ps u t

  -- a conversation led so far, and then all that it left linked exited
  abbrev pub ThenExits : (Talk S → Talk S → Type 0) → S → S → Type 0
  ThenExits Talks s t = (u : Talk S) × Talks (begun s) u × Exits u.links u.state t

  -- a process was asked for and linked, if it was given; or there is no memory to link it, and nothing was asked
  abbrev pub SpawnsLinked : Talk S → Result Reply SeatFault → Talk S → Type 0
  SpawnsLinked s r t =
      (answers s.state (Call Spawn) false r t.state × (t.links ≡ s.links ++ linked_by r))
      ⊎ ((r ≡ Err seat.Memory) × (t ≡ s))

  -- so where there is room for one more, and this is printed; else nothing is asked
  abbrev pub HeedsSpawnLink : Talk S → List ℕ → Talk S → Type 0
  HeedsSpawnLink s text t =
      ((length s.links < MOST_LINKS) × (r : Result Reply SeatFault) × SpawnsLinked s r t × (text ≡ outcome_text r))
      ⊎ ((MOST_LINKS ≤ length s.links) × (t ≡ s) × (text ≡ error_line (codes "too_many_links")))

  -- it was answered so, or nothing was asked
  abbrev pub MaySpawnLinked : Talk S → Talk S → Type 0
  MaySpawnLinked s t = (t ≡ s) ⊎ ((text : List ℕ) × HeedsSpawnLink s text t)

  -- all names were asked for, and those are printed that begin so
  abbrev pub ChoosesNames : ℕ → S → List ℕ → S → Type 0
  ChoosesNames prefix s text t =
      (r : Result Reply SeatFault) × answers s (Call RegisteredNames) false r t × (text ≡ chosen_text prefix r)

module _ {S : Type 0} (answers : Answering S) (stands : Stands S) where
  -- this was said of the process that a look-up found, if it found one
  abbrev pub IsSaidOf : S → Result Reply SeatFault → Option (List ℕ) → Type 0
  IsSaidOf s (Ok (Pid p)) said = stands s (Said p said)
  IsSaidOf s r said = ⊤

  -- it is printed whether something is said of a process
  abbrev pub SaysOfProcess : Process → List ℕ → S → List ℕ → S → Type 0
  SaysOfProcess p said s text t =
      (r : Result (Unit {0}) DescribeFault) × stands s (Says p said r) × (text ≡ describe_text r) × (t ≡ s)

  -- it is printed what was said of it
  abbrev pub TellsOfProcess : Process → S → List ℕ → S → Type 0
  TellsOfProcess p s text t = (said : Option (List ℕ)) × stands s (Said p said) × (text ≡ description_text said) × (t ≡ s)

  -- a name was looked up, and the process is printed with what was said of it
  abbrev pub FindsName : ℕ → S → List ℕ → S → Type 0
  FindsName x s text t =
      (r : Result Reply SeatFault) × answers s (Whereis x) false r t × (said : Option (List ℕ)) × IsSaidOf t r said × (text ≡ look_up_text r said)

  -- This is printed for what a line asks of what the server knows, or says of a process; or what came of waiting
  abbrev pub HeedsInquiry : S → List Process → Inquiry → List ℕ → S → Type 0
  HeedsInquiry s links (inquiry.Describe p said) text t = SaysOfProcess p said s text t
  HeedsInquiry s links (inquiry.Description p) text t = TellsOfProcess p s text t
  HeedsInquiry s links (inquiry.Find x) text t = FindsName x s text t
  HeedsInquiry s links (inquiry.Wait awaited) text t =
      (r : Result Reply SeatFault) × answers s (Wait awaited) (may_wait (Wait awaited) links) r t × (text ≡ outcome_text r)

module _ {S : Type 0} (answers : Answering S) (stands : Stands S) (stays : Bool) where
  -- This is printed for what a line says, this is left, and so it ends the console, if it does: an order is printed as it was answered,
  -- and how the node and the server stand, or the number of the step that granted the console a lock last, as it was told, which asks for
  -- nothing. Of the names that were answered only those are printed that begin as the line says
  abbrev pub Heeds : Talk S → Result Command LineFault → List ℕ → Talk S → Option ConsoleEnd → Type 0
  Heeds s (Ok (Ask order)) text t ended =
      (r : Result Reply SeatFault) × answers s.state order (may_wait order s.links) r t.state × (t.links ≡ left_by order r s.links) × (text ≡ outcome_text r)
      × (ended ≡ None)
  Heeds s (Ok SpawnLink) text t ended = HeedsSpawnLink answers s text t × (ended ≡ None)
  Heeds s (Ok Quit) text t ended = (text ≡ okay) × (t ≡ s) × (ended ≡ Some by.Quit)
  Heeds s (Ok Shutdown) text t ended = (text ≡ okay) × (t ≡ s) × (ended ≡ Some by.Shutdown)
  Heeds s (Ok Status) text t ended =
      (r : Result Standing SeatFault) × stands s.state (Stand r) × (text ≡ status_outcome r) × (t ≡ s) × (ended ≡ None)
  Heeds s (Ok Fence) text t ended =
      (r : Result Standing SeatFault) × stands s.state (Stand r) × (text ≡ fence_outcome r) × (t ≡ s) × (ended ≡ None)
  Heeds s (Ok Help) text t ended = (text ≡ help_line) × (t ≡ s) × (ended ≡ None)
  Heeds s (Ok (NamesFrom prefix)) text t ended =
      ChoosesNames answers prefix s.state text t.state × (t.links ≡ s.links) × (ended ≡ None)
  Heeds s (Ok (Inquire i)) text t ended = HeedsInquiry answers stands s.state s.links i text t.state × (t.links ≡ s.links) × (ended ≡ None)
  Heeds s (Err f) text t ended = (text ≡ error_line (word_of f)) × (t ≡ s) × (ended ≡ None)

  -- the same, for a line of a server that stays or of another
  abbrev pub AnswersLine : List ℕ → Talk S → List ℕ → Talk S → Option ConsoleEnd → Type 0
  AnswersLine line s text t ended =
      (said : Result Command LineFault) × LineSays stays (own_text s.links) line said × Heeds s said text t ended

  -- each of these lines is answered with one of these texts, in their order; the last one may end the console, and no other
  abbrev pub AnswersAll : List (List ℕ) → Talk S → List (List ℕ) → Talk S → Option ConsoleEnd → Type 0
  AnswersAll [] s [] t ended = (t ≡ s) × (ended ≡ None)
  AnswersAll (line ∷ lines) s (text ∷ texts) t ended =
      ((m : Talk S) × AnswersLine line s text m None × AnswersAll lines m texts t ended)
      ⊎ ((how : ConsoleEnd) × AnswersLine line s text t (Some how) × (lines ≡ []) × (texts ≡ []) × (ended ≡ Some how))
  AnswersAll _ s _ t ended = ⊥

  -- some first lines were read and answered, and a part of the next was read; this is written of the answers
  pub record ServesSome (Grows : Growth) (input rest old new : Option (List ℕ)) (s t : Talk S) (ended : Option ConsoleEnd) : Type 0 where
    pub taken : List (List ℕ)
    pub part : List ℕ
    pub texts : List (List ℕ)
    pub read : LosesInto input rest taken part
    pub answered : AnswersAll taken s texts t ended
    pub wrote : Grows old new (concat texts)

  -- a line was answered, or nothing was asked for it
  abbrev pub MayAnswer : List ℕ → Talk S → Talk S → Type 0
  MayAnswer line s t = (t ≡ s) ⊎ ((text : List ℕ) × (ended : Option ConsoleEnd) × AnswersLine line s text t ended)

  -- a line was answered, and the text was written
  abbrev pub Tells : List ℕ → Option (List ℕ) → Option (List ℕ) → Talk S → Talk S → Option ConsoleEnd → Type 0
  Tells line old new s t ended = (text : List ℕ) × AnswersLine line s text t ended × Appends old new text

  -- it was answered, and a part of the text was written
  pub record CutsLine (line : List ℕ) (old new : Option (List ℕ)) (s t : Talk S) (f : StreamFault) : Type 0 where
    pub text : List ℕ
    pub ended : Option ConsoleEnd
    pub answered : AnswersLine line s text t ended
    pub wrote : AppendsPart old new text
    pub fault_is : (f ≡ Write) ⊎ (f ≡ Memory)

  -- memory was refused before anything was asked
  pub record DropsLine (old new : Option (List ℕ)) (s t : Talk S) (f : StreamFault) : Type 0 where
    pub same : t ≡ s
    pub fault_is : f ≡ Memory
    pub wrote : Appends old new []

  abbrev pub TellStops : List ℕ → Option (List ℕ) → Option (List ℕ) → Talk S → Talk S → StreamFault → Type 0
  TellStops line old new s t f = CutsLine line old new s t f ⊎ DropsLine old new s t f

  module _ (most : ℕ) where
    -- lines of this input, so many at most, were read and answered until one of them ended the console or the input did, and this is
    -- left of it. Nothing behind that line was read
    pub record Talks (input rest old new : Option (List ℕ)) (s t : Talk S) : Type 0 where
      pub taken : List (List ℕ)
      pub texts : List (List ℕ)
      pub ended : Option ConsoleEnd
      pub read : LosesLines input rest taken
      pub counted : count_of_all taken ≤ most
      pub answered : AnswersAll taken s texts t ended
      pub whole : ended ≡ None → HasNoLine rest
      pub wrote : Appends old new (concat texts)

    -- the same, and so it ended
    abbrev pub TalksUntil : Option (List ℕ) → Option (List ℕ) → Option (List ℕ) → Option (List ℕ) → Talk S → Talk S → ConsoleEnd → Type 0
    TalksUntil input rest old new s t how =
        (talked : Talks input rest old new s t) × (how ≡ unwrap_or talked.ended by.Input)

    -- lines were read and answered until a fault came: all answers are written, unless the writer or memory failed
    abbrev pub TalkStops : Option (List ℕ) → Option (List ℕ) → Option (List ℕ) → Option (List ℕ) → Talk S → Talk S → StreamFault → Type 0
    TalkStops input rest old new s t Read = (some : ServesSome Appends input rest old new s t None) × HasNoFeed some.part
    TalkStops input rest old new s t TooManyLines = (some : ServesSome Appends input rest old new s t None)
        × IsWithinLine some.part × GoesTooFar input most some.taken
    TalkStops input rest old new s t Write = (ended : Option ConsoleEnd) × (some : ServesSome AppendsPart input rest old new s t ended)
        × HasNoFeed some.part
    TalkStops input rest old new s t Memory = (ended : Option ConsoleEnd) × (some : ServesSome AppendsPart input rest old new s t ended)
        × IsWithinLine some.part

    -- lines were read and answered, and this many may follow
    pub record ServesSoFar (input rest old new : Option (List ℕ)) (s t : Talk S) (left : ℕ) : Type 0 where
      pub taken : List (List ℕ)
      pub texts : List (List ℕ)
      pub read : LosesLines input rest taken
      pub counted : most ≡ left + count_of_all taken
      pub answered : AnswersAll taken s texts t None
      pub wrote : Appends old new (concat texts)

    -- A console of this input, with so many lines at most, was served until a line ended it or the input did; then what it left linked
    -- exited
    abbrev pub Serves : Option (List ℕ) → Option (List ℕ) → Option (List ℕ) → Option (List ℕ) → S → S → Type 0
    Serves input rest old new s t = ThenExits answers (Talks input rest old new) s t

    -- the same, and so it ended
    abbrev pub EndsBy : Option (List ℕ) → Option (List ℕ) → Option (List ℕ) → Option (List ℕ) → S → S → ConsoleEnd → Type 0
    EndsBy input rest old new s t how = ThenExits answers (λ v u. TalksUntil input rest old new v u how) s t

    -- A console of this input ended with a fault; then what it left linked exited, too
    abbrev pub Stops : Option (List ℕ) → Option (List ℕ) → Option (List ℕ) → Option (List ℕ) → S → S → StreamFault → Type 0
    Stops input rest old new s t f = ThenExits answers (λ v u. TalkStops input rest old new v u f) s t
