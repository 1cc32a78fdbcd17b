-- One console of a cluster that stays, from its greeting to its end.
use Rattle.std.specs.Prelude.{ℕ, true, ◌≡◌, ◌⊎◌, List, [], ◌∷◌, Option, Some, None, Result, Ok, Err, IfOk, MatchResult}
use Rattle.std.specs.Io.KnownBytes.{Appends}
use Rattle.console.specs.Knowing.{Known, nothing_known}
use Rattle.text_lines.specs.Lines.{LosesLines}
use Rattle.text_lines.specs.Writing.{AppendsPart}
use Rattle.text_lines.specs.declared.faults.StreamFault.{StreamFault}
use Rattle.console.specs.declared.ends.ConsoleEnd.{ConsoleEnd}
use Rattle.console.specs.declared.faults.GreetFault.{GreetFault}
use Rattle.console.specs.declared.faults.GreetFault.TheVariants.{TooManyConsoles}
use Rattle.console.specs.Consoles.{EndsBy, Stops}
use Rattle.term.specs.declared.limits.TheConstants.{STAYING_LINES}
use Rattle.console.specs.Greetings.{Greets, GreetStops, HasNoFirst, LineAttaches, ReadsFirst, ShowsFirst, StopsFirst, greeting_text, okay}
use Rattle.console.specs.Lent.{LentAnswers, LentStands}
use Rattle.server.specs.declared.staying.notes.Parting.{Parting}
use Rattle.server.specs.Notes.{parting_of}

-- it was served at this node, at seats that were lent for what it asked, until it ended so
pub record IsServedAt (node : ℕ) (input rest old new : Option (List ℕ)) (parting : Parting) : Type 0 where
  pub known : Known
  pub ended : Result ConsoleEnd StreamFault
  pub talks : MatchResult ended (EndsBy LentAnswers LentStands true STAYING_LINES input rest old new (nothing_known node) known)
      (Stops LentAnswers LentStands true STAYING_LINES input rest old new (nothing_known node) known)
  pub parted : parting ≡ parting_of ended

-- it was greeted, showed the cookie if there is one, and was attached to one of these nodes, at which it was served
pub record IsGuest (cookie : Option (List ℕ)) (nodes : List ℕ) (input rest old new : Option (List ℕ)) : Type 0 where
  pub node : ℕ
  pub unread : Option (List ℕ)
  pub written : Option (List ℕ)
  pub parting : Parting
  pub greeted : Greets cookie nodes input unread old written (Some node)
  pub shown : ShowsFirst cookie input unread
  pub served : IsServedAt node unread rest written new parting

-- what a first line was to be answered is answered, but where it attaches a console there may be no place for that
abbrev pub IsPlaced : Result ℕ GreetFault → Result ℕ GreetFault → Type 0
IsPlaced (Ok node) answer = (answer ≡ Ok node) ⊎ (answer ≡ Err TooManyConsoles)
IsPlaced (Err fault) answer = answer ≡ Err fault

-- the answer is `ok`
abbrev pub IsWelcomed : Result ℕ GreetFault → Option (List ℕ) → Option (List ℕ) → ℕ → Type 0
IsWelcomed found old new node = (found ≡ Ok node) × Appends old new okay

-- it is another one, or a part of one was written
abbrev pub IsSentAway : Result ℕ GreetFault → Option (List ℕ) → Option (List ℕ) → Type 0
IsSentAway found old new = (answer : Result ℕ GreetFault) × IsPlaced found answer
    × (((fault : GreetFault) × (answer ≡ Err fault) × Appends old new (greeting_text answer)) ⊎ AppendsPart old new (greeting_text answer))

-- its first line attaches it to one of these nodes, but there was no place for it, and it was told so, or a part of that
pub record IsUnplaced (cookie : Option (List ℕ)) (nodes : List ℕ) (input rest old new : Option (List ℕ)) : Type 0 where
  pub line : List ℕ
  pub node : ℕ
  pub read : LosesLines input rest (line ∷ [])
  pub attaches : LineAttaches cookie nodes line (Ok node)
  pub wrote : AppendsPart old new (greeting_text (Err TooManyConsoles))

-- it was attached to none: there was no place for it, or its first line is refused, or it has none, or that line wasn't read or answered
abbrev pub IsTurnedAway : Option (List ℕ) → List ℕ → Option (List ℕ) → Option (List ℕ) → Option (List ℕ) → Option (List ℕ) → Type 0
IsTurnedAway cookie nodes input rest old new =
    IsUnplaced cookie nodes input rest old new
    ⊎ Greets cookie nodes input rest old new None ⊎ ((f : StreamFault) × GreetStops cookie nodes input rest old new f)

-- no first line of it was heard, and nothing was answered
abbrev pub IsUnheard : Option (List ℕ) → Option (List ℕ) → Option (List ℕ) → Option (List ℕ) → Type 0
IsUnheard input rest old new = HasNoFirst input rest old new None ⊎ ((f : StreamFault) × StopsFirst input rest old new f)

-- its first line was heard, in which this was found, and nothing was answered; where it attaches, it shows the cookie if there is one
abbrev pub IsHeard : Option (List ℕ) → List ℕ → Option (List ℕ) → Option (List ℕ) → Option (List ℕ) → Option (List ℕ) → Result ℕ GreetFault → Type 0
IsHeard cookie nodes input rest old new found = ReadsFirst cookie nodes input rest old new found × IfOk found (λ _. ShowsFirst cookie input rest)

-- it was greeted, and attached to this one of these nodes, behind a first line that shows the cookie if there is one
pub record IsLetIn (cookie : Option (List ℕ)) (nodes : List ℕ) (input rest old new : Option (List ℕ)) (node : ℕ) : Type 0 where
  pub greeted : Greets cookie nodes input rest old new (Some node)
  pub shown : ShowsFirst cookie input rest

-- a console of a cluster of these nodes ended, which had to show this cookie, if there is one
abbrev pub Visits : Option (List ℕ) → List ℕ → Option (List ℕ) → Option (List ℕ) → Option (List ℕ) → Option (List ℕ) → Type 0
Visits cookie nodes input rest old new = IsGuest cookie nodes input rest old new ⊎ IsTurnedAway cookie nodes input rest old new
