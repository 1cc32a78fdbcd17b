-- Lines that are read, without their ends: how long they may be, and how many there may be.
use Rattle.std.specs.Prelude.{ℕ, Bool, true, false, ◌+◌, ◌-◌, ◌*◌, ◌/◌, ◌≡◌, ◌≤◌, ◌<◌, ◌==◌, ◌&&◌, ◌⊎◌, not, nat_lt, ⊤, List, [], ◌∷◌, ◌++◌, length, take, filter, slice_index, if◌then◌else◌, Option, Some, None}
use Rattle.std.specs.List.{list_all, All}
use Rattle.std.specs.Io.KnownBytes.{Consumes, IsAtEnd, Keeps}
use Rattle.std.specs.Str.Lines.{lines, strip_carriage_return}
use Rattle.text_lines.specs.declared.faults.StreamFault.{StreamFault}
use Rattle.text_lines.specs.declared.faults.StreamFault.TheVariants.{Read, Write, TooManyLines, Memory}
use Rattle.text_lines.specs.declared.lines.Line.{Line}
use Rattle.text_lines.specs.declared.lines.Line.TheVariants.{Text, TooLong}
use Rattle.text_lines.specs.declared.lines.Part.{Part}
use Rattle.term.specs.declared.limits.TheConstants.{LONGEST_LINE, MOST_LINES}

-- how many lines so many bytes count for: one, and one more for each time that a longest line is full past the first
abbrev pub count_for : ℕ → ℕ
count_for n = 1 + (n - LONGEST_LINE) / LONGEST_LINE

-- how many lines a line counts for
abbrev pub count_of : List ℕ → ℕ
count_of line = count_for (length line)

-- how many lines these count for
abbrev pub count_of_all : List (List ℕ) → ℕ
count_of_all [] = 0
count_of_all (l ∷ ls) = count_of l + count_of_all ls

-- a line of spaces alone, not too many of them, is empty
abbrev pub is_blank : List ℕ → Bool
is_blank line = not (nat_lt LONGEST_LINE (length line)) && list_all (λ b. b == 32) line

-- the lines that aren't empty
abbrev pub spoken : List (List ℕ) → List (List ℕ)
spoken ls = filter (λ line. not (is_blank line)) ls

-- what is kept of a line: its bytes, unless it is too long
abbrev pub IsKept : List ℕ → Line → Type 0
IsKept line (Text v) = (v.items ≡ line) × (length line ≤ LONGEST_LINE)
IsKept line TooLong = LONGEST_LINE < length line

-- what stands in its memory
abbrev pub room_of : Line → List ℕ
room_of (Text v) = v.items
room_of TooLong = []

-- what is kept of a line of which these bytes were read, and no end: as many as show how long it is
pub record IsPart (bytes : List ℕ) (part : Part) : Type 0 where
  pub text : part.text.items ≡ take (LONGEST_LINE + 1) bytes
  pub len : part.len ≡ length bytes
  pub ends_in_return : part.ends_in_return ≡ (slice_index bytes (length bytes - 1) == 13)

-- the most bytes of a line that counts for no more than the most lines: a longest line beside those, and a carriage return
abbrev pub longest_part : ℕ
longest_part = (MOST_LINES + 1) * LONGEST_LINE + 1

-- these bytes were read, too
abbrev pub GrowsByBytes : List ℕ → Part → Part → Type 0
GrowsByBytes bytes old new = (before : List ℕ) → IsPart before old → IsPart (before ++ bytes) new

-- the line of these bytes: before a line feed it loses one carriage return
abbrev pub line_of : Bool → List ℕ → List ℕ
line_of is_ended bytes = if is_ended then strip_carriage_return bytes else bytes

-- known bytes lose their first lines, which are these
abbrev pub LosesLines : Option (List ℕ) → Option (List ℕ) → List (List ℕ) → Type 0
LosesLines None new ls = ⊤
LosesLines (Some xs) None ls = ⊥
LosesLines (Some xs) (Some ys) ls = lines xs ≡ ls ++ lines ys

-- known bytes have these lines
abbrev pub HasLines : Option (List ℕ) → List (List ℕ) → Type 0
HasLines None ls = ⊤
HasLines (Some xs) ls = lines xs ≡ ls

-- known bytes begin with these lines
abbrev pub BeginsWithLines : Option (List ℕ) → List (List ℕ) → Type 0
BeginsWithLines None ls = ⊤
BeginsWithLines (Some xs) ls = (more : List (List ℕ)) × (lines xs ≡ ls ++ more)

-- known bytes lose these lines, and then these bytes
abbrev pub LosesInto : Option (List ℕ) → Option (List ℕ) → List (List ℕ) → List ℕ → Type 0
LosesInto input rest ls part = (mid : Option (List ℕ)) × LosesLines input mid ls × Consumes mid rest part

-- these first lines count for no more than the most, and with the next one they count for more
abbrev pub GoesPast : Option (List ℕ) → ℕ → List (List ℕ) → Type 0
GoesPast input most ls = (line : List ℕ) × BeginsWithLines input (ls ++ line ∷ []) × (count_of_all ls ≤ most) × (most < count_of_all (ls ++ line ∷ []))

-- there is no further line in known bytes
abbrev pub HasNoLine : Option (List ℕ) → Type 0
HasNoLine None = ⊤
HasNoLine (Some xs) = lines xs ≡ []

-- there is no line feed
abbrev pub HasNoFeed : List ℕ → Type 0
HasNoFeed bytes = All (λ b. (b == 10) ≡ false) bytes

-- these bytes are of one line at most
abbrev pub IsWithinLine : List ℕ → Type 0
IsWithinLine bytes = length (lines bytes) ≤ 1

-- known bytes lose these bytes of a line, and with them its end
abbrev pub TakesPart : Option (List ℕ) → Option (List ℕ) → Bool → List ℕ → Type 0
TakesPart old new true bytes = Consumes old new (bytes ++ 10 ∷ [])
TakesPart old new false bytes = Consumes old new bytes × IsAtEnd new

-- known bytes lose these, and behind them a line feed where there was one
abbrev pub TakesSome : Option (List ℕ) → Option (List ℕ) → Bool → List ℕ → Type 0
TakesSome old new true bytes = Consumes old new (bytes ++ 10 ∷ [])
TakesSome old new false bytes = Consumes old new bytes

-- bytes of a line were read that were at hand, and its line feed if that was
abbrev pub TakesAtHand : Option (List ℕ) → Option (List ℕ) → Part → Part → Bool → Type 0
TakesAtHand old new part more is_ended =
    (bytes : List ℕ) × HasNoFeed bytes × GrowsByBytes bytes part more × TakesSome old new is_ended bytes

-- known bytes lose this one, or there is none
abbrev pub TakesByte : Option (List ℕ) → Option (List ℕ) → Option ℕ → Type 0
TakesByte old new None = Consumes old new [] × IsAtEnd new
TakesByte old new (Some b) = Consumes old new (b ∷ [])

-- the next byte isn't read: nothing is lost
abbrev pub StopsAtByte : Option (List ℕ) → Option (List ℕ) → StreamFault → Type 0
StopsAtByte old new f = ((f ≡ Read) ⊎ (f ≡ Write)) × Keeps old new

-- known bytes lose bytes of one line at most
abbrev pub LosesWithinLine : Option (List ℕ) → Option (List ℕ) → Type 0
LosesWithinLine old new = (bytes : List ℕ) × Consumes old new bytes × IsWithinLine bytes

-- the next line was read, or there is none
abbrev pub TakesLine : Option (List ℕ) → Option (List ℕ) → ℕ → ℕ → Option Line → Type 0
TakesLine old new most left None = LosesLines old new [] × HasNoLine new × (most ≡ left)
TakesLine old new most left (Some kept) = (line : List ℕ) × IsKept line kept × LosesLines old new (line ∷ [])
    × LosesWithinLine old new × (most ≡ left + count_of line)

-- how much of the next line may have been read where lines end with this fault: not its end, or all of it
abbrev pub MayEndIn : StreamFault → List ℕ → Type 0
MayEndIn Read part = HasNoFeed part
MayEndIn Write part = HasNoFeed part
MayEndIn TooManyLines part = IsWithinLine part
MayEndIn Memory part = IsWithinLine part

-- if there are too many lines behind these, the next one counts for more than may come
abbrev pub GoesPastFor : StreamFault → Option (List ℕ) → ℕ → List (List ℕ) → Type 0
GoesPastFor TooManyLines input most ls = GoesPast input most ls
GoesPastFor _ input most ls = ⊤

-- the next line isn't read, and a part of it is lost
abbrev pub StopsAtLine : Option (List ℕ) → Option (List ℕ) → ℕ → StreamFault → Type 0
StopsAtLine old new left f = (part : List ℕ) × Consumes old new part × MayEndIn f part × GoesPastFor f old left []
