-- What may be said of a process, and why other texts are refused. A text is the list of its bytes.
use Rattle.std.specs.Prelude.{◌≡◌, ℕ, Bool, false, ◌==◌, ◌||◌, ◌<◌, ◌≤◌, List, length, take, slice_index}
use Rattle.std.specs.Char.{is_ascii_graphic}
use Rattle.std.specs.List.{AllPass}
use Rattle.term.specs.declared.limits.TheConstants.{LONGEST_DESCRIPTION}
use Rattle.term.specs.declared.faults.TextFault.{TextFault}
use Rattle.term.specs.declared.faults.TextFault.TheVariants.{Empty, TooLong, BadByte, BadCreation, BadSerial, BadRule, TooManyNodes}

-- whether a byte may stand there: one that leaves ink, or a space
abbrev pub is_printable : ℕ → Bool
is_printable b = is_ascii_graphic b || (b == 32)

-- the bytes are a description: one at least, and not too many, each printable
pub record IsDescription (bytes : List ℕ) : Type 0 where
  pub some : 0 < length bytes
  pub fits : length bytes ≤ LONGEST_DESCRIPTION
  pub printable : AllPass is_printable bytes

-- the text is this description, to the byte
pub record SpellsDescription (text description : List ℕ) : Type 0 where
  pub is : IsDescription text
  pub same : description ≡ text

-- the first byte that can't be printed stands at this place
pub record IsFirstUnprintable (bytes : List ℕ) (place : ℕ) : Type 0 where
  pub inside : place < length bytes
  pub before : AllPass is_printable (take place bytes)
  pub bad : is_printable (slice_index bytes place) ≡ false

-- the fault for which the text is refused
abbrev pub RefusesDescription : List ℕ → TextFault → Type 0
RefusesDescription text Empty = length text ≡ 0
RefusesDescription text TooLong = LONGEST_DESCRIPTION < length text
RefusesDescription text (BadByte place) = (length text ≤ LONGEST_DESCRIPTION) × IsFirstUnprintable text place
RefusesDescription text BadCreation = ⊥
RefusesDescription text BadSerial = ⊥
RefusesDescription text BadRule = ⊥
RefusesDescription text TooManyNodes = ⊥
