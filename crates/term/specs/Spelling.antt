-- How the values of the product are spelled as texts, and why other texts are refused. A text is the list of its bytes.
use Rattle.std.specs.Prelude.{◌≡◌, ℕ, zero, suc, Bool, false, if◌then◌else◌, ◌==◌, ◌/◌, ◌%◌, ◌^◌, ◌<◌, ◌≤◌, ◌||◌, List, [], ◌∷◌, ◌++◌, length, take, slice_index}
use Rattle.std.specs.Char.{is_ascii_alphanumeric}
use Rattle.std.specs.Fmt.{decimal}
use Rattle.std.specs.List.{AllPass, before_first}
use Rattle.registry_model.specs.Process.{Process, text_of}
use Rattle.term.specs.declared.limits.TheConstants.{LONGEST_TEXT}
use Rattle.term.specs.declared.faults.TextFault.{TextFault}
use Rattle.term.specs.declared.faults.TextFault.TheVariants.{Empty, TooLong, BadByte, BadCreation, BadSerial, BadRule, TooManyNodes}
use Rattle.term.specs.Nodes.{first_node, text_in, name_of, creation_of}

-- whether a byte may stand in a text: an ASCII letter, a digit, '_', '-' or '@'
abbrev pub is_allowed : ℕ → Bool
is_allowed b = is_ascii_alphanumeric b || (b == 95) || (b == 45) || (b == 64)

-- the bytes are a text: one at least, and not too many, each allowed
pub record IsText (bytes : List ℕ) : Type 0 where
  pub some : 0 < length bytes
  pub fits : length bytes ≤ LONGEST_TEXT
  pub allowed : AllPass is_allowed bytes

-- the bytes spell a name: they are a text, and the value is its number
pub record SpellsText (bytes : List ℕ) (value : ℕ) : Type 0 where
  pub text : IsText bytes
  pub number : value ≡ text_of bytes

-- the digits of a number behind a point, k at most, up to the last that is not 0
abbrev pub digits_in : ℕ → ℕ → List ℕ
digits_in zero n = []
digits_in (suc k) n = if n == 0 then [] else n / 256 ^ k ∷ digits_in k (n % 256 ^ k)

-- the bytes that spell a name
unfoldable pub bytes_of : ℕ → List ℕ
bytes_of n = digits_in LONGEST_TEXT n

-- the first byte that is not allowed stands at this place
pub record IsFirstBad (bytes : List ℕ) (place : ℕ) : Type 0 where
  pub inside : place < length bytes
  pub before : AllPass is_allowed (take place bytes)
  pub bad : is_allowed (slice_index bytes place) ≡ false

-- the fault for which the bytes are refused as a name
abbrev pub RefusesText : List ℕ → TextFault → Type 0
RefusesText bytes Empty = length bytes ≡ 0
RefusesText bytes TooLong = LONGEST_TEXT < length bytes
RefusesText bytes (BadByte place) = (length bytes ≤ LONGEST_TEXT) × IsFirstBad bytes place
RefusesText bytes BadCreation = ⊥
RefusesText bytes BadSerial = ⊥
RefusesText bytes BadRule = ⊥
RefusesText bytes TooManyNodes = ⊥

-- the bytes spell the name of a node: they are a text, and the value is the first node of this name
pub record SpellsNodeName (bytes : List ℕ) (value : ℕ) : Type 0 where
  pub text : IsText bytes
  pub number : value ≡ first_node (text_of bytes)

-- the bytes that spell the name of a node
abbrev pub name_bytes : ℕ → List ℕ
name_bytes n = bytes_of (text_in n)

-- a slash, which parts the name of a node from a creation
abbrev pub slash : ℕ
slash = 47

-- what stands behind the name of a node for its creation: nothing for the first
abbrev pub creation_bytes : ℕ → List ℕ
creation_bytes c = if c == 1 then [] else slash ∷ decimal c

-- the bytes that spell a node: those of its name, and from the second creation on a slash and the creation's decimal digits
abbrev pub node_bytes : ℕ → List ℕ
node_bytes n = name_bytes n ++ creation_bytes (creation_of n)

-- the bytes spell a node: its name, and what stands behind that for its creation, which is 4,294,967,295 at most
pub record SpellsNode (bytes : List ℕ) (node : ℕ) : Type 0 where
  pub name : List ℕ
  pub parts : bytes ≡ name ++ creation_bytes (creation_of node)
  pub name_spelled : SpellsNodeName name (name_of node)
  pub fits : creation_of node < 2 ^ 32

-- the bytes before the first slash, or all where there is none
abbrev pub name_part : List ℕ → List ℕ
name_part bytes = before_first (λ b. b == slash) bytes

-- the fault for which the bytes are refused as a node: that of its name, and else a bad creation
abbrev pub RefusesNode : List ℕ → TextFault → Type 0
RefusesNode bytes BadCreation = IsText (name_part bytes) × ((node : ℕ) → SpellsNode bytes node → ⊥)
RefusesNode bytes Empty = RefusesText (name_part bytes) Empty
RefusesNode bytes TooLong = RefusesText (name_part bytes) TooLong
RefusesNode bytes (BadByte place) = RefusesText (name_part bytes) (BadByte place)
RefusesNode bytes BadSerial = ⊥
RefusesNode bytes BadRule = ⊥
RefusesNode bytes TooManyNodes = ⊥

-- a dot, which parts a node from a serial
abbrev pub dot : ℕ
dot = 46

-- the digits spell a serial: they are its decimal digits, with no leading zero, and it is 1 to 4,294,967,295
pub record SpellsSerial (digits : List ℕ) (serial : ℕ) : Type 0 where
  pub written : digits ≡ decimal serial
  pub low : 1 ≤ serial
  pub high : serial < 2 ^ 32

-- the digits spell a creation that is written: they spell it as a serial, and it is not the first
pub record SpellsCreation (digits : List ℕ) (creation : ℕ) : Type 0 where
  pub number : SpellsSerial digits creation
  pub later : 2 ≤ creation

-- the bytes spell a process: its node, a dot, and its serial
pub record SpellsPid (bytes : List ℕ) (p : Process) : Type 0 where
  pub node : List ℕ
  pub digits : List ℕ
  pub parts : bytes ≡ node ++ dot ∷ digits
  pub node_spelled : SpellsNode node p.node
  pub serial_spelled : SpellsSerial digits p.serial

-- the bytes before the first dot, or all where there is none
abbrev pub node_part : List ℕ → List ℕ
node_part bytes = before_first (λ b. b == dot) bytes

-- the bytes spell some node
abbrev pub IsNodeText : List ℕ → Type 0
IsNodeText bytes = (node : ℕ) × SpellsNode bytes node

-- the fault for which the bytes are refused as a process: that of its node, and else a bad serial
abbrev pub RefusesPid : List ℕ → TextFault → Type 0
RefusesPid bytes BadSerial = IsNodeText (node_part bytes) × ((p : Process) → SpellsPid bytes p → ⊥)
RefusesPid bytes Empty = RefusesNode (node_part bytes) Empty
RefusesPid bytes TooLong = RefusesNode (node_part bytes) TooLong
RefusesPid bytes (BadByte place) = RefusesNode (node_part bytes) (BadByte place)
RefusesPid bytes BadCreation = RefusesNode (node_part bytes) BadCreation
RefusesPid bytes BadRule = ⊥
RefusesPid bytes TooManyNodes = ⊥
