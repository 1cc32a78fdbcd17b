-- The texts of the parts of letters: the word of each, the kinds of its texts, and the part.
use Rattle.std.specs.Prelude.{ℕ, Bool, true, false, bytes_eq, codes, ◌≡◌, ◌==◌, ◌&&◌, ◌⊎◌, List, [], ◌∷◌, Option, Some, None, Result, Ok, Err}
use Rattle.std.specs.List.{find, slice_split}
use Rattle.registry_model.specs.Process.{Process, Text as AText}
use Rattle.registry_model.specs.Settlement.{note}
use Rattle.registry_model.specs.Table.{Pair as APair}
use Rattle.name_table.specs.declared.change.Change.TheVariants as change
use Rattle.term.specs.declared.faults.TextFault.{TextFault}
use Rattle.term.specs.declared.lock_id.LockId.{LockId}
use Rattle.term.specs.declared.rule.Rule.{Rule as ARule}
use Rattle.term.specs.Rules.{rule_of, SpellsRule, RefusesRule}
use Rattle.term.specs.Spelling.{SpellsText, RefusesText, SpellsNode, RefusesNode}
use Rattle.letter_lines.specs.declared.faults.LetterFault.{LetterFault}
use Rattle.letter_lines.specs.declared.faults.LetterFault.TheVariants.{BadLine, Text}
use Rattle.letter_lines.specs.declared.part.Part.{Part}
use Rattle.letter_lines.specs.declared.part.Part.TheVariants as part
use Rattle.letter_lines.specs.Processes.{SpellsProcess, RefusesProcess}

-- what a text can stand for
pub data Kind : Type 0 where
  Resource : Kind
  Requester : Kind  -- a client's name, or the node of a registrar
  Pid : Kind  -- a process, or a registrar
  Name : Kind
  Rule : Kind  -- what becomes of a name in a clash
  Node : Kind
  Granted : Kind  -- whether a lock is granted
  Ack : Kind  -- whether an answer is asked for

-- the values of a kind
abbrev pub Value : Kind → Type 0
Value Resource = AText
Value Requester = ℕ
Value Pid = Process
Value Name = AText
Value Rule = ARule
Value Node = ℕ
Value Granted = Bool
Value Ack = Bool

-- the texts of whether a lock is granted, and of whether an answer is asked for
abbrev pub granted_text : Bool → List ℕ
granted_text true = codes "yes"
granted_text false = codes "no"

abbrev pub ack_text : Bool → List ℕ
ack_text true = codes "ack"
ack_text false = codes "quiet"

-- the text spells this value
abbrev pub Spells : (k : Kind) → List ℕ → Value k → Type 0
Spells Resource text v = SpellsText text v
Spells Requester text v = SpellsNode text v
Spells Pid text v = SpellsProcess text v
Spells Name text v = SpellsText text v
Spells Rule text v = SpellsRule text v
Spells Node text v = SpellsNode text v
Spells Granted text v = text ≡ granted_text v
Spells Ack text v = text ≡ ack_text v

-- the text spells no value, for this fault; there is none for a text of whether something is so
abbrev pub RefusedAs : Kind → List ℕ → TextFault → Type 0
RefusedAs Resource text f = RefusesText text f
RefusedAs Requester text f = RefusesNode text f
RefusedAs Pid text f = RefusesProcess text f
RefusedAs Name text f = RefusesText text f
RefusedAs Rule text f = RefusesRule text f
RefusedAs Node text f = RefusesNode text f
RefusedAs Granted text f = ⊥
RefusedAs Ack text f = ⊥

-- what part is made of the values of texts of these kinds
abbrev pub Makes : List Kind → Type 0
Makes [] = Part
Makes (k ∷ ks) = Value k → Makes ks

-- a row of the grammar
pub record Row : Type 0 where
  pub word : List ℕ
  pub texts : List Kind
  pub makes : Makes texts

-- the row of this word
abbrev pub row : List ℕ → (texts : List Kind) → Makes texts → Row
row word texts makes = record { word = word; texts = texts; makes = makes }

-- the id of a lock
abbrev pub id_for : AText → ℕ → LockId
id_for resource requester = record { resource = resource; requester = requester }

-- a name for a process, under this rule
abbrev pub pair_for : AText → Process → ARule → APair
pair_for x p rule = record { name = x; owner = p; rule = rule_of rule }

-- all rows of the grammar: those of letters, and those of the items that stand before one
abbrev pub grammar : List Row
grammar =
    row (codes "ask") (Resource ∷ Requester ∷ Pid ∷ []) (λ r q p. part.SetLock (id_for r q) p)
    ∷ row (codes "answer") (Resource ∷ Requester ∷ Pid ∷ Granted ∷ []) (λ r q p g. part.LockAnswer (id_for r q) p g)
    ∷ row (codes "give") (Resource ∷ Requester ∷ Pid ∷ Ack ∷ []) (λ r q p a. part.GiveBack (id_for r q) p a)
    ∷ row (codes "given") (Pid ∷ []) (λ p. part.GivenBack p)
    ∷ row (codes "release") (Pid ∷ []) (λ p. part.ReleaseOf p)
    ∷ row (codes "put") (Name ∷ Pid ∷ Rule ∷ []) (λ x p r. part.Apply (change.Put (pair_for x p r)))
    ∷ row (codes "remove") (Name ∷ []) (λ x. part.Apply (change.Remove x))
    ∷ row (codes "strike") (Pid ∷ []) (λ p. part.Apply (change.StrikeOwner p))
    ∷ row (codes "applied") [] part.Applied
    ∷ row (codes "join_ask") [] part.JoinAsk
    ∷ row (codes "join_refused") [] part.JoinRefused
    ∷ row (codes "admit") (Node ∷ []) (λ n. part.Admit n)
    ∷ row (codes "welcome") [] part.Welcome
    ∷ row (codes "down") [] part.Down
    ∷ row (codes "+pair") (Name ∷ Pid ∷ Rule ∷ []) (λ x p r. part.Pair (pair_for x p r))
    ∷ row (codes "+put") (Name ∷ Pid ∷ Rule ∷ []) (λ x p r. part.Put (pair_for x p r))
    ∷ row (codes "+remove") (Name ∷ []) (λ x. part.Remove x)
    ∷ row (codes "+kill") (Pid ∷ []) (λ p. part.Kill p)
    ∷ row (codes "+notice") (Pid ∷ Name ∷ []) (λ p x. part.Notice (note p x None))
    ∷ row (codes "+notice") (Pid ∷ Name ∷ Pid ∷ []) (λ p x q. part.Notice (note p x (Some q)))
    ∷ row (codes "+member") (Node ∷ []) (λ n. part.Member n)
    ∷ row (codes "+told") (Node ∷ []) (λ n. part.Told n)
    ∷ []

-- texts of these kinds spell values by which this part is made
abbrev pub AllSpelled : (kinds : List Kind) → Makes kinds → List (List ℕ) → Result Part LetterFault → Type 0
AllSpelled [] part [] r = r ≡ Ok part
AllSpelled (k ∷ kinds) makes (text ∷ texts) r = (v : Value k) × Spells k text v × AllSpelled kinds (makes v) texts r
AllSpelled _ _ _ r = ⊥

-- this is the fault of the first of these texts that spells no value
abbrev pub FirstRefused : List Kind → List (List ℕ) → TextFault → Type 0
FirstRefused (k ∷ kinds) (text ∷ texts) f =
    RefusedAs k text f ⊎ ((v : Value k) × Spells k text v × FirstRefused kinds texts f)
FirstRefused _ _ f = ⊥

-- what texts of these kinds are read as: they are read from left to right, and the first fault counts
abbrev pub TextsRead : (kinds : List Kind) → Makes kinds → List (List ℕ) → Result Part LetterFault → Type 0
TextsRead kinds makes texts r =
    AllSpelled kinds makes texts r ⊎ ((f : TextFault) × FirstRefused kinds texts f × (r ≡ Err (Text f)))

-- each text of whether something is so says it
abbrev pub HasFlags : List Kind → List (List ℕ) → Type 0
HasFlags (Granted ∷ kinds) (text ∷ texts) = ((v : Bool) × (text ≡ granted_text v)) × HasFlags kinds texts
HasFlags (Ack ∷ kinds) (text ∷ texts) = ((v : Bool) × (text ≡ ack_text v)) × HasFlags kinds texts
HasFlags (k ∷ kinds) (text ∷ texts) = HasFlags kinds texts
HasFlags _ _ = Unit {0}

-- there are as many texts as a row of these kinds has
abbrev pub fits : List Kind → List (List ℕ) → Bool
fits [] [] = true
fits (k ∷ kinds) (text ∷ texts) = fits kinds texts
fits _ _ = false

-- the row with this word and as many texts, if there is one
abbrev pub row_of : List ℕ → List (List ℕ) → List Row → Option Row
row_of word texts rows = find (λ row. fits row.texts texts && bytes_eq word row.word) rows

-- what texts are read as behind the word of this row: a text that doesn't say whether something is so makes a bad line
abbrev pub ReadBy : Option Row → List (List ℕ) → Result Part LetterFault → Type 0
ReadBy None texts r = r ≡ Err BadLine
ReadBy (Some row) texts r =
    (HasFlags row.texts texts × TextsRead row.texts row.makes texts r)
    ⊎ ((HasFlags row.texts texts → ⊥) × (r ≡ Err BadLine))

-- what words are read as: no such word, or the wrong number of texts, is a bad line
abbrev pub WordsRead : List (List ℕ) → Result Part LetterFault → Type 0
WordsRead [] r = r ≡ Err BadLine
WordsRead (word ∷ texts) r = ReadBy (row_of word texts grammar) texts r

-- a byte is a space
abbrev pub is_space : ℕ → Bool
is_space b = b == 32

-- the words of a text: what stands before, between and behind its spaces
abbrev pub words : List ℕ → List (List ℕ)
words text = slice_split is_space text

-- the part that a text is read as, or why it is refused
abbrev pub TextReads : List ℕ → Result Part LetterFault → Type 0
TextReads text r = WordsRead (words text) r
