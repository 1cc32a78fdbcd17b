-- The text of each part, and the parts of each letter.
use Rattle.std.specs.Prelude.{ℕ, codes, map, List, [], ◌∷◌, ◌++◌, Option, Some, None}
use Rattle.std.specs.List.{join_with_byte}
use Rattle.registry_model.specs.Process.{Process}
use Rattle.registry_model.specs.Settlement.{Noted}
use Rattle.registry_model.specs.Table.{Pair as APair}
use Rattle.exchange.specs.declared.bodies.Admission.{Admission}
use Rattle.exchange.specs.declared.bodies.Welcome.{Welcome as AWelcome}
use Rattle.name_table.specs.declared.change.Change.{Change}
use Rattle.name_table.specs.declared.change.Change.TheVariants as change
use Rattle.node_events.specs.declared.events.Letter.{Letter}
use Rattle.node_events.specs.declared.events.Letter.TheVariants as letter
use Rattle.term.specs.declared.lock_id.LockId.{LockId}
use Rattle.term.specs.Rules.{rule_in, rule_bytes}
use Rattle.term.specs.Spelling.{bytes_of, node_bytes}
use Rattle.letter_lines.specs.declared.part.Part.{Part}
use Rattle.letter_lines.specs.declared.part.Part.TheVariants.{
  Pair,
  Put,
  Remove,
  Kill,
  Notice,
  Member,
  Told,
  SetLock,
  LockAnswer,
  GiveBack,
  GivenBack,
  ReleaseOf,
  Apply,
  Applied,
  JoinAsk,
  JoinRefused,
  Admit,
  Welcome,
  Down,
}
use Rattle.letter_lines.specs.Grammar.{granted_text, ack_text}
use Rattle.letter_lines.specs.Processes.{process_bytes}

-- the words of a lock's id and of who asks for it, and then others
abbrev pub lock_words : LockId → Process → List (List ℕ) → List (List ℕ)
lock_words id p more = bytes_of id.resource ∷ node_bytes id.requester ∷ process_bytes p ∷ more

-- the words of a name with its owner and its rule
abbrev pub pair_words : APair → List (List ℕ)
pair_words e = bytes_of e.name ∷ process_bytes e.owner ∷ rule_bytes (rule_in e.rule) ∷ []

-- the words of a change
abbrev pub change_words : Change → List (List ℕ)
change_words (change.Put e) = codes "put" ∷ pair_words e
change_words (change.Remove x) = codes "remove" ∷ bytes_of x ∷ []
change_words (change.StrikeOwner p) = codes "strike" ∷ process_bytes p ∷ []

-- the word of the other process that lost a name, if there is one
abbrev pub other_words : Option Process → List (List ℕ)
other_words None = []
other_words (Some q) = process_bytes q ∷ []

-- the words of a part
abbrev pub words_of : Part → List (List ℕ)
words_of (Pair e) = codes "+pair" ∷ pair_words e
words_of (Put e) = codes "+put" ∷ pair_words e
words_of (Remove x) = codes "+remove" ∷ bytes_of x ∷ []
words_of (Kill p) = codes "+kill" ∷ process_bytes p ∷ []
words_of (Notice n) = codes "+notice" ∷ process_bytes n.process ∷ bytes_of n.notice.name ∷ other_words n.notice.other
words_of (Member n) = codes "+member" ∷ node_bytes n ∷ []
words_of (Told n) = codes "+told" ∷ node_bytes n ∷ []
words_of (SetLock id p) = codes "ask" ∷ lock_words id p []
words_of (LockAnswer id p granted) = codes "answer" ∷ lock_words id p (granted_text granted ∷ [])
words_of (GiveBack id p ack) = codes "give" ∷ lock_words id p (ack_text ack ∷ [])
words_of (GivenBack p) = codes "given" ∷ process_bytes p ∷ []
words_of (ReleaseOf p) = codes "release" ∷ process_bytes p ∷ []
words_of (Apply change) = change_words change
words_of Applied = codes "applied" ∷ []
words_of JoinAsk = codes "join_ask" ∷ []
words_of JoinRefused = codes "join_refused" ∷ []
words_of (Admit n) = codes "admit" ∷ node_bytes n ∷ []
words_of Welcome = codes "welcome" ∷ []
words_of Down = codes "down" ∷ []

-- the text of a part: its words, parted by one space each
abbrev pub text_of : Part → List ℕ
text_of p = join_with_byte 32 (words_of p)

-- the items of what dies and of what is sent
abbrev pub fate_items : List Process → List Noted → List Part
fate_items kills notices = map Kill kills ++ map Notice notices

-- the items of what a member is told of a join
abbrev pub admit_items : Admission → List Part
admit_items a = map Put a.puts.items ++ (map Remove a.removes.items ++ fate_items a.kills.items a.notices.items)

-- the items of what a joiner is told
abbrev pub welcome_items : AWelcome → List Part
welcome_items w =
    map Member w.members ++ (map Pair w.pairs.items ++ (map Told w.told ++ fate_items w.kills.items w.notices.items))

-- the items of a letter
abbrev pub items_of : Letter → List Part
items_of (letter.JoinAsk pairs) = map Pair pairs.items
items_of (letter.Admit body) = admit_items body
items_of (letter.Welcome body) = welcome_items body.value
items_of _ = []

-- the letter itself, behind its items
abbrev pub last_of : Letter → Part
last_of (letter.SetLock id p) = SetLock id p
last_of (letter.LockAnswer id p granted) = LockAnswer id p granted
last_of (letter.GiveBack id p ack) = GiveBack id p ack
last_of (letter.GivenBack p) = GivenBack p
last_of (letter.ReleaseOf p) = ReleaseOf p
last_of (letter.Apply change) = Apply change
last_of letter.Applied = Applied
last_of (letter.JoinAsk pairs) = JoinAsk
last_of letter.JoinRefused = JoinRefused
last_of (letter.Admit body) = Admit body.joiner
last_of (letter.Welcome body) = Welcome
last_of letter.Down = Down

-- the parts of a letter
abbrev pub parts_of : Letter → List Part
parts_of l = items_of l ++ last_of l ∷ []
