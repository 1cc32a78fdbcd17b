-- What was read of a letter so far, and what comes of one part more.
use Rattle.std.specs.Prelude.{ℕ, Bool, true, false, nat_lt, ◌≡◌, ◌==◌, ◌&&◌, ◌||◌, ◌⊎◌, List, [], ◌∷◌, ◌++◌, length, Option, Some, None, option_map, if◌then◌else◌, Result, Ok, Err}
use Rattle.registry_model.specs.Process.{Process}
use Rattle.registry_model.specs.Settlement.{Noted, Fate, Settled}
use Rattle.registry_model.specs.Table.{Pair as APair}
use Rattle.protocol_model.specs.Letter.{Letter as AnyLetter}
use Rattle.node_events.specs.declared.events.Letter.{Letter}
use Rattle.node_events.specs.declared.events.Letter.TheVariants as letter
use Rattle.node_events.specs.Letters.{letter_of}
use Rattle.term.specs.declared.faults.TextFault.TheVariants.{TooManyNodes}
use Rattle.term.specs.NodeSets.{set_of, with_node, with_older}
use Rattle.term.specs.declared.limits.TheConstants.{MOST_NODES}
use Rattle.letter_lines.specs.declared.faults.LetterFault.{LetterFault}
use Rattle.letter_lines.specs.declared.faults.LetterFault.TheVariants.{BadLine, Text, Memory}
use Rattle.letter_lines.specs.declared.part.Part.{Part}
use Rattle.letter_lines.specs.declared.part.Part.TheVariants.{
  Pair,
  Put,
  Remove,
  Kill,
  Notice,
  Member,
  Told,
  SetLock,
  LockAnswer,
  GiveBack,
  GivenBack,
  ReleaseOf,
  Apply,
  Applied,
  JoinAsk,
  JoinRefused,
  Admit,
  Welcome,
  Down,
}

-- the items that were read
pub record Gathered : Type 0 where
  pub members : List ℕ
  pub pairs : List APair
  pub told : List ℕ
  pub puts : List APair
  pub removes : List ℕ
  pub kills : List Process
  pub notices : List Noted

abbrev pub nothing : Gathered
nothing = record { members = []; pairs = []; told = []; puts = []; removes = []; kills = []; notices = [] }

-- there is none
abbrev pub lacks : {A : Type 0} → List A → Bool
lacks xs = length xs == 0

-- there are no items, no items but pairs, no items of a welcome alone, and no items of an admission alone
abbrev pub has_no_fate : Gathered → Bool
has_no_fate g = lacks g.kills && lacks g.notices

abbrev pub is_for_members : Gathered → Bool
is_for_members g = lacks g.members && (lacks g.pairs && lacks g.told)

abbrev pub is_for_joiner : Gathered → Bool
is_for_joiner g = lacks g.puts && lacks g.removes

abbrev pub is_of_pairs : Gathered → Bool
is_of_pairs g = lacks g.members && (lacks g.told && (is_for_joiner g && has_no_fate g))

abbrev pub is_nothing : Gathered → Bool
is_nothing g = lacks g.pairs && is_of_pairs g

-- the set has room for the node, or has it
abbrev pub has_room : List ℕ → ℕ → Bool
has_room nodes n = nat_lt (length nodes) MOST_NODES || set_of nodes n

-- what becomes of processes, by the items
abbrev pub fate_of : Gathered → Fate
fate_of g = record { kills = g.kills; notices = g.notices }

-- what a member is told, by the items
abbrev pub settled_of : Gathered → Settled
settled_of g = record { puts = g.puts; removes = g.removes; fate = fate_of g }

-- what comes of a part: what is gathered then, and the letter if it is one; none where the part is refused
abbrev pub Taken : Type 0
Taken = Option (Gathered × Option AnyLetter)

-- an item more
abbrev pub kept : Gathered → Taken
kept g = Some (g, None)

-- an item more, where there is room for it
abbrev pub kept_where : Bool → Gathered → Taken
kept_where fits g = if fits then Some (g, None) else None

-- the letter, where the items are of it; none of them is left
abbrev pub ends_where : Bool → AnyLetter → Taken
ends_where fits l = if fits then Some (nothing, Some l) else None

-- what comes of a part behind these items
abbrev pub taken : Part → Gathered → Taken
taken (Pair e) g = kept (record g { pairs = g.pairs ++ e ∷ [] })
taken (Put e) g = kept (record g { puts = g.puts ++ e ∷ [] })
taken (Remove x) g = kept (record g { removes = g.removes ++ x ∷ [] })
taken (Kill p) g = kept (record g { kills = g.kills ++ p ∷ [] })
taken (Notice n) g = kept (record g { notices = g.notices ++ n ∷ [] })
taken (Member n) g = kept_where (has_room g.members n) (record g { members = with_node g.members n })
taken (Told n) g = kept_where (has_room g.told n) (record g { told = with_node g.told n })
taken (SetLock id p) g = ends_where (is_nothing g) (letter_of (letter.SetLock id p))
taken (LockAnswer id p granted) g = ends_where (is_nothing g) (letter_of (letter.LockAnswer id p granted))
taken (GiveBack id p ack) g = ends_where (is_nothing g) (letter_of (letter.GiveBack id p ack))
taken (GivenBack p) g = ends_where (is_nothing g) (letter_of (letter.GivenBack p))
taken (ReleaseOf p) g = ends_where (is_nothing g) (letter_of (letter.ReleaseOf p))
taken (Apply change) g = ends_where (is_nothing g) (letter_of (letter.Apply change))
taken Applied g = ends_where (is_nothing g) AnyLetter.Applied
taken JoinAsk g = ends_where (is_of_pairs g) (AnyLetter.JoinAsk g.pairs)
taken JoinRefused g = ends_where (is_nothing g) AnyLetter.JoinRefused
taken (Admit n) g = ends_where (is_for_members g) (AnyLetter.Admit n (settled_of g))
taken Welcome g = ends_where (is_for_joiner g) (AnyLetter.Welcome (set_of g.members) g.pairs (with_older g.told) (fate_of g))
taken Down g = ends_where (is_nothing g) AnyLetter.Down

-- why a part is refused: a set has no room, or the items are no items of the letter
abbrev pub refused_as : Part → LetterFault
refused_as (Member n) = Text TooManyNodes
refused_as (Told n) = Text TooManyNodes
refused_as _ = BadLine

-- taking the part may take memory
abbrev pub takes_memory : Part → Bool
takes_memory (Pair e) = true
takes_memory (Put e) = true
takes_memory (Remove x) = true
takes_memory (Kill p) = true
takes_memory (Notice n) = true
takes_memory Welcome = true
takes_memory _ = false

-- an item was kept as it is taken, or there was no memory for it and nothing changed
abbrev pub Took : {E : Type 0} → Taken → Gathered → Gathered → Result (Unit {0}) E → Type 0
Took t old new (Ok _) = t ≡ kept new
Took t old new (Err e) = new ≡ old

-- a letter without items was taken, or refused since there are some
abbrev pub Ends : Bool → AnyLetter → Gathered → Gathered → Result (Option Letter) LetterFault → Type 0
Ends fits l old new (Ok made) = (fits ≡ true) × (new ≡ nothing) × (option_map letter_of made ≡ Some l)
Ends fits l old new (Err f) = (fits ≡ false) × (new ≡ old) × (f ≡ BadLine)

-- the part was taken: what is gathered then, and the letter, are what comes of it. Or it was refused, for want of memory where it
-- takes some, and nothing changed
abbrev pub Takes : Part → Gathered → Gathered → Result (Option Letter) LetterFault → Type 0
Takes p old new (Ok made) = taken p old ≡ Some (new, option_map letter_of made)
Takes p old new (Err f) =
    (new ≡ old) × (((f ≡ Memory) × (takes_memory p ≡ true)) ⊎ ((taken p old ≡ None) × (f ≡ refused_as p)))

-- a letter more, if it is one
abbrev pub with_letter : Option AnyLetter → List AnyLetter → List AnyLetter
with_letter None ls = ls
with_letter (Some l) ls = ls ++ l ∷ []

-- what is gathered, and the letters, behind a part that was taken, and what comes of the others
abbrev pub behind : Taken → List AnyLetter → (Gathered → List AnyLetter → Option (Gathered × List AnyLetter))
    → Option (Gathered × List AnyLetter)
behind None ls more = None
behind (Some t) ls more = more t.0 (with_letter t.1 ls)

-- what is gathered, and the letters, when parts have been taken in their order; none where one is refused
abbrev pub read_on : List Part → Gathered → List AnyLetter → Option (Gathered × List AnyLetter)
read_on [] g ls = Some (g, ls)
read_on (p ∷ ps) g ls = behind (taken p g) ls (read_on ps)

-- the same from the beginning
abbrev pub letters_in : List Part → Option (Gathered × List AnyLetter)
letters_in parts = read_on parts nothing []
