-- What one step has made so far.
use Rattle.std.specs.Prelude.{ℕ, ◌≡◌, ◌+◌, ◌<◌, ◌≤◌, List, [], ◌∷◌, ◌++◌, length, map, take}
use Rattle.protocol_model.specs.Turn.{Send}
use Rattle.node_events.specs.declared.events.Answer.{Answer}
use Rattle.node_events.specs.declared.events.Entry.{Entry}
use Rattle.node_events.specs.declared.events.Letter.{Letter}
use Rattle.node_events.specs.Letters.{letter_of, send_of}

-- for how many letters, entries and answers there is room in all
pub record Room : Type 0 where
  pub letters : ℕ
  pub entries : ℕ
  pub answers : ℕ

-- the letters with their receivers, the entries and the answers, in order, and the room for them
pub record Made : Type 0 where
  pub letters : List (ℕ × Letter)
  pub entries : List Entry
  pub answers : List Answer
  pub room : Room

abbrev pub nothing : Made
nothing = record { letters = []; entries = []; answers = []; room = record { letters = 0; entries = 0; answers = 0 } }

-- nothing is made, whatever the room
pub record IsNothing (m : Made) : Type 0 where
  pub letters : m.letters ≡ []
  pub entries : m.entries ≡ []
  pub answers : m.answers ≡ []

-- there is room for l letters, e entries and a answers more
pub record HasRoom (l e a : ℕ) (m : Made) : Type 0 where
  pub letters : length m.letters + l ≤ m.room.letters
  pub entries : length m.entries + e ≤ m.room.entries
  pub answers : length m.answers + a ≤ m.room.answers

-- u has no less room in all than t
pub record IsRoomier (t u : Made) : Type 0 where
  pub letters : t.room.letters ≤ u.room.letters
  pub entries : t.room.entries ≤ u.room.entries
  pub answers : t.room.answers ≤ u.room.answers

-- u is t with l letters, e entries and a answers more at most, and no less room in all
pub record Spends (l e a : ℕ) (t u : Made) : Type 0 where
  pub letters : length u.letters ≤ length t.letters + l
  pub entries : length u.entries ≤ length t.entries + e
  pub answers : length u.answers ≤ length t.answers + a
  pub letter_room : t.room.letters ≤ u.room.letters
  pub entry_room : t.room.entries ≤ u.room.entries
  pub answer_room : t.room.answers ≤ u.room.answers

-- the same is made, whatever the room
pub record IsSameMade (t u : Made) : Type 0 where
  pub letters : u.letters ≡ t.letters
  pub entries : u.entries ≡ t.entries
  pub answers : u.answers ≡ t.answers

-- a letter more
abbrev pub sent : ℕ → Letter → Made → Made
sent c l m = record m { letters = m.letters ++ (c, l) ∷ [] }

-- the letter, to each of these nodes, as the protocol has it
abbrev pub each : List ℕ → Letter → List Send
each cs l = map (λ c. record { to = c; letter = letter_of l }) cs

-- u is t with a letter more to each of these nodes, a copy of which says the same
pub record SendsAll (cs : List ℕ) (l : Letter) (t u : Made) : Type 0 where
  pub sends : map send_of u.letters ≡ map send_of t.letters ++ each cs l
  pub entries : u.entries ≡ t.entries
  pub answers : u.answers ≡ t.answers

-- u is t with a letter more to each of the first of these nodes, but not to all
pub record SendsSome (cs : List ℕ) (l : Letter) (t u : Made) : Type 0 where
  pub count : ℕ
  pub fewer : count < length cs
  pub sends : SendsAll (take count cs) l t u

-- an entry more
abbrev pub entered : Entry → Made → Made
entered e m = record m { entries = m.entries ++ e ∷ [] }

-- an answer more
abbrev pub answered : Answer → Made → Made
answered s m = record m { answers = m.answers ++ s ∷ [] }
