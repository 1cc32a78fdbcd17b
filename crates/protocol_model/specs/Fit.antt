-- When a history fits the events that were played.
use Rattle.std.specs.Prelude.{ℕ, Bool, true, false, ◌&&◌, ◌==◌, ◌+◌, ◌≡◌, filter, flat_map, List, [], ◌∷◌, ◌++◌, if◌then◌else◌}
use Rattle.registry_model.specs.Call.{NameCall, ContactLeft}
use Rattle.registry_model.specs.History.{Entry}
use Rattle.protocol_model.specs.Event.{Call, Event}
use Rattle.protocol_model.specs.World.{WorldEvent, At, Deliver, place}
use Rattle.protocol_model.specs.Course.{Played, entries_of}

-- a name or join call of one node, with its number there
pub data Numbered : Type 0 where
  NameAs : (number : ℕ) → (call : NameCall) → Numbered
  JoinAs : (number : ℕ) → (contact : ℕ) → Numbered

-- name, lock and join calls are numbered
abbrev pub is_numbered : Call → Bool
is_numbered Call.Spawn = false
is_numbered (Call.LookUp look) = false
is_numbered _ = true

-- a name or join call under its number
abbrev pub numbered : ℕ → Call → List Numbered
numbered k (Call.OnName call) = NameAs k call ∷ []
numbered k (Call.JoinBy m) = JoinAs k m ∷ []
numbered k _ = []

-- the numbered call that node a accepts in this event, if there is one
abbrev pub calls_in : ℕ → Played → List Call
calls_in a p = elim p.event [ At b (Event.Calling c) ↦ if b == a && is_numbered c then c ∷ [] else [] | _ ↦ [] ]

-- the name and join calls among these, which are numbered from k on
abbrev pub number_from : ℕ → List Call → List Numbered
number_from k [] = []
number_from k (c ∷ cs) = numbered k c ++ number_from (k + 1) cs

-- the name and join calls that node a accepted, in order
abbrev pub accepted_at : ℕ → List Played → List Numbered
accepted_at a ps = number_from 1 (flat_map (calls_in a) ps)

-- the call of node a that an entry decides, if it does
abbrev pub decided_at : ℕ → Entry → List Numbered
decided_at a (Entry.Name b k call reply) = if b == a then NameAs k call ∷ [] else []
decided_at a (Entry.Join j k m reply) = if j == a then JoinAs k m ∷ [] else []
decided_at a _ = []

-- an exit
abbrev pub is_exit : Entry → Bool
is_exit (Entry.Exit p) = true
is_exit _ = false

-- a departure
abbrev pub is_left : Entry → Bool
is_left (Entry.Left d) = true
is_left _ = false

-- the notice of a departure
abbrev pub is_told : Entry → Bool
is_told (Entry.Told a d) = true
is_told _ = false

-- a look-up
abbrev pub is_read : Entry → Bool
is_read (Entry.Read a look reply) = true
is_read _ = false

-- the entry of an accepted exit
abbrev pub exit_of : Played → List Entry
exit_of p = elim p.event [ At a (Event.Exiting q) ↦ Entry.Exit q ∷ [] | _ ↦ [] ]

-- the entry of an accepted leave
abbrev pub left_of : Played → List Entry
left_of p = elim p.event [ At a Event.Leave ↦ Entry.Left a ∷ [] | _ ↦ [] ]

-- the entry of a `Down` that was delivered
abbrev pub notice_of : Played → List Entry
notice_of p = elim p.event [ Deliver d a ↦ if p.down then Entry.Told a d ∷ [] else [] | _ ↦ [] ]

-- the node that makes an entry: that of the operation or of the event; for a join its contact, but the joiner where the contact
-- has left
abbrev pub maker_of : Entry → ℕ
maker_of (Entry.Name a k call reply) = a
maker_of (Entry.Strike p) = p.node
maker_of (Entry.Join j k m ContactLeft) = j
maker_of (Entry.Join j k m _) = m
maker_of (Entry.Done a) = a
maker_of (Entry.Exit p) = p.node
maker_of (Entry.Left d) = d
maker_of (Entry.Told a d) = a
maker_of (Entry.Read a look reply) = a

-- what a node decides, refuses or ends by a letter that it reads: operations, and joins by a contact that hasn't left
abbrev pub is_by_letter : Entry → Bool
is_by_letter (Entry.Name a k call reply) = true
is_by_letter (Entry.Strike p) = true
is_by_letter (Entry.Join j k m ContactLeft) = false
is_by_letter (Entry.Join j k m _) = true
is_by_letter (Entry.Done a) = true
is_by_letter _ = false

-- the event is the delivery of a letter
abbrev pub is_delivery : WorldEvent → Bool
is_delivery (Deliver f t) = true
is_delivery _ = false

-- An entry of a step is made by the node of that step, and by a letter where it needs one
pub record IsMadeIn (p : Played) (e : Entry) : Type 0 where
  pub place : maker_of e ≡ place p.event
  pub letter : is_by_letter e ≡ true → is_delivery p.event ≡ true

-- ys begins with xs
abbrev pub IsPrefix : {A : Type 0} → List A → List A → Type 0
IsPrefix {A} xs ys = (zs : List A) × (ys ≡ xs ++ zs)

-- The history that these events made fits them. Each event adds its entries at the end: `entries_of` is made so
pub record Fits (ps : List Played) : Type 0 where
  -- at each node its name and join calls were decided in the order in which it accepted them
  pub calls : (a : ℕ) → IsPrefix (flat_map (decided_at a) (entries_of ps)) (accepted_at a ps)
  -- all accepted exits and leaves and all delivered notices are entered, in order, and no others
  pub exits : filter is_exit (entries_of ps) ≡ flat_map exit_of ps
  pub departures : filter is_left (entries_of ps) ≡ flat_map left_of ps
  pub notices : filter is_told (entries_of ps) ≡ flat_map notice_of ps
