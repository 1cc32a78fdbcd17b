-- What the seats of nodes were answered.
use Rattle.std.specs.Prelude.{ℕ, Bool, false, ◌+◌, ◌==◌, ◌&&◌, ◌≡◌, ◌≤◌, nat_lt, Option, Some, None, List, [], ◌∷◌, ◌++◌, find, map, drop, count_by, if◌then◌else◌}
use Rattle.std.specs.Option.{option_map}
use Rattle.protocol_model.specs.Event.{Answer as AnyAnswer}
use Rattle.node_log.specs.declared.Call.{Call}
use Rattle.node_log.specs.declared.Call.TheVariants.{Spawn, Whereis, RegisteredNames, Notices}
use Rattle.node_log.specs.NodeEventsSeen.{answer_of}
use Rattle.node_log.specs.declared.LocalEvent.TheVariants.{Call as Calls}
use Rattle.node_log.specs.declared.WorldEvent.{WorldEvent}
use Rattle.node_log.specs.declared.WorldEvent.TheVariants.{At}
use Rattle.node_log.specs.declared.transcript.SeatEntry.{SeatEntry}
use Rattle.node_log.specs.declared.transcript.Transcript.{Transcript}
use Rattle.node_log.specs.Entries.{SeatedEntry, Logged}
use Rattle.replay.specs.declared.transcripts.Answering.{Answering}
use Rattle.replay.specs.declared.transcripts.Answering.TheVariants.{AtOnce, Later, Never}
use Rattle.replay.specs.Steps.{log_of}

-- an event of a seat, and the answer to it, if it has one
pub record Given : Type 0 where
  pub event : WorldEvent
  pub answer : Option AnyAnswer

-- how an event is answered: at once, in its own step, under number 0; or later, in that or a later step, under the number
-- that its node gave it; or never
abbrev pub answering_of_call : Call → Answering
answering_of_call Spawn = AtOnce
answering_of_call (Whereis x) = AtOnce
answering_of_call RegisteredNames = AtOnce
answering_of_call (Notices p) = AtOnce
answering_of_call _ = Later

abbrev pub answering : WorldEvent → Answering
answering (At a (Calls c)) = answering_of_call c
answering _ = Never

-- the number that a node gives its next event, which has given n numbers before; an event without a number takes none
abbrev pub numbered : ℕ → Answering → ℕ
numbered n Later = n + 1
numbered n _ = n

-- the answer is one of node a, under number n
abbrev pub answers_call : ℕ → ℕ → AnyAnswer → Bool
answers_call a n s = (s.node == a) && (s.number == n)

abbrev pub said_in : SeatedEntry → List AnyAnswer
said_in e = map answer_of e.answers

-- the first answer to call n of node a in these entries
abbrev pub first_answer : ℕ → ℕ → List SeatedEntry → Option AnyAnswer
first_answer a n [] = None
first_answer a n (e ∷ es) = elim (find (answers_call a n) (said_in e)) [ None ↦ first_answer a n es | Some s ↦ Some s ]

-- the answer to an event of node a, where these entries begin with its own, and n is the number of its call
abbrev pub answer_in : ℕ → ℕ → Answering → List SeatedEntry → Option AnyAnswer
answer_in a n Never es = None
answer_in a n Later es = first_answer a n es
answer_in a n AtOnce [] = None
answer_in a n AtOnce (e ∷ es) = find (answers_call a 0) (said_in e)

-- the step is one of this seat
abbrev pub is_of : ℕ → Option ℕ → Bool
is_of seat None = false
is_of seat (Some s) = s == seat

-- the event of the first of these entries, with its answer
abbrev pub given_at : ℕ → ℕ → SeatedEntry → List SeatedEntry → Given
given_at a n e es = record { event = e.event; answer = answer_in a (numbered n (answering e.event)) (answering e.event) (e ∷ es) }

-- what these entries of node a's log give a seat, before which the node has given n numbers: the seat's events, each
-- with its answer
abbrev pub given : ℕ → ℕ → ℕ → List SeatedEntry → List Given
given a seat n [] = []
given a seat n (e ∷ es) =
    if is_of seat e.seat
    then given_at a n e es ∷ given a seat (numbered n (answering e.event)) es
    else given a seat (numbered n (answering e.event)) es

-- these are among those, each once and in their order
abbrev pub IsPartOf : List Given → List Given → Type 0
IsPartOf [] ys = Unit {0}
IsPartOf (x ∷ xs) ys = (before : List Given) × (after : List Given) × (ys ≡ before ++ x ∷ after) × IsPartOf xs after

-- what an entry of a transcript says
abbrev pub given_by : SeatEntry → Given
given_by e = record { event = e.event; answer = option_map answer_of e.answer }

-- the transcript is among what the log gives, where what is left of it is among what the log gives from here on
pub record IsLeft (a seat : ℕ) (told : List Given) (es : List SeatedEntry) (found n at : ℕ) : Type 0 where
  pub on : IsPartOf (drop found told) (given a seat n (drop at es)) → IsPartOf told (given a seat 0 es)
  pub back : IsPartOf told (given a seat 0 es) → IsPartOf (drop found told) (given a seat n (drop at es))

-- the transcript is part of what the log of its node gives its seat
abbrev pub IsFollowed : List Logged → Transcript → Type 0
IsFollowed logs t = IsPartOf (map given_by t.entries.items) (given t.node t.seat 0 (log_of t.node logs))

-- so it is, and it is its seat's only transcript among these
pub record Fits (logs : List Logged) (ts : List Transcript) (t : Transcript) : Type 0 where
  pub followed : IsFollowed logs t
  pub once : count_by (λ u. u.seat == t.seat) ts ≤ 1

-- transcripts are ordered by their seats
abbrev pub has_lesser_seat : Transcript → Transcript → Bool
has_lesser_seat t u = nat_lt t.seat u.seat
