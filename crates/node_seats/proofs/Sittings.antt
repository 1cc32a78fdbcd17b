-- What a caller's question makes of its seat.
use Rattle.std.proofs.Common.{ℕ, true, ◌≡◌, ◌∙◌, Option, Some, Result, Ok, Err, List, [], ◌∷◌, ◌++◌, IfOk, sym, ap, subst}
use Rattle.shared_table.specs.declared.Answer.{Answer}
use Rattle.shared_table.specs.declared.Call.{Call}
use Rattle.shared_table.specs.declared.LocalEvent.{LocalEvent}
use Rattle.shared_table.specs.declared.LocalEvent.TheVariants.{Call as Calls}
use Rattle.shared_table.specs.declared.WorldEvent.{WorldEvent}
use Rattle.shared_table.specs.declared.WorldEvent.TheVariants.{At}
use Rattle.shared_table.specs.declared.SeatEntry.{SeatEntry}
use Rattle.shared_table.specs.declared.Effect.{Effect}
use Rattle.shared_table.specs.declared.Effect.TheVariants.{Answered as IsAnswer}
use Rattle.shared_table.specs.declared.TaskFault.{TaskFault}
use Rattle.shared_table.specs.NodeEventsSeen.{is_list}
use Rattle.node_seats.specs.declared.caller.Caller.{Caller}
use Rattle.node_seats.specs.declared.place.Place.{Place}
use Rattle.node_seats.specs.declared.fault.SeatFault.{SeatFault}
use Rattle.node_seats.specs.declared.fault.SeatFault.TheVariants.{NoSuchNode, NodeLeft, Closed, SeatsSpent, Step, Memory}
use Rattle.node_seats.specs.Addresses.{Inbox}
use Rattle.shared_table.specs.Readers.{Seen}
use Rattle.node_seats.specs.Callers.{inbox_of, place_of, nodes_of, asked_by, name_of, ticket_of, seen_of, told_of, Learns}
use Rattle.node_seats.specs.Replies.{IsToldTo, HasShown}
use Rattle.node_seats.specs.Faults.{told_as}
use Rattle.node_seats.specs.Fences.{granted_by}
use Rattle.node_seats.specs.Seats.{Sitting, sitting, IsAnswered, KeepsNoList, with_entry, with_answer}

-- the seat of a caller, with this transcript, which was granted a lock last by a step of this stamp
abbrev pub seated : Caller → List SeatEntry → Option ℕ → Sitting
seated c es granted = record (sitting c es) { granted = granted }

abbrev sits : Place → Inbox → List ℕ → List LocalEvent → Seen → Option ℕ → List SeatEntry → Sitting
sits place inbox nodes asked seen granted es = record {
  seat = place.seat;
  slot = place.slot;
  node = inbox.node;
  room = inbox.room;
  nodes = nodes;
  asked = asked;
  seen = seen;
  granted = granted;
  entries = es;
}

-- what its caller is told, the seat is answered
module _ (c : Caller) (es : List SeatEntry) (granted : Option ℕ) (s : Sitting) (is : seated c es granted ≡ s) where
  pub answered_so : (d : Caller) (fs : List SeatEntry) (last : Option ℕ) (outcome : Result Effect TaskFault)
      → name_of d ≡ name_of c → IsToldTo (name_of c) (ticket_of c) outcome (seen_of d) → Learns (seen_of c) (seen_of d)
      → IsAnswered s outcome (seated d fs last)
  answered_so d fs last outcome node told learns = subst (λ (x : Sitting). IsAnswered x outcome (seated d fs last)) is (record {
    told = subst (λ (n : ℕ). IsToldTo (name_of c) (record { seat = c.place.seat; slot = c.place.slot; number = n }) outcome (seen_of d))
        c.counted told;
    learns = learns;
    shown = subst (λ (n : ℕ). HasShown n (told_of d)) node d.shown;
  })

  -- it asked for an event, and has an entry more
  pub grown : (d : Caller) (fs : List SeatEntry) (e : LocalEvent) (w : WorldEvent) (answer : Option Answer) → place_of d ≡ place_of c
      → inbox_of d ≡ inbox_of c → nodes_of d ≡ nodes_of c → asked_by d ≡ asked_by c ++ e ∷ [] → w ≡ At (name_of c) e
      → fs ≡ es ++ record { event = w; answer = answer } ∷ [] → seated d fs granted ≡ record (with_entry e answer s) { seen = seen_of d }
  grown d fs e w answer place inbox nodes asked at more = subst (λ (x : Sitting). seated d fs granted ≡ record (with_entry e answer x) { seen = seen_of d }) is
      (ap (λ (i : Place). sits i (inbox_of d) (nodes_of d) (asked_by d) (seen_of d) granted fs) place
      ∙ ap (λ (i : Inbox). sits (place_of c) i (nodes_of d) (asked_by d) (seen_of d) granted fs) inbox
      ∙ ap (λ (ns : List ℕ). sits (place_of c) (inbox_of c) ns (asked_by d) (seen_of d) granted fs) nodes
      ∙ ap (λ (l : List LocalEvent). sits (place_of c) (inbox_of c) (nodes_of c) l (seen_of d) granted fs) asked
      ∙ ap (λ (l : List SeatEntry). sits (place_of c) (inbox_of c) (nodes_of c) (asked_by c ++ e ∷ []) (seen_of d) granted l)
      (more ∙ ap (λ (v : WorldEvent). es ++ record { event = v; answer = answer } ∷ []) at))

  -- so of a call, by whose answer it may be granted a lock
  pub called : (d : Caller) (fs : List SeatEntry) (call : Call) (w : WorldEvent) (stamp : ℕ) (answer : Answer) (last : Option ℕ)
      → place_of d ≡ place_of c → inbox_of d ≡ inbox_of c → nodes_of d ≡ nodes_of c → asked_by d ≡ asked_by c ++ Calls call ∷ []
      → w ≡ At (name_of c) (Calls call) → fs ≡ es ++ record { event = w; answer = Some answer } ∷ []
      → last ≡ granted_by call stamp answer granted → seated d fs last ≡ record (with_answer call stamp answer s) { seen = seen_of d }
  called d fs call w stamp answer last place inbox nodes asked at more given =
      ap (λ (x : Sitting). record x { granted = last }) (grown d fs (Calls call) w (Some answer) place inbox nodes asked at more)
      ∙ ap (λ (l : Option ℕ). record (with_entry (Calls call) (Some answer) s) { seen = seen_of d; granted = l })
      (given ∙ ap (λ (x : Sitting). granted_by call stamp answer x.granted) is)

  -- so of a call whose answer is a list, for whose copy there was no memory
  pub uncopied : (d : Caller) (fs : List SeatEntry) (call : Call) (stamp : ℕ) (answer : Answer) → name_of d ≡ name_of c
      → IsToldTo (name_of c) (ticket_of c) (Ok (IsAnswer stamp answer)) (seen_of d) → Learns (seen_of c) (seen_of d) → place_of d ≡ place_of c
      → inbox_of d ≡ inbox_of c → nodes_of d ≡ nodes_of c → asked_by d ≡ asked_by c ++ Calls call ∷ [] → fs ≡ es → is_list answer.reply ≡ true
      → KeepsNoList call s (seated d fs granted)
  uncopied d fs call stamp answer node told learns place inbox nodes asked same list = record {
    answer = answer;
    stamp = stamp;
    list = list;
    told = answered_so d fs granted (Ok (IsAnswer stamp answer)) node told learns;
    kept = subst (λ (x : Sitting). seated d fs granted ≡ record x { asked = x.asked ++ Calls call ∷ []; seen = seen_of d }) is
        (ap (λ (i : Place). sits i (inbox_of d) (nodes_of d) (asked_by d) (seen_of d) granted fs) place
        ∙ ap (λ (i : Inbox). sits (place_of c) i (nodes_of d) (asked_by d) (seen_of d) granted fs) inbox
        ∙ ap (λ (ns : List ℕ). sits (place_of c) (inbox_of c) ns (asked_by d) (seen_of d) granted fs) nodes
        ∙ ap (λ (l : List LocalEvent). sits (place_of c) (inbox_of c) (nodes_of c) l (seen_of d) granted fs) asked
        ∙ ap (λ (l : List SeatEntry). sits (place_of c) (inbox_of c) (nodes_of c) (asked_by c ++ Calls call ∷ []) (seen_of d) granted l) same);
  }

-- an answer is told as it was
pub told_on : {A : Type 0} (P : A → Type 0) (r q : Result A SeatFault) → q ≡ told_as r → IfOk r P → IfOk q P
told_on {A} P r q is p = subst (λ (x : Result A SeatFault). IfOk x P) (sym is) (go r p)
  where
    go : (o : Result A SeatFault) → IfOk o P → IfOk (told_as o) P
    go (Ok a) p = p
    go (Err NoSuchNode) p = tt
    go (Err NodeLeft) p = tt
    go (Err Closed) p = tt
    go (Err SeatsSpent) p = tt
    go (Err (Step fault)) p = tt
    go (Err Memory) p = tt
